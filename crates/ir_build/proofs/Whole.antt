-- The whole form: the parameters, and then the body.
use Rattle.std.proofs.Common.{◌≡◌, ℕ, zero, suc, ◌+◌, ◌≤◌, true, List, [], ◌∷◌, ◌++◌, None, length, ap, ◌∙◌, arith}
use Rattle.std.specs.Prelude.{map}
use Rattle.clc_types.specs.declared.typed.Var.{Var}
use Rattle.clc_inline.specs.declared.body.TStmt.{TStmt}
use Rattle.item_ir.specs.Valid.{counted, is_item}
use Rattle.item_ir.specs.declared.form.Stmt.{Stmt}
use Rattle.q_lane.specs.declared.kinds.Kind.{Kind}
use Rattle.ir_build.specs.Adds.{Grows}
use Rattle.ir_build.specs.Code.{Stmts, stmt_code}
use Rattle.ir_build.specs.Build.{params_code, body_code, array_length, kinds_of}
use Rattle.clc_inline.specs.Named.{is_named}
use Rattle.ir_build.proofs.KnownTrees.{body_valid, few_params}

-- the statements of the body are added after those of the parameters
pub whole_grows : (vars own : List Var) (params n m first next : ℕ) (a : TStmt) (none mid new : List Stmt) → own ≡ vars → n ≡ length own → m ≡ suc n → none ≡ [] → mid ≡ none ++ params_code params 0 m
    → first ≡ m + params → Grows mid new next (stmt_code own (record { result = None; var = n }) a first) → (new ≡ (body_code vars params a).stmts) × (next ≡ (body_code vars params a).next)
whole_grows vars own params n m first next a none mid new h1 h2 h3 h4 h5 h6 g =
    let en : n ≡ length vars = h2 ∙ ap length h1 in
    let em : m ≡ suc (length vars) = h3 ∙ ap suc en in
    let ef : first ≡ suc (length vars) + params = h6 ∙ ap (λ z. z + params) em in
    let ec : stmt_code own (record { result = None; var = n }) a first ≡ stmt_code vars (record { result = None; var = length vars }) a (suc (length vars) + params)
    = λ i. stmt_code (h1 i) (record { result = None; var = en i }) a (ef i) in
    let e1 : mid ≡ params_code params 0 (suc (length vars)) = h5 ∙ (λ i. h4 i ++ params_code params 0 (em i)) in
    (g.0 ∙ (λ i. e1 i ++ (ec i).stmts), g.1 ∙ ap (λ (z : Stmts). z.next) ec)

arrays_enough : (vars : List Var) → length vars ≤ length (map array_length vars)
arrays_enough [] = omega arith
arrays_enough (x ∷ vars) = let p = arrays_enough vars in omega (arith, p)

kinds_enough : (vars : List Var) (params : ℕ) → params ≤ length vars → params ≤ length (kinds_of vars params)
kinds_enough vars zero h = omega arith
kinds_enough [] (suc p) h = h
kinds_enough (x ∷ vars) (suc p) h = let q = kinds_enough vars p (omega (arith, h)) in omega (arith, q)

-- where the body names only what is there
pub whole_valid : (vars : List Var) (params next : ℕ) (a : TStmt) (new : List Stmt) (arrays : List ℕ) (kinds : List Kind) → is_named vars params a ≡ true
    → (new ≡ (body_code vars params a).stmts) × (next ≡ (body_code vars params a).next) → arrays ≡ map array_length vars → kinds ≡ kinds_of vars params
    → is_item (counted next next (length arrays) (length kinds)) new ≡ true
whole_valid vars params next a new arrays kinds h g ea ek =
    (λ i. is_item (counted (g.1 i) (g.1 i) (length (ea i)) (length (ek i))) (g.0 i))
    ∙ body_valid vars params a (length (map array_length vars)) (length (kinds_of vars params)) h (arrays_enough vars) (kinds_enough vars params (few_params vars params a h))
