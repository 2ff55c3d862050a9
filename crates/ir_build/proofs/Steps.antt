-- What the walk has added, by what its parts added.
use Rattle.std.proofs.Common.{◌≡◌, ℕ, suc, List, [], ◌∷◌, ◌++◌, Result, ap, ◌∙◌, subst}
use Rattle.std.specs.Prelude.{IfOk}
use Rattle.std.proofs.lemmas.Result.{IfOk-weaker}
use Rattle.clc_types.specs.declared.typed.Var.{Var}
use Rattle.clc_inline.specs.declared.body.TExpr.{TExpr}
use Rattle.clc_inline.specs.declared.body.TStmt.{TStmt}
use Rattle.item_ir.specs.declared.form.Val.{Val}
use Rattle.item_ir.specs.declared.form.Stmt.{Stmt}
use Rattle.item_ir.specs.declared.form.Stmt.TheVariants.{If, Loop}
use Rattle.item_ir.specs.declared.form.Def.TheVariants as d
use Rattle.ir_build.specs.declared.pieces.Piece.{Piece}
use Rattle.ir_build.specs.declared.places.Target.{Target}
use Rattle.ir_build.specs.declared.places.Target.TheVariants.{Cell, Behind}
use Rattle.ir_build.specs.declared.places.Found.{Found}
use Rattle.ir_build.specs.declared.scopes.Back.{Back}
use Rattle.ir_build.specs.declared.scopes.Given.{Given}
use Rattle.ir_build.specs.declared.scopes.Branch.{Branch}
use Rattle.ir_build.specs.declared.scopes.Head.{Head}
use Rattle.ir_build.specs.Adds.{Adds, Grows, Finds, Gathers, Holds, Tests}
use Rattle.ir_build.specs.Code.{v, Code, PlaceCode, ArgsCode, Stmts, one, with_code, after_place, after_args, behind, cell, into_code, choice_code, conditional_code, held_word, stmt_code, both, if_code, loop_code, do_code}
use Rattle.ir_build.specs.Lists.{value_code, place_code, args_list, begin_list}
use Rattle.ir_build.proofs.Joins.{added_twice, adds_with, finds_with, grows_then}

-- ---- the same tree, and the same code said in another way

module _ (vars : List Var) where
  pub valued : (old new : List Stmt) (x : Piece) (e b : TExpr) (k : ℕ) → e ≡ b → Adds old new x (value_code vars e k) → Adds old new x (value_code vars b k)
  valued old new x e b k h g = subst (λ (z : TExpr). Adds old new x (value_code vars z k)) h g

  pub placed : (old new : List Stmt) (x : Found) (e b : TExpr) (k : ℕ) → e ≡ b → Finds old new x (place_code vars e k) → Finds old new x (place_code vars b k)
  placed old new x e b k h g = subst (λ (z : TExpr). Finds old new x (place_code vars z k)) h g

  pub gathered : (old new : List Stmt) (x : Given) (e b : List TExpr) (k : ℕ) → e ≡ b → Gathers old new x (args_list vars e k) → Gathers old new x (args_list vars b k)
  gathered old new x e b k h g = subst (λ (z : List TExpr). Gathers old new x (args_list vars z k)) h g

  pub begun : (old new : List Stmt) (n : ℕ) (e b : List TStmt) (k : ℕ) → e ≡ b → Grows old new n (begin_list vars e k) → Grows old new n (begin_list vars b k)
  begun old new n e b k h g = subst (λ (z : List TStmt). Grows old new n (begin_list vars z k)) h g

  pub held_in : (r : ℕ) (x : Branch) (e b : TExpr) (k : ℕ) → e ≡ b → Holds x (into_code r (value_code vars e k)) → Holds x (into_code r (value_code vars b k))
  held_in r x e b k h g = subst (λ (z : TExpr). Holds x (into_code r (value_code vars z k))) h g

  pub inside : (back : Back) (x : Branch) (e b : TStmt) (k : ℕ) → e ≡ b → Holds x (stmt_code vars back e k) → Holds x (stmt_code vars back b k)
  inside back x e b k h g = subst (λ (z : TStmt). Holds x (stmt_code vars back z k)) h g

-- ---- pieces

pub with_adds : {E : Type 0} (old mid new : List Stmt) (x : Piece) (r : Result Piece E) (a : Code) (f : ℕ → ℕ → Code)
    → Adds old mid x a → IfOk r (λ p. Adds mid new p (f x.val.0 x.next)) → IfOk r (λ p. Adds old new p (with_code a f))
with_adds old mid new x r a f h g = IfOk-weaker r _ _ (λ p q. adds_with old mid new x p a f h q) g

pub place_adds : {E : Type 0} (old mid new : List Stmt) (x : Found) (r : Result Piece E) (a : PlaceCode) (f : Target → ℕ → Code)
    → Finds old mid x a → IfOk r (λ p. Adds mid new p (f x.to x.next)) → IfOk r (λ p. Adds old new p (after_place a f))
place_adds old mid new x r a f h g = IfOk-weaker r _ _ (λ p q. finds_with old mid new x p a f h q) g

pub args_add : {E : Type 0} (old mid new : List Stmt) (x : Given) (r : Result Piece E) (a : ArgsCode) (f : List Val → ℕ → Code)
    → Gathers old mid x a → IfOk r (λ p. Adds mid new p (f x.vals.items x.next)) → IfOk r (λ p. Adds old new p (after_args a f))
args_add old mid new x r a f h g =
    let e : f x.vals.items x.next ≡ f a.vals a.next = λ i. f (h.1 i) (h.2 i) in
    IfOk-weaker r _ _ (λ p q. (added_twice old mid new a.stmts (f a.vals a.next).stmts h.0 (q.0 ∙ ap (λ (c : Code). mid ++ c.stmts) e), q.1 ∙ ap (λ (c : Code). c.val) e, q.2 ∙ ap (λ (c : Code). c.next) e)) g

-- ---- places

pub behind_finds : (old new : List Stmt) (p : Piece) (a : Code) → Adds old new p a → Finds old new (record { to = Behind p.val; next = p.next }) (behind a)
behind_finds old new p a h = (h.0, ap (λ x. Behind (v x)) h.1, h.2)

pub cell_finds : (u : ℕ) (old new : List Stmt) (p : Piece) (a : Code) → Adds old new p a → Finds old new (record { to = Cell u p.val; next = p.next }) (cell u a)
cell_finds u old new p a h = (h.0, ap (λ x. Cell u (v x)) h.1, h.2)

-- the place behind a piece whose parts come before
pub index_finds : {E : Type 0} (old mid end new : List Stmt) (x y : Piece) (r : Result Found E) (a : Code) (f : ℕ → Code) (g : ℕ → ℕ → ℕ → Code)
    → Adds old mid x a → Adds mid end y (f x.next) → IfOk r (λ p. Finds end new p (behind (g x.val.0 y.val.0 y.next)))
    → IfOk r (λ p. Finds old new p (behind (with_code a (λ z l. with_code (f l) (g z)))))
index_finds old mid end new x y r a f g hx hy hr =
    let b : Code = f a.next in
    let ey : f x.next ≡ b = ap f hx.2 in
    let e : g x.val.0 y.val.0 y.next ≡ g a.val b.val b.next = λ i. g (hx.1 i) ((hy.1 ∙ ap (λ (c : Code). c.val) ey) i) ((hy.2 ∙ ap (λ (c : Code). c.next) ey) i) in
    let c : Code = g a.val b.val b.next in
    let first : end ≡ mid ++ b.stmts = hy.0 ∙ ap (λ (z : Code). mid ++ z.stmts) ey in
    IfOk-weaker r _ _ (λ p q. (
      added_twice old mid new a.stmts (b.stmts ++ c.stmts) hx.0 (added_twice mid end new b.stmts c.stmts first (q.0 ∙ ap (λ (z : Code). end ++ z.stmts) e)),
      q.1 ∙ ap (λ (z : Code). Behind (v z.val)) e,
      q.2 ∙ ap (λ (z : Code). z.next) e,
    )) hr

-- ---- choices

pub cond_adds : {E : Type 0} (old mid new : List Stmt) (l : ℕ) (cond : Piece) (taken other : Branch) (r : Result Piece E) (a : Code) (f g : ℕ → Code)
    → Adds old mid cond a → l ≡ suc cond.next → Holds taken (into_code cond.next (f l)) → Holds other (into_code cond.next (g taken.next))
    → IfOk r (λ p. Adds mid new p (choice_code cond.val.0 cond.next taken.stmts.items other.stmts.items other.next)) → IfOk r (λ p. Adds old new p (conditional_code a f g))
cond_adds old mid new l cond taken other r a f g h e hy hn k =
    let s : ℕ = cond.next in
    let b : Stmts = into_code s (f (suc s)) in
    let ek : taken.next ≡ b.next = hy.1 ∙ ap (λ (z : ℕ). (into_code s (f z)).next) e in
    let c : Stmts = into_code s (g b.next) in
    let path : choice_code cond.val.0 s taken.stmts.items other.stmts.items other.next ≡ choice_code cond.val.0 s b.stmts c.stmts c.next =
    λ i. choice_code cond.val.0 s
    ((hy.0 ∙ ap (λ (z : ℕ). (into_code s (f z)).stmts) e) i)
    ((hn.0 ∙ ap (λ (z : ℕ). (into_code s (g z)).stmts) ek) i)
    ((hn.1 ∙ ap (λ (z : ℕ). (into_code s (g z)).next) ek) i) in
    with_adds old mid new cond r a (λ x t. let p = into_code t (f (suc t)) in let q = into_code t (g p.next) in choice_code x t p.stmts q.stmts q.next) h
    (subst (λ (z : Code). IfOk r (λ p. Adds mid new p z)) path k)

-- ---- statements

pub then_grows : {E : Type 0} (old mid new : List Stmt) (n : ℕ) (r : Result ℕ E) (a : Stmts) (f : ℕ → Stmts)
    → Grows old mid n a → IfOk r (λ m. Grows mid new m (f n)) → IfOk r (λ m. Grows old new m (both a f))
then_grows old mid new n r a f h g = IfOk-weaker r _ _ (λ m q. grows_then old mid new n m a f h q) g

pub if_grows : {E : Type 0} (old mid new : List Stmt) (cond : Piece) (taken other : Branch) (r : Result ℕ E) (c : Code) (f g : ℕ → Stmts)
    → Adds old mid cond c → Holds taken (f cond.next) → Holds other (g taken.next)
    → IfOk r (λ n. (new ≡ mid ++ If cond.val taken.stmts.items other.stmts.items ∷ []) × (n ≡ other.next)) → IfOk r (λ n. Grows old new n (if_code c f g))
if_grows old mid new cond taken other r c f g h hy hn k =
    let a : Stmts = f c.next in
    let ey : taken.stmts.items ≡ a.stmts = hy.0 ∙ ap (λ (z : ℕ). (f z).stmts) h.2 in
    let ek : taken.next ≡ a.next = hy.1 ∙ ap (λ (z : ℕ). (f z).next) h.2 in
    let en : other.stmts.items ≡ (g a.next).stmts = hn.0 ∙ ap (λ (z : ℕ). (g z).stmts) ek in
    let em : other.next ≡ (g a.next).next = hn.1 ∙ ap (λ (z : ℕ). (g z).next) ek in
    IfOk-weaker r _ _ (λ n q. (added_twice old mid new c.stmts (If (v c.val) a.stmts (g a.next).stmts ∷ []) h.0 (q.0 ∙ (λ i. mid ++ If (v (h.1 i)) (ey i) (en i) ∷ [])), q.1 ∙ em)) k

pub loop_grows : {E : Type 0} (old new : List Stmt) (head : Head) (round last : Branch) (r : Result ℕ E) (c : Code) (f g : ℕ → Stmts)
    → Tests head c → Holds round (f head.next) → Holds last (g round.next)
    → IfOk r (λ n. (new ≡ old ++ Loop head.stmts.items head.val round.stmts.items last.stmts.items ∷ []) × (n ≡ last.next)) → IfOk r (λ n. Grows old new n (loop_code c f g))
loop_grows old new head round last r c f g h hb hs k =
    let a : Stmts = f c.next in
    let eb : round.stmts.items ≡ a.stmts = hb.0 ∙ ap (λ (z : ℕ). (f z).stmts) h.2 in
    let ek : round.next ≡ a.next = hb.1 ∙ ap (λ (z : ℕ). (f z).next) h.2 in
    let es : last.stmts.items ≡ (g a.next).stmts = hs.0 ∙ ap (λ (z : ℕ). (g z).stmts) ek in
    let em : last.next ≡ (g a.next).next = hs.1 ∙ ap (λ (z : ℕ). (g z).next) ek in
    IfOk-weaker r _ _ (λ n q. (q.0 ∙ (λ i. old ++ Loop (h.0 i) (v (h.1 i)) (eb i) (es i) ∷ []), q.1 ∙ em)) k

-- a variable is 1, and then a loop is tested by it
pub do_grows : {E : Type 0} (old mid new : List Stmt) (k s : ℕ) (head : Head) (round last : Branch) (r : Result ℕ E) (f : ℕ → Stmts) (g : ℕ → Code)
    → (s ≡ suc k) × (mid ≡ old ++ held_word 1 k) → Tests head (one (suc s) (d.Get s)) → Holds round (f head.next) → Holds last (into_code s (g round.next))
    → IfOk r (λ n. (new ≡ mid ++ Loop head.stmts.items head.val round.stmts.items last.stmts.items ∷ []) × (n ≡ last.next)) → IfOk r (λ n. Grows old new n (do_code f g k))
do_grows old mid new k s head round last r f g e h hb hs m =
    let turns : ℕ → Stmts = λ z. loop_code (one (suc z) (d.Get z)) f (λ l. into_code z (g l)) in
    IfOk-weaker r _ _ (λ n q. (added_twice old mid new (held_word 1 k) (turns (suc k)).stmts e.1 (q.0 ∙ ap (λ (z : ℕ). mid ++ (turns z).stmts) e.0), q.1 ∙ ap (λ (z : ℕ). (turns z).next) e.0))
    (loop_grows mid new head round last r (one (suc s) (d.Get s)) f (λ l. into_code s (g l)) h hb hs m)
