-- With more turns a work-item does the same, if it has enough of them: each step, and each form with what its parts do.
use Rattle.std.proofs.Common.{◌≡◌, ℕ, zero, suc, ◌+◌, Bool, true, false, List, length, Option, Some, None, refl, sym, ap, subst, arith}
use Rattle.std.specs.Prelude.{nat_lt, if◌then◌else◌}
use Rattle.clc_lexer.specs.declared.marks.Mark.{Mark}
use Rattle.clc_lexer.specs.declared.marks.Mark.TheVariants as m
use Rattle.q_lane.specs.declared.kinds.Scalar.{Scalar}
use Rattle.clc_types.specs.declared.typed.Builtin.{Builtin}
use Rattle.clc_types.specs.declared.typed.Ty.{Ty}
use Rattle.clc_types.specs.declared.typed.Var.{Var}
use Rattle.clc_types.specs.declared.typed.Var.TheVariants as var
use Rattle.q_functions.specs.declared.work.Work.{Work}
use Rattle.item_meaning.specs.declared.values.Value.{Value}
use Rattle.item_meaning.specs.declared.values.Value.TheVariants.{Num, Null, At}
use Rattle.item_meaning.specs.ItemState.{State, Run, Goes, Bounds, Spent, then_do, after_turn, node, nodes, by_truth, if_next, after_body}
use Rattle.item_meaning.specs.declared.values.Flow.{Flow}
use Rattle.item_meaning.specs.declared.values.Flow.TheVariants.{Next, Broke, Again, Returned}
use Rattle.item_meaning.specs.Operators.{scalar_of, truth, combined, converted, operator_in}
use Rattle.item_meaning.specs.Places.{in_bounds, load, store, array_of, get_element, set_element, at_index, read, store_value, write}
use Rattle.item_meaning.specs.declared.values.Place.{Place}
use Rattle.item_meaning.specs.declared.values.Place.TheVariants.{Variable, Cell, Behind, Nowhere}
use Rattle.item_meaning.specs.NodeMeanings.{Part, variable_place, index_place, cell_place, pointed_place, read_from, number_value, prefix_value, cast_value, step_value, stepped, assign_value, compound_value, assigned_value, conditional_value, operator_value, chain_value, builtin_value, no_values, and_values, call_value}
use Rattle.item_meaning.specs.StatementMeanings.{cleared, initialised, declare_flow, type_of, block_flow, no_flow, and_flow, dropped, eval_flow, leaf_flow, if_flow, rounds, rounds_first, while_flow, do_flow, always, for_flow, return_flow, call_end}

-- a state with so many more turns left
abbrev pub with_more : ℕ → State → State
with_more d s = record s { left = s.left + d }

-- a run that isn't spent is the same with more turns, which are left then
abbrev pub Same : {A : Type 0} → ℕ → Run A → Run A → Type 0
Same d (Goes a s) r = r ≡ Goes a (with_more d s)
Same d (Bounds at) r = r ≡ Bounds at
Same d Spent r = Unit {0}

module _ (d : ℕ) where
  abbrev pub Alike : {A : Type 0} → Part A → Type 0
  Alike f = (s : State) → Same d (f s) (f (with_more d s))

  -- ---- steps

  if-alike : {A : Type 0} (b : Bool) (x y p q : Run A) → Same d x p → Same d y q → Same d (if b then x else y) (if b then p else q)
  if-alike true x y p q h g = h
  if-alike false x y p q h g = g

  pub then-alike : {A B : Type 0} (r q : Run A) (go more : A → State → Run B) → Same d r q → ((a : A) (t : State) → Same d (go a t) (more a (with_more d t))) → Same d (then_do r go) (then_do q more)
  then-alike (Goes a t) q go more h g = subst (λ x. Same d (go a t) (then_do x more)) (sym h) (g a t)
  then-alike (Bounds at) q go more h g = ap (λ x. then_do x more) h
  then-alike Spent q go more h g = tt

  turn-alike : {A : Type 0} (n : ℕ) (s : State) (go : Part A) → Alike go → Same d (after_turn n s go) (after_turn (n + d) (with_more d s) go)
  turn-alike zero s go g = tt
  turn-alike (suc n) s go g =
      let e : suc n + d ≡ suc (n + d) = omega arith in
      subst (λ k. Same d (go (record s { left = n })) (after_turn k (with_more d s) go)) (sym e) (g (record s { left = n }))

  pub node-alike : {A : Type 0} (s : State) (go : Part A) → Alike go → Same d (node s go) (node (with_more d s) go)
  node-alike s go g = turn-alike s.left s go g

  pub nodes-alike : {A : Type 0} (n : ℕ) (s : State) (go : Part A) → Alike go → Same d (nodes n s go) (nodes n (with_more d s) go)
  nodes-alike zero s go g = g s
  nodes-alike (suc n) s go g = node-alike s (λ t. nodes n t go) (λ t. nodes-alike n t go g)

  pub truth-alike : {A : Type 0} (v : Value) (x y p q : Run A) → Same d x p → Same d y q → Same d (by_truth v x y) (by_truth v p q)
  truth-alike (Num zero) x y p q h g = g
  truth-alike (Num (suc n)) x y p q h g = h
  truth-alike Null x y p q h g = tt
  truth-alike (At k o) x y p q h g = tt

  next-alike : (f : Flow) (s : State) (go : Part Flow) → Alike go → Same d (if_next f s go) (if_next f (with_more d s) go)
  next-alike Next s go g = g s
  next-alike Broke s go g = refl
  next-alike Again s go g = refl
  next-alike (Returned v) s go g = refl

  body-alike : (f : Flow) (s : State) (go more : Part Flow) → ((t : State) → Same d (go t) (more (with_more d t))) → Same d (after_body f s go) (after_body f (with_more d s) more)
  body-alike Next s go more g = g s
  body-alike Broke s go more g = refl
  body-alike Again s go more g = g s
  body-alike (Returned v) s go more g = refl

  load-alike : (at : ℕ) (t : Scalar) (p : Value) → Alike (load at t p)
  load-alike at t (At k o) s = if-alike (in_bounds t s.buffers k o) _ _ _ _ refl refl
  load-alike at t Null s = refl
  load-alike at t (Num w) s = refl

  store-alike : (at : ℕ) (t : Scalar) (p : Value) (x : ℕ) → Alike (store at t p x)
  store-alike at t (At k o) x s = if-alike (in_bounds t s.buffers k o) _ _ _ _ refl refl
  store-alike at t Null x s = refl
  store-alike at t (Num w) x s = refl

  index-same : (v : Value) (go more : ℕ → Run Value) → ((i : ℕ) → Same d (go i) (more i)) → Same d (at_index v go) (at_index v more)
  index-same (Num i) go more g = g i
  index-same Null go more g = tt
  index-same (At k o) go more g = tt

  get-alike : (at v i : ℕ) → Alike (get_element at v i)
  get-alike at v i s = if-alike (nat_lt i (length (array_of s.arrays v))) _ _ _ _ refl refl

  set-alike : (at v i x : ℕ) → Alike (set_element at v i x)
  set-alike at v i x s = if-alike (nat_lt i (length (array_of s.arrays v))) _ _ _ _ refl refl

  pub read-alike : (t : Ty) (q : Place) → Alike (read t q)
  read-alike t (Variable v) s = refl
  read-alike t (Cell at v i) s = index-same i _ _ (λ j. get-alike at v j s)
  read-alike t (Behind at p) s = load-alike at (scalar_of t) p s
  read-alike t Nowhere s = tt

  put-alike : (t : Ty) (q : Place) (x : Value) → Alike (store_value t q x)
  put-alike t (Variable v) x s = refl
  put-alike t (Cell at v i) (Num x) s = index-same i _ _ (λ j. set-alike at v j x s)
  put-alike t (Cell at v i) Null s = tt
  put-alike t (Cell at v i) (At k o) s = tt
  put-alike t (Behind at p) (Num x) s = store-alike at (scalar_of t) p x s
  put-alike t (Behind at p) Null s = tt
  put-alike t (Behind at p) (At k o) s = tt
  put-alike t Nowhere x s = tt

  pub write-alike : (t : Ty) (q : Place) (x : Value) → Alike (write t q x)
  write-alike t q x s = put-alike t q (converted t x) s

  -- ---- places

  pub variable-alike : (v : ℕ) → Alike (variable_place v)
  variable-alike v s = node-alike s (λ t. Goes (Variable v) t) (λ t. refl)

  pub index-alike : (at size : ℕ) (base index : Part Value) → Alike base → Alike index → Alike (index_place at size base index)
  index-alike at size base index b i s = node-alike s _ (λ t. then-alike (base t) _ _ _ (b t) (λ p u. then-alike (index u) _ _ _ (i u) (λ n w. refl)))

  pub cell-alike : (at v : ℕ) (index : Part Value) → Alike index → Alike (cell_place at v index)
  cell-alike at v index i s = nodes-alike 2 s _ (λ t. then-alike (index t) _ _ _ (i t) (λ n u. refl))

  pub pointed-alike : (at : ℕ) (p : Part Value) → Alike p → Alike (pointed_place at p)
  pointed-alike at p g s = node-alike s _ (λ t. then-alike (p t) _ _ _ (g t) (λ x u. refl))

  pub read_from-alike : (t : Ty) (place : Part Place) → Alike place → Alike (read_from t place)
  read_from-alike t place g s = then-alike (place s) _ (read t) (read t) (g s) (λ q u. read-alike t q u)

  -- ---- expressions

  pub number-alike : (w : ℕ) → Alike (number_value w)
  number-alike w s = node-alike s (λ t. Goes (Num w) t) (λ t. refl)

  pub prefix-alike : (o : Mark) (arg : Part Value) → Alike arg → Alike (prefix_value o arg)
  prefix-alike o arg g s = node-alike s _ (λ t. then-alike (arg t) _ _ _ (g t) (λ x u. refl))

  pub cast-alike : (t : Ty) (arg : Part Value) → Alike arg → Alike (cast_value t arg)
  cast-alike t arg g s = node-alike s _ (λ u. then-alike (arg u) _ _ _ (g u) (λ x w. refl))

  pub step-alike : (t : Ty) (up post : Bool) (place : Part Place) → Alike place → Alike (step_value t up post place)
  step-alike t up post place g s =
      node-alike s _ (λ u. then-alike (place u) _ _ _ (g u) (λ q w. then-alike (read t q w) _ _ _ (read-alike t q w) (λ x y.
      then-alike (write t q (stepped t up x) y) _ _ _ (write-alike t q (stepped t up x) y) (λ v a. refl))))

  pub assign-alike : (t : Ty) (place : Part Place) (value : Part Value) → Alike place → Alike value → Alike (assign_value t place value)
  assign-alike t place value g v s =
      node-alike s _ (λ u. then-alike (place u) _ _ _ (g u) (λ q w. then-alike (value w) _ _ _ (v w) (λ x y. write-alike t q x y)))

  pub compound-alike : (t : Ty) (o : Mark) (from : Ty) (place : Part Place) (value : Part Value) → Alike place → Alike value → Alike (compound_value t o from place value)
  compound-alike t o from place value g v s =
      node-alike s _ (λ u. then-alike (place u) _ _ _ (g u) (λ q w. then-alike (read t q w) _ _ _ (read-alike t q w) (λ old y.
      then-alike (value y) _ _ _ (v y) (λ x a. write-alike t q (combined t (operator_in o) from old x) a))))

  pub assigned-alike : (t : Ty) (o : Mark) (from : Ty) (place : Part Place) (value : Part Value) → Alike place → Alike value → Alike (assigned_value t o from place value)
  assigned-alike t m.ShiftLeftAssign from place value g v s = compound-alike t m.ShiftLeftAssign from place value g v s
  assigned-alike t m.ShiftRightAssign from place value g v s = compound-alike t m.ShiftRightAssign from place value g v s
  assigned-alike t m.PlusPlus from place value g v s = compound-alike t m.PlusPlus from place value g v s
  assigned-alike t m.MinusMinus from place value g v s = compound-alike t m.MinusMinus from place value g v s
  assigned-alike t m.ShiftLeft from place value g v s = compound-alike t m.ShiftLeft from place value g v s
  assigned-alike t m.ShiftRight from place value g v s = compound-alike t m.ShiftRight from place value g v s
  assigned-alike t m.LessEqual from place value g v s = compound-alike t m.LessEqual from place value g v s
  assigned-alike t m.GreaterEqual from place value g v s = compound-alike t m.GreaterEqual from place value g v s
  assigned-alike t m.EqualEqual from place value g v s = compound-alike t m.EqualEqual from place value g v s
  assigned-alike t m.BangEqual from place value g v s = compound-alike t m.BangEqual from place value g v s
  assigned-alike t m.AndAnd from place value g v s = compound-alike t m.AndAnd from place value g v s
  assigned-alike t m.OrOr from place value g v s = compound-alike t m.OrOr from place value g v s
  assigned-alike t m.PlusAssign from place value g v s = compound-alike t m.PlusAssign from place value g v s
  assigned-alike t m.MinusAssign from place value g v s = compound-alike t m.MinusAssign from place value g v s
  assigned-alike t m.StarAssign from place value g v s = compound-alike t m.StarAssign from place value g v s
  assigned-alike t m.SlashAssign from place value g v s = compound-alike t m.SlashAssign from place value g v s
  assigned-alike t m.PercentAssign from place value g v s = compound-alike t m.PercentAssign from place value g v s
  assigned-alike t m.AndAssign from place value g v s = compound-alike t m.AndAssign from place value g v s
  assigned-alike t m.OrAssign from place value g v s = compound-alike t m.OrAssign from place value g v s
  assigned-alike t m.XorAssign from place value g v s = compound-alike t m.XorAssign from place value g v s
  assigned-alike t m.LeftParen from place value g v s = compound-alike t m.LeftParen from place value g v s
  assigned-alike t m.RightParen from place value g v s = compound-alike t m.RightParen from place value g v s
  assigned-alike t m.LeftBrace from place value g v s = compound-alike t m.LeftBrace from place value g v s
  assigned-alike t m.RightBrace from place value g v s = compound-alike t m.RightBrace from place value g v s
  assigned-alike t m.LeftBracket from place value g v s = compound-alike t m.LeftBracket from place value g v s
  assigned-alike t m.RightBracket from place value g v s = compound-alike t m.RightBracket from place value g v s
  assigned-alike t m.Semicolon from place value g v s = compound-alike t m.Semicolon from place value g v s
  assigned-alike t m.Comma from place value g v s = compound-alike t m.Comma from place value g v s
  assigned-alike t m.Question from place value g v s = compound-alike t m.Question from place value g v s
  assigned-alike t m.Colon from place value g v s = compound-alike t m.Colon from place value g v s
  assigned-alike t m.Plus from place value g v s = compound-alike t m.Plus from place value g v s
  assigned-alike t m.Minus from place value g v s = compound-alike t m.Minus from place value g v s
  assigned-alike t m.Star from place value g v s = compound-alike t m.Star from place value g v s
  assigned-alike t m.Slash from place value g v s = compound-alike t m.Slash from place value g v s
  assigned-alike t m.Percent from place value g v s = compound-alike t m.Percent from place value g v s
  assigned-alike t m.Ampersand from place value g v s = compound-alike t m.Ampersand from place value g v s
  assigned-alike t m.Bar from place value g v s = compound-alike t m.Bar from place value g v s
  assigned-alike t m.Caret from place value g v s = compound-alike t m.Caret from place value g v s
  assigned-alike t m.Tilde from place value g v s = compound-alike t m.Tilde from place value g v s
  assigned-alike t m.Bang from place value g v s = compound-alike t m.Bang from place value g v s
  assigned-alike t m.Less from place value g v s = compound-alike t m.Less from place value g v s
  assigned-alike t m.Greater from place value g v s = compound-alike t m.Greater from place value g v s
  assigned-alike t m.Assign from place value g v s = assign-alike t place value g v s

  pub conditional-alike : (cond one other : Part Value) → Alike cond → Alike one → Alike other → Alike (conditional_value cond one other)
  conditional-alike cond one other c a b s = node-alike s _ (λ t. then-alike (cond t) _ _ _ (c t) (λ x u. truth-alike x _ _ _ _ (a u) (b u)))

  truth-of-alike : (operand : Part Value) → Alike operand → Alike (λ s. then_do (operand s) (λ y t. Goes (truth y) t))
  truth-of-alike operand g s = then-alike (operand s) _ _ _ (g s) (λ y t. refl)

  plain-alike : (a : Ty) (o : Mark) (c : Ty) (x : Value) (operand : Part Value) → Alike operand → Alike (λ s. then_do (operand s) (λ y t. Goes (combined a o c x y) t))
  plain-alike a o c x operand g s = then-alike (operand s) _ _ _ (g s) (λ y t. refl)

  pub operator-alike : (a : Ty) (o : Mark) (c : Ty) (x : Value) (operand : Part Value) → Alike operand → Alike (operator_value a o c x operand)
  operator-alike a m.ShiftLeftAssign c x operand g s = plain-alike a m.ShiftLeftAssign c x operand g s
  operator-alike a m.ShiftRightAssign c x operand g s = plain-alike a m.ShiftRightAssign c x operand g s
  operator-alike a m.PlusPlus c x operand g s = plain-alike a m.PlusPlus c x operand g s
  operator-alike a m.MinusMinus c x operand g s = plain-alike a m.MinusMinus c x operand g s
  operator-alike a m.ShiftLeft c x operand g s = plain-alike a m.ShiftLeft c x operand g s
  operator-alike a m.ShiftRight c x operand g s = plain-alike a m.ShiftRight c x operand g s
  operator-alike a m.LessEqual c x operand g s = plain-alike a m.LessEqual c x operand g s
  operator-alike a m.GreaterEqual c x operand g s = plain-alike a m.GreaterEqual c x operand g s
  operator-alike a m.EqualEqual c x operand g s = plain-alike a m.EqualEqual c x operand g s
  operator-alike a m.BangEqual c x operand g s = plain-alike a m.BangEqual c x operand g s
  operator-alike a m.AndAnd c x operand g s = truth-alike x _ (Goes (Num 0) s) _ (Goes (Num 0) (with_more d s)) (truth-of-alike operand g s) refl
  operator-alike a m.OrOr c x operand g s = truth-alike x (Goes (Num 1) s) _ (Goes (Num 1) (with_more d s)) _ refl (truth-of-alike operand g s)
  operator-alike a m.PlusAssign c x operand g s = plain-alike a m.PlusAssign c x operand g s
  operator-alike a m.MinusAssign c x operand g s = plain-alike a m.MinusAssign c x operand g s
  operator-alike a m.StarAssign c x operand g s = plain-alike a m.StarAssign c x operand g s
  operator-alike a m.SlashAssign c x operand g s = plain-alike a m.SlashAssign c x operand g s
  operator-alike a m.PercentAssign c x operand g s = plain-alike a m.PercentAssign c x operand g s
  operator-alike a m.AndAssign c x operand g s = plain-alike a m.AndAssign c x operand g s
  operator-alike a m.OrAssign c x operand g s = plain-alike a m.OrAssign c x operand g s
  operator-alike a m.XorAssign c x operand g s = plain-alike a m.XorAssign c x operand g s
  operator-alike a m.LeftParen c x operand g s = plain-alike a m.LeftParen c x operand g s
  operator-alike a m.RightParen c x operand g s = plain-alike a m.RightParen c x operand g s
  operator-alike a m.LeftBrace c x operand g s = plain-alike a m.LeftBrace c x operand g s
  operator-alike a m.RightBrace c x operand g s = plain-alike a m.RightBrace c x operand g s
  operator-alike a m.LeftBracket c x operand g s = plain-alike a m.LeftBracket c x operand g s
  operator-alike a m.RightBracket c x operand g s = plain-alike a m.RightBracket c x operand g s
  operator-alike a m.Semicolon c x operand g s = plain-alike a m.Semicolon c x operand g s
  operator-alike a m.Comma c x operand g s = g s
  operator-alike a m.Question c x operand g s = plain-alike a m.Question c x operand g s
  operator-alike a m.Colon c x operand g s = plain-alike a m.Colon c x operand g s
  operator-alike a m.Plus c x operand g s = plain-alike a m.Plus c x operand g s
  operator-alike a m.Minus c x operand g s = plain-alike a m.Minus c x operand g s
  operator-alike a m.Star c x operand g s = plain-alike a m.Star c x operand g s
  operator-alike a m.Slash c x operand g s = plain-alike a m.Slash c x operand g s
  operator-alike a m.Percent c x operand g s = plain-alike a m.Percent c x operand g s
  operator-alike a m.Ampersand c x operand g s = plain-alike a m.Ampersand c x operand g s
  operator-alike a m.Bar c x operand g s = plain-alike a m.Bar c x operand g s
  operator-alike a m.Caret c x operand g s = plain-alike a m.Caret c x operand g s
  operator-alike a m.Tilde c x operand g s = plain-alike a m.Tilde c x operand g s
  operator-alike a m.Bang c x operand g s = plain-alike a m.Bang c x operand g s
  operator-alike a m.Less c x operand g s = plain-alike a m.Less c x operand g s
  operator-alike a m.Greater c x operand g s = plain-alike a m.Greater c x operand g s
  operator-alike a m.Assign c x operand g s = plain-alike a m.Assign c x operand g s

  pub chain-alike : (n : ℕ) (first : Part Value) (rest : Value → Part Value) → Alike first → ((x : Value) → Alike (rest x)) → Alike (chain_value n first rest)
  chain-alike n first rest f r s = nodes-alike n s _ (λ t. then-alike (first t) _ rest rest (f t) (λ x u. r x u))

  pub builtin-alike : (work : Work) (which : Builtin) (t : Scalar) (args : Part (List Value)) → Alike args → Alike (builtin_value work which t args)
  builtin-alike work which t args g s = node-alike s _ (λ u. then-alike (args u) _ _ _ (g u) (λ xs v. refl))

  pub no_values-alike : Alike no_values
  no_values-alike s = refl

  pub and_values-alike : (first : Part Value) (rest : Part (List Value)) → Alike first → Alike rest → Alike (and_values first rest)
  and_values-alike first rest f r s = then-alike (first s) _ _ _ (f s) (λ x t. then-alike (rest t) _ _ _ (r t) (λ xs u. refl))

  pub call-alike : (args : Part (List Value)) (body : List Value → Part Value) → Alike args → ((xs : List Value) → Alike (body xs)) → Alike (call_value args body)
  call-alike args body a b s = node-alike s _ (λ t. then-alike (args t) _ body body (a t) (λ xs u. b xs u))

  -- ---- statements

  -- of a part that may not be there
  abbrev pub AlikeIf : Option (Part Value) → Type 0
  AlikeIf None = Unit {0}
  AlikeIf (Some f) = Alike f

  initialised-alike : (t : Ty) (v : ℕ) (init : Option (Part Value)) → AlikeIf init → Alike (initialised t v init)
  initialised-alike t v None g s = refl
  initialised-alike t v (Some value) g s =
      then-alike (value s) _ _ _ (g s) (λ x u. then-alike {B = Flow} (write t (Variable v) x u) _ (λ y w. Goes Next w) (λ y w. Goes Next w) (write-alike t (Variable v) x u) (λ y w. refl))

  declared-alike : (t : Ty) (c : Var) (v : ℕ) (init : Option (Part Value)) → AlikeIf init → (s : State) → Same d (initialised t v init (cleared c v s)) (initialised t v init (cleared c v (with_more d s)))
  declared-alike t (var.Value e) v init g s = initialised-alike t v init g (cleared (var.Value e) v s)
  declared-alike t (var.Pointer e c) v init g s = initialised-alike t v init g (cleared (var.Pointer e c) v s)
  declared-alike t (var.Array e n) v init g s = initialised-alike t v init g (cleared (var.Array e n) v s)

  pub declare-alike : (c : Var) (v : ℕ) (init : Option (Part Value)) → AlikeIf init → Alike (declare_flow c v init)
  declare-alike c v init g s = node-alike s (λ t. initialised (type_of c) v init (cleared c v t)) (declared-alike (type_of c) c v init g)

  pub block-alike : (stmts : Part Flow) → Alike stmts → Alike (block_flow stmts)
  block-alike stmts g s = node-alike s stmts g

  pub no_flow-alike : Alike no_flow
  no_flow-alike s = refl

  pub and_flow-alike : (first rest : Part Flow) → Alike first → Alike rest → Alike (and_flow first rest)
  and_flow-alike first rest f r s = then-alike (first s) _ _ _ (f s) (λ x t. next-alike x t rest r)

  pub dropped-alike : (e : Part Value) → Alike e → Alike (dropped e)
  dropped-alike e g s = then-alike {B = Flow} (e s) _ (λ x t. Goes Next t) (λ x t. Goes Next t) (g s) (λ x t. refl)

  pub eval-alike : (e : Part Value) → Alike e → Alike (eval_flow e)
  eval-alike e g s = node-alike s (dropped e) (dropped-alike e g)

  pub leaf-alike : (f : Flow) → Alike (leaf_flow f)
  leaf-alike f s = node-alike s (λ t. Goes f t) (λ t. refl)

  pub if-flow-alike : (cond : Part Value) (one other : Part Flow) → Alike cond → Alike one → Alike other → Alike (if_flow cond one other)
  if-flow-alike cond one other c a b s = node-alike s _ (λ t. then-alike (cond t) _ _ _ (c t) (λ x u. truth-alike x _ _ _ _ (a u) (b u)))

  rounds-alike : (n k : ℕ) (test : Part Value) (body step : Part Flow) → k ≡ n + d → Alike test → Alike body → Alike step → (s : State) → Same d (rounds n test body step s) (rounds k test body step (with_more d s))
  rounds-alike zero k test body step e c b p s = tt
  rounds-alike (suc n) zero test body step e c b p s = absurd (omega (arith, e))
  rounds-alike (suc n) (suc k) test body step e c b p s =
      then-alike (test s) _ _ _ (c s) (λ x t. truth-alike x _ (Goes Next t) _ (Goes Next (with_more d t))
      (then-alike (body t) _ _ _ (b t) (λ f u. body-alike f u _ _ (λ w. then-alike (step w) _ _ _ (p w) (λ g y. rounds-alike n k test body step (omega (arith, e)) c b p y))))
      refl)

  rounds_first-alike : (n k : ℕ) (body : Part Flow) (test : Part Value) → k ≡ n + d → Alike body → Alike test → (s : State) → Same d (rounds_first n body test s) (rounds_first k body test (with_more d s))
  rounds_first-alike zero k body test e b c s = tt
  rounds_first-alike (suc n) zero body test e b c s = absurd (omega (arith, e))
  rounds_first-alike (suc n) (suc k) body test e b c s =
      then-alike (body s) _ _ _ (b s) (λ f t. body-alike f t _ _ (λ u. then-alike (test u) _ _ _ (c u) (λ x w.
      truth-alike x _ (Goes Next w) _ (Goes Next (with_more d w)) (rounds_first-alike n k body test (omega (arith, e)) b c w) refl)))

  pub while-alike : (cond : Part Value) (body : Part Flow) → Alike cond → Alike body → Alike (while_flow cond body)
  while-alike cond body c b s = node-alike s (λ t. rounds t.left cond body no_flow t) (λ t. rounds-alike t.left (t.left + d) cond body no_flow refl c b no_flow-alike t)

  pub do-alike : (body : Part Flow) (cond : Part Value) → Alike body → Alike cond → Alike (do_flow body cond)
  do-alike body cond b c s = node-alike s (λ t. rounds_first t.left body cond t) (λ t. rounds_first-alike t.left (t.left + d) body cond refl b c t)

  pub always-alike : Alike always
  always-alike s = refl

  pub for-alike : (init : Part Flow) (cond : Part Value) (step body : Part Flow) → Alike init → Alike cond → Alike step → Alike body → Alike (for_flow init cond step body)
  for-alike init cond step body i c p b s =
      node-alike s _ (λ t. then-alike (init t) _ _ _ (i t) (λ f u. next-alike f u (λ w. rounds w.left cond body step w) (λ w. rounds-alike w.left (w.left + d) cond body step refl c b p w)))

  pub return-alike : (e : Option (Part Value)) → AlikeIf e → Alike (return_flow e)
  return-alike None g s = node-alike s (λ t. Goes (Returned Null) t) (λ t. refl)
  return-alike (Some e) g s = node-alike s _ (λ t. then-alike (e t) _ _ _ (g t) (λ x u. refl))

  pub end-alike : (result : Option Scalar) (f : Flow) → Alike (call_end result f)
  end-alike result Next s = refl
  end-alike result Broke s = tt
  end-alike result Again s = tt
  end-alike result (Returned v) s = refl
