-- Each form of expression and of statement keeps what its parts keep.
use Rattle.std.proofs.Common.{ℕ, zero, suc, Bool, List, Option, Some, None}
use Rattle.clc_lexer.specs.declared.marks.Mark.{Mark}
use Rattle.clc_lexer.specs.declared.marks.Mark.TheVariants as m
use Rattle.q_lane.specs.declared.kinds.Scalar.{Scalar}
use Rattle.clc_types.specs.declared.typed.Builtin.{Builtin}
use Rattle.clc_types.specs.declared.typed.Ty.{Ty}
use Rattle.clc_types.specs.declared.typed.Var.{Var}
use Rattle.clc_types.specs.declared.typed.Var.TheVariants as var
use Rattle.q_functions.specs.declared.work.Work.{Work}
use Rattle.item_meaning.specs.declared.values.Value.{Value}
use Rattle.item_meaning.specs.ItemState.{State, Goes, then_do}
use Rattle.item_meaning.specs.declared.values.Flow.{Flow}
use Rattle.item_meaning.specs.declared.values.Flow.TheVariants.{Next, Broke, Again, Returned}
use Rattle.item_meaning.specs.Operators.{truth, combined, operator_in}
use Rattle.item_meaning.specs.Places.{read, write}
use Rattle.item_meaning.specs.declared.values.Place.{Place}
use Rattle.item_meaning.specs.declared.values.Place.TheVariants.{Variable}
use Rattle.item_meaning.specs.NodeMeanings.{Part, variable_place, index_place, cell_place, pointed_place, read_from, number_value, prefix_value, cast_value, step_value, stepped, assign_value, compound_value, assigned_value, conditional_value, operator_value, chain_value, builtin_value, no_values, and_values, call_value}
use Rattle.item_meaning.specs.StatementMeanings.{cleared, initialised, declare_flow, type_of, block_flow, no_flow, and_flow, dropped, eval_flow, leaf_flow, if_flow, rounds, rounds_first, while_flow, do_flow, always, for_flow, return_flow, call_end}
use Rattle.item_bounds.proofs.Stays.{Stays, Leads, then-leads, node-leads, nodes-leads, truth-leads, next-leads, body-leads, read-leads, write-leads}

module _ (given : List (List ℕ)) (most : ℕ) where
  -- a part that starts in such a state ends in one
  abbrev pub Keeps : {A : Type 0} → Part A → Type 0
  Keeps f = (s : State) → Stays given most s → Leads given most (f s)

  -- ---- places

  pub variable-keeps : (v : ℕ) → Keeps (variable_place v)
  variable-keeps v s h = node-leads given most s _ h (λ t k. k)

  pub index-keeps : (at size : ℕ) (base index : Part Value) → Keeps base → Keeps index → Keeps (index_place at size base index)
  index-keeps at size base index b i s h = node-leads given most s _ h (λ t k. then-leads given most (base t) _ (b t k) (λ p u k. then-leads given most (index u) _ (i u k) (λ n w k. k)))

  pub cell-keeps : (at v : ℕ) (index : Part Value) → Keeps index → Keeps (cell_place at v index)
  cell-keeps at v index i s h = nodes-leads given most 2 s _ h (λ t k. then-leads given most (index t) _ (i t k) (λ n u k. k))

  pub pointed-keeps : (at : ℕ) (p : Part Value) → Keeps p → Keeps (pointed_place at p)
  pointed-keeps at p g s h = node-leads given most s _ h (λ t k. then-leads given most (p t) _ (g t k) (λ x u k. k))

  pub read_from-keeps : (t : Ty) (place : Part Place) → Keeps place → Keeps (read_from t place)
  read_from-keeps t place g s h = then-leads given most (place s) (read t) (g s h) (λ q u k. read-leads given most t q u k)

  -- ---- expressions

  pub number-keeps : (w : ℕ) → Keeps (number_value w)
  number-keeps w s h = node-leads given most s _ h (λ t k. k)

  pub prefix-keeps : (o : Mark) (arg : Part Value) → Keeps arg → Keeps (prefix_value o arg)
  prefix-keeps o arg g s h = node-leads given most s _ h (λ t k. then-leads given most (arg t) _ (g t k) (λ x u k. k))

  pub cast-keeps : (t : Ty) (arg : Part Value) → Keeps arg → Keeps (cast_value t arg)
  cast-keeps t arg g s h = node-leads given most s _ h (λ u k. then-leads given most (arg u) _ (g u k) (λ x w k. k))

  pub step-keeps : (t : Ty) (up post : Bool) (place : Part Place) → Keeps place → Keeps (step_value t up post place)
  step-keeps t up post place g s h =
      node-leads given most s _ h (λ u k. then-leads given most (place u) _ (g u k) (λ q w k. then-leads given most (read t q w) _ (read-leads given most t q w k) (λ x y k.
      then-leads given most (write t q (stepped t up x) y) _ (write-leads given most t q (stepped t up x) y k) (λ v a k. k))))

  pub assign-keeps : (t : Ty) (place : Part Place) (value : Part Value) → Keeps place → Keeps value → Keeps (assign_value t place value)
  assign-keeps t place value g v s h =
      node-leads given most s _ h (λ u k. then-leads given most (place u) _ (g u k) (λ q w k. then-leads given most (value w) _ (v w k) (λ x y k. write-leads given most t q x y k)))

  pub compound-keeps : (t : Ty) (o : Mark) (from : Ty) (place : Part Place) (value : Part Value) → Keeps place → Keeps value → Keeps (compound_value t o from place value)
  compound-keeps t o from place value g v s h =
      node-leads given most s _ h (λ u k. then-leads given most (place u) _ (g u k) (λ q w k. then-leads given most (read t q w) _ (read-leads given most t q w k) (λ old y k.
      then-leads given most (value y) _ (v y k) (λ x a k. write-leads given most t q (combined t (operator_in o) from old x) a k))))

  pub assigned-keeps : (t : Ty) (o : Mark) (from : Ty) (place : Part Place) (value : Part Value) → Keeps place → Keeps value → Keeps (assigned_value t o from place value)
  assigned-keeps t m.ShiftLeftAssign from place value g v s h = compound-keeps t m.ShiftLeftAssign from place value g v s h
  assigned-keeps t m.ShiftRightAssign from place value g v s h = compound-keeps t m.ShiftRightAssign from place value g v s h
  assigned-keeps t m.PlusPlus from place value g v s h = compound-keeps t m.PlusPlus from place value g v s h
  assigned-keeps t m.MinusMinus from place value g v s h = compound-keeps t m.MinusMinus from place value g v s h
  assigned-keeps t m.ShiftLeft from place value g v s h = compound-keeps t m.ShiftLeft from place value g v s h
  assigned-keeps t m.ShiftRight from place value g v s h = compound-keeps t m.ShiftRight from place value g v s h
  assigned-keeps t m.LessEqual from place value g v s h = compound-keeps t m.LessEqual from place value g v s h
  assigned-keeps t m.GreaterEqual from place value g v s h = compound-keeps t m.GreaterEqual from place value g v s h
  assigned-keeps t m.EqualEqual from place value g v s h = compound-keeps t m.EqualEqual from place value g v s h
  assigned-keeps t m.BangEqual from place value g v s h = compound-keeps t m.BangEqual from place value g v s h
  assigned-keeps t m.AndAnd from place value g v s h = compound-keeps t m.AndAnd from place value g v s h
  assigned-keeps t m.OrOr from place value g v s h = compound-keeps t m.OrOr from place value g v s h
  assigned-keeps t m.PlusAssign from place value g v s h = compound-keeps t m.PlusAssign from place value g v s h
  assigned-keeps t m.MinusAssign from place value g v s h = compound-keeps t m.MinusAssign from place value g v s h
  assigned-keeps t m.StarAssign from place value g v s h = compound-keeps t m.StarAssign from place value g v s h
  assigned-keeps t m.SlashAssign from place value g v s h = compound-keeps t m.SlashAssign from place value g v s h
  assigned-keeps t m.PercentAssign from place value g v s h = compound-keeps t m.PercentAssign from place value g v s h
  assigned-keeps t m.AndAssign from place value g v s h = compound-keeps t m.AndAssign from place value g v s h
  assigned-keeps t m.OrAssign from place value g v s h = compound-keeps t m.OrAssign from place value g v s h
  assigned-keeps t m.XorAssign from place value g v s h = compound-keeps t m.XorAssign from place value g v s h
  assigned-keeps t m.LeftParen from place value g v s h = compound-keeps t m.LeftParen from place value g v s h
  assigned-keeps t m.RightParen from place value g v s h = compound-keeps t m.RightParen from place value g v s h
  assigned-keeps t m.LeftBrace from place value g v s h = compound-keeps t m.LeftBrace from place value g v s h
  assigned-keeps t m.RightBrace from place value g v s h = compound-keeps t m.RightBrace from place value g v s h
  assigned-keeps t m.LeftBracket from place value g v s h = compound-keeps t m.LeftBracket from place value g v s h
  assigned-keeps t m.RightBracket from place value g v s h = compound-keeps t m.RightBracket from place value g v s h
  assigned-keeps t m.Semicolon from place value g v s h = compound-keeps t m.Semicolon from place value g v s h
  assigned-keeps t m.Comma from place value g v s h = compound-keeps t m.Comma from place value g v s h
  assigned-keeps t m.Question from place value g v s h = compound-keeps t m.Question from place value g v s h
  assigned-keeps t m.Colon from place value g v s h = compound-keeps t m.Colon from place value g v s h
  assigned-keeps t m.Plus from place value g v s h = compound-keeps t m.Plus from place value g v s h
  assigned-keeps t m.Minus from place value g v s h = compound-keeps t m.Minus from place value g v s h
  assigned-keeps t m.Star from place value g v s h = compound-keeps t m.Star from place value g v s h
  assigned-keeps t m.Slash from place value g v s h = compound-keeps t m.Slash from place value g v s h
  assigned-keeps t m.Percent from place value g v s h = compound-keeps t m.Percent from place value g v s h
  assigned-keeps t m.Ampersand from place value g v s h = compound-keeps t m.Ampersand from place value g v s h
  assigned-keeps t m.Bar from place value g v s h = compound-keeps t m.Bar from place value g v s h
  assigned-keeps t m.Caret from place value g v s h = compound-keeps t m.Caret from place value g v s h
  assigned-keeps t m.Tilde from place value g v s h = compound-keeps t m.Tilde from place value g v s h
  assigned-keeps t m.Bang from place value g v s h = compound-keeps t m.Bang from place value g v s h
  assigned-keeps t m.Less from place value g v s h = compound-keeps t m.Less from place value g v s h
  assigned-keeps t m.Greater from place value g v s h = compound-keeps t m.Greater from place value g v s h
  assigned-keeps t m.Assign from place value g v s h = assign-keeps t place value g v s h

  pub conditional-keeps : (cond one other : Part Value) → Keeps cond → Keeps one → Keeps other → Keeps (conditional_value cond one other)
  conditional-keeps cond one other c a b s h = node-leads given most s _ h (λ t k. then-leads given most (cond t) _ (c t k) (λ x u k. truth-leads given most x (one u) (other u) (a u k) (b u k)))

  truth-of-keeps : (operand : Part Value) → Keeps operand → Keeps (λ s. then_do (operand s) (λ y t. Goes (truth y) t))
  truth-of-keeps operand g s h = then-leads given most (operand s) _ (g s h) (λ y t k. k)

  plain-keeps : (a : Ty) (o : Mark) (c : Ty) (x : Value) (operand : Part Value) → Keeps operand → Keeps (λ s. then_do (operand s) (λ y t. Goes (combined a o c x y) t))
  plain-keeps a o c x operand g s h = then-leads given most (operand s) _ (g s h) (λ y t k. k)

  pub operator-keeps : (a : Ty) (o : Mark) (c : Ty) (x : Value) (operand : Part Value) → Keeps operand → Keeps (operator_value a o c x operand)
  operator-keeps a m.ShiftLeftAssign c x operand g s h = plain-keeps a m.ShiftLeftAssign c x operand g s h
  operator-keeps a m.ShiftRightAssign c x operand g s h = plain-keeps a m.ShiftRightAssign c x operand g s h
  operator-keeps a m.PlusPlus c x operand g s h = plain-keeps a m.PlusPlus c x operand g s h
  operator-keeps a m.MinusMinus c x operand g s h = plain-keeps a m.MinusMinus c x operand g s h
  operator-keeps a m.ShiftLeft c x operand g s h = plain-keeps a m.ShiftLeft c x operand g s h
  operator-keeps a m.ShiftRight c x operand g s h = plain-keeps a m.ShiftRight c x operand g s h
  operator-keeps a m.LessEqual c x operand g s h = plain-keeps a m.LessEqual c x operand g s h
  operator-keeps a m.GreaterEqual c x operand g s h = plain-keeps a m.GreaterEqual c x operand g s h
  operator-keeps a m.EqualEqual c x operand g s h = plain-keeps a m.EqualEqual c x operand g s h
  operator-keeps a m.BangEqual c x operand g s h = plain-keeps a m.BangEqual c x operand g s h
  operator-keeps a m.AndAnd c x operand g s h = truth-leads given most x _ _ (truth-of-keeps operand g s h) h
  operator-keeps a m.OrOr c x operand g s h = truth-leads given most x _ _ h (truth-of-keeps operand g s h)
  operator-keeps a m.PlusAssign c x operand g s h = plain-keeps a m.PlusAssign c x operand g s h
  operator-keeps a m.MinusAssign c x operand g s h = plain-keeps a m.MinusAssign c x operand g s h
  operator-keeps a m.StarAssign c x operand g s h = plain-keeps a m.StarAssign c x operand g s h
  operator-keeps a m.SlashAssign c x operand g s h = plain-keeps a m.SlashAssign c x operand g s h
  operator-keeps a m.PercentAssign c x operand g s h = plain-keeps a m.PercentAssign c x operand g s h
  operator-keeps a m.AndAssign c x operand g s h = plain-keeps a m.AndAssign c x operand g s h
  operator-keeps a m.OrAssign c x operand g s h = plain-keeps a m.OrAssign c x operand g s h
  operator-keeps a m.XorAssign c x operand g s h = plain-keeps a m.XorAssign c x operand g s h
  operator-keeps a m.LeftParen c x operand g s h = plain-keeps a m.LeftParen c x operand g s h
  operator-keeps a m.RightParen c x operand g s h = plain-keeps a m.RightParen c x operand g s h
  operator-keeps a m.LeftBrace c x operand g s h = plain-keeps a m.LeftBrace c x operand g s h
  operator-keeps a m.RightBrace c x operand g s h = plain-keeps a m.RightBrace c x operand g s h
  operator-keeps a m.LeftBracket c x operand g s h = plain-keeps a m.LeftBracket c x operand g s h
  operator-keeps a m.RightBracket c x operand g s h = plain-keeps a m.RightBracket c x operand g s h
  operator-keeps a m.Semicolon c x operand g s h = plain-keeps a m.Semicolon c x operand g s h
  operator-keeps a m.Comma c x operand g s h = g s h
  operator-keeps a m.Question c x operand g s h = plain-keeps a m.Question c x operand g s h
  operator-keeps a m.Colon c x operand g s h = plain-keeps a m.Colon c x operand g s h
  operator-keeps a m.Plus c x operand g s h = plain-keeps a m.Plus c x operand g s h
  operator-keeps a m.Minus c x operand g s h = plain-keeps a m.Minus c x operand g s h
  operator-keeps a m.Star c x operand g s h = plain-keeps a m.Star c x operand g s h
  operator-keeps a m.Slash c x operand g s h = plain-keeps a m.Slash c x operand g s h
  operator-keeps a m.Percent c x operand g s h = plain-keeps a m.Percent c x operand g s h
  operator-keeps a m.Ampersand c x operand g s h = plain-keeps a m.Ampersand c x operand g s h
  operator-keeps a m.Bar c x operand g s h = plain-keeps a m.Bar c x operand g s h
  operator-keeps a m.Caret c x operand g s h = plain-keeps a m.Caret c x operand g s h
  operator-keeps a m.Tilde c x operand g s h = plain-keeps a m.Tilde c x operand g s h
  operator-keeps a m.Bang c x operand g s h = plain-keeps a m.Bang c x operand g s h
  operator-keeps a m.Less c x operand g s h = plain-keeps a m.Less c x operand g s h
  operator-keeps a m.Greater c x operand g s h = plain-keeps a m.Greater c x operand g s h
  operator-keeps a m.Assign c x operand g s h = plain-keeps a m.Assign c x operand g s h

  pub chain-keeps : (n : ℕ) (first : Part Value) (rest : Value → Part Value) → Keeps first → ((x : Value) → Keeps (rest x)) → Keeps (chain_value n first rest)
  chain-keeps n first rest f r s h = nodes-leads given most n s _ h (λ t k. then-leads given most (first t) rest (f t k) (λ x u k. r x u k))

  pub builtin-keeps : (work : Work) (which : Builtin) (t : Scalar) (args : Part (List Value)) → Keeps args → Keeps (builtin_value work which t args)
  builtin-keeps work which t args g s h = node-leads given most s _ h (λ u k. then-leads given most (args u) _ (g u k) (λ xs v k. k))

  pub no_values-keep : Keeps no_values
  no_values-keep s h = h

  pub and_values-keep : (first : Part Value) (rest : Part (List Value)) → Keeps first → Keeps rest → Keeps (and_values first rest)
  and_values-keep first rest f r s h = then-leads given most (first s) _ (f s h) (λ x t k. then-leads given most (rest t) _ (r t k) (λ xs u k. k))

  pub call-keeps : (args : Part (List Value)) (body : List Value → Part Value) → Keeps args → ((xs : List Value) → Keeps (body xs)) → Keeps (call_value args body)
  call-keeps args body a b s h = node-leads given most s _ h (λ t k. then-leads given most (args t) body (a t k) (λ xs u k. b xs u k))

  -- ---- statements

  cleared-stays : (d : Var) (v : ℕ) (s : State) → Stays given most s → Stays given most (cleared d v s)
  cleared-stays (var.Value t) v s h = record { same = h.same; within = h.within; few = h.few; bytes = h.bytes }
  cleared-stays (var.Pointer e c) v s h = record { same = h.same; within = h.within; few = h.few; bytes = h.bytes }
  cleared-stays (var.Array e n) v s h = record { same = h.same; within = h.within; few = h.few; bytes = h.bytes }

  -- of a part that may not be there
  abbrev pub KeepsIf : Option (Part Value) → Type 0
  KeepsIf None = Unit {0}
  KeepsIf (Some f) = Keeps f

  initialised-keeps : (t : Ty) (v : ℕ) (init : Option (Part Value)) → KeepsIf init → Keeps (initialised t v init)
  initialised-keeps t v None g s h = h
  initialised-keeps t v (Some value) g s h = then-leads given most (value s) _ (g s h) (λ x u k. then-leads given most {B = Flow} (write t (Variable v) x u) (λ y w. Goes Next w) (write-leads given most t (Variable v) x u k) (λ y w k. k))

  pub declare-keeps : (d : Var) (v : ℕ) (init : Option (Part Value)) → KeepsIf init → Keeps (declare_flow d v init)
  declare-keeps d v init g s h = node-leads given most s _ h (λ t k. initialised-keeps (type_of d) v init g (cleared d v t) (cleared-stays d v t k))

  pub block-keeps : (stmts : Part Flow) → Keeps stmts → Keeps (block_flow stmts)
  block-keeps stmts g s h = node-leads given most s stmts h g

  pub no_flow-keeps : Keeps no_flow
  no_flow-keeps s h = h

  pub and_flow-keeps : (first rest : Part Flow) → Keeps first → Keeps rest → Keeps (and_flow first rest)
  and_flow-keeps first rest f r s h = then-leads given most (first s) _ (f s h) (λ x t k. next-leads given most x t rest k r)

  pub dropped-keeps : (e : Part Value) → Keeps e → Keeps (dropped e)
  dropped-keeps e g s h = then-leads given most (e s) _ (g s h) (λ x t k. k)

  pub eval-keeps : (e : Part Value) → Keeps e → Keeps (eval_flow e)
  eval-keeps e g s h = node-leads given most s (dropped e) h (dropped-keeps e g)

  pub leaf-keeps : (f : Flow) → Keeps (leaf_flow f)
  leaf-keeps f s h = node-leads given most s _ h (λ t k. k)

  pub if-keeps : (cond : Part Value) (one other : Part Flow) → Keeps cond → Keeps one → Keeps other → Keeps (if_flow cond one other)
  if-keeps cond one other c a b s h = node-leads given most s _ h (λ t k. then-leads given most (cond t) _ (c t k) (λ x u k. truth-leads given most x (one u) (other u) (a u k) (b u k)))

  rounds-keep : (n : ℕ) (test : Part Value) (body step : Part Flow) → Keeps test → Keeps body → Keeps step → Keeps (rounds n test body step)
  rounds-keep zero test body step c b d s h = tt
  rounds-keep (suc n) test body step c b d s h =
      then-leads given most (test s) _ (c s h) (λ x t k. truth-leads given most x _ _
      (then-leads given most (body t) _ (b t k) (λ f u k. body-leads given most f u _ k (λ w k. then-leads given most (step w) _ (d w k) (λ g y k. rounds-keep n test body step c b d y k))))
      k)

  rounds_first-keep : (n : ℕ) (body : Part Flow) (test : Part Value) → Keeps body → Keeps test → Keeps (rounds_first n body test)
  rounds_first-keep zero body test b c s h = tt
  rounds_first-keep (suc n) body test b c s h =
      then-leads given most (body s) _ (b s h) (λ f t k. body-leads given most f t _ k (λ u k. then-leads given most (test u) _ (c u k) (λ x w k.
      truth-leads given most x _ _ (rounds_first-keep n body test b c w k) k)))

  pub while-keeps : (cond : Part Value) (body : Part Flow) → Keeps cond → Keeps body → Keeps (while_flow cond body)
  while-keeps cond body c b s h = node-leads given most s _ h (λ t k. rounds-keep t.left cond body no_flow c b no_flow-keeps t k)

  pub do-keeps : (body : Part Flow) (cond : Part Value) → Keeps body → Keeps cond → Keeps (do_flow body cond)
  do-keeps body cond b c s h = node-leads given most s _ h (λ t k. rounds_first-keep t.left body cond b c t k)

  pub always-keeps : Keeps always
  always-keeps s h = h

  pub for-keeps : (init : Part Flow) (cond : Part Value) (step body : Part Flow) → Keeps init → Keeps cond → Keeps step → Keeps body → Keeps (for_flow init cond step body)
  for-keeps init cond step body i c d b s h =
      node-leads given most s _ h (λ t k. then-leads given most (init t) _ (i t k) (λ f u k. next-leads given most f u _ k (λ w k. rounds-keep w.left cond body step c b d w k)))

  pub return-keeps : (e : Option (Part Value)) → KeepsIf e → Keeps (return_flow e)
  return-keeps None g s h = node-leads given most s _ h (λ t k. k)
  return-keeps (Some e) g s h = node-leads given most s _ h (λ t k. then-leads given most (e t) _ (g t k) (λ x u k. k))

  pub end-keeps : (result : Option Scalar) (f : Flow) → Keeps (call_end result f)
  end-keeps result Next s h = h
  end-keeps result Broke s h = tt
  end-keeps result Again s h = tt
  end-keeps result (Returned v) s h = h
