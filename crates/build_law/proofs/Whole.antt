-- The code of a body does what the body does.
use Rattle.std.proofs.Common.{◌≡◌, ℕ, suc, ◌<◌, ◌≤◌, Some, None, length, refl, subst, arith}
use Rattle.clc_lexer.specs.declared.marks.Mark.{Mark}
use Rattle.clc_lexer.specs.declared.marks.Mark.TheVariants as m
use Rattle.q_functions.specs.NumberFunctions.{bytes_of}
use Rattle.clc_types.specs.declared.typed.Ty.{Ty}
use Rattle.item_meaning.specs.declared.values.Value.{Value}
use Rattle.item_meaning.specs.declared.values.Value.TheVariants.{Num, Null}
use Rattle.item_meaning.specs.ItemState.{State, Run, Goes, Bounds, Spent, then_do}
use Rattle.item_meaning.specs.declared.values.Flow.{Flow}
use Rattle.item_meaning.specs.declared.values.Flow.TheVariants.{Next, Broke, Again, Returned}
use Rattle.item_meaning.specs.Operators.{scalar_of, type_after, combined, prefixed, on_word, converted}
use Rattle.item_meaning.specs.declared.values.Place.{Place}
use Rattle.item_meaning.specs.declared.values.Place.TheVariants.{Variable}
use Rattle.item_meaning.specs.NodeMeanings.{Part, function_of, step_value, operator_value, assigned_value}
use Rattle.item_meaning.specs.StatementMeanings.{var_at, type_of, cleared, initialised, declare_flow, no_flow, dropped, rounds}
use Rattle.clc_inline.specs.declared.body.Node.{Node, Row_of-TExpr, end_of-TExpr, more_of-TExpr, Row_of-Node-Chain-1-2, end_of-Node-Chain-1-2, more_of-Node-Chain-1-2}
use Rattle.clc_inline.specs.declared.body.Node.TheVariants.{Number, Name, Index', Element', Deref', Prefix', Step', Cast', Paren', Chain', Cond', Assign', Scope', Builtin'}
use Rattle.clc_inline.specs.declared.body.TStmt.{TStmt, Row_of-TStmt, end_of-TStmt, more_of-TStmt, Held-TStmt-If-2, TStmt-If-2-None', TStmt-If-2-Some', Held-TStmt-Declare-1, TStmt-Declare-1-None', TStmt-Declare-1-Some'}
use Rattle.clc_inline.specs.declared.body.TStmt.TheVariants.{Block', Declare', Eval', Empty, If', While', Do', For', Break, Continue, Return'}
use Rattle.body_meaning.specs.BodyMeaning as body
use Rattle.body_meaning.specs.BodyMeaning.{type_in, operators, declared_all}
use Rattle.item_ir.specs.IrMeaning.{State as Item, Run as Ran, Next as Falls, run_all}
use code.{Code, one, none, joined, with_code, PlaceCode, into, cell, behind, moved_code, prefix_code, converted_code, combined_code, ArgsCode, no_args, after_place, after_args, operator_code, assigned_code, step_code, function_code, scope_code, Stmts, cleared_code, init_code, declare_code, code_of, code_in, chain_code, place_of, place_in, args_code, stmt_code, code_if, test_code, step_stmts, return_code, all_code, in_code, else_code, begin_code, begin_with_code}
use Rattle.ir_build.specs.Code as code
use Rattle.build_law.specs.Law.{CodeFollows}
use Rattle.build_law.specs.Keeps.{Back, Ground, Laid, Same, Related, Kept, Follows, same_flow}
use Rattle.build_law.proofs.Fits.{Fits, FitsBox, FitArgs, FitChain, Fit, FitsIf, FitAll, FitBody, FitElse, FitBegins, FitBegin, statement_fits}
use Rattle.build_law.proofs.Steps.{weaker, turn, turns, Related-less, Kept-refl}
use Rattle.build_law.proofs.Values.{IsBuilt, none_built, join_built, const_built, still, prefix_built, combined_built, converted_built}
use Rattle.build_law.proofs.Ups.{code_up, in_up, stmt_up, inner_up, else_up, begin_with_up, test_up, args_up}
use Rattle.build_law.proofs.Nodes.{IsPlaced, Builds, read_built, cell_built, behind_built, index_built, assign_built, compound_built, step_built, and_built, or_built, conditional_built}
use Rattle.build_law.proofs.Scopes.{IsArgued, more_built, builtin_built, scope_built}
use Rattle.build_law.proofs.Flows.{Stands, IsLeft, stmt_turn, stays, both_built, dropped_built, if_built, loop_built, do_built, cleared_built, init_built, bare_return, return_built, kept_left, plain_broke, plain_again}

-- the type in a box, as both sides name it
same_type : {i : _} (e : Row_of-TExpr i) → type_in e ≡ code.type_in e
same_type end_of-TExpr = refl
same_type (more_of-TExpr at t e rest) = refl

module _ (g : Ground) (lay : Laid g) where
  at_least : (d k : ℕ) (r : Run Value) (c : Code) (n : Item) → IsBuilt g (suc d) r c k n → IsBuilt g d r c k n
  at_least d k r c n h = weaker g (suc d) d (λ _. Falls) r (run_all g.world c.stmts n) _ _ (omega arith) (λ x s o q. q) h

  place_at_least : (d k : ℕ) (r : Run Place) (c : PlaceCode) (n : Item) → IsPlaced g lay (suc d) r c k n → IsPlaced g lay d r c k n
  place_at_least d k r c n h = weaker g (suc d) d (λ _. Falls) r (run_all g.world c.stmts n) _ _ (omega arith) (λ x s o q. q) h

  left_less : (back : Back) (d k : ℕ) (r : Run Flow) (n : Item) (x : Ran) → IsLeft g lay back (suc d) r k n x → IsLeft g lay back d r k n x
  left_less back d k r n x h = weaker g (suc d) d same_flow r x _ _ (omega arith) (λ f s o q. q) h

  low : {back : Back} {k : ℕ} → Stands g back k → length g.vars ≤ k
  low b = let o = b.own in let t = b.there in omega (arith, o, t)

  cleared_rise : (dec : Rattle.clc_types.specs.declared.typed.Var.Var) (u k : ℕ) → k ≤ (cleared_code dec u k).next
  cleared_rise (Rattle.clc_types.specs.declared.typed.Var.TheVariants.Value s) u k = omega arith
  cleared_rise (Rattle.clc_types.specs.declared.typed.Var.TheVariants.Pointer e c) u k = omega arith
  cleared_rise (Rattle.clc_types.specs.declared.typed.Var.TheVariants.Array e c) u k = omega arith

  dropped_falls : (d k : ℕ) (r : Run Value) (c : Code) (n : Item) → IsBuilt g d r c k n → Follows g d (λ _. Falls) (then_do r (λ x t. Goes Next t)) (λ f t q. Kept g k n q) (run_all g.world c.stmts n)
  dropped_falls d k (Goes x t) c n f = (f.0, f.1, f.2, f.3.kept)
  dropped_falls d k (Bounds at) c n f = tt
  dropped_falls d k Spent c n f = tt

  plain_built : (d : ℕ) (a : Ty) (o : Mark) (c : Ty) (i k : ℕ) (x : Value) (operand : Part Value) (f : ℕ → Code) (s : State) (n : Item) → length g.vars ≤ k → Related g d s n → Same g.base x (n.vals i) → i < k → Builds g lay d operand f
      → IsBuilt g d (then_do (operand s) (λ y t. Goes (combined a o c x y) t)) (with_code (f k) (λ y l. combined_code a o c i y l)) k n
  plain_built d a o c i k x operand f s n lo h p lt b =
      let e = f k in
      join_built g d d (operand s) (λ y t. Goes (combined a o c x y) t) e (combined_code a o c i e.val e.next) k n (b k lo s n h)
      (λ y t q ht w. combined_built g d a o c i e.val e.next x y t q ht (still g k i x n q w.kept lt p) w.same (let j = w.up in omega (arith, lt, j)) w.own)

  operator_built : (d : ℕ) (a : Ty) (o : Mark) (c : Ty) (i k : ℕ) (x : Value) (operand : Part Value) (f : ℕ → Code) (s : State) (n : Item) → length g.vars ≤ k → ((l : ℕ) → l ≤ (f l).next) → Related g d s n → Same g.base x (n.vals i) → i < k → Builds g lay d operand f
      → IsBuilt g d (operator_value a o c x operand s) (operator_code a o c i k f) k n
  operator_built d a m.ShiftLeftAssign c i k x operand f s n lo up h p lt b = plain_built d a m.ShiftLeftAssign c i k x operand f s n lo h p lt b
  operator_built d a m.ShiftRightAssign c i k x operand f s n lo up h p lt b = plain_built d a m.ShiftRightAssign c i k x operand f s n lo h p lt b
  operator_built d a m.PlusPlus c i k x operand f s n lo up h p lt b = plain_built d a m.PlusPlus c i k x operand f s n lo h p lt b
  operator_built d a m.MinusMinus c i k x operand f s n lo up h p lt b = plain_built d a m.MinusMinus c i k x operand f s n lo h p lt b
  operator_built d a m.ShiftLeft c i k x operand f s n lo up h p lt b = plain_built d a m.ShiftLeft c i k x operand f s n lo h p lt b
  operator_built d a m.ShiftRight c i k x operand f s n lo up h p lt b = plain_built d a m.ShiftRight c i k x operand f s n lo h p lt b
  operator_built d a m.LessEqual c i k x operand f s n lo up h p lt b = plain_built d a m.LessEqual c i k x operand f s n lo h p lt b
  operator_built d a m.GreaterEqual c i k x operand f s n lo up h p lt b = plain_built d a m.GreaterEqual c i k x operand f s n lo h p lt b
  operator_built d a m.EqualEqual c i k x operand f s n lo up h p lt b = plain_built d a m.EqualEqual c i k x operand f s n lo h p lt b
  operator_built d a m.BangEqual c i k x operand f s n lo up h p lt b = plain_built d a m.BangEqual c i k x operand f s n lo h p lt b
  operator_built d a m.AndAnd c i k x operand f s n lo up h p lt b = and_built g lay d i k x operand f s n lo up h p lt b
  operator_built d a m.OrOr c i k x operand f s n lo up h p lt b = or_built g lay d i k x operand f s n lo up h p lt b
  operator_built d a m.PlusAssign c i k x operand f s n lo up h p lt b = plain_built d a m.PlusAssign c i k x operand f s n lo h p lt b
  operator_built d a m.MinusAssign c i k x operand f s n lo up h p lt b = plain_built d a m.MinusAssign c i k x operand f s n lo h p lt b
  operator_built d a m.StarAssign c i k x operand f s n lo up h p lt b = plain_built d a m.StarAssign c i k x operand f s n lo h p lt b
  operator_built d a m.SlashAssign c i k x operand f s n lo up h p lt b = plain_built d a m.SlashAssign c i k x operand f s n lo h p lt b
  operator_built d a m.PercentAssign c i k x operand f s n lo up h p lt b = plain_built d a m.PercentAssign c i k x operand f s n lo h p lt b
  operator_built d a m.AndAssign c i k x operand f s n lo up h p lt b = plain_built d a m.AndAssign c i k x operand f s n lo h p lt b
  operator_built d a m.OrAssign c i k x operand f s n lo up h p lt b = plain_built d a m.OrAssign c i k x operand f s n lo h p lt b
  operator_built d a m.XorAssign c i k x operand f s n lo up h p lt b = plain_built d a m.XorAssign c i k x operand f s n lo h p lt b
  operator_built d a m.LeftParen c i k x operand f s n lo up h p lt b = plain_built d a m.LeftParen c i k x operand f s n lo h p lt b
  operator_built d a m.RightParen c i k x operand f s n lo up h p lt b = plain_built d a m.RightParen c i k x operand f s n lo h p lt b
  operator_built d a m.LeftBrace c i k x operand f s n lo up h p lt b = plain_built d a m.LeftBrace c i k x operand f s n lo h p lt b
  operator_built d a m.RightBrace c i k x operand f s n lo up h p lt b = plain_built d a m.RightBrace c i k x operand f s n lo h p lt b
  operator_built d a m.LeftBracket c i k x operand f s n lo up h p lt b = plain_built d a m.LeftBracket c i k x operand f s n lo h p lt b
  operator_built d a m.RightBracket c i k x operand f s n lo up h p lt b = plain_built d a m.RightBracket c i k x operand f s n lo h p lt b
  operator_built d a m.Semicolon c i k x operand f s n lo up h p lt b = plain_built d a m.Semicolon c i k x operand f s n lo h p lt b
  operator_built d a m.Comma c i k x operand f s n lo up h p lt b = b k lo s n h
  operator_built d a m.Question c i k x operand f s n lo up h p lt b = plain_built d a m.Question c i k x operand f s n lo h p lt b
  operator_built d a m.Colon c i k x operand f s n lo up h p lt b = plain_built d a m.Colon c i k x operand f s n lo h p lt b
  operator_built d a m.Plus c i k x operand f s n lo up h p lt b = plain_built d a m.Plus c i k x operand f s n lo h p lt b
  operator_built d a m.Minus c i k x operand f s n lo up h p lt b = plain_built d a m.Minus c i k x operand f s n lo h p lt b
  operator_built d a m.Star c i k x operand f s n lo up h p lt b = plain_built d a m.Star c i k x operand f s n lo h p lt b
  operator_built d a m.Slash c i k x operand f s n lo up h p lt b = plain_built d a m.Slash c i k x operand f s n lo h p lt b
  operator_built d a m.Percent c i k x operand f s n lo up h p lt b = plain_built d a m.Percent c i k x operand f s n lo h p lt b
  operator_built d a m.Ampersand c i k x operand f s n lo up h p lt b = plain_built d a m.Ampersand c i k x operand f s n lo h p lt b
  operator_built d a m.Bar c i k x operand f s n lo up h p lt b = plain_built d a m.Bar c i k x operand f s n lo h p lt b
  operator_built d a m.Caret c i k x operand f s n lo up h p lt b = plain_built d a m.Caret c i k x operand f s n lo h p lt b
  operator_built d a m.Tilde c i k x operand f s n lo up h p lt b = plain_built d a m.Tilde c i k x operand f s n lo h p lt b
  operator_built d a m.Bang c i k x operand f s n lo up h p lt b = plain_built d a m.Bang c i k x operand f s n lo h p lt b
  operator_built d a m.Less c i k x operand f s n lo up h p lt b = plain_built d a m.Less c i k x operand f s n lo h p lt b
  operator_built d a m.Greater c i k x operand f s n lo up h p lt b = plain_built d a m.Greater c i k x operand f s n lo h p lt b
  operator_built d a m.Assign c i k x operand f s n lo up h p lt b = plain_built d a m.Assign c i k x operand f s n lo h p lt b

  assigned_built : (d : ℕ) (t : Ty) (o : Mark) (from : Ty) (place : Part Place) (value : Part Value) (p : PlaceCode) (f : ℕ → Code) (k : ℕ) (s : State) (n : Item) → length g.vars ≤ k → ((u : State) → Related g (suc d) u n → IsPlaced g lay (suc d) (place u) p k n) → Builds g lay (suc d) value f → Related g d s n
      → IsBuilt g (suc d) (assigned_value t o from place value s) (after_place p (assigned_code t o from f)) k n
  assigned_built d t m.ShiftLeftAssign from place value p f k s n lo e b h = turn g d (suc d) (λ _. Falls) s _ n _ _ h (λ u hu. compound_built g lay (suc d) t m.ShiftLeftAssign from (place u) value p f k n lo (e u hu) b)
  assigned_built d t m.ShiftRightAssign from place value p f k s n lo e b h = turn g d (suc d) (λ _. Falls) s _ n _ _ h (λ u hu. compound_built g lay (suc d) t m.ShiftRightAssign from (place u) value p f k n lo (e u hu) b)
  assigned_built d t m.PlusPlus from place value p f k s n lo e b h = turn g d (suc d) (λ _. Falls) s _ n _ _ h (λ u hu. compound_built g lay (suc d) t m.PlusPlus from (place u) value p f k n lo (e u hu) b)
  assigned_built d t m.MinusMinus from place value p f k s n lo e b h = turn g d (suc d) (λ _. Falls) s _ n _ _ h (λ u hu. compound_built g lay (suc d) t m.MinusMinus from (place u) value p f k n lo (e u hu) b)
  assigned_built d t m.ShiftLeft from place value p f k s n lo e b h = turn g d (suc d) (λ _. Falls) s _ n _ _ h (λ u hu. compound_built g lay (suc d) t m.ShiftLeft from (place u) value p f k n lo (e u hu) b)
  assigned_built d t m.ShiftRight from place value p f k s n lo e b h = turn g d (suc d) (λ _. Falls) s _ n _ _ h (λ u hu. compound_built g lay (suc d) t m.ShiftRight from (place u) value p f k n lo (e u hu) b)
  assigned_built d t m.LessEqual from place value p f k s n lo e b h = turn g d (suc d) (λ _. Falls) s _ n _ _ h (λ u hu. compound_built g lay (suc d) t m.LessEqual from (place u) value p f k n lo (e u hu) b)
  assigned_built d t m.GreaterEqual from place value p f k s n lo e b h = turn g d (suc d) (λ _. Falls) s _ n _ _ h (λ u hu. compound_built g lay (suc d) t m.GreaterEqual from (place u) value p f k n lo (e u hu) b)
  assigned_built d t m.EqualEqual from place value p f k s n lo e b h = turn g d (suc d) (λ _. Falls) s _ n _ _ h (λ u hu. compound_built g lay (suc d) t m.EqualEqual from (place u) value p f k n lo (e u hu) b)
  assigned_built d t m.BangEqual from place value p f k s n lo e b h = turn g d (suc d) (λ _. Falls) s _ n _ _ h (λ u hu. compound_built g lay (suc d) t m.BangEqual from (place u) value p f k n lo (e u hu) b)
  assigned_built d t m.AndAnd from place value p f k s n lo e b h = turn g d (suc d) (λ _. Falls) s _ n _ _ h (λ u hu. compound_built g lay (suc d) t m.AndAnd from (place u) value p f k n lo (e u hu) b)
  assigned_built d t m.OrOr from place value p f k s n lo e b h = turn g d (suc d) (λ _. Falls) s _ n _ _ h (λ u hu. compound_built g lay (suc d) t m.OrOr from (place u) value p f k n lo (e u hu) b)
  assigned_built d t m.PlusAssign from place value p f k s n lo e b h = turn g d (suc d) (λ _. Falls) s _ n _ _ h (λ u hu. compound_built g lay (suc d) t m.PlusAssign from (place u) value p f k n lo (e u hu) b)
  assigned_built d t m.MinusAssign from place value p f k s n lo e b h = turn g d (suc d) (λ _. Falls) s _ n _ _ h (λ u hu. compound_built g lay (suc d) t m.MinusAssign from (place u) value p f k n lo (e u hu) b)
  assigned_built d t m.StarAssign from place value p f k s n lo e b h = turn g d (suc d) (λ _. Falls) s _ n _ _ h (λ u hu. compound_built g lay (suc d) t m.StarAssign from (place u) value p f k n lo (e u hu) b)
  assigned_built d t m.SlashAssign from place value p f k s n lo e b h = turn g d (suc d) (λ _. Falls) s _ n _ _ h (λ u hu. compound_built g lay (suc d) t m.SlashAssign from (place u) value p f k n lo (e u hu) b)
  assigned_built d t m.PercentAssign from place value p f k s n lo e b h = turn g d (suc d) (λ _. Falls) s _ n _ _ h (λ u hu. compound_built g lay (suc d) t m.PercentAssign from (place u) value p f k n lo (e u hu) b)
  assigned_built d t m.AndAssign from place value p f k s n lo e b h = turn g d (suc d) (λ _. Falls) s _ n _ _ h (λ u hu. compound_built g lay (suc d) t m.AndAssign from (place u) value p f k n lo (e u hu) b)
  assigned_built d t m.OrAssign from place value p f k s n lo e b h = turn g d (suc d) (λ _. Falls) s _ n _ _ h (λ u hu. compound_built g lay (suc d) t m.OrAssign from (place u) value p f k n lo (e u hu) b)
  assigned_built d t m.XorAssign from place value p f k s n lo e b h = turn g d (suc d) (λ _. Falls) s _ n _ _ h (λ u hu. compound_built g lay (suc d) t m.XorAssign from (place u) value p f k n lo (e u hu) b)
  assigned_built d t m.LeftParen from place value p f k s n lo e b h = turn g d (suc d) (λ _. Falls) s _ n _ _ h (λ u hu. compound_built g lay (suc d) t m.LeftParen from (place u) value p f k n lo (e u hu) b)
  assigned_built d t m.RightParen from place value p f k s n lo e b h = turn g d (suc d) (λ _. Falls) s _ n _ _ h (λ u hu. compound_built g lay (suc d) t m.RightParen from (place u) value p f k n lo (e u hu) b)
  assigned_built d t m.LeftBrace from place value p f k s n lo e b h = turn g d (suc d) (λ _. Falls) s _ n _ _ h (λ u hu. compound_built g lay (suc d) t m.LeftBrace from (place u) value p f k n lo (e u hu) b)
  assigned_built d t m.RightBrace from place value p f k s n lo e b h = turn g d (suc d) (λ _. Falls) s _ n _ _ h (λ u hu. compound_built g lay (suc d) t m.RightBrace from (place u) value p f k n lo (e u hu) b)
  assigned_built d t m.LeftBracket from place value p f k s n lo e b h = turn g d (suc d) (λ _. Falls) s _ n _ _ h (λ u hu. compound_built g lay (suc d) t m.LeftBracket from (place u) value p f k n lo (e u hu) b)
  assigned_built d t m.RightBracket from place value p f k s n lo e b h = turn g d (suc d) (λ _. Falls) s _ n _ _ h (λ u hu. compound_built g lay (suc d) t m.RightBracket from (place u) value p f k n lo (e u hu) b)
  assigned_built d t m.Semicolon from place value p f k s n lo e b h = turn g d (suc d) (λ _. Falls) s _ n _ _ h (λ u hu. compound_built g lay (suc d) t m.Semicolon from (place u) value p f k n lo (e u hu) b)
  assigned_built d t m.Comma from place value p f k s n lo e b h = turn g d (suc d) (λ _. Falls) s _ n _ _ h (λ u hu. compound_built g lay (suc d) t m.Comma from (place u) value p f k n lo (e u hu) b)
  assigned_built d t m.Question from place value p f k s n lo e b h = turn g d (suc d) (λ _. Falls) s _ n _ _ h (λ u hu. compound_built g lay (suc d) t m.Question from (place u) value p f k n lo (e u hu) b)
  assigned_built d t m.Colon from place value p f k s n lo e b h = turn g d (suc d) (λ _. Falls) s _ n _ _ h (λ u hu. compound_built g lay (suc d) t m.Colon from (place u) value p f k n lo (e u hu) b)
  assigned_built d t m.Plus from place value p f k s n lo e b h = turn g d (suc d) (λ _. Falls) s _ n _ _ h (λ u hu. compound_built g lay (suc d) t m.Plus from (place u) value p f k n lo (e u hu) b)
  assigned_built d t m.Minus from place value p f k s n lo e b h = turn g d (suc d) (λ _. Falls) s _ n _ _ h (λ u hu. compound_built g lay (suc d) t m.Minus from (place u) value p f k n lo (e u hu) b)
  assigned_built d t m.Star from place value p f k s n lo e b h = turn g d (suc d) (λ _. Falls) s _ n _ _ h (λ u hu. compound_built g lay (suc d) t m.Star from (place u) value p f k n lo (e u hu) b)
  assigned_built d t m.Slash from place value p f k s n lo e b h = turn g d (suc d) (λ _. Falls) s _ n _ _ h (λ u hu. compound_built g lay (suc d) t m.Slash from (place u) value p f k n lo (e u hu) b)
  assigned_built d t m.Percent from place value p f k s n lo e b h = turn g d (suc d) (λ _. Falls) s _ n _ _ h (λ u hu. compound_built g lay (suc d) t m.Percent from (place u) value p f k n lo (e u hu) b)
  assigned_built d t m.Ampersand from place value p f k s n lo e b h = turn g d (suc d) (λ _. Falls) s _ n _ _ h (λ u hu. compound_built g lay (suc d) t m.Ampersand from (place u) value p f k n lo (e u hu) b)
  assigned_built d t m.Bar from place value p f k s n lo e b h = turn g d (suc d) (λ _. Falls) s _ n _ _ h (λ u hu. compound_built g lay (suc d) t m.Bar from (place u) value p f k n lo (e u hu) b)
  assigned_built d t m.Caret from place value p f k s n lo e b h = turn g d (suc d) (λ _. Falls) s _ n _ _ h (λ u hu. compound_built g lay (suc d) t m.Caret from (place u) value p f k n lo (e u hu) b)
  assigned_built d t m.Tilde from place value p f k s n lo e b h = turn g d (suc d) (λ _. Falls) s _ n _ _ h (λ u hu. compound_built g lay (suc d) t m.Tilde from (place u) value p f k n lo (e u hu) b)
  assigned_built d t m.Bang from place value p f k s n lo e b h = turn g d (suc d) (λ _. Falls) s _ n _ _ h (λ u hu. compound_built g lay (suc d) t m.Bang from (place u) value p f k n lo (e u hu) b)
  assigned_built d t m.Less from place value p f k s n lo e b h = turn g d (suc d) (λ _. Falls) s _ n _ _ h (λ u hu. compound_built g lay (suc d) t m.Less from (place u) value p f k n lo (e u hu) b)
  assigned_built d t m.Greater from place value p f k s n lo e b h = turn g d (suc d) (λ _. Falls) s _ n _ _ h (λ u hu. compound_built g lay (suc d) t m.Greater from (place u) value p f k n lo (e u hu) b)
  assigned_built d t m.Assign from place value p f k s n lo e b h = turn g d (suc d) (λ _. Falls) s _ n _ _ h (λ u hu. assign_built g lay (suc d) t (place u) value p f k n lo (e u hu) b)

  mutual
    pub value_built : (t : Ty) (e : Node) (d at k : ℕ) (s : State) (n : Item) → Fits (length g.vars) e → length g.vars ≤ k → Related g d s n → IsBuilt g (suc d) (body.value_of g.world.work g.vars at t e s) (code_of g.vars t e k) k n
    value_built t (Number x) d at k s n fit lo h = turn g d (suc d) (λ _. Falls) s (λ u. Goes (Num x) u) n _ _ h (λ u hu. const_built g (suc d) k x u n hu)
    value_built t (Name u) d at k s n fit lo h =
        read_built g lay (suc d) t (body.place_of g.world.work g.vars at t (Name u) s) (into u k) k n
        (turn g d (suc d) (λ _. Falls) s (λ w. Goes (Variable u) w) n _ _ h (λ w hw. (n, refl, hw, record { same = (refl, fit); kept = Kept-refl g k n; up = omega arith })))
    value_built t (Index' i base j index) d at k s n fit lo h =
        read_built g lay (suc d) t (body.place_of g.world.work g.vars at t (Index' i base j index) s) (place_of g.vars t (Index' i base j index) k) k n
        (turn g d (suc d) (λ _. Falls) s _ n _ _ h
        (λ u hu. index_built g lay (suc d) at (bytes_of (scalar_of t)) (body.value_in g.world.work g.vars base) (body.value_in g.world.work g.vars index) (code_in g.vars base k) (code_in g.vars index) k u n lo
        (in_built base (suc d) k u n fit.0 lo hu) (λ l ll w q hq. in_built index (suc d) l w q fit.1 ll hq)))
    value_built t (Element' u i index) d at k s n fit lo h =
        read_built g lay (suc d) t (body.place_of g.world.work g.vars at t (Element' u i index) s) (place_of g.vars t (Element' u i index) k) k n
        (turn g d (suc d) (λ _. Falls) s _ n _ _ h
        (λ w hw. turn g (suc d) (suc d) (λ _. Falls) w _ n _ _ hw
        (λ x hx. cell_built g lay (suc d) at u (body.value_in g.world.work g.vars index x) (code_in g.vars index k) k n (in_built index (suc d) k x n fit lo (Related-less g (suc (suc d)) (suc d) x n (omega arith) hx)))))
    value_built t (Deref' i pointer) d at k s n fit lo h =
        read_built g lay (suc d) t (body.place_of g.world.work g.vars at t (Deref' i pointer) s) (place_of g.vars t (Deref' i pointer) k) k n
        (turn g d (suc d) (λ _. Falls) s _ n _ _ h
        (λ w hw. behind_built g lay (suc d) at (body.value_in g.world.work g.vars pointer w) (code_in g.vars pointer k) k n (in_built pointer (suc d) k w n fit lo hw)))
    value_built t (Prefix' o i arg) d at k s n fit lo h =
        turn g d (suc d) (λ _. Falls) s (λ u. then_do (body.value_in g.world.work g.vars arg u) (λ x w. Goes (on_word (prefixed o) x) w)) n _ _ h
        (λ u hu. let c = code_in g.vars arg k in
        join_built g (suc d) (suc d) (body.value_in g.world.work g.vars arg u) (λ x w. Goes (on_word (prefixed o) x) w) c (prefix_code o c.val c.next) k n (in_built arg (suc d) k u n fit lo hu)
        (λ x w q hq z. prefix_built g (suc d) o c.val c.next x w q hq z.same z.own))
    value_built t (Step' i place up post) d at k s n fit lo h =
        let p = place_in g.vars place k in
        subst (λ y. IsBuilt g (suc d) (step_value (type_in place) up post (body.place_in g.world.work g.vars place) s) (after_place p (step_code y up post)) k n) (same_type place)
        (turn g d (suc d) (λ _. Falls) s _ n _ _ h
        (λ u hu. step_built g lay (suc d) (type_in place) up post (body.place_in g.world.work g.vars place u) p k n (place_in_built place (suc d) k u n fit lo hu)))
    value_built t (Cast' i arg) d at k s n fit lo h =
        turn g d (suc d) (λ _. Falls) s (λ u. then_do (body.value_in g.world.work g.vars arg u) (λ x w. Goes (converted t x) w)) n _ _ h
        (λ u hu. let c = code_in g.vars arg k in
        join_built g (suc d) (suc d) (body.value_in g.world.work g.vars arg u) (λ x w. Goes (converted t x) w) c (converted_code t c.val c.next) k n (in_built arg (suc d) k u n fit lo hu)
        (λ x w q hq z. converted_built g (suc d) t c.val c.next x w q hq z.same z.own))
    value_built t (Paren' i arg) d at k s n fit lo h = in_strong arg d k s n fit lo h
    value_built t (Chain' i first j rest) d at k s n fit lo h =
        let c = code_in g.vars first k in
        subst (λ y. IsBuilt g (suc d) (body.value_of g.world.work g.vars at t (Chain' i first j rest) s) (joined c (chain_code g.vars y c.val rest c.next)) k n) (same_type first)
        (turns g d (suc d) (λ _. Falls) (operators rest) s (λ u. then_do (body.value_in g.world.work g.vars first u) (body.chained g.world.work g.vars (type_in first) rest)) n _ _ h
        (λ u hu.
        join_built g (suc d) (suc d) (body.value_in g.world.work g.vars first u) (body.chained g.world.work g.vars (type_in first) rest) c (chain_code g.vars (type_in first) c.val rest c.next) k n (in_strong first d k u n fit.0 lo hu)
        (λ x w q hq z. chain_built rest (suc d) (type_in first) c.val c.next x w q fit.1 (let y = z.up in omega (arith, lo, y)) hq z.same z.own)))
    value_built t (Cond' i cond j one' l other) d at k s n fit lo h =
        turn g d (suc d) (λ _. Falls) s _ n _ _ h
        (λ u hu. conditional_built g lay (suc d) k (body.value_in g.world.work g.vars cond u) (body.value_in g.world.work g.vars one') (body.value_in g.world.work g.vars other) (code_in g.vars cond k) (code_in g.vars one') (code_in g.vars other) n lo
        (λ x. in_up g.vars one' x) (λ x. in_up g.vars other x) (in_built cond (suc d) k u n fit.0 lo hu)
        (λ x lx w q hq. in_built one' (suc d) x w q fit.1 lx hq) (λ x lx w q hq. in_built other (suc d) x w q fit.2 lx hq))
    value_built t (Assign' i place o j value) d at k s n fit lo h =
        let p = place_in g.vars place k in
        let f = code_in g.vars value in
        let r = assigned_value (type_in place) o (type_in value) (body.place_in g.world.work g.vars place) (body.value_in g.world.work g.vars value) s in
        subst (λ y. IsBuilt g (suc d) r (after_place p (assigned_code y o (code.type_in value) f)) k n) (same_type place)
        (subst (λ y. IsBuilt g (suc d) r (after_place p (assigned_code (type_in place) o y f)) k n) (same_type value)
        (assigned_built d (type_in place) o (type_in value) (body.place_in g.world.work g.vars place) (body.value_in g.world.work g.vars value) p f k s n lo
        (λ u hu. place_in_built place (suc d) k u n fit.0 lo hu) (λ x lx w q hq. in_built value (suc d) x w q fit.1 lx hq) h))
    value_built t (Scope' params i args result j stmt) d at k s n fit lo h =
        turn g d (suc d) (λ _. Falls) s _ n _ _ h
        (λ u hu. scope_built g lay (suc d) params result (declared_all stmt) (body.values_of g.world.work g.vars args u) (body.does_in g.world.work g.vars stmt) (args_code g.vars args k) (λ back l. in_code g.vars back stmt l) k n lo fit.0
        (λ back l. inner_up g.vars stmt back l)
        (λ back l own there w q hq. inner_weak stmt back (suc d) l w q fit.2 (record { own = own; there = there }) hq)
        (args_built args (suc d) k u n fit.1 lo hu))
    value_built t (Builtin' which work i args) d at k s n fit lo h =
        turn g d (suc d) (λ _. Falls) s _ n _ _ h
        (λ u hu. builtin_built g lay (suc d) (function_of which) work (body.values_of g.world.work g.vars args u) (args_code g.vars args k) k n (args_built args (suc d) k u n fit lo hu))

    in_strong : {i : _} (e : Row_of-TExpr i) (d k : ℕ) (s : State) (n : Item) → FitsBox (length g.vars) e → length g.vars ≤ k → Related g d s n → IsBuilt g (suc d) (body.value_in g.world.work g.vars e s) (code_in g.vars e k) k n
    in_strong end_of-TExpr d k s n fit lo h = tt
    in_strong (more_of-TExpr at t e rest) d k s n fit lo h = value_built t e d at k s n fit lo h

    in_built : {i : _} (e : Row_of-TExpr i) (d k : ℕ) (s : State) (n : Item) → FitsBox (length g.vars) e → length g.vars ≤ k → Related g d s n → IsBuilt g d (body.value_in g.world.work g.vars e s) (code_in g.vars e k) k n
    in_built end_of-TExpr d k s n fit lo h = tt
    in_built (more_of-TExpr at t e rest) d k s n fit lo h = at_least d k (body.value_of g.world.work g.vars at t e s) (code_of g.vars t e k) n (value_built t e d at k s n fit lo h)

    chain_built : {i : _} (rest : Row_of-Node-Chain-1-2 i) (d : ℕ) (a : Ty) (x k : ℕ) (y : Value) (s : State) (n : Item) → FitChain (length g.vars) rest → length g.vars ≤ k → Related g d s n → Same g.base y (n.vals x) → x < k
        → IsBuilt g d (body.chained g.world.work g.vars a rest y s) (chain_code g.vars a x rest k) k n
    chain_built end_of-Node-Chain-1-2 d a x k y s n fit lo h p lt = none_built g d k x y s n h p lt
    chain_built (more_of-Node-Chain-1-2 o at t e rest) d a x k y s n fit lo h p lt =
        let operand = λ (w : State). body.value_of g.world.work g.vars at t e w in
        let c = operator_code a o t x k (code_of g.vars t e) in
        join_built g d d (operator_value a o t y operand s) (body.chained g.world.work g.vars (type_after o a t) rest) c (chain_code g.vars (type_after o a t) c.val rest c.next) k n
        (operator_built d a o t x k y operand (code_of g.vars t e) s n lo (λ l. code_up g.vars t e l) h p lt
        (λ l ll w q hq. at_least d l (body.value_of g.world.work g.vars at t e w) (code_of g.vars t e l) q (value_built t e d at l w q fit.0 ll hq)))
        (λ z w q hq r. chain_built rest d (type_after o a t) c.val c.next z w q fit.1 (let j = r.up in omega (arith, lo, j)) hq r.same r.own)

    place_built : (t : Ty) (e : Node) (d at k : ℕ) (s : State) (n : Item) → Fits (length g.vars) e → length g.vars ≤ k → Related g d s n → IsPlaced g lay (suc d) (body.place_of g.world.work g.vars at t e s) (place_of g.vars t e k) k n
    place_built t (Name u) d at k s n fit lo h =
        turn g d (suc d) (λ _. Falls) s (λ w. Goes (Variable u) w) n _ _ h (λ w hw. (n, refl, hw, record { same = (refl, fit); kept = Kept-refl g k n; up = omega arith }))
    place_built t (Index' i base j index) d at k s n fit lo h =
        turn g d (suc d) (λ _. Falls) s _ n _ _ h
        (λ u hu. index_built g lay (suc d) at (bytes_of (scalar_of t)) (body.value_in g.world.work g.vars base) (body.value_in g.world.work g.vars index) (code_in g.vars base k) (code_in g.vars index) k u n lo
        (in_built base (suc d) k u n fit.0 lo hu) (λ l ll w q hq. in_built index (suc d) l w q fit.1 ll hq))
    place_built t (Element' u i index) d at k s n fit lo h =
        turn g d (suc d) (λ _. Falls) s _ n _ _ h
        (λ w hw. turn g (suc d) (suc d) (λ _. Falls) w _ n _ _ hw
        (λ x hx. cell_built g lay (suc d) at u (body.value_in g.world.work g.vars index x) (code_in g.vars index k) k n (in_built index (suc d) k x n fit lo (Related-less g (suc (suc d)) (suc d) x n (omega arith) hx))))
    place_built t (Deref' i pointer) d at k s n fit lo h =
        turn g d (suc d) (λ _. Falls) s _ n _ _ h
        (λ w hw. behind_built g lay (suc d) at (body.value_in g.world.work g.vars pointer w) (code_in g.vars pointer k) k n (in_built pointer (suc d) k w n fit lo hw))
    place_built t (Paren' i arg) d at k s n fit lo h = place_in_strong arg d k s n fit lo h
    place_built t (Number x) d at k s n fit lo h = tt
    place_built t (Prefix' o i arg) d at k s n fit lo h = tt
    place_built t (Step' i place up post) d at k s n fit lo h = tt
    place_built t (Cast' i arg) d at k s n fit lo h = tt
    place_built t (Chain' i first j rest) d at k s n fit lo h = tt
    place_built t (Cond' i cond j one' l other) d at k s n fit lo h = tt
    place_built t (Assign' i place o j value) d at k s n fit lo h = tt
    place_built t (Scope' params i args result j stmt) d at k s n fit lo h = tt
    place_built t (Builtin' which work i args) d at k s n fit lo h = tt

    place_in_strong : {i : _} (e : Row_of-TExpr i) (d k : ℕ) (s : State) (n : Item) → FitsBox (length g.vars) e → length g.vars ≤ k → Related g d s n → IsPlaced g lay (suc d) (body.place_in g.world.work g.vars e s) (place_in g.vars e k) k n
    place_in_strong end_of-TExpr d k s n fit lo h = tt
    place_in_strong (more_of-TExpr at t e rest) d k s n fit lo h = place_built t e d at k s n fit lo h

    place_in_built : {i : _} (e : Row_of-TExpr i) (d k : ℕ) (s : State) (n : Item) → FitsBox (length g.vars) e → length g.vars ≤ k → Related g d s n → IsPlaced g lay d (body.place_in g.world.work g.vars e s) (place_in g.vars e k) k n
    place_in_built end_of-TExpr d k s n fit lo h = tt
    place_in_built (more_of-TExpr at t e rest) d k s n fit lo h = place_at_least d k (body.place_of g.world.work g.vars at t e s) (place_of g.vars t e k) n (place_built t e d at k s n fit lo h)

    args_built : {i : _} (e : Row_of-TExpr i) (d k : ℕ) (s : State) (n : Item) → FitArgs (length g.vars) e → length g.vars ≤ k → Related g d s n → IsArgued g lay d (body.values_of g.world.work g.vars e s) (args_code g.vars e k) k n
    args_built end_of-TExpr d k s n fit lo h = (n, refl, h, record { same = tt; kept = Kept-refl g k n; up = omega arith })
    args_built (more_of-TExpr at t e rest) d k s n fit lo h =
        more_built g lay d (body.value_of g.world.work g.vars at t e) (body.values_of g.world.work g.vars rest) (code_of g.vars t e k) (args_code g.vars rest) k s n
        (at_least d k (body.value_of g.world.work g.vars at t e s) (code_of g.vars t e k) n (value_built t e d at k s n fit.0 lo h))
        (λ u q hq le. args_built rest d (code_of g.vars t e k).next u q fit.1 (omega (arith, lo, le)) hq)

    pub stmt_built : (a : TStmt) (back : Back) (d k : ℕ) (s : State) (n : Item) → Fit (length g.vars) a → Stands g back k → Related g d s n → IsLeft g lay back (suc d) (body.does g.world.work g.vars a s) k n (run_all g.world (stmt_code g.vars back a k).stmts n)
    stmt_built (Block' i stmts) back d k s n fit b h = stmt_turn g lay back d k s (body.does_all g.world.work g.vars stmts) n _ h (λ u hu. all_built stmts back (suc d) k u n fit b hu)
    stmt_built (Declare' u init) back d k s n fit b h = declare_built u init back d k s n fit.0 fit.1 b h
    stmt_built (Eval' at t e) back d k s n fit b h =
        stmt_turn g lay back d k s (dropped (body.value_of g.world.work g.vars at t e)) n _ h
        (λ u hu. dropped_built g lay back (suc d) k (body.value_of g.world.work g.vars at t e u) (code_of g.vars t e k) n b (at_least (suc d) k (body.value_of g.world.work g.vars at t e u) (code_of g.vars t e k) n (value_built t e (suc d) at k u n fit (low b) hu)))
    stmt_built Empty back d k s n fit b h = stmt_turn g lay back d k s (λ u. Goes Next u) n _ h (λ u hu. stays g lay back (suc d) k u n b hu)
    stmt_built (If' at t e i one' other) back d k s n fit b h =
        stmt_turn g lay back d k s _ n _ h
        (λ u hu. if_built g lay back (suc d) k (body.value_of g.world.work g.vars at t e u) (body.does_in g.world.work g.vars one') (body.does_else g.world.work g.vars other) (code_of g.vars t e k) (in_code g.vars back one') (else_code g.vars back other) n b (λ l. inner_up g.vars one' back l)
        (at_least (suc d) k (body.value_of g.world.work g.vars at t e u) (code_of g.vars t e k) n (value_built t e (suc d) at k u n fit.0 (low b) hu))
        (λ l bl w q hq. inner_weak one' back (suc d) l w q fit.1 bl hq) (λ l bl w q hq. else_built other back (suc d) l w q fit.2 bl hq))
    stmt_built (While' at t e i stmt) back d k s n fit b h =
        stmt_turn g lay back d k s _ n _ h
        (λ u hu. loop_built g lay back d k (body.value_of g.world.work g.vars at t e) (body.does_in g.world.work g.vars stmt) no_flow (code_of g.vars t e k) (in_code g.vars back stmt) code.nothing u n b (code_up g.vars t e k) (λ l. inner_up g.vars stmt back l)
        (λ w q hq. at_least (suc d) k (body.value_of g.world.work g.vars at t e w) (code_of g.vars t e k) q (value_built t e (suc d) at k w q fit.0 (low b) hq)) (λ l bl w q hq. inner_built stmt back d l w q fit.1 bl hq)
        (λ w q hq. (q, refl, hq, Kept-refl g _ q)) hu)
    stmt_built (Do' i stmt at t e) back d k s n fit b h =
        stmt_turn g lay back d k s _ n _ h
        (λ u hu. do_built g lay back d k (body.does_in g.world.work g.vars stmt) (body.value_of g.world.work g.vars at t e) (in_code g.vars back stmt) (code_of g.vars t e) u n (low b) b (λ l. inner_up g.vars stmt back l) (λ l. code_up g.vars t e l)
        (λ l bl w q hq. inner_built stmt back d l w q fit.0 bl hq)
        (λ l ll w q hq. at_least (suc d) l (body.value_of g.world.work g.vars at t e w) (code_of g.vars t e l) q (value_built t e (suc d) at l w q fit.1 ll hq)) hu)
    stmt_built (For' i init cond step j stmt) back d k s n fit b h =
        stmt_turn g lay back d k s _ n _ h
        (λ u hu. both_built g lay back (suc d) (body.begins g.world.work g.vars init) (λ w. rounds w.left (body.test_of g.world.work g.vars cond) (body.does_in g.world.work g.vars stmt) (body.step_of g.world.work g.vars step) w)
        (begin_code g.vars init k) (λ l. code.loop_code (test_code g.vars cond l) (in_code g.vars back stmt) (step_stmts g.vars step)) k u n (Rattle.build_law.proofs.Ups.begin_up g.vars init k) b
        (begin_built init back (suc d) k u n fit.0 b hu)
        (λ l bl w q hq. loop_built g lay back d l (body.test_of g.world.work g.vars cond) (body.does_in g.world.work g.vars stmt) (body.step_of g.world.work g.vars step) (test_code g.vars cond l) (in_code g.vars back stmt) (step_stmts g.vars step) w q bl (test_up g.vars cond l) (λ x. inner_up g.vars stmt back x)
        (λ y p hp. test_built cond (suc d) l y p fit.1 (low bl) hp) (λ x bx y p hp. inner_built stmt back d x y p fit.3 bx hp)
        (λ y p hp. step_built' step (suc d) (in_code g.vars back stmt (test_code g.vars cond l).next).next y p fit.2 (let c = bl.own in let e = bl.there in let f = test_up g.vars cond l in let z = inner_up g.vars stmt back (test_code g.vars cond l).next in omega (arith, c, e, f, z)) hp) hq))
    stmt_built Break back d k s n fit b h = stmt_turn g lay back d k s (λ u. Goes Broke u) n _ h (λ u hu. (n, refl, hu, kept_left g back k n n Broke plain_broke b (Kept-refl g k n)))
    stmt_built Continue back d k s n fit b h = stmt_turn g lay back d k s (λ u. Goes Again u) n _ h (λ u hu. (n, refl, hu, kept_left g back k n n Again plain_again b (Kept-refl g k n)))
    stmt_built (Return' TStmt-Declare-1-None') back d k s n fit b h = stmt_turn g lay back d k s (λ u. Goes (Returned Null) u) n _ h (λ u hu. bare_return g lay back (suc d) k u n hu)
    stmt_built (Return' (TStmt-Declare-1-Some' at t e)) back d k s n fit b h =
        stmt_turn g lay back d k s _ n _ h
        (λ u hu. return_built g lay back (suc d) k (body.value_of g.world.work g.vars at t e u) (code_of g.vars t e k) n b
        (at_least (suc d) k (body.value_of g.world.work g.vars at t e u) (code_of g.vars t e k) n (value_built t e (suc d) at k u n fit (low b) hu)))

    declare_built : (u : ℕ) (init : Held-TStmt-Declare-1) (back : Back) (d k : ℕ) (s : State) (n : Item) → u < length g.vars → FitsIf (length g.vars) init → Stands g back k → Related g d s n
        → IsLeft g lay back (suc d) (declare_flow (var_at g.vars u) u (body.value_if g.world.work g.vars init) s) k n (run_all g.world (declare_code (var_at g.vars u) u (code_if g.vars init) k).stmts n)
    declare_built u TStmt-Declare-1-None' back d k s n lt fit b h =
        let dec = var_at g.vars u in
        stmt_turn g lay back d k s _ n _ h
        (λ w hw. both_built g lay back (suc d) (λ x. Goes Next (cleared dec u w)) (initialised (type_of dec) u None) (cleared_code dec u k) (init_code (type_of dec) u None) k w n (cleared_rise dec u k) b
        (cleared_built g lay back (suc d) k u dec w n b lt (lay.arrays u) hw) (λ l bl y q hq. stays g lay back (suc d) l y q bl hq))
    declare_built u (TStmt-Declare-1-Some' at t e) back d k s n lt fit b h =
        let dec = var_at g.vars u in
        stmt_turn g lay back d k s _ n _ h
        (λ w hw. both_built g lay back (suc d) (λ x. Goes Next (cleared dec u w)) (initialised (type_of dec) u (Some (body.value_of g.world.work g.vars at t e))) (cleared_code dec u k) (init_code (type_of dec) u (Some (code_of g.vars t e))) k w n (cleared_rise dec u k) b
        (cleared_built g lay back (suc d) k u dec w n b lt (lay.arrays u) hw)
        (λ l bl y q hq. init_built g lay back (suc d) l u (type_of dec) (body.value_of g.world.work g.vars at t e) (code_of g.vars t e) y q (low bl) bl lt
        (λ x lx z p hp. at_least (suc d) x (body.value_of g.world.work g.vars at t e z) (code_of g.vars t e x) p (value_built t e (suc d) at x z p fit lx hp)) hq))

    test_built : (e : Held-TStmt-Declare-1) (d k : ℕ) (s : State) (n : Item) → FitsIf (length g.vars) e → length g.vars ≤ k → Related g d s n → IsBuilt g d (body.test_of g.world.work g.vars e s) (test_code g.vars e k) k n
    test_built TStmt-Declare-1-None' d k s n fit lo h = const_built g d k 1 s n h
    test_built (TStmt-Declare-1-Some' at t e) d k s n fit lo h = at_least d k (body.value_of g.world.work g.vars at t e s) (code_of g.vars t e k) n (value_built t e d at k s n fit lo h)

    step_built' : (e : Held-TStmt-Declare-1) (d k : ℕ) (s : State) (n : Item) → FitsIf (length g.vars) e → length g.vars ≤ k → Related g d s n → Follows g d (λ _. Falls) (body.step_of g.world.work g.vars e s) (λ f t q. Kept g k n q) (run_all g.world (step_stmts g.vars e k).stmts n)
    step_built' TStmt-Declare-1-None' d k s n fit lo h = (n, refl, h, Kept-refl g k n)
    step_built' (TStmt-Declare-1-Some' at t e) d k s n fit lo h =
        dropped_falls d k (body.value_of g.world.work g.vars at t e s) (code_of g.vars t e k) n (at_least d k (body.value_of g.world.work g.vars at t e s) (code_of g.vars t e k) n (value_built t e d at k s n fit lo h))

    all_built : {i : _} (r : Row_of-TStmt i) (back : Back) (d k : ℕ) (s : State) (n : Item) → FitAll (length g.vars) r → Stands g back k → Related g d s n → IsLeft g lay back d (body.does_all g.world.work g.vars r s) k n (run_all g.world (all_code g.vars back r k).stmts n)
    all_built end_of-TStmt back d k s n fit b h = stays g lay back d k s n b h
    all_built (more_of-TStmt a rest) back d k s n fit b h =
        both_built g lay back d (body.does g.world.work g.vars a) (body.does_all g.world.work g.vars rest) (stmt_code g.vars back a k) (all_code g.vars back rest) k s n (stmt_up g.vars a back k) b
        (left_less back d k (body.does g.world.work g.vars a s) n _ (stmt_built a back d k s n fit.0 b h)) (λ l bl w q hq. all_built rest back d l w q fit.1 bl hq)

    inner_built : {i : _} (r : Row_of-TStmt i) (back : Back) (d k : ℕ) (s : State) (n : Item) → FitBody (length g.vars) r → Stands g back k → Related g d s n → IsLeft g lay back (suc d) (body.does_in g.world.work g.vars r s) k n (run_all g.world (in_code g.vars back r k).stmts n)
    inner_built end_of-TStmt back d k s n fit b h = tt
    inner_built (more_of-TStmt a rest) back d k s n fit b h = stmt_built a back d k s n fit b h

    inner_weak : {i : _} (r : Row_of-TStmt i) (back : Back) (d k : ℕ) (s : State) (n : Item) → FitBody (length g.vars) r → Stands g back k → Related g d s n → IsLeft g lay back d (body.does_in g.world.work g.vars r s) k n (run_all g.world (in_code g.vars back r k).stmts n)
    inner_weak end_of-TStmt back d k s n fit b h = tt
    inner_weak (more_of-TStmt a rest) back d k s n fit b h = left_less back d k (body.does g.world.work g.vars a s) n _ (stmt_built a back d k s n fit b h)

    else_built : (r : Held-TStmt-If-2) (back : Back) (d k : ℕ) (s : State) (n : Item) → FitElse (length g.vars) r → Stands g back k → Related g d s n → IsLeft g lay back d (body.does_else g.world.work g.vars r s) k n (run_all g.world (else_code g.vars back r k).stmts n)
    else_built TStmt-If-2-None' back d k s n fit b h = stays g lay back d k s n b h
    else_built (TStmt-If-2-Some' i stmt) back d k s n fit b h = inner_weak stmt back d k s n fit b h

    begin_built : {i : _} (r : Row_of-TStmt i) (back : Back) (d k : ℕ) (s : State) (n : Item) → FitBegins (length g.vars) r → Stands g back k → Related g d s n → IsLeft g lay back d (body.begins g.world.work g.vars r s) k n (run_all g.world (begin_code g.vars r k).stmts n)
    begin_built end_of-TStmt back d k s n fit b h = stays g lay back d k s n b h
    begin_built (more_of-TStmt a rest) back d k s n fit b h =
        both_built g lay back d (body.begin_with g.world.work g.vars a) (body.begins g.world.work g.vars rest) (begin_with_code g.vars a k) (begin_code g.vars rest) k s n (begin_with_up g.vars a k) b
        (begin_with_built a back d k s n fit.0 b h) (λ l bl w q hq. begin_built rest back d l w q fit.1 bl hq)

    begin_with_built : (a : TStmt) (back : Back) (d k : ℕ) (s : State) (n : Item) → FitBegin (length g.vars) a → Stands g back k → Related g d s n → IsLeft g lay back d (body.begin_with g.world.work g.vars a s) k n (run_all g.world (begin_with_code g.vars a k).stmts n)
    begin_with_built (Eval' at t e) back d k s n fit b h =
        dropped_built g lay back d k (body.value_of g.world.work g.vars at t e s) (code_of g.vars t e k) n b (at_least d k (body.value_of g.world.work g.vars at t e s) (code_of g.vars t e k) n (value_built t e d at k s n fit (low b) h))
    begin_with_built (Declare' u init) back d k s n fit b h = left_less back d k _ n _ (declare_built u init back d k s n fit.0 fit.1 b h)
    begin_with_built (Block' i stmts) back d k s n fit b h = tt
    begin_with_built Empty back d k s n fit b h = tt
    begin_with_built (If' at t e i one' other) back d k s n fit b h = tt
    begin_with_built (While' at t e i stmt) back d k s n fit b h = tt
    begin_with_built (Do' i stmt at t e) back d k s n fit b h = tt
    begin_with_built (For' i init cond step j stmt) back d k s n fit b h = tt
    begin_with_built Break back d k s n fit b h = tt
    begin_with_built Continue back d k s n fit b h = tt
    begin_with_built (Return' e) back d k s n fit b h = tt

pub stmt_follows : CodeFollows
stmt_follows g lay looped a named back k own there d s n h =
    left_less g lay back d k (body.does g.world.work g.vars a s) n _ (stmt_built g lay a back d k s n (statement_fits (length g.vars) looped a named) (record { own = own; there = there }) h)
