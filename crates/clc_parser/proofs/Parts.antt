-- Rules whose parts are read by functions of their own.
use Rattle.std.proofs.Common.{◌≡◌, ℕ, suc, Bool, true, false, cond, List, Option, Some, None, refl, ◌∙◌}
use Rattle.clc_reading.specs.Reading.{Reader, Outcome, Got, Stops, and_then, ◌>>=◌, pure, one, sees}
use Rattle.clc_lexer.specs.declared.token.Token.{Token}
use Rattle.clc_tree.specs.Kinds.{is}
use Rattle.clc_tree.specs.declared.kinds.Kind.TheVariants as k
use Rattle.clc_tree.specs.Statements.{else_of, if_of}
use Rattle.clc_tree.specs.StatementRules as spec
use Rattle.clc_tree.specs.declared.expressions.Expr.{Expr}
use Rattle.clc_tree.specs.declared.statements.Stmt.{Stmt}
use Rattle.clc_tree.specs.declared.statements.Else.{Else}
use Rattle.clc_parser.specs.Parts.{other_part}

regroup : {T A B C : Type 0} (o : Outcome T A) (f : A → Reader T B) (g : B → Reader T C) → and_then o (λ a ts. and_then (f a ts) g) ≡ and_then (and_then o f) g
regroup (Got a rest) f g = refl
regroup (Stops why left) f g = refl

alike : {T A B : Type 0} (o : Outcome T A) (f g : A → Reader T B) → ((a : A) (ts : List T) → f a ts ≡ g a ts) → and_then o f ≡ and_then o g
alike (Got a rest) f g h = h a rest
alike (Stops why left) f g h = refl

module _ (n : ℕ) (inner : spec.Levels) (w l : Token) (x : Expr) (r : Token) (body : Stmt) where
  abbrev whole : Option Else × Bool → Reader Token spec.Read
  whole v = pure (if_of w l x r body v.0, v.1)

  seen : (b : Bool) (ts : List Token)
      → cond b ((one (suc n) (is k.Else) >>= λ o. inner.stmt >>= λ y. pure (if_of w l x r body (Some (else_of o y.0)), y.1)) ts) (pure (if_of w l x r body None, true) ts)
      ≡ and_then (cond b ((one (suc n) (is k.Else) >>= λ o. inner.stmt >>= λ y. pure (Some (else_of o y.0), y.1)) ts) (pure (None, true) ts)) whole
  seen false ts = refl
  seen true ts =
      alike (one (suc n) (is k.Else) ts) _ _ (λ o mid. regroup (inner.stmt mid) (λ y. pure (Some (else_of o y.0), y.1)) whole)
      ∙ regroup (one (suc n) (is k.Else) ts) (λ o. inner.stmt >>= λ y. pure (Some (else_of o y.0), y.1)) whole

  -- an `if` after its statement is its `else`, or none, put to it
  pub if_other : (b : Bool) (ts : List Token) → spec.if_rest n inner w l x r body b ts ≡ and_then (other_part n inner b ts) whole
  if_other true ts = refl
  if_other false ts = seen (sees (is k.Else) ts) ts
