-- The levels of binary operators, read one after the other.
use Rattle.std.proofs.Common.{◌≡◌, ℕ, zero, suc, ◌+◌, ◌-◌, ◌<◌, ◌≤◌, List, ◌∙◌, ap, subst, arith}
use Rattle.clc_reading.specs.Reading.{Reason, Wrong, Deep, Outcome, Got, Stops, and_then, pure}
use Rattle.clc_lexer.specs.declared.token.Token.{Token}
use Rattle.clc_tree.specs.ExpressionRules as spec
use Rattle.clc_tree.specs.declared.expressions.Chain.{Chain}
use Rattle.clc_tree.specs.declared.expressions.ChainStep.{ChainStep}
use Rattle.clc_parser.specs.Reads.{StopsAt}
use Rattle.clc_parser.specs.declared.tokens.Stop.{Stop}
use Rattle.clc_parser.specs.declared.tokens.Stop.TheVariants as stop

module _ (n : ℕ) (below : spec.Below) where
  -- one level more
  abbrev after : ℕ → Chain → List Token → Outcome Token Chain
  after j c ts = and_then (spec.chain_steps n below j ts) (λ more. pure (spec.joined c more))

  pub level_next : (j : ℕ) (ts : List Token) (c : Chain) (mid : List Token) → spec.chain n below j ts ≡ Got c mid → spec.chain n below (suc j) ts ≡ after j c mid
  unfolding spec.chain
  level_next j ts c mid h = ap (λ o. and_then o (after j)) h

  pub level_read : (j : ℕ) (ts : List Token) (c : Chain) (mid : List Token) (more : List ChainStep) (rest : List Token)
      → spec.chain n below j ts ≡ Got c mid → spec.chain_steps n below j mid ≡ Got more rest → spec.chain n below (suc j) ts ≡ Got (spec.joined c more) rest
  level_read j ts c mid more rest h g = level_next j ts c mid h ∙ ap (λ o. and_then o (λ m. pure (spec.joined c m))) g

  level_stops : (k j m : ℕ) (ts : List Token) (why : Reason) (left : List Token) → m ≡ k + j → spec.chain n below j ts ≡ Stops why left → spec.chain n below m ts ≡ Stops why left
  unfolding spec.chain
  level_stops zero j m ts why left e h = let same : j ≡ m = omega arith in subst (λ i. spec.chain n below i ts ≡ Stops why left) same h
  level_stops (suc k) j zero ts why left e h = absurd (omega arith)
  level_stops (suc k) j (suc m) ts why left e h = ap (λ o. and_then o (after m)) (level_stops k j m ts why left (omega arith) h)

  -- what stops a level stops those above it
  pub looser_stops : (j m : ℕ) (ts : List Token) (e : Stop) (left : List Token) → j ≤ m → StopsAt (spec.chain n below j ts) e left → StopsAt (spec.chain n below m ts) e left
  looser_stops j m ts stop.Wrong left le h = level_stops (m - j) j m ts Wrong left (omega arith) h
  looser_stops j m ts stop.Deep left le h = level_stops (m - j) j m ts Deep left (omega arith) h
  looser_stops j m ts stop.Memory left le h = tt

  pub steps_stop : (j m : ℕ) (ts : List Token) (c : Chain) (mid : List Token) (e : Stop) (left : List Token) → j < m
      → spec.chain n below j ts ≡ Got c mid → StopsAt (spec.chain_steps n below j mid) e left → StopsAt (spec.chain n below m ts) e left
  steps_stop j m ts c mid stop.Wrong left le h g =
      looser_stops (suc j) m ts stop.Wrong left (omega arith) (level_next j ts c mid h ∙ ap (λ o. and_then o (λ more. pure (spec.joined c more))) g)
  steps_stop j m ts c mid stop.Deep left le h g =
      looser_stops (suc j) m ts stop.Deep left (omega arith) (level_next j ts c mid h ∙ ap (λ o. and_then o (λ more. pure (spec.joined c more))) g)
  steps_stop j m ts c mid stop.Memory left le h g = tt
