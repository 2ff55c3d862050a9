-- What the masks of a lane are where constructs join: after a branch, a scope, a round and a loop.
use Rattle.std.specs.Prelude.{◌≡◌, ℕ, Bool, true, false, List, [], ◌∷◌}
use Rattle.item_ir.specs.IrMeaning.{Flow, Next, Broke, Again, Gone}
use Rattle.mask_law.specs.Stacks.{Kind, Branch, Round, In_loop, In_scope, Entry}
use Rattle.mask_law.specs.Masks.{Mask, column, top_on, all_on, settle, clear_end, after, flow_has}

abbrev pub tail : List Mask → List Mask
tail [] = []
tail (m ∷ ms) = ms

abbrev pub mask : Kind → Bool → Mask
mask k b = record { kind = k; on = b }

-- a lane that was on where the construct began, with flow f out of its inner statements
pub record Joins (st : List Entry) (words : ℕ → ℕ) : Type 0 where
  pub branch : (f : Flow) (b : Bool) → flow_has f st ≡ true → settle (tail (after f (mask Branch b ∷ column st words))) ≡ after f (column st words)
  pub scope : (f : Flow) (b : Bool) → tail (after f (mask In_scope b ∷ column st words)) ≡ column st words
  -- the loop goes on in this lane
  pub round : settle (tail (after Next (mask Round true ∷ (mask In_loop true ∷ column st words)))) ≡ mask In_loop true ∷ column st words
  pub again : settle (tail (after Again (mask Round true ∷ (mask In_loop true ∷ column st words)))) ≡ mask In_loop true ∷ column st words
  -- it goes on in others alone
  pub broke : settle (tail (after Broke (mask Round true ∷ (mask In_loop true ∷ column st words)))) ≡ mask In_loop false ∷ column st words
  pub gone : flow_has Gone st ≡ true → settle (tail (after Gone (mask Round true ∷ (mask In_loop true ∷ column st words)))) ≡ mask In_loop false ∷ clear_end In_scope (column st words)
  -- and then it ends
  pub loop : settle (column st words) ≡ column st words
  pub left : flow_has Gone st ≡ true → settle (clear_end In_scope (column st words)) ≡ after Gone (column st words)

abbrev pub MasksJoin : Type 0
MasksJoin = (st : List Entry) (words : ℕ → ℕ) → top_on (column st words) ≡ true → all_on (column st words) ≡ true → Joins st words
