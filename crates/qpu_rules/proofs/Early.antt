-- The rules of a word in two parts: what the QPU's own words and uniforms decide, and then what its one access looks at.
use Rattle.std.proofs.Common.{◌≡◌, ◌⊎◌, inl, inr, ⊎_elim, ℕ, List, [], ◌∷◌, Bool, true, false, ◌==◌, ◌&&◌, ◌||◌, if◌then◌else◌, refl, sym, ap, ◌∙◌}
use Rattle.std.proofs.lemmas.Bool.{or_left, or_right}
use Rattle.std.specs.Prelude.{Option, Some, None}
use Rattle.qpu_rules.proofs.Chain.{first_false, least_of_list, least_of_few}
use Rattle.qpu_rules.specs.Laws.{EarlyFirst, UniformIsRead}
use Rattle.qpu_rules.specs.Restrictions.{breaks_h1, breaks_h2, breaks_h3, breaks_h4, breaks_h5, breaks_h6, breaks_h7, is_several, least_rule, least_of_access, least_of_accesses, least_early, least_late, or_rule}
use Rattle.qpu_rules.specs.Uses.{only, count_of, listed, accesses, access_of, access_of_read, access_of_write, read_access, read_as, write_access, is_written, is_at, reads_uniform, add_target, mul_target}
use Rattle.qpu_rules.specs.declared.registers.Target.{Target}
use Rattle.vpm_words.specs.Rules as access
use Rattle.vpm_words.specs.Rules.{first_of, least_broken}
use Rattle.vpm_words.specs.declared.state.Access.{Access}
use Rattle.vpm_words.specs.declared.state.Access.TheVariants.{Uniform, ReadVpm, WriteVpm, ReadSet, WriteSet, LoadAddr, StoreAddr, WaitLoad, WaitStore, Lock, Unlock}
use Rattle.vpm_words.specs.declared.state.Rule.{Rule}
use Rattle.vpm_words.specs.declared.state.Rule.TheVariants.{H1, H2, H3, H4, H5, H6, H7}
use Rattle.vpm_words.specs.declared.state.Seen.{Seen}

-- ---- an access that is a uniform comes by a read

one_of_listed : (o : Option Access) (xs : List Access) → only (listed o xs) ≡ Some Uniform → (o ≡ Some Uniform) ⊎ (only xs ≡ Some Uniform)
one_of_listed None xs h = inr h
one_of_listed (Some a) [] h = inl h
one_of_listed (Some a) (x ∷ xs) h = absurd cc

-- what is chosen by tests is a uniform only where the first one holds
if_read : (through_b a b c d : Bool)
    → (if a then Some Uniform else (if b then Some ReadVpm else (if c then Some (if through_b then WaitStore else WaitLoad) else (if d then Some Lock else None)))) ≡ Some Uniform
    → a ≡ true
if_read through_b true b c d h = refl
if_read through_b false true c d h = absurd cc
if_read true false false true d h = absurd cc
if_read false false false true d h = absurd cc
if_read through_b false false false true h = absurd cc
if_read through_b false false false false h = absurd cc

if_written : {goal : Bool} (through_b a b c d : Bool)
    → (if a then Some WriteVpm else (if b then Some (if through_b then WriteSet else ReadSet) else (if c then Some (if through_b then StoreAddr else LoadAddr) else (if d then Some Unlock else None)))) ≡ Some Uniform
    → goal ≡ true
if_written through_b true b c d h = absurd cc
if_written true false true c d h = absurd cc
if_written false false true c d h = absurd cc
if_written true false false true d h = absurd cc
if_written false false false true d h = absurd cc
if_written through_b false false false true h = absurd cc
if_written through_b false false false false h = absurd cc

by_read : (through_b : Bool) (o : Option ℕ) → read_access through_b o ≡ Some Uniform → is_at 32 o ≡ true
unfolding access_of_read
by_read through_b None h = absurd cc
by_read through_b (Some x) h = if_read through_b (x == 32) (x == 48) (x == 50) (x == 51) h

by_write : {goal : Bool} (b : Bool) (t : Target) → (if b then access_of_write t.through_b t.dst else None) ≡ Some Uniform → goal ≡ true
unfolding access_of_write
by_write false t h = absurd cc
by_write true t h = if_written t.through_b (t.dst == 48) (t.dst == 49) (t.dst == 50) (t.dst == 51) h

from_writes : {goal : Bool} (t u : Target) → only (listed (write_access t) (listed (write_access u) [])) ≡ Some Uniform → goal ≡ true
from_writes t u h = ⊎_elim (λ e. by_write (is_written t) t e) (λ e. ⊎_elim (λ d. by_write (is_written u) u d) (λ d. absurd cc) (one_of_listed (write_access u) [] e)) (one_of_listed (write_access t) _ h)

from_accesses : (a b : Option ℕ) (t u : Target)
    → only (listed (read_access false a) (listed (read_access true b) (listed (write_access t) (listed (write_access u) [])))) ≡ Some Uniform
    → (is_at 32 a || is_at 32 b) ≡ true
from_accesses a b t u h =
    ⊎_elim (λ e. or_left _ _ (by_read false a e)) (λ e. ⊎_elim (λ d. or_right _ _ (by_read true b d)) (λ d. from_writes t u d) (one_of_listed (read_access true b) _ e)) (one_of_listed (read_access false a) _ h)

pub uniform_is_read : UniformIsRead
unfolding access_of accesses
uniform_is_read f h = from_accesses (read_as false f) (read_as true f) (add_target f) (mul_target f) h

-- ---- the rules in two parts

-- H4 of the one access is H4 of the word
same_h4 : (a : Access) (s : Seen) (uniform : Bool) → (Some a ≡ Some Uniform → uniform ≡ true) → (uniform && (s.uniforms == 0)) ≡ false → access.breaks_h4 a s ≡ false
same_h4 Uniform s uniform h e = sym (ap (λ x. x && (s.uniforms == 0)) (h refl)) ∙ e
same_h4 ReadVpm s uniform h e = refl
same_h4 WriteVpm s uniform h e = refl
same_h4 ReadSet s uniform h e = refl
same_h4 WriteSet s uniform h e = refl
same_h4 LoadAddr s uniform h e = refl
same_h4 StoreAddr s uniform h e = refl
same_h4 WaitLoad s uniform h e = refl
same_h4 WaitStore s uniform h e = refl
same_h4 Lock s uniform h e = refl
same_h4 Unlock s uniform h e = refl

past_h4 : (a : Access) (age : ℕ) (s : Seen) → access.breaks_h4 a s ≡ false → least_of_access a age s ≡ least_broken a age s
unfolding least_of_access least_broken
past_h4 a age s h = first_false H4 _ h refl

-- where a word breaks neither H4 nor H5, the rules from H8 on are those of its one access
late : (xs : List Access) (age : ℕ) (s : Seen) (uniform : Bool) → (only xs ≡ Some Uniform → uniform ≡ true)
    → (uniform && (s.uniforms == 0)) ≡ false → is_several (count_of xs) ≡ false → least_of_list xs age s ≡ least_late (only xs) age s
unfolding least_of_accesses
late [] age s uniform h e n = refl
late (a ∷ []) age s uniform h e n = sym (least_of_few (a ∷ []) age s n) ∙ past_h4 a age s (same_h4 a s uniform h e)
late (a ∷ (b ∷ others)) age s uniform h e n = absurd cc

in_parts : (b1 b2 b3 b4 b5 b6 b7 : Bool) (x y : Option Rule) → (b4 ≡ false → b5 ≡ false → x ≡ y)
    → first_of b1 H1 (first_of b2 H2 (first_of b3 H3 (first_of b4 H4 (first_of b5 H5 (first_of b6 H6 (first_of b7 H7 x))))))
    ≡ or_rule (first_of b1 H1 (first_of b2 H2 (first_of b3 H3 (first_of b4 H4 (first_of b5 H5 (first_of b6 H6 (first_of b7 H7 None))))))) y
in_parts true b2 b3 b4 b5 b6 b7 x y h = refl
in_parts false true b3 b4 b5 b6 b7 x y h = refl
in_parts false false true b4 b5 b6 b7 x y h = refl
in_parts false false false true b5 b6 b7 x y h = refl
in_parts false false false false true b6 b7 x y h = refl
in_parts false false false false false true b7 x y h = refl
in_parts false false false false false false true x y h = refl
in_parts false false false false false false false x y h = h refl refl

pub early_first : EarlyFirst
unfolding least_rule least_early breaks_h4 breaks_h5 access_of
early_first f r s =
    in_parts (breaks_h1 f r) (breaks_h2 f r) (breaks_h3 f r) (breaks_h4 f s) (breaks_h5 f) (breaks_h6 f r) (breaks_h7 f r) _ _
    (λ e n. late (accesses f) r.age s (reads_uniform f) (uniform_is_read f) e n)
