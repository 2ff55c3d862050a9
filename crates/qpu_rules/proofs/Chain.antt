-- The first of a chain of tests.
use Rattle.std.proofs.Common.{◌≡◌, ℕ, List, [], ◌∷◌, Bool, ◌||◌, true, false, refl, sym, ap, subst, ◌∙◌}
use Rattle.std.proofs.Math.Bool.{or-false}
use Rattle.std.specs.List.{list_any}
use Rattle.std.specs.Prelude.{Option, Some, None, IfSome, IfNone}
use Rattle.qpu_encode.specs.declared.form.Form.{Form}
use Rattle.qpu_rules.specs.declared.recent.Recent.{Recent}
use Rattle.qpu_rules.specs.Restrictions.{is_several, breaks, least_rule, least_of_access, least_of_accesses, IsLeastBroken, IsLawful}
use Rattle.qpu_rules.specs.Uses.{count_of}
use Rattle.vpm_words.specs.Rules as access
use Rattle.vpm_words.specs.Laws.{IsLeast, LeastIsLeast}
use Rattle.vpm_words.specs.Rules.{first_of}
use Rattle.vpm_words.specs.declared.state.Access.{Access}
use Rattle.vpm_words.specs.declared.state.Rule.{Rule}
use Rattle.vpm_words.specs.declared.state.Rule.TheVariants.{H8, H9, H10, H11, H12, H13, H14, H15, H16}
use Rattle.vpm_words.specs.declared.state.Seen.{Seen}

-- a test that holds is the first
pub first_true : {b : Bool} (r : Rule) (o : Option Rule) → b ≡ true → Some r ≡ first_of b r o
first_true r o e = sym (ap (λ x. first_of x r o) e)

-- one that doesn't hold is passed over
pub first_false : {b : Bool} {x : Option Rule} (r : Rule) (o : Option Rule) → b ≡ false → x ≡ o → x ≡ first_of b r o
first_false r o e h = h ∙ sym (ap (λ x. first_of x r o) e)

-- the least rule that one of the accesses breaks, from H8 on
abbrev pub least_of_list : List Access → ℕ → Seen → Option Rule
least_of_list xs age s =
    first_of (list_any (λ a. access.breaks_h8 a s) xs) H8 (first_of (list_any (λ a. access.breaks_h9 a s) xs) H9
    (first_of (list_any (λ a. access.breaks_h10 a s) xs) H10 (first_of (list_any (λ a. access.breaks_h11 a s) xs) H11
    (first_of (list_any (λ a. access.breaks_h12 a s) xs) H12 (first_of (list_any (λ a. access.breaks_h13 a age s) xs) H13
    (first_of (list_any (λ a. access.breaks_h14 a s) xs) H14 (first_of (list_any (λ a. access.breaks_h15 a s) xs) H15
    (first_of (list_any (λ a. access.breaks_h16 a s) xs) H16 None))))))))

-- a test of a list of one access
alone : {x y : Option Rule} (b : Bool) (r : Rule) → x ≡ y → first_of b r x ≡ first_of (b || false) r y
alone b r h = ap (λ z. first_of b r z) h ∙ sym (ap (λ z. first_of z r _) (or-false b))

-- of no access and of one it is known by their count
pub least_of_few : (xs : List Access) (age : ℕ) (s : Seen) → is_several (count_of xs) ≡ false → least_of_accesses (count_of xs) age s ≡ least_of_list xs age s
unfolding least_of_access least_of_accesses
least_of_few [] age s h = refl
least_of_few (a ∷ []) age s h =
    alone (access.breaks_h8 a s) H8 (alone (access.breaks_h9 a s) H9 (alone (access.breaks_h10 a s) H10
    (alone (access.breaks_h11 a s) H11 (alone (access.breaks_h12 a s) H12 (alone (access.breaks_h13 a age s) H13
    (alone (access.breaks_h14 a s) H14 (alone (access.breaks_h15 a s) H15 (alone (access.breaks_h16 a s) H16 refl))))))))
least_of_few (a ∷ (b ∷ others)) age s h = absurd cc

pub is_least : (f : Form) (r : Recent) (s : Seen) (o : Option Rule) → o ≡ least_rule f r s → LeastIsLeast → IsLeast (breaks f r s) o
unfolding least_rule
is_least f r s o e law = subst (λ x. IsLeast (breaks f r s) x) (sym e) (law (breaks f r s))

-- what the least of the broken rules is, as clauses
pub none_of : (f : Form) (r : Recent) (s : Seen) (o : Option Rule) → IsLeast (breaks f r s) o → IfNone o (IsLawful f r s)
none_of f r s None h = h
none_of f r s (Some x) h = tt

pub some_of : (f : Form) (r : Recent) (s : Seen) (o : Option Rule) → IsLeast (breaks f r s) o → IfSome o (IsLeastBroken f r s)
some_of f r s None h = tt
some_of f r s (Some x) h = record { broken = h.0; lower = h.1 }
