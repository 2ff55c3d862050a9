-- The least broken rule.
use Rattle.std.proofs.Common.{arith, ◌≡◌, ℕ, ◌+◌, ◌<◌, ◌≤◌, true, false, Bool, List, refl, ap, sym, ◌∙◌, inl, inr}
use Rattle.std.proofs.lemmas.Bool.{cases_lt}
use Rattle.std.specs.Prelude.{Option, Some, None, if◌then◌else◌, ◌==◌}
use Rattle.vpm_words.specs.Rules.{number, first_of, least, least_broken, is_stalled}
use Rattle.vpm_words.specs.Access.{Site, seen, demand, breaks, stalls}
use Rattle.vpm_words.specs.Laws.{IsLeast}
use Rattle.vpm_words.specs.declared.state.Access.{Access}
use Rattle.vpm_words.specs.declared.state.Access.TheVariants.{Uniform, ReadVpm, WriteVpm, ReadSet, WriteSet, LoadAddr, StoreAddr, WaitLoad, WaitStore, Lock, Unlock}
use Rattle.vpm_words.specs.declared.state.Ports.{Ports}
use Rattle.vpm_words.specs.declared.state.Rule.{Rule}
use Rattle.vpm_words.specs.declared.state.Rule.TheVariants.{H0, H1, H2, H3, H4, H5, H6, H7, H8, H9, H10, H11, H12, H13, H14, H15, H16}
use Rattle.vpm_words.specs.declared.state.Shared.{Shared}

pub split_agrees : (g : Site) (p : Ports) (s : Shared) (a : Access) (value : ℕ) (words : List ℕ) → breaks (demand g p (Some a) value words) g.number s ≡ least_broken a p.age (seen g p s (Some a) value)
unfolding seen least_broken
split_agrees g p s Uniform value words = refl
split_agrees g p s ReadVpm value words = refl
split_agrees g p s WriteVpm value words = refl
split_agrees g p s ReadSet value words = refl
split_agrees g p s WriteSet value words = refl
split_agrees g p s LoadAddr value words = refl
split_agrees g p s StoreAddr value words = refl
split_agrees g p s WaitLoad value words = refl
split_agrees g p s WaitStore value words = refl
split_agrees g p s Lock value words = refl
split_agrees g p s Unlock value words = refl

pub stalls_agree : (g : Site) (p : Ports) (s : Shared) (a : Access) (value : ℕ) (words : List ℕ) → stalls (demand g p (Some a) value words) g.number s ≡ is_stalled a (seen g p s (Some a) value)
unfolding seen
stalls_agree g p s Uniform value words = refl
stalls_agree g p s ReadVpm value words = refl
stalls_agree g p s WriteVpm value words = refl
stalls_agree g p s ReadSet value words = refl
stalls_agree g p s WriteSet value words = refl
stalls_agree g p s LoadAddr value words = refl
stalls_agree g p s StoreAddr value words = refl
stalls_agree g p s WaitLoad value words = refl
stalls_agree g p s WaitStore value words = refl
stalls_agree g p s Lock value words = refl
stalls_agree g p s Unlock value words = refl

-- ---- a rule is known by its number

rule_at : ℕ → Rule
rule_at n =
    if n == 0 then H0 else (if n == 1 then H1 else (if n == 2 then H2 else (if n == 3 then H3 else (if n == 4 then H4 else (if n == 5 then H5
    else (if n == 6 then H6 else (if n == 7 then H7 else (if n == 8 then H8 else (if n == 9 then H9 else (if n == 10 then H10
    else (if n == 11 then H11 else (if n == 12 then H12 else (if n == 13 then H13 else (if n == 14 then H14 else (if n == 15 then H15 else H16)))))))))))))))

rule_again : (r : Rule) → rule_at (number r) ≡ r
unfolding rule_at
rule_again H0 = refl
rule_again H1 = refl
rule_again H2 = refl
rule_again H3 = refl
rule_again H4 = refl
rule_again H5 = refl
rule_again H6 = refl
rule_again H7 = refl
rule_again H8 = refl
rule_again H9 = refl
rule_again H10 = refl
rule_again H11 = refl
rule_again H12 = refl
rule_again H13 = refl
rule_again H14 = refl
rule_again H15 = refl
rule_again H16 = refl

same_rule : (q r : Rule) → number q ≡ number r → q ≡ r
same_rule q r e = sym (rule_again q) ∙ ap rule_at e ∙ rule_again r

most : (r : Rule) → number r ≤ 16
most H0 = omega arith
most H1 = omega arith
most H2 = omega arith
most H3 = omega arith
most H4 = omega arith
most H5 = omega arith
most H6 = omega arith
most H7 = omega arith
most H8 = omega arith
most H9 = omega arith
most H10 = omega arith
most H11 = omega arith
most H12 = omega arith
most H13 = omega arith
most H14 = omega arith
most H15 = omega arith
most H16 = omega arith

-- ---- the least one from a number on

module _ (t : Rule → Bool) where
  abbrev pub LeastFrom : ℕ → Option Rule → Type 0
  LeastFrom n None = (q : Rule) → n ≤ number q → t q ≡ false
  LeastFrom n (Some r) = (n ≤ number r) × (t r ≡ true) × ((q : Rule) → n ≤ number q → number q < number r → t q ≡ false)

  none_left : LeastFrom 17 None
  none_left q h = absurd (let m = most q in omega (arith, m))

  -- a rule that isn't broken is no lesser one
  passed : (r q : Rule) → t r ≡ false → number r ≤ number q → (number r + 1 ≤ number q → t q ≡ false) → t q ≡ false
  passed r q f h k = elim (cases_lt (number r) (number q)) [ inl l ↦ k (omega (arith, l)) | inr g ↦ (let e : number q ≡ number r = omega (arith, g, h) in ap t (same_rule q r e) ∙ f) ]

  one_more : (r : Rule) (o : Option Rule) → LeastFrom (number r + 1) o → LeastFrom (number r) (first_of (t r) r o)
  one_more r o h = go (t r) refl o h
    where
      go : (b : Bool) → t r ≡ b → (o : Option Rule) → LeastFrom (number r + 1) o → LeastFrom (number r) (first_of b r o)
      go true e o h = (omega arith, e, λ q a l. absurd (omega (arith, a, l)))
      go false e None h = λ q a. passed r q e a (h q)
      go false e (Some x) h = (let l = h.0 in omega (arith, l), h.1, λ q a l. passed r q e a (λ m. h.2 q m l))

  least_from : LeastFrom 0 (least t)
  least_from =
      one_more H0 _ (one_more H1 _ (one_more H2 _ (one_more H3 _ (one_more H4 _ (one_more H5 _ (one_more H6 _ (one_more H7 _ (one_more H8 _
      (one_more H9 _ (one_more H10 _ (one_more H11 _ (one_more H12 _ (one_more H13 _ (one_more H14 _ (one_more H15 _ (one_more H16 None none_left))))))))))))))))

  from_zero : (o : Option Rule) → LeastFrom 0 o → IsLeast t o
  from_zero None h = λ q. h q (omega arith)
  from_zero (Some r) h = (h.1, λ q l. h.2 q (omega arith) l)

pub least_is_least : (t : Rule → Bool) → IsLeast t (least t)
least_is_least t = from_zero t (least t) (least_from t)
