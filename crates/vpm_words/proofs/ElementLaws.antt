-- The elements of a queue: those of a transfer are in range, and stay so when one is taken out.
use Rattle.std.proofs.Common.{arith, ◌≡◌, ℕ, zero, suc, ◌+◌, ◌*◌, ◌^◌, ◌<◌, ◌≤◌, true, List, [], ◌∷◌, length, ap, ◌∙◌, refl}
use Rattle.std.proofs.lemmas.Bool.{and_parts}
use Rattle.std.proofs.lemmas.Bool.Decides.{nat_tests}
use Rattle.std.proofs.lemmas.Nat.{mul-le}
use Rattle.std.proofs.lemmas.List.Sums.{AllPass-from_list_all, list_all-from_AllPass}
use Rattle.std.proofs.lemmas.List.Elements.{All-get_or, All-from_get_or}
use Rattle.std.specs.List.{list_all, remove}
use Rattle.std.specs.Prelude.{get_or, ◌&&◌}
use Rattle.vpm_words.specs.Piece.{Piece, IsTransfer}
use Rattle.vpm_words.specs.Elements.{size_of, element_at, elements_of, is_element}
use Rattle.vpm_words.specs.Laws.{LiesIn, no_element}
use Rattle.vpm_words.specs.declared.state.Element.{Element}
use Rattle.vpm_words.proofs.PieceLaws.{Bounds, bounds}
use Rattle.vpm_words.proofs.MoveLaws.{lies, element_is, length-elements_of}

in_range : (e : Element) → e.row < 64 → e.col < 16 → e.size ≤ 4 → e.low + 8 * e.size ≤ 32 → e.address < 2 ^ 33 → is_element e ≡ true
unfolding is_element
in_range e a b c d f = grind (arith, nat_tests)

size_most : (mode : ℕ) → size_of mode ≤ 4
size_most mode = grind (arith, nat_tests)

element_fits : (address : ℕ) (t : Piece) → address < 2 ^ 32 → IsTransfer t → (j : ℕ) → j < t.len → is_element (element_at address t j) ≡ true
element_fits address t a h j l =
    let b : Bounds t = bounds t h in
    let i : LiesIn address t (element_at address t j) = lies address t h j l in
    in_range (element_at address t j) i.row i.col (size_most t.mode) i.part (let s = size_most t.mode in let n = b.len in let p = mul-le (size_of t.mode) j 4 16 s (omega (arith, l, n)) in omega (arith, a, p))

pub elements_fit : (address : ℕ) (t : Piece) → address < 2 ^ 32 → IsTransfer t → list_all is_element (elements_of address t) ≡ true
elements_fit address t a h =
    list_all-from_AllPass is_element (elements_of address t)
    (All-from_get_or (λ e. is_element e ≡ true) (elements_of address t) no_element
    (λ i l. let m : i < t.len = rw (← length-elements_of address t) l in rw (element_is address t i m) (element_fits address t a h i m)))

pub element_found : (es : List Element) (i : ℕ) (e : Element) → list_all is_element es ≡ true → i < length es → e ≡ get_or es i e → is_element e ≡ true
element_found es i e h l g = rw g (All-get_or (λ e. is_element e ≡ true) es i e l (AllPass-from_list_all is_element es h))

pub rest_fits : (es : List Element) (i : ℕ) → list_all is_element es ≡ true → list_all is_element (remove es i) ≡ true
rest_fits [] zero h = refl
rest_fits [] (suc i) h = refl
rest_fits (e ∷ es) zero h = (and_parts (is_element e) (list_all is_element es) h).1
rest_fits (e ∷ es) (suc i) h =
    let parts = and_parts (is_element e) (list_all is_element es) h in
    ap (λ b. b && list_all is_element (remove es i)) parts.0 ∙ rest_fits es i parts.1
