-- Changes that commute, and shared words that are taken anew.
use Rattle.std.proofs.Common.{◌≡◌, ◌≢◌, ℕ, zero, suc, ◌+◌, ◌^◌, ◌<◌, List, [], ◌∷◌, length, get_or, ⊎_elim, refl, sym, ap, ◌∙◌, subst, arith, Bool, true, false, eq-eqb, ne_eqb}
use Rattle.std.specs.Prelude.{if◌then◌else◌, ⊤}
use Rattle.std.proofs.lemmas.Bool.{cases_eq}
use Rattle.q_lane.proofs.WordLaws.{applied-below}
use Rattle.vpm_words.specs.Access.{overlaid}
use Rattle.qpu_machine.specs.SoloRun.{Change, changed, Made}
use Rattle.solo_law.specs.Sharing.{changed_by, Commute}

-- ---- memory of which some bytes are taken from another

pub overlaid_length : (x : ℕ → Bool) (i : ℕ) (ms bs : List ℕ) → length (overlaid x i ms bs) ≡ length bs
overlaid_length x i [] [] = refl
overlaid_length x i (m ∷ ms) [] = refl
overlaid_length x i [] (b ∷ bs) = refl
overlaid_length x i (m ∷ ms) (b ∷ bs) = ap suc (overlaid_length x (suc i) ms bs)

pub overlaid_in : (x : ℕ → Bool) (i : ℕ) (ms bs : List ℕ) (a : ℕ) → length ms ≡ length bs → x (i + a) ≡ true → get_or (overlaid x i ms bs) a 0 ≡ get_or ms a 0
overlaid_in x i [] [] a l h = refl
overlaid_in x i (m ∷ ms) [] a l h = absurd (omega arith)
overlaid_in x i [] (b ∷ bs) a l h = absurd (omega arith)
overlaid_in x i (m ∷ ms) (b ∷ bs) zero l h =
    let e : i + zero ≡ i = omega arith in
    ap (λ t. if t then m else b) (sym (ap x e) ∙ h)
overlaid_in x i (m ∷ ms) (b ∷ bs) (suc a) l h =
    let e : i + suc a ≡ suc i + a = omega arith in
    overlaid_in x (suc i) ms bs a (omega arith) (sym (ap x e) ∙ h)

pub overlaid_out : (x : ℕ → Bool) (i : ℕ) (ms bs : List ℕ) (a : ℕ) → x (i + a) ≡ false → get_or (overlaid x i ms bs) a 0 ≡ get_or bs a 0
overlaid_out x i [] [] a h = refl
overlaid_out x i (m ∷ ms) [] a h = refl
overlaid_out x i [] (b ∷ bs) a h = refl
overlaid_out x i (m ∷ ms) (b ∷ bs) zero h =
    let e : i + zero ≡ i = omega arith in
    ap (λ t. if t then m else b) (sym (ap x e) ∙ h)
overlaid_out x i (m ∷ ms) (b ∷ bs) (suc a) h =
    let e : i + suc a ≡ suc i + a = omega arith in
    overlaid_out x (suc i) ms bs a (sym (ap x e) ∙ h)

-- ---- changes of one word

-- operands are words
abbrev pub AreSmall : List Made → Type 0
AreSmall [] = ⊤
AreSmall (m ∷ ms) = (m.change.operand < 2 ^ 32) × AreSmall ms

-- the changes of the word at this address commute with this one
abbrev pub CommuteAll : ℕ → Change → List Made → Type 0
CommuteAll at c [] = ⊤
CommuteAll at c (m ∷ ms) = (m.address ≡ at → Commute m.change c) × CommuteAll at c ms

changed_more : (at : ℕ) (m : Made) (ms : List Made) (b : ℕ) → m.address ≡ at → changed_by at (m ∷ ms) b ≡ changed m.change (changed_by at ms b)
changed_more at m ms b h = ap (λ t. if t then changed m.change (changed_by at ms b) else changed_by at ms b) (eq-eqb m.address at h)

changed_skip : (at : ℕ) (m : Made) (ms : List Made) (b : ℕ) → m.address ≢ at → changed_by at (m ∷ ms) b ≡ changed_by at ms b
changed_skip at m ms b h = ap (λ t. if t then changed m.change (changed_by at ms b) else changed_by at ms b) (ne_eqb m.address at h)

changed_below : (at : ℕ) (ms : List Made) (b : ℕ) → AreSmall ms → b < 2 ^ 32 → changed_by at ms b < 2 ^ 32
changed_below at [] b s l = l
changed_below at (m ∷ ms) b s l =
    let r = changed_below at ms b s.1 l in
    ⊎_elim
    (λ e. subst (λ n. n < 2 ^ 32) (sym (changed_more at m ms b e)) (applied-below m.change.op (changed_by at ms b) m.change.operand r s.0))
    (λ ne. subst (λ n. n < 2 ^ 32) (sym (changed_skip at m ms b ne)) r)
    (cases_eq m.address at)

past_list : (at : ℕ) (c : Change) (ms : List Made) (b : ℕ) → CommuteAll at c ms → AreSmall ms → b < 2 ^ 32 → changed_by at ms (changed c b) ≡ changed c (changed_by at ms b)
past_list at c [] b h s l = refl
past_list at c (m ∷ ms) b h s l =
    ⊎_elim
    (λ e. changed_more at m ms (changed c b) e ∙ ap (changed m.change) (past_list at c ms b h.1 s.1 l)
    ∙ h.0 e (changed_by at ms b) (changed_below at ms b s.1 l) ∙ ap (changed c) (sym (changed_more at m ms b e)))
    (λ ne. changed_skip at m ms (changed c b) ne ∙ past_list at c ms b h.1 s.1 l ∙ ap (changed c) (sym (changed_skip at m ms b ne)))
    (cases_eq m.address at)

-- ---- the changes of all QPUs

-- the changes of QPUs 0 to n - 1, one QPU after the other
abbrev pub changed_by_all : ℕ → (ℕ → List Made) → ℕ → ℕ → ℕ
changed_by_all at made zero word = word
changed_by_all at made (suc n) word = changed_by at (made n) (changed_by_all at made n word)

pub all_same : (at : ℕ) (f h : ℕ → List Made) (n b : ℕ) → ((j : ℕ) → j < n → f j ≡ h j) → changed_by_all at f n b ≡ changed_by_all at h n b
all_same at f h zero b e = refl
all_same at f h (suc n) b e =
    ap (λ l. changed_by at l (changed_by_all at f n b)) (e n (omega arith)) ∙ ap (changed_by at (h n)) (all_same at f h n b (λ j lt. e j (omega arith)))

all_below : (at : ℕ) (f : ℕ → List Made) (n b : ℕ) → ((j : ℕ) → j < n → AreSmall (f j)) → b < 2 ^ 32 → changed_by_all at f n b < 2 ^ 32
all_below at f zero b s l = l
all_below at f (suc n) b s l = changed_below at (f n) (changed_by_all at f n b) (s n (omega arith)) (all_below at f n b (λ j lt. s j (omega arith)) l)

-- one QPU made one more change of another word
pub all_skip : (at : ℕ) (f h : ℕ → List Made) (k : ℕ) (m : Made) (n b : ℕ) → h k ≡ m ∷ f k → ((j : ℕ) → j ≢ k → h j ≡ f j) → m.address ≢ at
    → changed_by_all at h n b ≡ changed_by_all at f n b
all_skip at f h k m zero b ek eo ne = refl
all_skip at f h k m (suc n) b ek eo ne =
    ap (changed_by at (h n)) (all_skip at f h k m n b ek eo ne)
    ∙ ⊎_elim
    (λ e. ap (λ l. changed_by at l (changed_by_all at f n b)) (ap h e ∙ ek) ∙ changed_skip at m (f k) (changed_by_all at f n b) ne ∙ ap (λ j. changed_by at (f j) (changed_by_all at f n b)) (sym e))
    (λ d. ap (λ l. changed_by at l (changed_by_all at f n b)) (eo n d))
    (cases_eq n k)

-- one QPU made one more change of this word
pub all_more : (at : ℕ) (f h : ℕ → List Made) (k : ℕ) (m : Made) (n b : ℕ) → k < n → h k ≡ m ∷ f k → ((j : ℕ) → j ≢ k → h j ≡ f j) → m.address ≡ at
    → ((j : ℕ) → j < n → j ≢ k → CommuteAll at m.change (f j)) → ((j : ℕ) → j < n → AreSmall (f j)) → b < 2 ^ 32
    → changed_by_all at h n b ≡ changed m.change (changed_by_all at f n b)
all_more at f h k m zero b lt ek eo em cm s l = absurd (omega arith)
all_more at f h k m (suc n) b lt ek eo em cm s l =
    ⊎_elim
    (λ e.
    ap (λ l. changed_by at l (changed_by_all at h n b)) (ap h e ∙ ek)
    ∙ changed_more at m (f k) (changed_by_all at h n b) em
    ∙ ap (λ t. changed m.change (changed_by at (f k) t)) (all_same at h f n b (λ j l. eo j (λ q. omega arith)))
    ∙ ap (λ j. changed m.change (changed_by at (f j) (changed_by_all at f n b))) (sym e))
    (λ d.
    ap (λ l. changed_by at l (changed_by_all at h n b)) (eo n d)
    ∙ ap (changed_by at (f n)) (all_more at f h k m n b (omega arith) ek eo em (λ j l. cm j (omega arith)) (λ j l. s j (omega arith)) l)
    ∙ past_list at m.change (f n) (changed_by_all at f n b) (cm n (omega arith) d) (s n (omega arith)) (all_below at f n b (λ j l. s j (omega arith)) l))
    (cases_eq n k)
