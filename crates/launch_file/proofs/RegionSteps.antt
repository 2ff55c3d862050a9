-- One more region, in loops over buffers and over QPUs.
use Rattle.std.proofs.Common.{◌≡◌, ℕ, ◌+◌, ◌-◌, ◌*◌, ◌<◌, ◌≤◌, List, [], ◌∷◌, ◌++◌, length, get_or, drop, suc, sym, refl, ap, ◌∙◌, subst, arith, add-one, append_assoc, drop-cons, IfSome, Option, Some, slice_get}
use Rattle.std.proofs.lemmas.List.{append-nil, drop_all}
use Rattle.std.proofs.lemmas.Option.{slice_get_read}
use Rattle.launch_file.specs.declared.launch.BufferLine.{BufferLine}
use Rattle.launch_file.specs.declared.places.Region2.{Region2}
use Rattle.launch_file.specs.Launches.{IsBuffer}
use Rattle.launch_file.specs.Layout.{next_start, regions, start_after, buffer_lens, scratch_lens}

abbrev pub region : ℕ → ℕ → Region2
region start len = record { start = start; len = len }

pub regions_none : (start : ℕ) → regions start [] ≡ []
unfolding regions
regions_none start = refl

pub regions_next : (start len : ℕ) (lens : List ℕ) → regions start (len ∷ lens) ≡ region start len ∷ regions (next_start start len) lens
unfolding regions
regions_next start len lens = refl

pub start_after_none : (start : ℕ) → start_after start [] ≡ start
unfolding start_after
start_after_none start = refl

pub start_after_next : (start len : ℕ) (lens : List ℕ) → start_after start (len ∷ lens) ≡ start_after (next_start start len) lens
unfolding start_after
start_after_next start len lens = refl

-- the lengths from buffer i on
pub buffer_lens-at : (buffers : List BufferLine) (i : ℕ) (buffer : BufferLine) → i < length buffers → buffer ≡ get_or buffers i buffer
    → buffer_lens (drop i buffers) ≡ buffer.size ∷ buffer_lens (drop (i + 1) buffers)
buffer_lens-at buffers i buffer h is =
    ap buffer_lens (drop-cons buffers i buffer h)
    ∙ ap (λ (b : BufferLine). b.size ∷ buffer_lens (drop (suc i) buffers)) (sym is)
    ∙ ap (λ (n : ℕ). buffer.size ∷ buffer_lens (drop n buffers)) (sym (add-one i))

pub buffer_lens-end : (buffers : List BufferLine) (i : ℕ) → length buffers ≤ i → buffer_lens (drop i buffers) ≡ []
buffer_lens-end buffers i h = ap buffer_lens (drop_all i buffers h)

-- the lengths from QPU k on
pub scratch_lens-at : (qpus k rows : ℕ) → k < qpus → scratch_lens (qpus - k) rows ≡ 64 * rows ∷ scratch_lens (qpus - (k + 1)) rows
scratch_lens-at qpus k rows h =
    let more : qpus - k ≡ suc (qpus - (k + 1)) = omega arith in
    ap (λ (n : ℕ). scratch_lens n rows) more

-- a valid buffer has at most 2^24 bytes
pub small_buffer : (buffers : List BufferLine) (i : ℕ) (buffer : BufferLine) → i < length buffers → buffer ≡ get_or buffers i buffer
    → ((i : ℕ) → IfSome (slice_get buffers i) IsBuffer) → buffer.size ≤ 16777216
small_buffer buffers i buffer h is each =
    let found : slice_get buffers i ≡ Some buffer = slice_get_read buffers (length buffers) i buffer refl h is in
    let fine = subst (λ (o : Option BufferLine). IfSome o IsBuffer) found (each i) in
    fine.small

-- what was placed, and the region at hand
pub placed_next : (placed more all : List Region2) (start next len : ℕ) (rest lens : List ℕ)
    → rest ≡ len ∷ lens → placed ++ regions start rest ≡ all → more ≡ placed ++ region start len ∷ [] → next ≡ next_start start len → more ++ regions next lens ≡ all
placed_next placed more all start next len rest lens is done pushed moved =
    ap (λ (xs : List Region2). xs ++ regions next lens) pushed
    ∙ append_assoc placed (region start len ∷ []) (regions next lens)
    ∙ ap (λ (n : ℕ). placed ++ region start len ∷ regions n lens) moved
    ∙ ap (λ (xs : List Region2). placed ++ xs) (sym (regions_next start len lens))
    ∙ ap (λ (xs : List ℕ). placed ++ regions start xs) (sym is)
    ∙ done

pub after_next : (start next len end : ℕ) (rest lens : List ℕ) → rest ≡ len ∷ lens → start_after start rest ≡ end → next ≡ next_start start len → start_after next lens ≡ end
after_next start next len end rest lens is done moved =
    ap (λ (n : ℕ). start_after n lens) moved ∙ sym (start_after_next start len lens) ∙ ap (start_after start) (sym is) ∙ done

-- all were placed
pub placed_all : (placed all : List Region2) (start : ℕ) (rest : List ℕ) → rest ≡ [] → placed ++ regions start rest ≡ all → placed ≡ all
placed_all placed all start rest none done =
    sym (append-nil placed) ∙ ap (λ (xs : List Region2). placed ++ xs) (sym (regions_none start)) ∙ ap (λ (xs : List ℕ). placed ++ regions start xs) (sym none) ∙ done

pub after_all : (start end : ℕ) (rest : List ℕ) → rest ≡ [] → start_after start rest ≡ end → start ≡ end
after_all start end rest none done = sym (start_after_none start) ∙ ap (start_after start) (sym none) ∙ done
