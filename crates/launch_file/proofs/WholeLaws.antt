-- What was read makes a valid launch.
use Rattle.std.proofs.Common.{zero, suc, ◌≡◌, ℕ, ◌+◌, ◌*◌, ◌%◌, ◌≤◌, ◌<◌, Bool, true, false, List, [], ◌∷◌, ◌++◌, map, length, take, get_or, Option, Some, None, sym, refl, ap, ◌∙◌, subst, arith, append_assoc}
use Rattle.std.specs.Prelude.{not, ◌||◌, ◌==◌, IfSome, slice_get}
use Rattle.std.proofs.lemmas.Bool.Decides.{Decides-eqb}
use Rattle.launch_file.specs.declared.launch.BufferLine.{BufferLine}
use Rattle.launch_file.specs.declared.launch.Arg.{Arg}
use Rattle.launch_file.specs.declared.launch.Schedule.{Schedule}
use Rattle.launch_file.specs.declared.lines.Sizes.{Sizes}
use Rattle.launch_file.specs.declared.lines.Sizes.TheVariants.{One, Two, Three}
use Rattle.launch_file.specs.Launches.{LaunchOf, IsLaunch, AreSizes, with_ones, items_of}
use Rattle.launch_file.specs.Rules.{product, divides_not}
use Rattle.launch_file.specs.LaunchText.{head_lines, buffer_line, arg_line, schedule_line, launch_lines}
use Rattle.launch_file.specs.Reading.{IsHead, IsBody, lines_after}
use Rattle.launch_file.specs.HeadReading.{AreGood}
use Rattle.launch_file.specs.Views.{sizes_view}
use Rattle.launch_file.proofs.HeadLaws.{good_one, good_two, good_three}

by_three : (P : ℕ → Type 0) → P 0 → P 1 → P 2 → (i : ℕ) → i < 3 → P i
by_three P a b c zero h = a
by_three P a b c (suc zero) h = b
by_three P a b c (suc (suc zero)) h = c
by_three P a b c (suc (suc (suc i))) h = absurd (omega arith)

past_one : (x : ℕ) (i : ℕ) → 1 ≤ i → get_or (x ∷ 1 ∷ 1 ∷ []) i 1 ≡ 1
past_one x zero h = absurd (omega arith)
past_one x (suc zero) h = refl
past_one x (suc (suc zero)) h = refl
past_one x (suc (suc (suc i))) h = refl

past_two : (x y : ℕ) (i : ℕ) → 2 ≤ i → get_or (x ∷ y ∷ 1 ∷ []) i 1 ≡ 1
past_two x y zero h = absurd (omega arith)
past_two x y (suc zero) h = absurd (omega arith)
past_two x y (suc (suc zero)) h = refl
past_two x y (suc (suc (suc i))) h = refl

past_three : (x y z : ℕ) (i : ℕ) → 3 ≤ i → get_or (x ∷ y ∷ z ∷ []) i 1 ≡ 1
past_three x y z zero h = absurd (omega arith)
past_three x y z (suc zero) h = absurd (omega arith)
past_three x y z (suc (suc zero)) h = absurd (omega arith)
past_three x y z (suc (suc (suc i))) h = refl

pub sizes_good : (s : Sizes) → AreGood (sizes_view s) → AreSizes (length (sizes_view s)) (with_ones (sizes_view s))
sizes_good (One x) g =
    let a = good_one x g in
    record {
      three = refl;
      some = by_three (λ (i : ℕ). 1 ≤ get_or (x ∷ 1 ∷ 1 ∷ []) i 1) a.0 (omega arith) (omega arith);
      small = by_three (λ (i : ℕ). get_or (x ∷ 1 ∷ 1 ∷ []) i 1 ≤ 65536) a.1 (omega arith) (omega arith);
      past = past_one x;
    }
sizes_good (Two x y) g =
    let a = good_two x y g in
    record {
      three = refl;
      some = by_three (λ (i : ℕ). 1 ≤ get_or (x ∷ y ∷ 1 ∷ []) i 1) a.0 a.2 (omega arith);
      small = by_three (λ (i : ℕ). get_or (x ∷ y ∷ 1 ∷ []) i 1 ≤ 65536) a.1 a.3 (omega arith);
      past = past_two x y;
    }
sizes_good (Three x y z) g =
    let a = good_three x y z g in
    record {
      three = refl;
      some = by_three (λ (i : ℕ). 1 ≤ get_or (x ∷ y ∷ z ∷ []) i 1) a.0 a.2 a.4;
      small = by_three (λ (i : ℕ). get_or (x ∷ y ∷ z ∷ []) i 1 ≤ 65536) a.1 a.3 a.5;
      past = past_three x y z;
    }

items_same : (s : Sizes) → items_of (with_ones (sizes_view s)) ≡ product (sizes_view s)
items_same (One x) = refl
items_same (Two x y) = refl
items_same (Three x y z) = refl

neither : (a b : Bool) → (a || b) ≡ false → (a ≡ false) × (b ≡ false)
neither true b e = absurd (cc)
neither false b e = (refl, e)

divides : (x a : ℕ) → not (x % a == 0) ≡ false → x % a ≡ 0
divides x a e = (Decides-eqb (x % a) 0).0 (not_false _ e)
  where
    not_false : (b : Bool) → not b ≡ false → b ≡ true
    not_false true e = refl
    not_false false e = absurd (cc)

quotients : (g l : Sizes) → length (sizes_view l) ≡ length (sizes_view g) → divides_not (sizes_view g) (sizes_view l) ≡ false → (i : ℕ) → get_or (with_ones (sizes_view g)) i 1 % get_or (with_ones (sizes_view l)) i 1 ≡ 0
quotients (One x) (One a) s e zero = divides x a (neither _ _ e).0
quotients (One x) (One a) s e (suc zero) = refl
quotients (One x) (One a) s e (suc (suc zero)) = refl
quotients (One x) (One a) s e (suc (suc (suc i))) = refl
quotients (Two x y) (Two a b) s e zero = divides x a (neither _ _ e).0
quotients (Two x y) (Two a b) s e (suc zero) = divides y b (neither _ _ (neither _ _ e).1).0
quotients (Two x y) (Two a b) s e (suc (suc zero)) = refl
quotients (Two x y) (Two a b) s e (suc (suc (suc i))) = refl
quotients (Three x y z) (Three a b c) s e zero = divides x a (neither _ _ e).0
quotients (Three x y z) (Three a b c) s e (suc zero) = divides y b (neither _ _ (neither _ _ e).1).0
quotients (Three x y z) (Three a b c) s e (suc (suc zero)) = divides z c (neither _ _ (neither _ _ (neither _ _ e).1).1).0
quotients (Three x y z) (Three a b c) s e (suc (suc (suc i))) = refl
quotients (One x) (Two a b) s e i = absurd (omega arith)
quotients (One x) (Three a b c) s e i = absurd (omega arith)
quotients (Two x y) (One a) s e i = absurd (omega arith)
quotients (Two x y) (Three a b c) s e i = absurd (omega arith)
quotients (Three x y z) (One a) s e i = absurd (omega arith)
quotients (Three x y z) (Two a b) s e i = absurd (omega arith)

some_count : (s : Sizes) → 1 ≤ length (sizes_view s)
some_count (One x) = omega arith
some_count (Two x y) = omega arith
some_count (Three x y z) = omega arith

few_count : (s : Sizes) → length (sizes_view s) ≤ 3
few_count (One x) = omega arith
few_count (Two x y) = omega arith
few_count (Three x y z) = omega arith

-- a launch of these parts
abbrev pub made : ℕ → Sizes → Sizes → List BufferLine → List Arg → Schedule → LaunchOf
made qpus g l bs xs s =
    record {
      qpus = qpus;
      global = with_ones (sizes_view g);
      local = with_ones (sizes_view l);
      dims = length (sizes_view g);
      buffers = bs;
      args = xs;
      schedule = s;
    }

pub made_valid : (qpus : ℕ) (g l : Sizes) (bs : List BufferLine) (xs : List Arg) (s : Schedule) → IsHead qpus (sizes_view g) (sizes_view l) → IsBody bs xs (Some s) → IsLaunch (made qpus g l bs xs s)
made_valid qpus g l bs xs s h b =
    record {
      some_qpus = h.some_qpus;
      few_qpus = h.few_qpus;
      some_dims = some_count g;
      few_dims = few_count g;
      global = sizes_good g h.global;
      local = subst (λ (n : ℕ). AreSizes n (with_ones (sizes_view l))) h.same (sizes_good l h.local);
      items = subst (λ (n : ℕ). n ≤ 1048576) (sym (items_same g)) h.items;
      divides = quotients g l h.same h.divides;
      few_buffers = b.few;
      buffers = b.buffers;
      apart = b.apart;
      args = b.args;
      schedule = b.schedule;
    }

taken : (s : Sizes) → take (length (sizes_view s)) (with_ones (sizes_view s)) ≡ sizes_view s
taken (One x) = refl
taken (Two x y) = refl
taken (Three x y z) = refl

pub made_lines : (qpus : ℕ) (g l : Sizes) (bs : List BufferLine) (xs : List Arg) (s : Schedule) → length (sizes_view l) ≡ length (sizes_view g) → launch_lines (made qpus g l bs xs s) ≡ head_lines qpus (sizes_view g) (sizes_view l) ++ lines_after bs xs (Some s)
unfolding launch_lines
made_lines qpus g l bs xs s same =
    let e : take (length (sizes_view g)) (with_ones (sizes_view l)) ≡ sizes_view l = subst (λ (n : ℕ). take n (with_ones (sizes_view l)) ≡ sizes_view l) same (taken l) in
    ap (λ (ys : List ℕ). head_lines qpus ys (take (length (sizes_view g)) (with_ones (sizes_view l))) ++ lines_after bs xs (Some s)) (taken g)
    ∙ ap (λ (ys : List ℕ). head_lines qpus (sizes_view g) ys ++ lines_after bs xs (Some s)) e
