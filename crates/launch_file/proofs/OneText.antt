-- No two valid launches have one text.
use Rattle.std.proofs.Common.{zero, suc, ◌≡◌, ℕ, ◌+◌, ◌≤◌, ◌<◌, eqb, Bool, true, false, cond, List, [], ◌∷◌, ◌++◌, map, length, take, get_or, Option, Some, None, sym, refl, ap, ◌∙◌, subst, arith, append_assoc}
use Rattle.std.specs.List.{slice_split, join_with_byte}
use Rattle.std.proofs.lemmas.List.{length-append}
use Rattle.std.proofs.lemmas.List.Splits.{join_with_byte-slice_split}
use Rattle.std.proofs.lemmas.Option.{same_Some}
use Rattle.launch_file.specs.declared.launch.BufferLine.{BufferLine}
use Rattle.launch_file.specs.declared.launch.Arg.{Arg}
use Rattle.launch_file.specs.declared.launch.Arg.TheVariants.{Value, Buffer}
use Rattle.launch_file.specs.declared.launch.Schedule.{Schedule}
use Rattle.launch_file.specs.declared.launch.Schedule.TheVariants.{Rounds, Seed, File}
use Rattle.launch_file.specs.Launches.{LaunchOf, IsLaunch, AreSizes, with_ones}
use Rattle.launch_file.specs.LineText.{Line, FirstLine, QpusLine, GlobalLine, LocalLine, BufferIs, ArgValue, ArgBuffer, RoundsLine, SeedLine, FileLine, IsProper, line_text, line_of}
use Rattle.launch_file.specs.LaunchText.{head_lines, buffer_line, arg_line, schedule_line, ended, lines_text, launch_lines, launch_text}
use Rattle.launch_file.proofs.LineBack.{split_piece, text-lacks, line_of-text}
use Rattle.launch_file.proofs.LaunchBack.{Clean, lines-clean, count_taken}

abbrev pub AreProper : List Line → Type 0
AreProper [] = Unit {0}
AreProper (line ∷ lines) = IsProper line × AreProper lines

proper_lines : (before lines : List Line) → Clean before lines → AreProper lines
proper_lines before [] c = tt
proper_lines before (line ∷ lines) c = (c.0, proper_lines (before ++ line ∷ []) lines c.2)

cut_line : (line : Line) (rest : List ℕ) → IsProper line → slice_split (λ (x : ℕ). eqb x 10) (ended line ++ rest) ≡ line_text line ∷ slice_split (λ (x : ℕ). eqb x 10) rest
cut_line line rest h = ap (slice_split (λ (x : ℕ). eqb x 10)) (append_assoc (line_text line) (10 ∷ []) rest) ∙ split_piece 10 (line_text line) rest (text-lacks line h)

same_cons : (xs ys : List ℕ) (xss yss : List (List ℕ)) → xs ∷ xss ≡ ys ∷ yss → (xs ≡ ys) × (xss ≡ yss)
same_cons xs ys xss yss e = (cc, cc)

first_same : (l m : Line) (r s : List ℕ) → IsProper l → IsProper m → ended l ++ r ≡ ended m ++ s → (l ≡ m) × (r ≡ s)
first_same l m r s hl hm e =
    let parts = same_cons _ _ _ _ (sym (cut_line l r hl) ∙ ap (slice_split (λ (x : ℕ). eqb x 10)) e ∙ cut_line m s hm) in (
      same_Some l m (sym (line_of-text l hl) ∙ ap line_of parts.0 ∙ line_of-text m hm),
      sym (join_with_byte-slice_split 10 r) ∙ ap (join_with_byte 10) parts.1 ∙ join_with_byte-slice_split 10 s,
    )

not_empty : (l : Line) (r : List ℕ) → ended l ++ r ≡ [] → ⊥
not_empty l r e = omega (arith, simp length-append at (ap length e))

-- lines are known by their text
pub lines_same : (ls ms : List Line) → AreProper ls → AreProper ms → lines_text ls ≡ lines_text ms → ls ≡ ms
lines_same [] [] a b e = refl
lines_same [] (m ∷ ms) a b e = absurd (not_empty m (lines_text ms) (sym e))
lines_same (l ∷ ls) [] a b e = absurd (not_empty l (lines_text ls) e)
lines_same (l ∷ ls) (m ∷ ms) a b e =
    let f = first_same l m (lines_text ls) (lines_text ms) a.0 b.0 e in
    let later = lines_same ls ms a.1 b.1 f.1 in
    let first = f.0 in
    cc

same_heads : (l m : Line) (ls ms : List Line) → l ∷ ls ≡ m ∷ ms → (l ≡ m) × (ls ≡ ms)
same_heads l m ls ms e = (cc, cc)

abbrev buffer_back : BufferLine → Line → BufferLine
buffer_back other (BufferIs size from to) = record { size = size; from = from; to = to }
buffer_back other line = other

same_buffer : (a b : BufferLine) → buffer_line a ≡ buffer_line b → a ≡ b
same_buffer a b e = ap (buffer_back a) e

same_arg : (x y : Arg) → arg_line x ≡ arg_line y → x ≡ y
same_arg (Value v) (Value w) e = cc
same_arg (Value v) (Buffer w) e = absurd (cc)
same_arg (Buffer v) (Value w) e = absurd (cc)
same_arg (Buffer v) (Buffer w) e = cc

same_schedule : (s t : Schedule) → schedule_line s ≡ schedule_line t → s ≡ t
same_schedule (Rounds a) (Rounds b) e = cc
same_schedule (Rounds a) (Seed b c) e = absurd (cc)
same_schedule (Rounds a) (File b c) e = absurd (cc)
same_schedule (Seed a d) (Rounds b) e = absurd (cc)
same_schedule (Seed a d) (Seed b c) e = cc
same_schedule (Seed a d) (File b c) e = absurd (cc)
same_schedule (File a d) (Rounds b) e = absurd (cc)
same_schedule (File a d) (Seed b c) e = absurd (cc)
same_schedule (File a d) (File b c) e = cc

arg_or_schedule : (x : Arg) (s : Schedule) → arg_line x ≡ schedule_line s → ⊥
arg_or_schedule (Value v) (Rounds a) e = cc
arg_or_schedule (Value v) (Seed a b) e = cc
arg_or_schedule (Value v) (File a b) e = cc
arg_or_schedule (Buffer v) (Rounds a) e = cc
arg_or_schedule (Buffer v) (Seed a b) e = cc
arg_or_schedule (Buffer v) (File a b) e = cc

buffer_or_arg : (b : BufferLine) (x : Arg) → buffer_line b ≡ arg_line x → ⊥
buffer_or_arg b (Value v) e = cc
buffer_or_arg b (Buffer v) e = cc

buffer_or_schedule : (b : BufferLine) (s : Schedule) → buffer_line b ≡ schedule_line s → ⊥
buffer_or_schedule b (Rounds v) e = cc
buffer_or_schedule b (Seed v w) e = cc
buffer_or_schedule b (File v w) e = cc

same_args : (xs ys : List Arg) (s t : Schedule) → map arg_line xs ++ schedule_line s ∷ [] ≡ map arg_line ys ++ schedule_line t ∷ [] → (xs ≡ ys) × (s ≡ t)
same_args [] [] s t e = (refl, same_schedule s t (same_heads _ _ _ _ e).0)
same_args [] (y ∷ ys) s t e = absurd (arg_or_schedule y s (sym (same_heads _ _ _ _ e).0))
same_args (x ∷ xs) [] s t e = absurd (arg_or_schedule x t (same_heads _ _ _ _ e).0)
same_args (x ∷ xs) (y ∷ ys) s t e =
    let h = same_heads _ _ _ _ e in
    let first = same_arg x y h.0 in
    let later = same_args xs ys s t h.1 in
    let rest = later.0 in
    (cc, later.1)

same_tail : (bs cs : List BufferLine) (xs ys : List Arg) (s t : Schedule) → map buffer_line bs ++ (map arg_line xs ++ schedule_line s ∷ []) ≡ map buffer_line cs ++ (map arg_line ys ++ schedule_line t ∷ []) → (bs ≡ cs) × (xs ≡ ys) × (s ≡ t)
same_tail [] [] xs ys s t e = let h = same_args xs ys s t e in (refl, h.0, h.1)
same_tail [] (c ∷ cs) [] ys s t e = absurd (buffer_or_schedule c s (sym (same_heads _ _ _ _ e).0))
same_tail [] (c ∷ cs) (x ∷ xs) ys s t e = absurd (buffer_or_arg c x (sym (same_heads _ _ _ _ e).0))
same_tail (b ∷ bs) [] xs [] s t e = absurd (buffer_or_schedule b t (same_heads _ _ _ _ e).0)
same_tail (b ∷ bs) [] xs (y ∷ ys) s t e = absurd (buffer_or_arg b y (same_heads _ _ _ _ e).0)
same_tail (b ∷ bs) (c ∷ cs) xs ys s t e =
    let h = same_heads _ _ _ _ e in
    let first = same_buffer b c h.0 in
    let later = same_tail bs cs xs ys s t h.1 in
    let rest = later.0 in
    (cc, later.1, later.2)

-- three sizes are known by those that are named
ones_back : (d : ℕ) (xs : List ℕ) → 1 ≤ d → d ≤ 3 → AreSizes d xs → with_ones (take d xs) ≡ xs
ones_back d [] sd fd a = absurd (omega (arith, a.three))
ones_back d (x ∷ []) sd fd a = absurd (omega (arith, a.three))
ones_back d (x ∷ y ∷ []) sd fd a = absurd (omega (arith, a.three))
ones_back d (x ∷ y ∷ z ∷ w ∷ xs) sd fd a = absurd (omega (arith, a.three))
ones_back zero (x ∷ y ∷ z ∷ []) sd fd a = absurd (omega arith)
ones_back (suc zero) (x ∷ y ∷ z ∷ []) sd fd a = let p : y ≡ 1 = a.past 1 (omega arith) in let q : z ≡ 1 = a.past 2 (omega arith) in cc
ones_back (suc (suc zero)) (x ∷ y ∷ z ∷ []) sd fd a = let q : z ≡ 1 = a.past 2 (omega arith) in cc
ones_back (suc (suc (suc zero))) (x ∷ y ∷ z ∷ []) sd fd a = refl
ones_back (suc (suc (suc (suc d)))) (x ∷ y ∷ z ∷ []) sd fd a = absurd (omega arith)

head_same : (q r : ℕ) (g h l m : List ℕ) (ls ms : List Line) → head_lines q g l ++ ls ≡ head_lines r h m ++ ms → (q ≡ r) × (g ≡ h) × (l ≡ m) × (ls ≡ ms)
head_same q r g h l m ls ms e = (cc, cc, cc, cc)

records_same : (a b : LaunchOf) → a.qpus ≡ b.qpus → a.global ≡ b.global → a.local ≡ b.local → a.dims ≡ b.dims → a.buffers ≡ b.buffers → a.args ≡ b.args → a.schedule ≡ b.schedule → a ≡ b
records_same a b p q r s t u v =
    ap (λ (x : ℕ). record a { qpus = x }) p
    ∙ ap (λ (x : List ℕ). record a { qpus = b.qpus; global = x }) q
    ∙ ap (λ (x : List ℕ). record a { qpus = b.qpus; global = b.global; local = x }) r
    ∙ ap (λ (x : ℕ). record a { qpus = b.qpus; global = b.global; local = b.local; dims = x }) s
    ∙ ap (λ (x : List BufferLine). record a { qpus = b.qpus; global = b.global; local = b.local; dims = b.dims; buffers = x }) t
    ∙ ap (λ (x : List Arg). record a { qpus = b.qpus; global = b.global; local = b.local; dims = b.dims; buffers = b.buffers; args = x }) u
    ∙ ap (λ (x : Schedule). record a { qpus = b.qpus; global = b.global; local = b.local; dims = b.dims; buffers = b.buffers; args = b.args; schedule = x }) v

lines_launch : (a b : LaunchOf) → IsLaunch a → IsLaunch b → launch_lines a ≡ launch_lines b → a ≡ b
unfolding launch_lines
lines_launch a b ha hb e =
    let h = head_same a.qpus b.qpus _ _ _ _ _ _ e in
    let t = same_tail a.buffers b.buffers a.args b.args a.schedule b.schedule h.3 in
    let dims = sym (count_taken a.dims a.global ha.global.three ha.few_dims) ∙ ap length h.1 ∙ count_taken b.dims b.global hb.global.three hb.few_dims in
    let global = sym (ones_back a.dims a.global ha.some_dims ha.few_dims ha.global) ∙ ap with_ones h.1 ∙ ones_back b.dims b.global hb.some_dims hb.few_dims hb.global in
    let local = sym (ones_back a.dims a.local ha.some_dims ha.few_dims ha.local) ∙ ap with_ones h.2 ∙ ones_back b.dims b.local hb.some_dims hb.few_dims hb.local in
    records_same a b h.0 global local dims t.0 t.1 t.2

-- one launch per text
pub one_launch : (a b : LaunchOf) → IsLaunch a → IsLaunch b → launch_text a ≡ launch_text b → a ≡ b
unfolding launch_text
one_launch a b ha hb e =
    lines_launch a b ha hb (lines_same (launch_lines a) (launch_lines b) (proper_lines [] (launch_lines a) (lines-clean a ha)) (proper_lines [] (launch_lines b) (lines-clean b hb)) e)
