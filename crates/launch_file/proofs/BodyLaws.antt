-- The rules on the lines after the head, by what has been read.
use Rattle.std.proofs.Common.{zero, suc, ◌≡◌, ◌≢◌, ℕ, ◌+◌, ◌≤◌, ◌<◌, ◌^◌, eqb, Bool, true, false, cond, List, [], ◌∷◌, ◌++◌, map, length, take, Option, Some, None, Result, Ok, Err, sym, refl, ap, ◌∙◌, subst, arith, append_assoc}
use Rattle.std.specs.Prelude.{ℤ, not, ◌&&◌, ◌||◌, nat_le, nat_lt, nat_abs, is_some, is_none, slice_get, IfSome, Vec}
use Rattle.std.specs.List.{list_any}
use Rattle.std.proofs.lemmas.Bool.Decides.{Decides-eqb}
use Rattle.std.proofs.lemmas.Bool.{leb-false, ltb-false, le-leb, lt-leb}
use Rattle.std.proofs.lemmas.List.{length-append}
use Rattle.launch_file.specs.declared.launch.BufferLine.{BufferLine}
use Rattle.launch_file.specs.declared.launch.Arg.{Arg}
use Rattle.launch_file.specs.declared.launch.Arg.TheVariants.{Value, Buffer}
use Rattle.launch_file.specs.declared.launch.Schedule.{Schedule}
use Rattle.launch_file.specs.declared.launch.Schedule.TheVariants.{Rounds, Seed, File}
use Rattle.launch_file.specs.declared.body.Body.{Body}
use Rattle.launch_file.specs.Launches.{IsBuffer, IsArg, IsName, IsSchedule, is_written, is_name_in}
use Rattle.launch_file.specs.LineText.{Line, FirstLine, QpusLine, GlobalLine, LocalLine, BufferIs, ArgValue, ArgBuffer, RoundsLine, SeedLine, FileLine, IsProper}
use Rattle.launch_file.specs.Rules.{is_buffer, is_arg, is_schedule, buffer_count, has_output, is_taken, breaks, violates, least_rule}
use Rattle.launch_file.specs.LaunchText.{head_lines, buffer_line, arg_line, schedule_line}
use Rattle.launch_file.specs.Reading.{IsBody, Allowed, schedule_lines, lines_after, body_lines, is_written_to, is_empty, buffer_rule, value_rule, number_rule, Breaks, Takes}

-- what is said of the lines of buffers, arguments and a schedule
any_arg : (bs : List BufferLine) (xs : List Arg) (s : Option Schedule) → list_any is_arg (lines_after bs xs s) ≡ not (is_empty xs)
any_arg (b ∷ bs) xs s = any_arg bs xs s
any_arg [] (Value v ∷ xs) s = refl
any_arg [] (Buffer n ∷ xs) s = refl
any_arg [] [] (Some (Rounds n)) = refl
any_arg [] [] (Some (Seed n m)) = refl
any_arg [] [] (Some (File n m)) = refl
any_arg [] [] None = refl

pub any_schedule : (bs : List BufferLine) (xs : List Arg) (s : Option Schedule) → list_any is_schedule (lines_after bs xs s) ≡ is_some s
any_schedule (b ∷ bs) xs s = any_schedule bs xs s
any_schedule [] (Value v ∷ xs) s = any_schedule [] xs s
any_schedule [] (Buffer n ∷ xs) s = any_schedule [] xs s
any_schedule [] [] (Some (Rounds n)) = refl
any_schedule [] [] (Some (Seed n m)) = refl
any_schedule [] [] (Some (File n m)) = refl
any_schedule [] [] None = refl

count_after : (bs : List BufferLine) (xs : List Arg) (s : Option Schedule) → buffer_count (lines_after bs xs s) ≡ length bs
count_after (b ∷ bs) xs s = ap suc (count_after bs xs s)
count_after [] (Value v ∷ xs) s = count_after [] xs s
count_after [] (Buffer n ∷ xs) s = count_after [] xs s
count_after [] [] (Some (Rounds n)) = refl
count_after [] [] (Some (Seed n m)) = refl
count_after [] [] (Some (File n m)) = refl
count_after [] [] None = refl

any_output : (name : List ℕ) (bs : List BufferLine) (xs : List Arg) (s : Option Schedule) → list_any (has_output name) (lines_after bs xs s) ≡ is_written bs name
any_output name (b ∷ bs) xs s = ap (λ (t : Bool). is_name_in b.to name || t) (any_output name bs xs s)
any_output name [] (Value v ∷ xs) s = any_output name [] xs s
any_output name [] (Buffer n ∷ xs) s = any_output name [] xs s
any_output name [] [] (Some (Rounds n)) = refl
any_output name [] [] (Some (Seed n m)) = refl
any_output name [] [] (Some (File n m)) = refl
any_output name [] [] None = refl

taken_after : (to : Option (List ℕ)) (bs : List BufferLine) (xs : List Arg) (s : Option Schedule) → is_taken (lines_after bs xs s) to ≡ is_written_to bs to
taken_after (Some name) bs xs s = any_output name bs xs s
taken_after None bs xs s = refl

head_taken : (qpus : ℕ) (global local : List ℕ) (lines : List Line) (to : Option (List ℕ)) → is_taken (head_lines qpus global local ++ lines) to ≡ is_taken lines to
head_taken qpus global local lines (Some name) = refl
head_taken qpus global local lines None = refl

not_not : (b : Bool) → not (not b) ≡ b
not_not true = refl
not_not false = refl

-- four lines stand before
four : (qpus : ℕ) (global local : List ℕ) (lines : List Line) → nat_le 4 (length (head_lines qpus global local ++ lines)) ≡ true
four qpus global local lines = le-leb 4 (length (head_lines qpus global local ++ lines)) (omega arith)

-- the least rule of a buffer's line
pub least_buffer : (bs : List BufferLine) (xs : List Arg) (s : Option Schedule) (size : ℕ) (from to : Option (List ℕ)) (qpus : ℕ) (global local : List ℕ) → least_rule (head_lines qpus global local ++ lines_after bs xs s) (Some (BufferIs size from to)) ≡ buffer_rule bs xs s size to
unfolding least_rule violates breaks buffer_rule
least_buffer bs xs s size from to qpus global local =
    rw (four qpus global local (lines_after bs xs s), head_taken qpus global local (lines_after bs xs s) to, taken_after to bs xs s, count_after bs xs s, any_arg bs xs s, any_schedule bs xs s, not_not (is_empty xs)) refl

pub least_value : (bs : List BufferLine) (xs : List Arg) (s : Option Schedule) (value : ℤ) (qpus : ℕ) (global local : List ℕ) → least_rule (head_lines qpus global local ++ lines_after bs xs s) (Some (ArgValue value)) ≡ value_rule s
unfolding least_rule violates breaks value_rule
least_value bs xs s value qpus global local = rw (four qpus global local (lines_after bs xs s), any_schedule bs xs s, not_not (is_some s)) refl

pub least_number : (bs : List BufferLine) (xs : List Arg) (s : Option Schedule) (number : ℕ) (qpus : ℕ) (global local : List ℕ) → least_rule (head_lines qpus global local ++ lines_after bs xs s) (Some (ArgBuffer number)) ≡ number_rule bs s number
unfolding least_rule violates breaks number_rule
least_number bs xs s number qpus global local = rw (four qpus global local (lines_after bs xs s), any_schedule bs xs s, not_not (is_some s), count_after bs xs s) refl

pub least_schedule : (bs : List BufferLine) (xs : List Arg) (s : Option Schedule) (schedule : Schedule) (qpus : ℕ) (global local : List ℕ) → least_rule (head_lines qpus global local ++ lines_after bs xs s) (Some (schedule_line schedule)) ≡ value_rule s
unfolding least_rule violates breaks value_rule
least_schedule bs xs s (Rounds n) qpus global local = rw (four qpus global local (lines_after bs xs s), any_schedule bs xs s, not_not (is_some s)) refl
least_schedule bs xs s (Seed n m) qpus global local = rw (four qpus global local (lines_after bs xs s), any_schedule bs xs s, not_not (is_some s)) refl
least_schedule bs xs s (File n m) qpus global local = rw (four qpus global local (lines_after bs xs s), any_schedule bs xs s, not_not (is_some s)) refl

buffer_none : (bs : List BufferLine) (xs : List Arg) (s : Option Schedule) (size : ℕ) (to : Option (List ℕ)) → buffer_rule bs xs s size to ≡ None → (xs ≡ []) × (s ≡ None) × (length bs < 16) × (size ≤ 16777216) × (is_written_to bs to ≡ false)
unfolding buffer_rule
buffer_none bs (x ∷ xs) s size to e = absurd (cc)
buffer_none bs [] (Some s) size to e = absurd (cc)
buffer_none bs [] None size to e = let r = by_tests (nat_le 16 (length bs)) (nat_lt 16777216 size) (is_written_to bs to) refl refl refl e in (refl, refl, r.0, r.1, r.2)
  where
    by_tests : (a b c : Bool) → nat_le 16 (length bs) ≡ a → nat_lt 16777216 size ≡ b → is_written_to bs to ≡ c → cond {A = Option ℕ} a (Some 6) (cond {A = Option ℕ} b (Some 7) (cond {A = Option ℕ} c (Some 12) None)) ≡ None → (length bs < 16) × (size ≤ 16777216) × (is_written_to bs to ≡ false)
    by_tests true b c p q r h = absurd (cc)
    by_tests false true c p q r h = absurd (cc)
    by_tests false false true p q r h = absurd (cc)
    by_tests false false false p q r h = (leb-false 16 (length bs) p, ltb-false 16777216 size q, r)

-- one more buffer, where nothing follows the buffers
pub lines_push-buffer : (bs : List BufferLine) (b : BufferLine) → lines_after (bs ++ b ∷ []) [] None ≡ lines_after bs [] None ++ buffer_line b ∷ []
lines_push-buffer [] b = refl
lines_push-buffer (x ∷ bs) b = ap (λ (ls : List Line). buffer_line x ∷ ls) (lines_push-buffer bs b)

-- one more argument, where no schedule follows
pub lines_push-arg : (bs : List BufferLine) (xs : List Arg) (x : Arg) → lines_after bs (xs ++ x ∷ []) None ≡ lines_after bs xs None ++ arg_line x ∷ []
lines_push-arg (b ∷ bs) xs x = ap (λ (ls : List Line). buffer_line b ∷ ls) (lines_push-arg bs xs x)
lines_push-arg [] [] x = refl
lines_push-arg [] (y ∷ xs) x = ap (λ (ls : List Line). arg_line y ∷ ls) (lines_push-arg [] xs x)

-- the schedule at the end
lines_push-schedule : (bs : List BufferLine) (xs : List Arg) (s : Schedule) → lines_after bs xs (Some s) ≡ lines_after bs xs None ++ schedule_line s ∷ []
lines_push-schedule (b ∷ bs) xs s = ap (λ (ls : List Line). buffer_line b ∷ ls) (lines_push-schedule bs xs s)
lines_push-schedule [] (y ∷ xs) s = ap (λ (ls : List Line). arg_line y ∷ ls) (lines_push-schedule [] xs s)
lines_push-schedule [] [] s = refl

-- what holds at each index, also at a further one
each_push : {X : Type 0} (P : X → Type 0) (xs : List X) (x : X) → ((i : ℕ) → IfSome (slice_get xs i) P) → P x → (i : ℕ) → IfSome (slice_get (xs ++ x ∷ []) i) P
each_push P [] x each here zero = here
each_push P [] x each here (suc i) = tt
each_push P (y ∷ xs) x each here zero = each 0
each_push P (y ∷ xs) x each here (suc i) = each_push P xs x (λ k. each (suc k)) here i

-- the same where it speaks of the elements before
front_push : {X : Type 0} (P : List X → X → Type 0) (front xs : List X) (x : X) → ((i : ℕ) → IfSome (slice_get xs i) (P (front ++ take i xs))) → P (front ++ xs) x → (i : ℕ) → IfSome (slice_get (xs ++ x ∷ []) i) (P (front ++ take i (xs ++ x ∷ [])))
front_push P front [] x each here zero = here
front_push P front [] x each here (suc i) = tt
front_push P front (y ∷ xs) x each here zero = each 0
front_push {X = X} P front (y ∷ xs) x each here (suc i) =
    let moved = λ (k : ℕ). subst (λ (ls : List X). IfSome (slice_get xs k) (P ls)) (sym (append_assoc front (y ∷ []) (take k xs))) (each (suc k)) in
    let last = subst (λ (ls : List X). P ls x) (sym (append_assoc front (y ∷ []) xs)) here in
    subst (λ (ls : List X). IfSome (slice_get (xs ++ x ∷ []) i) (P ls)) (append_assoc front (y ∷ []) (take i (xs ++ x ∷ []))) (front_push P (front ++ y ∷ []) xs x moved last i)

small_buffer : (b : BufferLine) → b.size ≤ 16777216 → IsProper (buffer_line b) → IsBuffer b
small_buffer b h p = record { small = h; from = p.1; to = p.2 }

not_written : (bs : List BufferLine) (to : Option (List ℕ)) → is_written_to bs to ≡ false → IfSome to (λ name. is_written bs name ≡ false)
not_written bs (Some name) e = e
not_written bs None e = tt

body_push-buffer : (bs : List BufferLine) (b : BufferLine) → length bs < 16 → b.size ≤ 16777216 → is_written_to bs b.to ≡ false → IsBody bs [] None → IsProper (buffer_line b) → IsBody (bs ++ b ∷ []) [] None
body_push-buffer bs b few small apart body proper =
    record {
      few = simp length-append (omega arith);
      buffers = each_push IsBuffer bs b body.buffers (small_buffer b small proper);
      apart = front_push (λ (front : List BufferLine) (x : BufferLine). IfSome x.to (λ name. is_written front name ≡ false)) [] bs b body.apart (not_written bs b.to apart);
      args = λ i. tt;
      schedule = tt;
    }

-- a buffer that violates no rule is taken
takes_buffer : (bs : List BufferLine) (xs : List Arg) (s : Option Schedule) (b : BufferLine) → buffer_rule bs xs s b.size b.to ≡ None → IsBody bs xs s → IsProper (buffer_line b) → IsBody (bs ++ b ∷ []) xs s × (lines_after (bs ++ b ∷ []) xs s ≡ lines_after bs xs s ++ buffer_line b ∷ [])
takes_buffer bs (x ∷ xs) s b e body proper = absurd (cc (buffer_none bs (x ∷ xs) s b.size b.to e).0)
takes_buffer bs [] (Some s) b e body proper = absurd (cc (buffer_none bs [] (Some s) b.size b.to e).1)
takes_buffer bs [] None b e body proper =
    let n = buffer_none bs [] None b.size b.to e in
    (body_push-buffer bs b n.2 n.3 n.4 body proper, lines_push-buffer bs b)

pub taken_buffer : (bs new : List BufferLine) (xs : List Arg) (s : Option Schedule) (size : ℕ) (from to f t : Option (List ℕ)) → buffer_rule bs xs s size to ≡ None → IsBody bs xs s → IsProper (BufferIs size from to) → f ≡ from → t ≡ to → new ≡ bs ++ record { size = size; from = f; to = t } ∷ [] → IsBody new xs s × (lines_after new xs s ≡ lines_after bs xs s ++ BufferIs size from to ∷ []) × ((qpus : ℕ) (global local : List ℕ) → least_rule (head_lines qpus global local ++ lines_after bs xs s) (Some (BufferIs size from to)) ≡ None)
taken_buffer bs new xs s size from to f t e body proper p q is =
    let b = takes_buffer bs xs s (record { size = size; from = from; to = to }) e body proper in
    rw (is, p, q) (b.0, b.1, λ qpus global local. least_buffer bs xs s size from to qpus global local ∙ e)

body_push-arg : (bs : List BufferLine) (xs : List Arg) (x : Arg) → IsBody bs xs None → IsArg (length bs) x → IsBody bs (xs ++ x ∷ []) None
body_push-arg bs xs x body proper =
    record {
      few = body.few;
      buffers = body.buffers;
      apart = body.apart;
      args = each_push (IsArg (length bs)) xs x body.args proper;
      schedule = tt;
    }

body_push-schedule : (bs : List BufferLine) (xs : List Arg) (s : Schedule) → IsBody bs xs None → IsSchedule s → IsBody bs xs (Some s)
body_push-schedule bs xs s body proper =
    record {
      few = body.few;
      buffers = body.buffers;
      apart = body.apart;
      args = body.args;
      schedule = proper;
    }

pub taken_value : (bs : List BufferLine) (xs new : List Arg) (s : Option Schedule) (value : ℤ) → is_some s ≡ false → IsBody bs xs s → nat_abs value < 2 ^ 64 → new ≡ xs ++ Value value ∷ [] → IsBody bs new s × (lines_after bs new s ≡ lines_after bs xs s ++ ArgValue value ∷ []) × ((qpus : ℕ) (global local : List ℕ) → least_rule (head_lines qpus global local ++ lines_after bs xs s) (Some (ArgValue value)) ≡ None)
unfolding value_rule
taken_value bs xs new (Some s) value e body proper is = absurd (cc)
taken_value bs xs new None value e body proper is =
    rw is (body_push-arg bs xs (Value value) body proper, lines_push-arg bs xs (Value value), λ qpus global local. least_value bs xs None value qpus global local)

pub taken_number : (bs : List BufferLine) (xs new : List Arg) (s : Option Schedule) (number : ℕ) → is_some s ≡ false → IsBody bs xs s → number < length bs → new ≡ xs ++ Buffer number ∷ [] → IsBody bs new s × (lines_after bs new s ≡ lines_after bs xs s ++ ArgBuffer number ∷ []) × ((qpus : ℕ) (global local : List ℕ) → least_rule (head_lines qpus global local ++ lines_after bs xs s) (Some (ArgBuffer number)) ≡ None)
unfolding number_rule
taken_number bs xs new (Some s) number e body proper is = absurd (cc)
taken_number bs xs new None number e body proper is =
    rw is (body_push-arg bs xs (Buffer number) body proper, lines_push-arg bs xs (Buffer number), λ qpus global local. least_number bs xs None number qpus global local ∙ rw (lt-leb (length bs) number proper) refl)

pub taken_schedule : (bs : List BufferLine) (xs : List Arg) (s : Option Schedule) (schedule : Schedule) → is_some s ≡ false → IsBody bs xs s → IsSchedule schedule → IsBody bs xs (Some schedule) × (lines_after bs xs (Some schedule) ≡ lines_after bs xs s ++ schedule_line schedule ∷ []) × ((qpus : ℕ) (global local : List ℕ) → least_rule (head_lines qpus global local ++ lines_after bs xs s) (Some (schedule_line schedule)) ≡ None)
unfolding value_rule
taken_schedule bs xs (Some s) schedule e body proper = absurd (cc)
taken_schedule bs xs None schedule e body proper =
    (body_push-schedule bs xs schedule body proper, lines_push-schedule bs xs schedule, λ qpus global local. least_schedule bs xs None schedule qpus global local)

-- where the schedule stands, nothing else may
pub late_value : (bs : List BufferLine) (xs : List Arg) (s : Option Schedule) (value : ℤ) → is_some s ≡ true → (qpus : ℕ) (global local : List ℕ) → least_rule (head_lines qpus global local ++ lines_after bs xs s) (Some (ArgValue value)) ≡ Some 1
unfolding value_rule
late_value bs xs (Some s) value e qpus global local = least_value bs xs (Some s) value qpus global local
late_value bs xs None value e qpus global local = absurd (cc)

pub late_number : (bs : List BufferLine) (xs : List Arg) (s : Option Schedule) (number : ℕ) → is_some s ≡ true → (qpus : ℕ) (global local : List ℕ) → least_rule (head_lines qpus global local ++ lines_after bs xs s) (Some (ArgBuffer number)) ≡ Some 1
unfolding number_rule
late_number bs xs (Some s) number e qpus global local = least_number bs xs (Some s) number qpus global local
late_number bs xs None number e qpus global local = absurd (cc)

pub late_schedule : (bs : List BufferLine) (xs : List Arg) (s : Option Schedule) (schedule : Schedule) → is_some s ≡ true → (qpus : ℕ) (global local : List ℕ) → least_rule (head_lines qpus global local ++ lines_after bs xs s) (Some (schedule_line schedule)) ≡ Some 1
unfolding value_rule
late_schedule bs xs (Some s) schedule e qpus global local = least_schedule bs xs (Some s) schedule qpus global local
late_schedule bs xs None schedule e qpus global local = absurd (cc)

-- the number is that of no buffer
pub other_number : (bs : List BufferLine) (xs : List Arg) (s : Option Schedule) (number : ℕ) → is_some s ≡ false → length bs ≤ number → (qpus : ℕ) (global local : List ℕ) → least_rule (head_lines qpus global local ++ lines_after bs xs s) (Some (ArgBuffer number)) ≡ Some 11
unfolding number_rule
other_number bs xs (Some s) number e h qpus global local = absurd (cc)
other_number bs xs None number e h qpus global local = least_number bs xs None number qpus global local ∙ rw (le-leb (length bs) number h) refl

-- a line that isn't of the head
abbrev pub may_stand_late : Line → Bool
may_stand_late FirstLine = false
may_stand_late (QpusLine n) = false
may_stand_late (GlobalLine n) = false
may_stand_late (LocalLine n) = false
may_stand_late (BufferIs size from to) = true
may_stand_late (ArgValue n) = true
may_stand_late (ArgBuffer n) = true
may_stand_late (RoundsLine n) = true
may_stand_late (SeedLine n m) = true
may_stand_late (FileLine n m) = true

not_true : (b : Bool) → (b ≡ true → ⊥) → b ≡ false
not_true true h = absurd (h refl)
not_true false h = refl

far : (qpus : ℕ) (global local : List ℕ) (lines : List Line) (n : ℕ) → n < 4 → eqb (length (head_lines qpus global local ++ lines)) n ≡ false
far qpus global local lines n h = not_true _ (λ e. let same = (Decides-eqb (length (head_lines qpus global local ++ lines)) n).0 e in omega arith)

-- a line of the head has its place before these
pub late_head : (bs : List BufferLine) (xs : List Arg) (s : Option Schedule) (line : Line) → may_stand_late line ≡ false → (qpus : ℕ) (global local : List ℕ) → least_rule (head_lines qpus global local ++ lines_after bs xs s) (Some line) ≡ Some 1
unfolding least_rule violates breaks
late_head bs xs s FirstLine e qpus global local = rw (far qpus global local (lines_after bs xs s) 0 (omega arith)) refl
late_head bs xs s (QpusLine n) e qpus global local = rw (far qpus global local (lines_after bs xs s) 1 (omega arith)) refl
late_head bs xs s (GlobalLine n) e qpus global local = rw (far qpus global local (lines_after bs xs s) 2 (omega arith)) refl
late_head bs xs s (LocalLine n) e qpus global local = rw (far qpus global local (lines_after bs xs s) 3 (omega arith)) refl
late_head bs xs s (BufferIs size from to) e qpus global local = absurd (cc)
late_head bs xs s (ArgValue n) e qpus global local = absurd (cc)
late_head bs xs s (ArgBuffer n) e qpus global local = absurd (cc)
late_head bs xs s (RoundsLine n) e qpus global local = absurd (cc)
late_head bs xs s (SeedLine n m) e qpus global local = absurd (cc)
late_head bs xs s (FileLine n m) e qpus global local = absurd (cc)
