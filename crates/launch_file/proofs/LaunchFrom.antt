-- A file without a fault is the text of a valid launch.
use Rattle.std.proofs.Common.{zero, suc, ◌≡◌, ℕ, ◌+◌, ◌*◌, ◌%◌, ◌≤◌, ◌<◌, ◌^◌, eqb, Bool, true, false, cond, List, [], ◌∷◌, ◌++◌, map, length, take, Option, Some, None, inl, inr, ◌⊎◌, sym, refl, ap, ◌∙◌, subst, arith, append_assoc, append-nil}
use Rattle.std.specs.Prelude.{ℤ, not, ◌&&◌, ◌||◌, nat_le, nat_lt, nat_abs, is_some, bytes_eq, option_and_then}
use Rattle.std.specs.List.{list_any, slice_split, join_with_byte}
use Rattle.std.proofs.lemmas.Bool.{leb-true, ltb-false, leb-false}
use Rattle.std.proofs.lemmas.Bool.Decides.{Decides-eqb}
use Rattle.std.proofs.lemmas.Slice.Eq.{bytes_eq-Decides}
use Rattle.std.proofs.lemmas.List.Splits.{join_with_byte-slice_split}
use Rattle.launch_file.specs.declared.launch.BufferLine.{BufferLine}
use Rattle.launch_file.specs.declared.launch.Arg.{Arg}
use Rattle.launch_file.specs.declared.launch.Arg.TheVariants.{Value, Buffer}
use Rattle.launch_file.specs.declared.launch.Schedule.{Schedule}
use Rattle.launch_file.specs.declared.launch.Schedule.TheVariants.{Rounds, Seed, File}
use Rattle.launch_file.specs.declared.lines.Sizes.{Sizes}
use Rattle.launch_file.specs.declared.lines.Sizes.TheVariants.{One, Two, Three}
use Rattle.launch_file.specs.Launches.{LaunchOf, IsLaunch, IsSchedule}
use Rattle.launch_file.specs.LineText.{Line, FirstLine, QpusLine, GlobalLine, LocalLine, BufferIs, ArgValue, ArgBuffer, RoundsLine, SeedLine, FileLine, IsProper, AreNumbers, line_text, line_of}
use Rattle.launch_file.specs.Rules.{is_bad_size, product, divides_not, breaks, violates, least_rule, fault_or, fault_from, fault_in, is_whole, first_fault}
use Rattle.launch_file.specs.LaunchText.{head_lines, buffer_line, arg_line, schedule_line, ended, lines_text, launch_lines, launch_text}
use Rattle.launch_file.specs.Reading.{IsHead, IsBody, lines_after, buffer_rule, value_rule, number_rule}
use Rattle.launch_file.specs.Views.{sizes_view}
use Rattle.launch_file.proofs.Cuts.{some_part}
use Rattle.launch_file.proofs.LineLaws.{line_of-some}
use Rattle.launch_file.proofs.LineSteps.{lines_text-push}
use Rattle.launch_file.proofs.BodyLaws.{any_schedule, least_buffer, least_value, least_number, least_schedule, late_head, taken_buffer, taken_value, taken_number, taken_schedule}
use Rattle.launch_file.proofs.WholeLaws.{made, made_valid, made_lines}

-- the first of the pieces is this line, of a form, and violates no rule; the others have no fault after it
pub record NextIs (before : List Line) (pieces : List (List ℕ)) (line : Line) (later : List (List ℕ)) : Type 0 where
  pub text : join_with_byte 10 pieces ≡ ended line ++ join_with_byte 10 later
  pub some : 1 ≤ length later
  pub proper : IsProper line
  pub allowed : least_rule before (Some line) ≡ None
  pub none : fault_from (before ++ line ∷ []) later ≡ None
  pub shorter : length later + 1 ≡ length pieces

-- nothing is left, and the schedule stands
pub record IsOver (before : List Line) (pieces : List (List ℕ)) : Type 0 where
  pub empty : join_with_byte 10 pieces ≡ []
  pub whole : is_whole before ≡ true

after_rule : (r : Option ℕ) (n : ℕ) (f : Option (ℕ × ℕ)) → fault_or r n f ≡ None → (r ≡ None) × (f ≡ None)
after_rule (Some r) n f e = absurd (cc)
after_rule None n f e = (refl, e)

joined : (piece next : List ℕ) (pieces : List (List ℕ)) (line : Line) → piece ≡ line_text line → join_with_byte 10 (piece ∷ next ∷ pieces) ≡ ended line ++ join_with_byte 10 (next ∷ pieces)
joined piece next pieces line e =
    ap (λ (xs : List ℕ). xs ++ 10 ∷ join_with_byte 10 (next ∷ pieces)) e ∙ sym (append_assoc (line_text line) (10 ∷ []) (join_with_byte 10 (next ∷ pieces)))

at_end : (a b : Bool) (n : ℕ) → cond {A = Option (ℕ × ℕ)} (a && b) None (Some (1, n)) ≡ None → (a ≡ true) × (b ≡ true)
at_end true true n e = (refl, refl)
at_end true false n e = absurd (cc)
at_end false b n e = absurd (cc)

pub next_of : (before : List Line) (pieces : List (List ℕ)) → 1 ≤ length pieces → fault_from before pieces ≡ None → ((line : Line) × (later : List (List ℕ)) × NextIs before pieces line later) ⊎ IsOver before pieces
unfolding fault_from least_rule violates
next_of before [] some e = absurd (omega arith)
next_of before (piece ∷ []) some e =
    let b = at_end (bytes_eq piece []) (is_whole before) _ e in
    inr (record { empty = (bytes_eq-Decides piece []).0 b.0; whole = b.1 })
next_of before (piece ∷ next ∷ pieces) some e = by_line (line_of piece) refl e
  where
    by_line : (o : Option Line) → line_of piece ≡ o → fault_or (least_rule before o) (length before + 1) (option_and_then (λ line. fault_from (before ++ line ∷ []) (next ∷ pieces)) o) ≡ None → ((line : Line) × (later : List (List ℕ)) × NextIs before (piece ∷ next ∷ pieces) line later) ⊎ IsOver before (piece ∷ next ∷ pieces)
    by_line None p h = absurd (cc)
    by_line (Some line) p h =
        let r = after_rule (least_rule before (Some line)) _ _ h in
        let s = line_of-some piece line p in
        inl (
          line,
          next ∷ pieces,
          record {
            text = joined piece next pieces line s.0;
            some = omega arith;
            proper = s.1;
            allowed = r.0;
            none = r.1;
            shorter = omega arith;
          },
        )

-- what follows these lines makes a whole launch
pub record Rest (bs : List BufferLine) (xs : List Arg) (s : Option Schedule) (pieces : List (List ℕ)) : Type 0 where
  pub buffers : List BufferLine
  pub args : List Arg
  pub end : Schedule
  pub lines : List Line
  pub body : IsBody buffers args (Some end)
  pub same : lines_after buffers args (Some end) ≡ lines_after bs xs s ++ lines
  pub text : join_with_byte 10 pieces ≡ lines_text lines

-- with one more line before it
rest_more : (bs cs : List BufferLine) (xs ys : List Arg) (s t : Option Schedule) (pieces later : List (List ℕ)) (line : Line) → lines_after cs ys t ≡ lines_after bs xs s ++ line ∷ [] → join_with_byte 10 pieces ≡ ended line ++ join_with_byte 10 later → Rest cs ys t later → Rest bs xs s pieces
rest_more bs cs xs ys s t pieces later line e joins r =
    record {
      buffers = r.buffers;
      args = r.args;
      end = r.end;
      lines = line ∷ r.lines;
      body = r.body;
      same = r.same ∙ ap (λ (ls : List Line). ls ++ r.lines) e ∙ append_assoc (lines_after bs xs s) (line ∷ []) r.lines;
      text = joins ∙ ap (λ (ws : List ℕ). ended line ++ ws) r.text;
    }

open_schedule : (s : Option Schedule) → value_rule s ≡ None → is_some s ≡ false
unfolding value_rule
open_schedule (Some s) e = absurd (cc)
open_schedule None e = refl

open_number : (bs : List BufferLine) (s : Option Schedule) (n : ℕ) → number_rule bs s n ≡ None → (is_some s ≡ false) × (n < length bs)
unfolding number_rule
open_number bs (Some s) n e = absurd (cc)
open_number bs None n e = (refl, leb-false (length bs) n (not_less (nat_le (length bs) n) e))
  where
    not_less : (b : Bool) → cond {A = Option ℕ} b (Some 11) None ≡ None → b ≡ false
    not_less true h = absurd (cc)
    not_less false h = refl

-- the answer to a next line, by its kind
abbrev pub Onwards : ℕ → List ℕ → List ℕ → List (List ℕ) → Type 0
Onwards qpus global local later = (bs : List BufferLine) (xs : List Arg) (s : Option Schedule) → IsBody bs xs s → fault_from (head_lines qpus global local ++ lines_after bs xs s) later ≡ None → Rest bs xs s later

moved : (qpus : ℕ) (global local : List ℕ) (later : List (List ℕ)) (ls ms : List Line) (line : Line) → ms ≡ ls ++ line ∷ [] → fault_from ((head_lines qpus global local ++ ls) ++ line ∷ []) later ≡ None → fault_from (head_lines qpus global local ++ ms) later ≡ None
moved qpus global local later ls ms line e h = subst (λ (ks : List Line). fault_from (head_lines qpus global local ++ ks) later ≡ None) (sym e) h

late_schedule : (qpus : ℕ) (global local : List ℕ) (bs : List BufferLine) (xs : List Arg) (s : Option Schedule) (pieces later : List (List ℕ)) (t : Schedule) → IsBody bs xs s → IsSchedule t → NextIs (head_lines qpus global local ++ lines_after bs xs s) pieces (schedule_line t) later → Onwards qpus global local later → Rest bs xs s pieces
late_schedule qpus global local bs xs s pieces later t b h n ih =
    let none = sym (least_schedule bs xs s t qpus global local) ∙ n.allowed in
    let k = taken_schedule bs xs s t (open_schedule s none) b h in
    rest_more bs bs xs xs s (Some t) pieces later (schedule_line t) k.1 n.text (ih bs xs (Some t) k.0 (moved qpus global local later _ _ (schedule_line t) k.1 n.none))

by_kind : (qpus : ℕ) (global local : List ℕ) (bs : List BufferLine) (xs : List Arg) (s : Option Schedule) (pieces later : List (List ℕ)) (line : Line) → IsBody bs xs s → NextIs (head_lines qpus global local ++ lines_after bs xs s) pieces line later → Onwards qpus global local later → Rest bs xs s pieces
by_kind qpus global local bs xs s pieces later FirstLine b n ih = absurd (cc (late_head bs xs s FirstLine refl qpus global local, n.allowed))
by_kind qpus global local bs xs s pieces later (QpusLine q) b n ih = absurd (cc (late_head bs xs s (QpusLine q) refl qpus global local, n.allowed))
by_kind qpus global local bs xs s pieces later (GlobalLine ns) b n ih = absurd (cc (late_head bs xs s (GlobalLine ns) refl qpus global local, n.allowed))
by_kind qpus global local bs xs s pieces later (LocalLine ns) b n ih = absurd (cc (late_head bs xs s (LocalLine ns) refl qpus global local, n.allowed))
by_kind qpus global local bs xs s pieces later (BufferIs size from to) b n ih =
    let none = sym (least_buffer bs xs s size from to qpus global local) ∙ n.allowed in
    let cs = bs ++ record { size = size; from = from; to = to } ∷ [] in
    let k = taken_buffer bs cs xs s size from to from to none b n.proper refl refl refl in
    rest_more bs cs xs xs s s pieces later (BufferIs size from to) k.1 n.text (ih cs xs s k.0 (moved qpus global local later _ _ (BufferIs size from to) k.1 n.none))
by_kind qpus global local bs xs s pieces later (ArgValue v) b n ih =
    let none = sym (least_value bs xs s v qpus global local) ∙ n.allowed in
    let ys = xs ++ Value v ∷ [] in
    let k = taken_value bs xs ys s v (open_schedule s none) b n.proper refl in
    rest_more bs bs xs ys s s pieces later (ArgValue v) k.1 n.text (ih bs ys s k.0 (moved qpus global local later _ _ (ArgValue v) k.1 n.none))
by_kind qpus global local bs xs s pieces later (ArgBuffer v) b n ih =
    let none = sym (least_number bs xs s v qpus global local) ∙ n.allowed in
    let o = open_number bs s v none in
    let ys = xs ++ Buffer v ∷ [] in
    let k = taken_number bs xs ys s v o.0 b o.1 refl in
    rest_more bs bs xs ys s s pieces later (ArgBuffer v) k.1 n.text (ih bs ys s k.0 (moved qpus global local later _ _ (ArgBuffer v) k.1 n.none))
by_kind qpus global local bs xs s pieces later (RoundsLine r) b n ih = late_schedule qpus global local bs xs s pieces later (Rounds r) b n.proper n ih
by_kind qpus global local bs xs s pieces later (SeedLine a c) b n ih = late_schedule qpus global local bs xs s pieces later (Seed a c) b n.proper n ih
by_kind qpus global local bs xs s pieces later (FileLine a c) b n ih = late_schedule qpus global local bs xs s pieces later (File a c) b n.proper n ih

over : (bs : List BufferLine) (xs : List Arg) (s : Option Schedule) (pieces : List (List ℕ)) → IsBody bs xs s → is_some s ≡ true → join_with_byte 10 pieces ≡ [] → Rest bs xs s pieces
over bs xs (Some s) pieces b e h = record { buffers = bs; args = xs; end = s; lines = []; body = b; same = sym (append-nil (lines_after bs xs (Some s))); text = h }
over bs xs None pieces b e h = absurd (cc)

-- what follows a head, so many pieces at most
pub rest_of : (most : ℕ) (qpus : ℕ) (global local : List ℕ) (pieces : List (List ℕ)) → length pieces ≤ most → 1 ≤ length pieces → Onwards qpus global local pieces
rest_of zero qpus global local pieces few some bs xs s b e = absurd (omega arith)
rest_of (suc most) qpus global local pieces few some bs xs s b e = by_next (next_of (head_lines qpus global local ++ lines_after bs xs s) pieces some e) (rest_of most qpus global local)
  where
    by_next : ((line : Line) × (later : List (List ℕ)) × NextIs (head_lines qpus global local ++ lines_after bs xs s) pieces line later) ⊎ IsOver (head_lines qpus global local ++ lines_after bs xs s) pieces → ((later : List (List ℕ)) → length later ≤ most → 1 ≤ length later → Onwards qpus global local later) → Rest bs xs s pieces
    by_next (inr o) ih = over bs xs s pieces b (sym (any_schedule bs xs s) ∙ o.whole) o.empty
    by_next (inl n) ih = let h = n.2.shorter in by_kind qpus global local bs xs s pieces n.1 n.0 b n.2 (ih n.1 (omega arith) n.2.some)

-- the lines of the head, by their places
first_is : (line : Line) → least_rule [] (Some line) ≡ None → line ≡ FirstLine
unfolding least_rule violates breaks
first_is FirstLine e = refl
first_is (QpusLine q) e = absurd (cc)
first_is (GlobalLine g) e = absurd (cc)
first_is (LocalLine l) e = absurd (cc)
first_is (BufferIs a b c) e = absurd (cc)
first_is (ArgValue a) e = absurd (cc)
first_is (ArgBuffer a) e = absurd (cc)
first_is (RoundsLine a) e = absurd (cc)
first_is (SeedLine a b) e = absurd (cc)
first_is (FileLine a b) e = absurd (cc)

in_range : (a b : Bool) (r : ℕ) → cond {A = Option ℕ} (not (a && b)) (Some r) None ≡ None → (a ≡ true) × (b ≡ true)
in_range true true r e = (refl, refl)
in_range true false r e = absurd (cc)
in_range false b r e = absurd (cc)

qpus_is : (line : Line) → least_rule (FirstLine ∷ []) (Some line) ≡ None → (q : ℕ) × (line ≡ QpusLine q) × (1 ≤ q) × (q ≤ 12)
unfolding least_rule violates breaks
qpus_is (QpusLine q) e = let b = in_range _ _ 2 e in (q, refl, leb-true 1 q b.0, leb-true q 12 b.1)
qpus_is FirstLine e = absurd (cc)
qpus_is (GlobalLine g) e = absurd (cc)
qpus_is (LocalLine l) e = absurd (cc)
qpus_is (BufferIs a b c) e = absurd (cc)
qpus_is (ArgValue a) e = absurd (cc)
qpus_is (ArgBuffer a) e = absurd (cc)
qpus_is (RoundsLine a) e = absurd (cc)
qpus_is (SeedLine a b) e = absurd (cc)
qpus_is (FileLine a b) e = absurd (cc)

two_tests : (a b : Bool) (r s : ℕ) → cond {A = Option ℕ} a (Some r) (cond {A = Option ℕ} b (Some s) None) ≡ None → (a ≡ false) × (b ≡ false)
two_tests true b r s e = absurd (cc)
two_tests false true r s e = absurd (cc)
two_tests false false r s e = (refl, refl)

global_is : (q : ℕ) (line : Line) → least_rule (FirstLine ∷ QpusLine q ∷ []) (Some line) ≡ None → (g : List ℕ) × (line ≡ GlobalLine g) × (list_any is_bad_size g ≡ false) × (product g ≤ 1048576)
unfolding least_rule violates breaks
global_is q (GlobalLine g) e = let b = two_tests _ _ 3 4 e in (g, refl, b.0, ltb-false 1048576 (product g) b.1)
global_is q FirstLine e = absurd (cc)
global_is q (QpusLine g) e = absurd (cc)
global_is q (LocalLine l) e = absurd (cc)
global_is q (BufferIs a b c) e = absurd (cc)
global_is q (ArgValue a) e = absurd (cc)
global_is q (ArgBuffer a) e = absurd (cc)
global_is q (RoundsLine a) e = absurd (cc)
global_is q (SeedLine a b) e = absurd (cc)
global_is q (FileLine a b) e = absurd (cc)

counted : (a b : Bool) → (a || not b) ≡ false → (a ≡ false) × (b ≡ true)
counted true b e = absurd (cc)
counted false true e = (refl, refl)
counted false false e = absurd (cc)

local_is : (q : ℕ) (g : List ℕ) (line : Line) → least_rule (FirstLine ∷ QpusLine q ∷ GlobalLine g ∷ []) (Some line) ≡ None → (l : List ℕ) × (line ≡ LocalLine l) × (list_any is_bad_size l ≡ false) × (length l ≡ length g) × (divides_not g l ≡ false)
unfolding least_rule violates breaks
local_is q g (LocalLine l) e = let b = two_tests _ _ 3 5 e in let d = counted _ _ b.0 in (l, refl, d.0, (Decides-eqb _ _).0 d.1, b.1)
local_is q g FirstLine e = absurd (cc)
local_is q g (QpusLine a) e = absurd (cc)
local_is q g (GlobalLine l) e = absurd (cc)
local_is q g (BufferIs a b c) e = absurd (cc)
local_is q g (ArgValue a) e = absurd (cc)
local_is q g (ArgBuffer a) e = absurd (cc)
local_is q g (RoundsLine a) e = absurd (cc)
local_is q g (SeedLine a b) e = absurd (cc)
local_is q g (FileLine a b) e = absurd (cc)

-- in the head a line follows
head_next : (before : List Line) (pieces : List (List ℕ)) → 1 ≤ length pieces → is_whole before ≡ false → fault_from before pieces ≡ None → (line : Line) × (later : List (List ℕ)) × NextIs before pieces line later
head_next before pieces some misses e = by_next (next_of before pieces some e)
  where
    by_next : ((line : Line) × (later : List (List ℕ)) × NextIs before pieces line later) ⊎ IsOver before pieces → (line : Line) × (later : List (List ℕ)) × NextIs before pieces line later
    by_next (inl n) = n
    by_next (inr o) = absurd (cc (o.whole, misses))

sizes_of : (ns : List ℕ) → AreNumbers ns → (s : Sizes) × (sizes_view s ≡ ns)
sizes_of [] h = absurd (omega (arith, h.some))
sizes_of (x ∷ []) h = (One x, refl)
sizes_of (x ∷ y ∷ []) h = (Two x y, refl)
sizes_of (x ∷ y ∷ z ∷ []) h = (Three x y z, refl)
sizes_of (x ∷ y ∷ z ∷ w ∷ ns) h = absurd (omega (arith, h.few))

-- the bytes are the text of a valid launch
abbrev pub HasLaunch : List ℕ → Type 0
HasLaunch bytes = (launch : LaunchOf) × IsLaunch launch × (bytes ≡ launch_text launch)

build : (qpus : ℕ) (g l : Sizes) (bs : List BufferLine) (xs : List Arg) (s : Schedule) (bytes : List ℕ) → IsHead qpus (sizes_view g) (sizes_view l) → IsBody bs xs (Some s) → bytes ≡ lines_text (head_lines qpus (sizes_view g) (sizes_view l) ++ lines_after bs xs (Some s)) → HasLaunch bytes
unfolding launch_text
build qpus g l bs xs s bytes h b e = (made qpus g l bs xs s, made_valid qpus g l bs xs s h b, e ∙ ap lines_text (sym (made_lines qpus g l bs xs s h.same)))

build_lists : (qpus : ℕ) (global local : List ℕ) (g l : Sizes) (bs : List BufferLine) (xs : List Arg) (s : Schedule) (bytes : List ℕ) → sizes_view g ≡ global → sizes_view l ≡ local → IsHead qpus global local → IsBody bs xs (Some s) → bytes ≡ lines_text (head_lines qpus global local ++ lines_after bs xs (Some s)) → HasLaunch bytes
build_lists qpus global local g l bs xs s bytes eg el h b e =
    build qpus g l bs xs s bytes
    (subst (λ (ns : List ℕ). IsHead qpus (sizes_view g) ns) (sym el) (subst (λ (ns : List ℕ). IsHead qpus ns local) (sym eg) h)) b
    (subst (λ (ns : List ℕ). bytes ≡ lines_text (head_lines qpus (sizes_view g) ns ++ lines_after bs xs (Some s))) (sym el)
    (subst (λ (ns : List ℕ). bytes ≡ lines_text (head_lines qpus ns local ++ lines_after bs xs (Some s))) (sym eg) e))

empty_body : IsBody [] [] None
empty_body = record { few = omega arith; buffers = λ i. tt; apart = λ i. tt; args = λ i. tt; schedule = tt }

-- the bytes are these lines, none at fault, and then the pieces, without a fault
record Upto (bytes : List ℕ) (before : List Line) (pieces : List (List ℕ)) : Type 0 where
  text : bytes ≡ lines_text before ++ join_with_byte 10 pieces
  some : 1 ≤ length pieces
  none : fault_from before pieces ≡ None

-- one more line
step : (bytes : List ℕ) (before : List Line) (pieces : List (List ℕ)) → is_whole before ≡ false → Upto bytes before pieces → (line : Line) × (later : List (List ℕ)) × IsProper line × (least_rule before (Some line) ≡ None) × Upto bytes (before ++ line ∷ []) later
step bytes before pieces misses u = after (head_next before pieces u.some misses u.none)
  where
    after : (line : Line) × (later : List (List ℕ)) × NextIs before pieces line later → (line : Line) × (later : List (List ℕ)) × IsProper line × (least_rule before (Some line) ≡ None) × Upto bytes (before ++ line ∷ []) later
    after n = (
      n.0,
      n.1,
      n.2.proper,
      n.2.allowed,
      record {
        text = u.text ∙ ap (λ (xs : List ℕ). lines_text before ++ xs) n.2.text ∙ sym (append_assoc (lines_text before) (ended n.0) (join_with_byte 10 n.1)) ∙ ap (λ (xs : List ℕ). xs ++ join_with_byte 10 n.1) (sym (lines_text-push before n.0));
        some = n.2.some;
        none = n.2.none;
      },
    )

lines_text-append : (xs ys : List Line) → lines_text (xs ++ ys) ≡ lines_text xs ++ lines_text ys
lines_text-append [] ys = refl
lines_text-append (x ∷ xs) ys = ap (λ (bs : List ℕ). ended x ++ bs) (lines_text-append xs ys) ∙ sym (append_assoc (ended x) (lines_text xs) (lines_text ys))

after_head : (bytes : List ℕ) (qpus : ℕ) (global local : List ℕ) (pieces : List (List ℕ)) → IsHead qpus global local → AreNumbers global → AreNumbers local → Upto bytes (head_lines qpus global local) pieces → HasLaunch bytes
after_head bytes qpus global local pieces h ng nl u = whole (sizes_of global ng) (sizes_of local nl) (rest_of (length pieces) qpus global local pieces (omega arith) u.some [] [] None empty_body u.none)
  where
    whole : (g : Sizes) × (sizes_view g ≡ global) → (l : Sizes) × (sizes_view l ≡ local) → Rest [] [] None pieces → HasLaunch bytes
    whole g l r =
        build_lists qpus global local g.0 l.0 r.buffers r.args r.end bytes g.1 l.1 h r.body
        (u.text ∙ ap (λ (xs : List ℕ). lines_text (head_lines qpus global local) ++ xs) (r.text ∙ ap lines_text (sym r.same)) ∙ sym (lines_text-append (head_lines qpus global local) (lines_after r.buffers r.args (Some r.end))))

after_three : (bytes : List ℕ) (qpus : ℕ) (global : List ℕ) (pieces : List (List ℕ)) → 1 ≤ qpus → qpus ≤ 12 → list_any is_bad_size global ≡ false → product global ≤ 1048576 → AreNumbers global → Upto bytes (FirstLine ∷ QpusLine qpus ∷ GlobalLine global ∷ []) pieces → HasLaunch bytes
after_three bytes qpus global pieces some few good items ng u = after (step bytes (FirstLine ∷ QpusLine qpus ∷ GlobalLine global ∷ []) pieces refl u)
  where
    after : (line : Line) × (later : List (List ℕ)) × IsProper line × (least_rule (FirstLine ∷ QpusLine qpus ∷ GlobalLine global ∷ []) (Some line) ≡ None) × Upto bytes (FirstLine ∷ QpusLine qpus ∷ GlobalLine global ∷ line ∷ []) later → HasLaunch bytes
    after d =
        let l = local_is qpus global d.0 d.3 in
        after_head bytes qpus global l.0 d.1 (record { some_qpus = some; few_qpus = few; global = good; local = l.2; same = l.3; items = items; divides = l.4 }) ng (subst IsProper l.1 d.2)
        (subst (λ (x : Line). Upto bytes (FirstLine ∷ QpusLine qpus ∷ GlobalLine global ∷ x ∷ []) d.1) l.1 d.4)

after_two : (bytes : List ℕ) (qpus : ℕ) (pieces : List (List ℕ)) → 1 ≤ qpus → qpus ≤ 12 → Upto bytes (FirstLine ∷ QpusLine qpus ∷ []) pieces → HasLaunch bytes
after_two bytes qpus pieces some few u = after (step bytes (FirstLine ∷ QpusLine qpus ∷ []) pieces refl u)
  where
    after : (line : Line) × (later : List (List ℕ)) × IsProper line × (least_rule (FirstLine ∷ QpusLine qpus ∷ []) (Some line) ≡ None) × Upto bytes (FirstLine ∷ QpusLine qpus ∷ line ∷ []) later → HasLaunch bytes
    after d =
        let g = global_is qpus d.0 d.3 in
        after_three bytes qpus g.0 d.1 some few g.2 g.3 (subst IsProper g.1 d.2) (subst (λ (x : Line). Upto bytes (FirstLine ∷ QpusLine qpus ∷ x ∷ []) d.1) g.1 d.4)

after_one : (bytes : List ℕ) (pieces : List (List ℕ)) → Upto bytes (FirstLine ∷ []) pieces → HasLaunch bytes
after_one bytes pieces u = after (step bytes (FirstLine ∷ []) pieces refl u)
  where
    after : (line : Line) × (later : List (List ℕ)) × IsProper line × (least_rule (FirstLine ∷ []) (Some line) ≡ None) × Upto bytes (FirstLine ∷ line ∷ []) later → HasLaunch bytes
    after d =
        let q = qpus_is d.0 d.3 in
        after_two bytes q.0 d.1 q.2 q.3 (subst (λ (x : Line). Upto bytes (FirstLine ∷ x ∷ []) d.1) q.1 d.4)

-- a file without a fault is the text of a valid launch
pub launch_from : (bytes : List ℕ) → first_fault bytes ≡ None → HasLaunch bytes
unfolding first_fault
launch_from bytes none =
    after (step bytes [] (slice_split (λ (x : ℕ). eqb x 10) bytes) refl (record { text = sym (join_with_byte-slice_split 10 bytes); some = some_part _ bytes; none = none }))
  where
    after : (line : Line) × (later : List (List ℕ)) × IsProper line × (least_rule [] (Some line) ≡ None) × Upto bytes (line ∷ []) later → HasLaunch bytes
    after d = after_one bytes d.1 (subst (λ (x : Line). Upto bytes (x ∷ []) d.1) (first_is d.0 d.3) d.4)
