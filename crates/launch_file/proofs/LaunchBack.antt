-- The text of a valid launch has no fault.
use Rattle.std.proofs.Common.{zero, suc, ◌≡◌, ℕ, ◌+◌, ◌*◌, ◌%◌, ◌≤◌, ◌<◌, ◌^◌, eqb, Bool, true, false, cond, List, [], ◌∷◌, ◌++◌, map, length, take, get_or, Option, Some, None, sym, refl, ap, ◌∙◌, subst, arith, append_assoc, append-nil}
use Rattle.std.specs.Prelude.{not, ◌&&◌, ◌||◌, ◌==◌, nat_le, nat_lt, IfSome, slice_get, is_some}
use Rattle.std.specs.List.{list_any, AllByRecursion, slice_split}
use Rattle.std.proofs.lemmas.Bool.{leb-true, le-leb, lt-leb, le-ltb}
use Rattle.std.proofs.lemmas.Bool.Decides.{Decides-eqb}
use Rattle.std.proofs.lemmas.List.{length-append, length-take-le}
use Rattle.launch_file.specs.declared.launch.BufferLine.{BufferLine}
use Rattle.launch_file.specs.declared.launch.Arg.{Arg}
use Rattle.launch_file.specs.declared.launch.Arg.TheVariants.{Value, Buffer}
use Rattle.launch_file.specs.declared.launch.Schedule.{Schedule}
use Rattle.launch_file.specs.declared.launch.Schedule.TheVariants.{Rounds, Seed, File}
use Rattle.launch_file.specs.Launches.{LaunchOf, IsLaunch, AreSizes, IsBuffer, IsArg, IsName, IsSchedule, is_written, items_of}
use Rattle.launch_file.specs.LineText.{Line, FirstLine, QpusLine, GlobalLine, LocalLine, BufferIs, IsProper, IsNumber, AreNumbers, line_text, line_of}
use Rattle.launch_file.specs.Rules.{is_bad_size, product, divides_not, is_schedule, breaks, violates, least_rule, fault_or, fault_from, fault_in, is_whole, first_fault}
use Rattle.launch_file.specs.LaunchText.{head_lines, buffer_line, arg_line, schedule_line, ended, lines_text, launch_lines, launch_text}
use Rattle.launch_file.specs.Reading.{Follows, IsHead, lines_after, is_written_to, buffer_rule, value_rule, number_rule}
use Rattle.launch_file.proofs.LineSteps.{follows}
use Rattle.launch_file.proofs.LineBack.{split_piece, text-lacks, line_of-text}
use Rattle.launch_file.proofs.BodyLaws.{any_schedule, least_buffer, least_value, least_number, least_schedule, lines_push-buffer, lines_push-arg}
use Rattle.launch_file.proofs.TailLaws.{whole_end}

-- a proper line's text, ended, is that line and the rest
pub follow_text : (line : Line) (rest : List ℕ) → IsProper line → Follows (ended line ++ rest) line rest
follow_text line rest h =
    let whole : ended line ++ rest ≡ line_text line ++ 10 ∷ rest = append_assoc (line_text line) (10 ∷ []) rest in
    follows (ended line ++ rest) (line_text line) rest line
    (ap (slice_split (λ (x : ℕ). eqb x 10)) whole ∙ split_piece 10 (line_text line) rest (text-lacks line h)) whole (sym (line_of-text line h))

-- these lines are proper, and none violates a rule
abbrev pub Clean : List Line → List Line → Type 0
Clean before [] = Unit {0}
Clean before (line ∷ lines) = IsProper line × (least_rule before (Some line) ≡ None) × Clean (before ++ line ∷ []) lines

pub clean_fault : (before lines : List Line) → Clean before lines → is_whole (before ++ lines) ≡ true → fault_in before (lines_text lines) ≡ None
clean_fault before [] c whole = whole_end before (subst (λ (ls : List Line). is_whole ls ≡ true) (append-nil before) whole)
clean_fault before (line ∷ lines) c whole =
    let later = clean_fault (before ++ line ∷ []) lines c.2 (subst (λ (ls : List Line). is_whole ls ≡ true) (sym (append_assoc before (line ∷ []) lines)) whole) in
    (follow_text line (lines_text lines) c.0).step before ∙ rw c.1 later

proper_schedule : (s : Schedule) → IsSchedule s → IsProper (schedule_line s)
proper_schedule (Rounds n) h = h
proper_schedule (Seed n m) h = h
proper_schedule (File name n) h = h

args-clean : (qpus : ℕ) (global local : List ℕ) (bs : List BufferLine) (front rest : List Arg) (s : Schedule) → length bs ≤ 16 → ((i : ℕ) → IfSome (slice_get rest i) (IsArg (length bs))) → IsSchedule s → Clean (head_lines qpus global local ++ lines_after bs front None) (map arg_line rest ++ schedule_line s ∷ [])
unfolding value_rule number_rule
args-clean qpus global local bs front [] s few each h = (proper_schedule s h, least_schedule bs front None s qpus global local, tt)
args-clean qpus global local bs front (Value v ∷ rest) s few each h = (
  each 0,
  least_value bs front None v qpus global local,
  subst (λ (ls : List Line). Clean (head_lines qpus global local ++ ls) (map arg_line rest ++ schedule_line s ∷ [])) (lines_push-arg bs front (Value v))
      (args-clean qpus global local bs (front ++ Value v ∷ []) rest s few (λ i. each (suc i)) h),
)
args-clean qpus global local bs front (Buffer n ∷ rest) s few each h =
    let below : n < length bs = each 0 in (
      omega arith,
      least_number bs front None n qpus global local ∙ rw (lt-leb (length bs) n below) refl,
      subst (λ (ls : List Line). Clean (head_lines qpus global local ++ ls) (map arg_line rest ++ schedule_line s ∷ [])) (lines_push-arg bs front (Buffer n))
          (args-clean qpus global local bs (front ++ Buffer n ∷ []) rest s few (λ i. each (suc i)) h),
    )

proper_buffer : (b : BufferLine) → IsBuffer b → IsProper (buffer_line b)
proper_buffer b h = let s = h.small in (omega arith, h.from, h.to)

unwritten : (bs : List BufferLine) (to : Option (List ℕ)) → IfSome to (λ name. is_written bs name ≡ false) → is_written_to bs to ≡ false
unwritten bs (Some name) h = h
unwritten bs None h = refl

no_rule : (bs : List BufferLine) (b : BufferLine) → length bs < 16 → IsBuffer b → IfSome b.to (λ name. is_written bs name ≡ false) → buffer_rule bs [] None b.size b.to ≡ None
unfolding buffer_rule
no_rule bs b few h apart = rw (lt-leb 16 (length bs) few, le-ltb 16777216 b.size h.small, unwritten bs b.to apart) refl

buffers-clean : (qpus : ℕ) (global local : List ℕ) (front rest : List BufferLine) (xs : List Arg) (s : Schedule) → length (front ++ rest) ≤ 16 → ((i : ℕ) → IfSome (slice_get rest i) IsBuffer) → ((i : ℕ) → IfSome (slice_get rest i) (λ b. IfSome b.to (λ name. is_written (front ++ take i rest) name ≡ false))) → ((i : ℕ) → IfSome (slice_get xs i) (IsArg (length (front ++ rest)))) → IsSchedule s → Clean (head_lines qpus global local ++ lines_after front [] None) (map buffer_line rest ++ (map arg_line xs ++ schedule_line s ∷ []))
buffers-clean qpus global local front [] xs s few each apart args h =
    let same = append-nil front in
    args-clean qpus global local front [] xs s (subst (λ (bs : List BufferLine). length bs ≤ 16) same few)
    (subst (λ (bs : List BufferLine). (i : ℕ) → IfSome (slice_get xs i) (IsArg (length bs))) same args) h
buffers-clean qpus global local front (b ∷ rest) xs s few each apart args h =
    let again = append_assoc front (b ∷ []) rest in
    let short : length front < 16 = omega (arith, length-append front (b ∷ rest), few) in
    let free : IfSome b.to (λ name. is_written front name ≡ false) = subst (λ (bs : List BufferLine). IfSome b.to (λ name. is_written bs name ≡ false)) (append-nil front) (apart 0) in (
      proper_buffer b (each 0),
      least_buffer front [] None b.size b.from b.to qpus global local ∙ no_rule front b short (each 0) free,
      subst (λ (ls : List Line). Clean (head_lines qpus global local ++ ls) (map buffer_line rest ++ (map arg_line xs ++ schedule_line s ∷ []))) (lines_push-buffer front b)
          (buffers-clean qpus global local (front ++ b ∷ []) rest xs s
          (subst (λ (bs : List BufferLine). length bs ≤ 16) (sym again) few)
          (λ i. each (suc i))
          (λ i. subst (λ (bs : List BufferLine). IfSome (slice_get rest i) (λ x. IfSome x.to (λ name. is_written bs name ≡ false))) (sym (append_assoc front (b ∷ []) (take i rest))) (apart (suc i)))
          (subst (λ (bs : List BufferLine). (i : ℕ) → IfSome (slice_get xs i) (IsArg (length bs))) (sym again) args)
          h),
    )

good : (x : ℕ) → 1 ≤ x → x ≤ 65536 → is_bad_size x ≡ false
good x some small = rw (le-leb 1 x some, le-leb x 65536 small) refl

no_cut : (x a : ℕ) → x % a ≡ 0 → not (x % a == 0) ≡ false
no_cut x a e = rw e refl

heads : (qpus d a b c x y z : ℕ) → 1 ≤ qpus → qpus ≤ 12 → 1 ≤ d → d ≤ 3 → AreSizes d (a ∷ b ∷ c ∷ []) → AreSizes d (x ∷ y ∷ z ∷ []) → items_of (a ∷ b ∷ c ∷ []) ≤ 1048576 → ((i : ℕ) → get_or (a ∷ b ∷ c ∷ []) i 1 % get_or (x ∷ y ∷ z ∷ []) i 1 ≡ 0) → IsHead qpus (take d (a ∷ b ∷ c ∷ [])) (take d (x ∷ y ∷ z ∷ []))
heads qpus zero a b c x y z some few sd fd g l items cuts = absurd (omega arith)
heads qpus (suc zero) a b c x y z some few sd fd g l items cuts =
    let b1 : b ≡ 1 = g.past 1 (omega arith) in
    let c1 : c ≡ 1 = g.past 2 (omega arith) in
    record {
      some_qpus = some;
      few_qpus = few;
      global = rw (good a (g.some 0 (omega arith)) (g.small 0 (omega arith))) refl;
      local = rw (good x (l.some 0 (omega arith)) (l.small 0 (omega arith))) refl;
      same = refl;
      items = rw (b1, c1) at items;
      divides = rw (no_cut a x (cuts 0)) refl;
    }
heads qpus (suc (suc zero)) a b c x y z some few sd fd g l items cuts =
    let c1 : c ≡ 1 = g.past 2 (omega arith) in
    record {
      some_qpus = some;
      few_qpus = few;
      global = rw (good a (g.some 0 (omega arith)) (g.small 0 (omega arith)), good b (g.some 1 (omega arith)) (g.small 1 (omega arith))) refl;
      local = rw (good x (l.some 0 (omega arith)) (l.small 0 (omega arith)), good y (l.some 1 (omega arith)) (l.small 1 (omega arith))) refl;
      same = refl;
      items = rw c1 at items;
      divides = rw (no_cut a x (cuts 0), no_cut b y (cuts 1)) refl;
    }
heads qpus (suc (suc (suc zero))) a b c x y z some few sd fd g l items cuts =
    record {
      some_qpus = some;
      few_qpus = few;
      global = rw (good a (g.some 0 (omega arith)) (g.small 0 (omega arith)), good b (g.some 1 (omega arith)) (g.small 1 (omega arith)), good c (g.some 2 (omega arith)) (g.small 2 (omega arith))) refl;
      local = rw (good x (l.some 0 (omega arith)) (l.small 0 (omega arith)), good y (l.some 1 (omega arith)) (l.small 1 (omega arith)), good z (l.some 2 (omega arith)) (l.small 2 (omega arith))) refl;
      same = refl;
      items = items;
      divides = rw (no_cut a x (cuts 0), no_cut b y (cuts 1), no_cut c z (cuts 2)) refl;
    }
heads qpus (suc (suc (suc (suc d)))) a b c x y z some few sd fd g l items cuts = absurd (omega arith)

lists_heads : (qpus d : ℕ) (global local : List ℕ) → 1 ≤ qpus → qpus ≤ 12 → 1 ≤ d → d ≤ 3 → length global ≡ 3 → length local ≡ 3 → AreSizes d global → AreSizes d local → items_of global ≤ 1048576 → ((i : ℕ) → get_or global i 1 % get_or local i 1 ≡ 0) → IsHead qpus (take d global) (take d local)
lists_heads qpus d (a ∷ b ∷ c ∷ []) (x ∷ y ∷ z ∷ []) some few sd fd p q g l items cuts = heads qpus d a b c x y z some few sd fd g l items cuts
lists_heads qpus d [] local some few sd fd p q g l items cuts = absurd (omega arith)
lists_heads qpus d (a ∷ []) local some few sd fd p q g l items cuts = absurd (omega arith)
lists_heads qpus d (a ∷ b ∷ []) local some few sd fd p q g l items cuts = absurd (omega arith)
lists_heads qpus d (a ∷ b ∷ c ∷ e ∷ global) local some few sd fd p q g l items cuts = absurd (omega arith)
lists_heads qpus d (a ∷ b ∷ c ∷ []) [] some few sd fd p q g l items cuts = absurd (omega arith)
lists_heads qpus d (a ∷ b ∷ c ∷ []) (x ∷ []) some few sd fd p q g l items cuts = absurd (omega arith)
lists_heads qpus d (a ∷ b ∷ c ∷ []) (x ∷ y ∷ []) some few sd fd p q g l items cuts = absurd (omega arith)
lists_heads qpus d (a ∷ b ∷ c ∷ []) (x ∷ y ∷ z ∷ e ∷ local) some few sd fd p q g l items cuts = absurd (omega arith)

pub is_head : (launch : LaunchOf) → IsLaunch launch → IsHead launch.qpus (take launch.dims launch.global) (take launch.dims launch.local)
is_head launch h = lists_heads launch.qpus launch.dims launch.global launch.local h.some_qpus h.few_qpus h.some_dims h.few_dims h.global.three h.local.three h.global h.local h.items h.divides

-- allowed sizes are numbers
small_size : (x : ℕ) → is_bad_size x ≡ false → x < 2 ^ 64
small_size x e = let t = tests (nat_le 1 x) (nat_le x 65536) e in let s = leb-true x 65536 t in omega arith
  where
    tests : (a b : Bool) → not (a && b) ≡ false → b ≡ true
    tests true true e = refl
    tests true false e = absurd (cc)
    tests false b e = absurd (cc)

neither : (a b : Bool) → (a || b) ≡ false → (a ≡ false) × (b ≡ false)
neither true b e = absurd (cc)
neither false b e = (refl, e)

numbers : (xs : List ℕ) → list_any is_bad_size xs ≡ false → AllByRecursion IsNumber xs
numbers [] e = tt
numbers (x ∷ xs) e = let b = neither _ _ e in (small_size x b.0, numbers xs b.1)

head-clean : (qpus : ℕ) (global local : List ℕ) (rest : List Line) → IsHead qpus global local → 1 ≤ length global → length global ≤ 3 → Clean (head_lines qpus global local) rest → Clean [] (head_lines qpus global local ++ rest)
unfolding least_rule violates breaks
head-clean qpus global local rest h some few c =
    let fits : length local ≡ length global = h.same in
    let q1 = le-leb 1 qpus h.some_qpus in
    let q12 = le-leb qpus 12 h.few_qpus in
    let items = le-ltb 1048576 (product global) h.items in
    let count : eqb (length local) (length global) ≡ true = (Decides-eqb _ _).1 h.same in
    let a = h.some_qpus in
    let b = h.few_qpus in (
      tt,
      refl,
      (
        omega arith,
        rw (q1, q12) refl,
        (
          record { some = some; few = few; each = numbers global h.global },
          rw (h.global, items) refl,
          (record { some = omega arith; few = omega arith; each = numbers local h.local }, rw (h.local, count, h.divides) refl, c),
        ),
      ),
    )

pub count_taken : (d : ℕ) (xs : List ℕ) → length xs ≡ 3 → d ≤ 3 → length (take d xs) ≡ d
count_taken d xs e h = length-take-le d xs (omega arith)

whole_lines : (qpus : ℕ) (global local : List ℕ) (bs : List BufferLine) (xs : List Arg) (s : Schedule) → is_whole (head_lines qpus global local ++ lines_after bs xs (Some s)) ≡ true
whole_lines qpus global local bs xs s = any_schedule bs xs (Some s)

-- a valid launch's lines are proper, and none violates a rule
pub lines-clean : (launch : LaunchOf) → IsLaunch launch → Clean [] (launch_lines launch)
unfolding launch_lines
lines-clean launch h =
    let global = take launch.dims launch.global in
    let local = take launch.dims launch.local in
    let count = count_taken launch.dims launch.global h.global.three h.few_dims in
    let some : 1 ≤ length global = let d = h.some_dims in omega arith in
    let few : length global ≤ 3 = let d = h.few_dims in omega arith in
    let tail = buffers-clean launch.qpus global local [] launch.buffers launch.args launch.schedule h.few_buffers h.buffers h.apart h.args h.schedule in
    head-clean launch.qpus global local (lines_after launch.buffers launch.args (Some launch.schedule)) (is_head launch h) some few tail

-- a valid launch's text has no fault
pub launch-clean : (launch : LaunchOf) → IsLaunch launch → first_fault (launch_text launch) ≡ None
unfolding first_fault launch_text launch_lines
launch-clean launch h =
    clean_fault [] (launch_lines launch) (lines-clean launch h)
    (whole_lines launch.qpus (take launch.dims launch.global) (take launch.dims launch.local) launch.buffers launch.args launch.schedule)
