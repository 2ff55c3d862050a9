-- The rules of a launch file, each a test of its own on the lines before and the line at hand.
use Rattle.std.specs.Prelude.{zero, suc, ℕ, ◌+◌, ◌*◌, ◌%◌, Bool, true, false, not, ◌&&◌, ◌||◌, ◌==◌, nat_lt, nat_le, if◌then◌else◌, List, [], ◌∷◌, ◌++◌, length, get_or, Option, Some, None, option_and_then, bytes_eq}
use Rattle.std.specs.List.{list_any, slice_split}
use Rattle.launch_file.specs.Launches.{is_name_in}
use Rattle.launch_file.specs.LineText.{Line, FirstLine, QpusLine, GlobalLine, LocalLine, BufferIs, ArgValue, ArgBuffer, RoundsLine, SeedLine, FileLine, line_of}

abbrev pub is_buffer : Line → Bool
is_buffer (BufferIs size from to) = true
is_buffer line = false

-- how many of the lines are a buffer's
abbrev pub buffer_count : List Line → ℕ
buffer_count [] = 0
buffer_count (line ∷ lines) = if is_buffer line then suc (buffer_count lines) else buffer_count lines

abbrev pub is_arg : Line → Bool
is_arg (ArgValue value) = true
is_arg (ArgBuffer number) = true
is_arg line = false

abbrev pub is_schedule : Line → Bool
is_schedule (RoundsLine rounds) = true
is_schedule (SeedLine seed steps) = true
is_schedule (FileLine name times) = true
is_schedule line = false

-- the sizes of a line `global`, and the given ones for another line
abbrev pub sizes_or : List ℕ → Line → List ℕ
sizes_or others (GlobalLine sizes) = sizes
sizes_or others line = others

-- the sizes that the line `global` among these names
abbrev pub global_in : List Line → List ℕ
global_in [] = []
global_in (line ∷ lines) = sizes_or (global_in lines) line

-- whether a buffer's line has this output name
abbrev pub has_output : List ℕ → Line → Bool
has_output name (BufferIs size from to) = is_name_in to name
has_output name line = false

-- Whether a line may stand after these: the first line, `qpus`, `global`, `local`, then buffers, then arguments, then one schedule.
abbrev pub may_stand : List Line → Line → Bool
may_stand before FirstLine = length before == 0
may_stand before (QpusLine qpus) = length before == 1
may_stand before (GlobalLine sizes) = length before == 2
may_stand before (LocalLine sizes) = length before == 3
may_stand before (BufferIs size from to) = nat_le 4 (length before) && (not (list_any is_arg before) && not (list_any is_schedule before))
may_stand before (ArgValue value) = nat_le 4 (length before) && not (list_any is_schedule before)
may_stand before (ArgBuffer number) = nat_le 4 (length before) && not (list_any is_schedule before)
may_stand before (RoundsLine rounds) = nat_le 4 (length before) && not (list_any is_schedule before)
may_stand before (SeedLine seed steps) = nat_le 4 (length before) && not (list_any is_schedule before)
may_stand before (FileLine name times) = nat_le 4 (length before) && not (list_any is_schedule before)

-- 2: the number of QPUs isn't 1 to 12
abbrev pub breaks_2 : Line → Bool
breaks_2 (QpusLine qpus) = not (nat_le 1 qpus && nat_le qpus 12)
breaks_2 line = false

abbrev pub is_bad_size : ℕ → Bool
is_bad_size size = not (nat_le 1 size && nat_le size 65536)

-- 3: a size is 0 or above 65,536, or `local` has another count than `global`
abbrev pub breaks_3 : List Line → Line → Bool
breaks_3 before (GlobalLine sizes) = list_any is_bad_size sizes
breaks_3 before (LocalLine sizes) = list_any is_bad_size sizes || not (length sizes == length (global_in before))
breaks_3 before line = false

-- the items of these sizes; a missing size is 1
abbrev pub product : List ℕ → ℕ
product sizes = get_or sizes 0 1 * get_or sizes 1 1 * get_or sizes 2 1

-- 4: there are more than 1,048,576 items
abbrev pub breaks_4 : Line → Bool
breaks_4 (GlobalLine sizes) = nat_lt 1048576 (product sizes)
breaks_4 line = false

-- some local size doesn't divide the global size at its place
abbrev pub divides_not : List ℕ → List ℕ → Bool
divides_not (size ∷ sizes) (part ∷ parts) = not (size % part == 0) || divides_not sizes parts
divides_not [] parts = false
divides_not (size ∷ sizes) [] = false

-- 5: a local size doesn't divide its global size
abbrev pub breaks_5 : List Line → Line → Bool
breaks_5 before (LocalLine sizes) = divides_not (global_in before) sizes
breaks_5 before line = false

-- 6: sixteen buffers stand before
abbrev pub breaks_6 : List Line → Line → Bool
breaks_6 before (BufferIs size from to) = nat_le 16 (buffer_count before)
breaks_6 before line = false

-- 7: a buffer has more than 16,777,216 bytes
abbrev pub breaks_7 : Line → Bool
breaks_7 (BufferIs size from to) = nat_lt 16777216 size
breaks_7 line = false

-- 11: an argument is the number of no buffer
abbrev pub breaks_11 : List Line → Line → Bool
breaks_11 before (ArgBuffer number) = nat_le (buffer_count before) number
breaks_11 before line = false

abbrev pub is_taken : List Line → Option (List ℕ) → Bool
is_taken before (Some name) = list_any (has_output name) before
is_taken before None = false

-- 12: an output name stands as an earlier output name
abbrev pub breaks_12 : List Line → Line → Bool
breaks_12 before (BufferIs size from to) = is_taken before to
breaks_12 before line = false

-- whether a line after these violates the rule
unfoldable pub breaks : List Line → Line → ℕ → Bool
breaks before line rule =
    if rule == 1 then not (may_stand before line)
    else if rule == 2 then breaks_2 line
    else if rule == 3 then breaks_3 before line
    else if rule == 4 then breaks_4 line
    else if rule == 5 then breaks_5 before line
    else if rule == 6 then breaks_6 before line
    else if rule == 7 then breaks_7 line
    else if rule == 11 then breaks_11 before line
    else if rule == 12 then breaks_12 before line
    else false

-- the same where the line at hand may be of no form, or not ended: it violates rule 1 alone
unfoldable pub violates : List Line → Option Line → ℕ → Bool
violates before (Some line) rule = breaks before line rule
violates before None rule = rule == 1

-- the first of the rules that is broken
abbrev pub first_broken : (ℕ → Bool) → List ℕ → Option ℕ
first_broken broken [] = None
first_broken broken (rule ∷ rules) = if broken rule then Some rule else first_broken broken rules

-- the least rule that the line violates
unfoldable pub least_rule : List Line → Option Line → Option ℕ
least_rule before line = first_broken (violates before line) (1 ∷ 2 ∷ 3 ∷ 4 ∷ 5 ∷ 6 ∷ 7 ∷ 11 ∷ 12 ∷ [])

-- the rule at this line, or what comes after it where no rule is broken
abbrev pub fault_or : Option ℕ → ℕ → Option (ℕ × ℕ) → Option (ℕ × ℕ)
fault_or (Some rule) number later = Some (rule, number)
fault_or None number later = later

-- whether nothing is missing after these lines
abbrev pub is_whole : List Line → Bool
is_whole before = list_any is_schedule before

-- The first fault, a rule and the number of its line, in what follows these lines, cut at each byte 10. What follows the last byte 10 is a line
-- that isn't ended, or nothing; then a line is missing unless the schedule stands.
unfoldable pub fault_from : List Line → List (List ℕ) → Option (ℕ × ℕ)
fault_from before [] = None
fault_from before (piece ∷ []) = if bytes_eq piece [] && is_whole before then None else Some (1, length before + 1)
fault_from before (piece ∷ next ∷ pieces) =
    fault_or (least_rule before (line_of piece)) (length before + 1) (option_and_then (λ line. fault_from (before ++ line ∷ []) (next ∷ pieces)) (line_of piece))

-- the first fault in the bytes that follow these lines
abbrev pub fault_in : List Line → List ℕ → Option (ℕ × ℕ)
fault_in before bytes = fault_from before (slice_split (λ byte. byte == 10) bytes)

-- the first violated rule of a file and its line, lines counted from 1
unfoldable pub first_fault : List ℕ → Option (ℕ × ℕ)
first_fault bytes = fault_in [] bytes
