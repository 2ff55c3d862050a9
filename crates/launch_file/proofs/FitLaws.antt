-- No fault is found just where a launch fits.
use Rattle.std.proofs.Common.{◌≡◌, ℕ, ◌+◌, Bool, true, false, List, [], ◌∷◌, length, get_or, map, zero, suc, refl, sym, ◌∙◌, subst, arith, ℤ, ◌≤ℤ◌, Option, Some, None, IfSome, slice_get, not, ◌||◌, ◌==◌}
use Rattle.std.specs.Prelude.{Contains, bytes_eq, int_lt}
use Rattle.std.specs.Option.{option_or}
use Rattle.std.specs.List.{list_any}
use Rattle.std.proofs.lemmas.Bool.Decides.{nat_tests}
use Rattle.std.proofs.lemmas.Int.{ints}
use Rattle.std.proofs.lemmas.List.Folds.{Any-from_list_any, list_any-from_Any}
use Rattle.std.proofs.lemmas.Slice.Eq.{bytes_eq-Decides}
use Rattle.q_lane.specs.declared.kinds.Kind.{Kind}
use Rattle.q_lane.specs.declared.kinds.Kind.TheVariants.{Value as Number, Pointer}
use Rattle.launch_file.specs.declared.launch.Arg.{Arg}
use Rattle.launch_file.specs.declared.launch.Arg.TheVariants.{Value, Buffer}
use Rattle.launch_file.specs.declared.launch.BufferLine.{BufferLine}
use Rattle.launch_file.specs.Fit.{FaultAt, least, greatest, first_fault, is_taken, is_other_sort, is_out_of_range, buffer_rule, arg_rule, arg_rules, count_rule, rule_where, fit_fault}
use Rattle.launch_file.specs.Laws.{Suits, Fits, NoFaultIsFit}
use Rattle.launch_file.proofs.FitFaults.{fault-parts}

-- a line without a rule is passed
past-none : (line : ℕ) (first : Option ℕ) (rules : List (Option ℕ)) → first_fault line (first ∷ rules) ≡ None → (first ≡ None) × (first_fault (line + 1) rules ≡ None)
unfolding first_fault
past-none line None rules e = (refl, e)
past-none line (Some rule) rules e = absurd (cc)

none-past : (line : ℕ) (first : Option ℕ) (rules : List (Option ℕ)) → first ≡ None → first_fault (line + 1) rules ≡ None → first_fault line (first ∷ rules) ≡ None
unfolding first_fault
none-past line None rules none e = e
none-past line (Some rule) rules none e = absurd (cc)

-- a rule doesn't speak where its test fails
rule-none : (test : Bool) (rule : ℕ) (later : Option ℕ) → rule_where test rule later ≡ None → (test ≡ false) × (later ≡ None)
rule-none true rule later e = absurd (cc)
rule-none false rule later e = (refl, e)

none-rule : (test : Bool) (rule : ℕ) (later : Option ℕ) → test ≡ false → later ≡ None → rule_where test rule later ≡ None
none-rule true rule later e none = absurd (cc)
none-rule false rule later e none = none

-- a name that is found is in the list
is_in : (names : List (List ℕ)) (name : List ℕ) → list_any (λ other. bytes_eq other name) names ≡ true → Contains names name
is_in names name e =
    let any = Any-from_list_any (λ other. bytes_eq other name) names e in
    let same : any.1 ≡ name = (bytes_eq-Decides any.1 name).0 any.4 in
    (any.0, any.2, subst (λ (y : List ℕ). get_or names any.0 y ≡ y) same any.3)

in-is : (names : List (List ℕ)) (name : List ℕ) → Contains names name → list_any (λ other. bytes_eq other name) names ≡ true
in-is names name h = list_any-from_Any (λ other. bytes_eq other name) names (h.0, name, h.1, h.2, (bytes_eq-Decides name name).1 refl)

is_false : (b : Bool) → (b ≡ true → ⊥) → b ≡ false
is_false true never = absurd (never refl)
is_false false never = refl

free-name : (taken : List (List ℕ)) (to : Option (List ℕ)) → is_taken taken to ≡ false → IfSome to (λ name. Contains taken name → ⊥)
unfolding is_taken
free-name taken None e = tt
free-name taken (Some name) e = λ h. let yes = in-is taken name h in absurd (cc)

name-free : (taken : List (List ℕ)) (to : Option (List ℕ)) → IfSome to (λ name. Contains taken name → ⊥) → is_taken taken to ≡ false
unfolding is_taken
name-free taken None free = refl
name-free taken (Some name) free = is_false (list_any (λ other. bytes_eq other name) taken) (λ e. free (is_in taken name e))

-- buffers
buffers-free : (line : ℕ) (taken : List (List ℕ)) (buffers : List BufferLine) → first_fault line (map (buffer_rule taken) buffers) ≡ None
    → (i : ℕ) → IfSome (slice_get buffers i) (λ buffer. IfSome buffer.to (λ name. Contains taken name → ⊥))
buffers-free line taken [] e i = tt
buffers-free line taken (buffer ∷ buffers) e zero =
    free-name taken buffer.to (rule-none (is_taken taken buffer.to) 12 None (past-none line (buffer_rule taken buffer) (map (buffer_rule taken) buffers) e).0).0
buffers-free line taken (buffer ∷ buffers) e (suc i) =
    buffers-free (line + 1) taken buffers (past-none line (buffer_rule taken buffer) (map (buffer_rule taken) buffers) e).1 i

free-buffers : (line : ℕ) (taken : List (List ℕ)) (buffers : List BufferLine) → ((i : ℕ) → IfSome (slice_get buffers i) (λ buffer. IfSome buffer.to (λ name. Contains taken name → ⊥)))
    → first_fault line (map (buffer_rule taken) buffers) ≡ None
unfolding first_fault
free-buffers line taken [] free = refl
free-buffers line taken (buffer ∷ buffers) free =
    none-past line (buffer_rule taken buffer) (map (buffer_rule taken) buffers) (none-rule (is_taken taken buffer.to) 12 None (name-free taken buffer.to (free 0)) refl)
    (free-buffers (line + 1) taken buffers (λ i. free (suc i)))

-- arguments
in_range : (low high z : ℤ) → (int_lt z low || int_lt high z) ≡ false → (low ≤ℤ z) × (z ≤ℤ high)
in_range low high z e = grind (arith, ints)

range_in : (low high z : ℤ) → low ≤ℤ z → z ≤ℤ high → (int_lt z low || int_lt high z) ≡ false
range_in low high z a b = grind (arith, ints)

suits : (arg : Arg) (kind : Kind) → is_other_sort arg kind ≡ false → is_out_of_range arg kind ≡ false → Suits arg kind
unfolding is_other_sort is_out_of_range
suits (Value number) (Number scalar) sort range = in_range (least scalar) (greatest scalar) number range
suits (Value number) Pointer sort range = absurd (cc)
suits (Buffer i) (Number scalar) sort range = absurd (cc)
suits (Buffer i) Pointer sort range = tt

suits-sort : (arg : Arg) (kind : Kind) → Suits arg kind → is_other_sort arg kind ≡ false
unfolding is_other_sort
suits-sort (Value number) (Number scalar) h = refl
suits-sort (Value number) Pointer h = absurd h
suits-sort (Buffer i) (Number scalar) h = absurd h
suits-sort (Buffer i) Pointer h = refl

suits-range : (arg : Arg) (kind : Kind) → Suits arg kind → is_out_of_range arg kind ≡ false
unfolding is_out_of_range
suits-range (Value number) (Number scalar) h = range_in (least scalar) (greatest scalar) number h.0 h.1
suits-range (Value number) Pointer h = absurd h
suits-range (Buffer i) (Number scalar) h = absurd h
suits-range (Buffer i) Pointer h = refl

suits-rule : (arg : Arg) (kind : Kind) → arg_rule arg kind ≡ None → Suits arg kind
suits-rule arg kind e =
    let sort = rule-none (is_other_sort arg kind) 9 (rule_where (is_out_of_range arg kind) 10 None) e in
    let range = rule-none (is_out_of_range arg kind) 10 None sort.1 in
    suits arg kind sort.0 range.0

rule-suits : (arg : Arg) (kind : Kind) → Suits arg kind → arg_rule arg kind ≡ None
rule-suits arg kind h =
    none-rule (is_other_sort arg kind) 9 (rule_where (is_out_of_range arg kind) 10 None) (suits-sort arg kind h)
    (none-rule (is_out_of_range arg kind) 10 None (suits-range arg kind h) refl)

args-suit : (line : ℕ) (args : List Arg) (kinds : List Kind) → first_fault line (arg_rules args kinds) ≡ None
    → (i : ℕ) → IfSome (slice_get args i) (λ arg. IfSome (slice_get kinds i) (Suits arg))
unfolding arg_rules
args-suit line [] kinds e i = tt
args-suit line (arg ∷ args) [] e zero = tt
args-suit line (arg ∷ args) [] e (suc i) = args-suit (line + 1) args [] (past-none line None (arg_rules args []) e).1 i
args-suit line (arg ∷ args) (kind ∷ kinds) e zero = suits-rule arg kind (past-none line (arg_rule arg kind) (arg_rules args kinds) e).0
args-suit line (arg ∷ args) (kind ∷ kinds) e (suc i) = args-suit (line + 1) args kinds (past-none line (arg_rule arg kind) (arg_rules args kinds) e).1 i

suit-args : (line : ℕ) (args : List Arg) (kinds : List Kind) → ((i : ℕ) → IfSome (slice_get args i) (λ arg. IfSome (slice_get kinds i) (Suits arg)))
    → first_fault line (arg_rules args kinds) ≡ None
unfolding arg_rules first_fault
suit-args line [] kinds suit = refl
suit-args line (arg ∷ args) [] suit = suit-args (line + 1) args [] (λ i. suit (suc i))
suit-args line (arg ∷ args) (kind ∷ kinds) suit =
    none-past line (arg_rule arg kind) (arg_rules args kinds) (rule-suits arg kind (suit 0)) (suit-args (line + 1) args kinds (λ i. suit (suc i)))

-- the count
count-same : (line : ℕ) (args : List Arg) (kinds : List Kind) → first_fault line (count_rule args kinds ∷ []) ≡ None → length args ≡ length kinds
count-same line args kinds e =
    let test = rule-none (not (length args == length kinds)) 8 None (past-none line (count_rule args kinds) [] e).0 in
    let same = test.0 in
    grind (arith, nat_tests)

same-count : (line : ℕ) (args : List Arg) (kinds : List Kind) → length args ≡ length kinds → first_fault line (count_rule args kinds ∷ []) ≡ None
unfolding first_fault
same-count line args kinds e =
    let test : not (length args == length kinds) ≡ false = grind (arith, nat_tests) in
    none-past line (count_rule args kinds) [] (none-rule (not (length args == length kinds)) 8 None test refl) refl

-- both ways
or-none : (a b : Option FaultAt) → option_or a b ≡ None → (a ≡ None) × (b ≡ None)
or-none None b e = (refl, e)
or-none (Some x) b e = absurd (cc)

none-or : (a b : Option FaultAt) → a ≡ None → b ≡ None → option_or a b ≡ None
none-or None b e none = none
none-or (Some x) b e none = absurd (cc)

pub no_fault_is_fit : NoFaultIsFit
no_fault_is_fit launch kinds taken = (fits, fine)
  where
    fits : fit_fault launch kinds taken ≡ None → Fits launch kinds taken
    fits e =
        let one = or-none (first_fault 5 (map (buffer_rule taken) launch.buffers)) _ (sym (fault-parts launch kinds taken) ∙ e) in
        let two = or-none (first_fault (5 + length launch.buffers) (arg_rules launch.args kinds)) _ one.1 in
        record {
          count = count-same _ launch.args kinds two.1;
          args = args-suit _ launch.args kinds two.0;
          names = buffers-free 5 taken launch.buffers one.0;
        }

    fine : Fits launch kinds taken → fit_fault launch kinds taken ≡ None
    fine h =
        fault-parts launch kinds taken
        ∙ none-or _ _ (free-buffers 5 taken launch.buffers h.names)
        (none-or _ _ (suit-args (5 + length launch.buffers) launch.args kinds h.args) (same-count (5 + length launch.buffers + length launch.args) launch.args kinds h.count))
