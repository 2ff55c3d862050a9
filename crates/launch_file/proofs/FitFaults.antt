-- The first fault of a list of lines, line by line and part by part.
use Rattle.std.proofs.Common.{◌≡◌, ℕ, ◌+◌, ◌<◌, ◌≤◌, Bool, true, false, List, [], ◌∷◌, ◌++◌, length, get_or, drop, map, suc, sym, refl, ap, ◌∙◌, arith, add-one, add-zero, drop-cons, Option, Some, None, Ok, Err, ◌⊎◌, ◌≢◌, inl, inr, not, ◌==◌}
use Rattle.std.specs.Option.{option_or}
use Rattle.std.proofs.lemmas.List.{drop_all, length-map}
use Rattle.std.proofs.lemmas.Bool.Decides.{nat_tests}
use Rattle.q_lane.specs.declared.kinds.Kind.{Kind}
use Rattle.launch_file.specs.declared.launch.Arg.{Arg}
use Rattle.launch_file.specs.declared.launch.BufferLine.{BufferLine}
use Rattle.launch_file.specs.declared.launch.LaunchFault.{LaunchFault}
use Rattle.launch_file.specs.declared.launch.LaunchFault.TheVariants.{Rule}
use Rattle.launch_file.specs.Launches.{LaunchOf}
use Rattle.launch_file.specs.Fit.{FaultAt, first_fault, buffer_rule, arg_rule, arg_rules, count_rule, rule_where, line_rules, fit_fault, answer_of}

pub first_fault_none : (line : ℕ) → first_fault line [] ≡ None
unfolding first_fault
first_fault_none line = refl

pub first_fault_past : (line : ℕ) (rules : List (Option ℕ)) → first_fault line (None ∷ rules) ≡ first_fault (line + 1) rules
unfolding first_fault
first_fault_past line rules = refl

pub first_fault_here : (line rule : ℕ) (rules : List (Option ℕ)) → first_fault line (Some rule ∷ rules) ≡ Some (record { rule = rule; line = line })
unfolding first_fault
first_fault_here line rule rules = refl

-- a part is without fault, or has the first
pub first_fault-append : (line : ℕ) (before after : List (Option ℕ))
    → first_fault line (before ++ after) ≡ option_or (first_fault line before) (first_fault (line + length before) after)
unfolding first_fault
first_fault-append line [] after = ap (λ (n : ℕ). first_fault n after) (sym (add-zero line))
first_fault-append line (None ∷ before) after =
    first_fault-append (line + 1) before after
    ∙ ap (λ (n : ℕ). option_or (first_fault (line + 1) before) (first_fault n after)) (omega arith)
first_fault-append line (Some rule ∷ before) after = refl

-- the same of a list that is known by its first element
pub moved_past : (line next : ℕ) (first : Option ℕ) (rules rest : List (Option ℕ)) (all : Option FaultAt)
    → rules ≡ first ∷ rest → first ≡ None → next ≡ line + 1 → first_fault line rules ≡ all → first_fault next rest ≡ all
moved_past line next first rules rest all is none more done =
    ap (λ (n : ℕ). first_fault n rest) more
    ∙ sym (first_fault_past line rest)
    ∙ ap (λ (o : Option ℕ). first_fault line (o ∷ rest)) (sym none)
    ∙ ap (first_fault line) (sym is)
    ∙ done

pub found_here : (line rule : ℕ) (first : Option ℕ) (rules rest : List (Option ℕ)) (all : Option FaultAt)
    → rules ≡ first ∷ rest → first ≡ Some rule → first_fault line rules ≡ all → all ≡ Some (record { rule = rule; line = line })
found_here line rule first rules rest all is some done =
    sym done ∙ ap (first_fault line) is ∙ ap (λ (o : Option ℕ). first_fault line (o ∷ rest)) some ∙ first_fault_here line rule rest

pub none_left : (line : ℕ) (rules : List (Option ℕ)) (all : Option FaultAt) → rules ≡ [] → first_fault line rules ≡ all → all ≡ None
none_left line rules all none done = sym done ∙ ap (first_fault line) none ∙ first_fault_none line

-- the rules from element i on
pub map_rules-at : {A : Type 0} (rule : A → Option ℕ) (xs : List A) (i : ℕ) (x : A) → i < length xs → x ≡ get_or xs i x
    → map rule (drop i xs) ≡ rule x ∷ map rule (drop (i + 1) xs)
map_rules-at rule xs i x h is =
    ap (map rule) (drop-cons xs i x h)
    ∙ ap (λ y. rule y ∷ map rule (drop (suc i) xs)) (sym is)
    ∙ ap (λ (n : ℕ). rule x ∷ map rule (drop n xs)) (sym (add-one i))

pub map_rules-end : {A : Type 0} (rule : A → Option ℕ) (xs : List A) (i : ℕ) → length xs ≤ i → map rule (drop i xs) ≡ []
map_rules-end rule xs i h = ap (map rule) (drop_all i xs h)

pub arg_rules-next : (args rest : List Arg) (kinds others : List Kind) (arg : Arg) (kind : Kind) → args ≡ arg ∷ rest → kinds ≡ kind ∷ others
    → arg_rules args kinds ≡ arg_rule arg kind ∷ arg_rules rest others
unfolding arg_rules
arg_rules-next args rest kinds others arg kind one other = ap (λ (xs : List Arg). arg_rules xs kinds) one ∙ ap (arg_rules (arg ∷ rest)) other

length-arg_rules : (args : List Arg) (kinds : List Kind) → length (arg_rules args kinds) ≡ length args
unfolding arg_rules
length-arg_rules [] kinds = refl
length-arg_rules (arg ∷ args) [] = ap suc (length-arg_rules args [])
length-arg_rules (arg ∷ args) (kind ∷ kinds) = ap suc (length-arg_rules args kinds)

-- an argument past the parameters violates no rule
fine_past : (line : ℕ) (args : List Arg) → first_fault line (arg_rules args []) ≡ None
unfolding first_fault arg_rules
fine_past line [] = refl
fine_past line (arg ∷ args) = fine_past (line + 1) args

fine_without : (line : ℕ) (kinds : List Kind) → first_fault line (arg_rules [] kinds) ≡ None
unfolding first_fault arg_rules
fine_without line kinds = refl

-- so where either list is at its end there is no further fault
pub no_pair_left : (line : ℕ) (args : List Arg) (kinds : List Kind) → (args ≡ []) ⊎ (kinds ≡ []) → first_fault line (arg_rules args kinds) ≡ None
no_pair_left line args kinds (inl none) = ap (λ (xs : List Arg). first_fault line (arg_rules xs kinds)) none ∙ fine_without line kinds
no_pair_left line args kinds (inr none) = ap (λ (xs : List Kind). first_fault line (arg_rules args xs)) none ∙ fine_past line args

-- what an answer tells
pub answer-none : (fault : Option FaultAt) (u : Unit {0}) → Ok u ≡ answer_of fault → fault ≡ None
answer-none None u e = refl
answer-none (Some fault) u e = absurd (cc)

-- a fault of a part is the whole's
pub answer-fault : (part whole after : Option FaultAt) (e : LaunchFault) → Err e ≡ answer_of part → whole ≡ option_or part after → Err e ≡ answer_of whole
answer-fault None whole after e is or = absurd (cc)
answer-fault (Some fault) whole after e is or = is ∙ ap answer_of (sym or)

-- the faults of a launch: those of the buffers' lines, of the arguments' lines, and of the schedule's line
abbrev pub fault_of_parts : LaunchOf → List Kind → List (List ℕ) → Option FaultAt
fault_of_parts launch kinds taken =
    option_or
    (first_fault 5 (map (buffer_rule taken) launch.buffers))
    (option_or
    (first_fault (5 + length launch.buffers) (arg_rules launch.args kinds))
    (first_fault (5 + length launch.buffers + length launch.args) (count_rule launch.args kinds ∷ [])))

pub fault-parts : (launch : LaunchOf) (kinds : List Kind) (taken : List (List ℕ)) → fit_fault launch kinds taken ≡ fault_of_parts launch kinds taken
unfolding line_rules first_fault
fault-parts launch kinds taken =
    let buffers = map (buffer_rule taken) launch.buffers in
    let args = arg_rules launch.args kinds in
    let count = count_rule launch.args kinds ∷ [] in
    first_fault-append 5 buffers (args ++ count)
    ∙ ap (option_or (first_fault 5 buffers)) (
    ap (λ (n : ℕ). first_fault (5 + n) (args ++ count)) (length-map launch.buffers (buffer_rule taken))
    ∙ first_fault-append (5 + length launch.buffers) args count
    ∙ ap (λ (n : ℕ). option_or (first_fault (5 + length launch.buffers) args) (first_fault (5 + length launch.buffers + n) count)) (length-arg_rules launch.args kinds)
    )

-- what the parts answer is what the launch is answered
pub bad_buffers : (launch : LaunchOf) (kinds : List Kind) (taken : List (List ℕ)) (buffers : List BufferLine) (e : LaunchFault)
    → buffers ≡ launch.buffers → Err e ≡ answer_of (first_fault 5 (map (buffer_rule taken) buffers)) → Err e ≡ answer_of (fit_fault launch kinds taken)
bad_buffers launch kinds taken buffers e same is =
    answer-fault (first_fault 5 (map (buffer_rule taken) launch.buffers)) _ _ e (is ∙ ap (λ (xs : List BufferLine). answer_of (first_fault 5 (map (buffer_rule taken) xs))) same)
    (fault-parts launch kinds taken)

-- the parts behind buffers without fault
fault-behind_buffers : (launch : LaunchOf) (kinds : List Kind) (taken : List (List ℕ)) (buffers : List BufferLine) (u : Unit {0})
    → buffers ≡ launch.buffers → Ok u ≡ answer_of (first_fault 5 (map (buffer_rule taken) buffers))
    → fit_fault launch kinds taken
    ≡ option_or (first_fault (5 + length launch.buffers) (arg_rules launch.args kinds)) (first_fault (5 + length launch.buffers + length launch.args) (count_rule launch.args kinds ∷ []))
fault-behind_buffers launch kinds taken buffers u same is =
    let none = answer-none (first_fault 5 (map (buffer_rule taken) launch.buffers)) u (is ∙ ap (λ (xs : List BufferLine). answer_of (first_fault 5 (map (buffer_rule taken) xs))) same) in
    fault-parts launch kinds taken
    ∙ ap (λ (o : Option FaultAt). option_or o (option_or (first_fault (5 + length launch.buffers) (arg_rules launch.args kinds)) (first_fault (5 + length launch.buffers + length launch.args) (count_rule launch.args kinds ∷ [])))) none

pub bad_args : (launch : LaunchOf) (kinds : List Kind) (taken : List (List ℕ)) (buffers : List BufferLine) (args : List Arg) (first : ℕ) (u : Unit {0}) (e : LaunchFault)
    → buffers ≡ launch.buffers → args ≡ launch.args → first ≡ 5 + length launch.buffers
    → Ok u ≡ answer_of (first_fault 5 (map (buffer_rule taken) buffers)) → Err e ≡ answer_of (first_fault first (arg_rules args kinds))
    → Err e ≡ answer_of (fit_fault launch kinds taken)
bad_args launch kinds taken buffers args first u e same alike start fine is =
    answer-fault (first_fault (5 + length launch.buffers) (arg_rules launch.args kinds)) _ _ e
    (is ∙ ap (λ (n : ℕ). answer_of (first_fault n (arg_rules args kinds))) start ∙ ap (λ (xs : List Arg). answer_of (first_fault (5 + length launch.buffers) (arg_rules xs kinds))) alike)
    (fault-behind_buffers launch kinds taken buffers u same fine)

-- behind buffers and arguments without fault the count is left
fault-behind_args : (launch : LaunchOf) (kinds : List Kind) (taken : List (List ℕ)) (buffers : List BufferLine) (args : List Arg) (first : ℕ) (u v : Unit {0})
    → buffers ≡ launch.buffers → args ≡ launch.args → first ≡ 5 + length launch.buffers
    → Ok u ≡ answer_of (first_fault 5 (map (buffer_rule taken) buffers)) → Ok v ≡ answer_of (first_fault first (arg_rules args kinds))
    → fit_fault launch kinds taken ≡ first_fault (5 + length launch.buffers + length launch.args) (count_rule launch.args kinds ∷ [])
fault-behind_args launch kinds taken buffers args first u v same alike start fine is =
    let none = answer-none (first_fault (5 + length launch.buffers) (arg_rules launch.args kinds)) v
    (is ∙ ap (λ (n : ℕ). answer_of (first_fault n (arg_rules args kinds))) start ∙ ap (λ (xs : List Arg). answer_of (first_fault (5 + length launch.buffers) (arg_rules xs kinds))) alike)
    in
    fault-behind_buffers launch kinds taken buffers u same fine
    ∙ ap (λ (o : Option FaultAt). option_or o (first_fault (5 + length launch.buffers + length launch.args) (count_rule launch.args kinds ∷ []))) none

pub all_fit : (launch : LaunchOf) (kinds : List Kind) (taken : List (List ℕ)) (buffers : List BufferLine) (args : List Arg) (first : ℕ) (u v : Unit {0})
    → buffers ≡ launch.buffers → args ≡ launch.args → first ≡ 5 + length launch.buffers
    → Ok u ≡ answer_of (first_fault 5 (map (buffer_rule taken) buffers)) → Ok v ≡ answer_of (first_fault first (arg_rules args kinds))
    → length launch.args ≡ length kinds → Ok tt ≡ answer_of (fit_fault launch kinds taken)
unfolding first_fault
all_fit launch kinds taken buffers args first u v same alike start fine is count =
    let test : (length launch.args == length kinds) ≡ true = grind (arith, nat_tests) in
    sym (ap answer_of (
    fault-behind_args launch kinds taken buffers args first u v same alike start fine is
    ∙ ap (λ (b : Bool). first_fault (5 + length launch.buffers + length launch.args) (rule_where (not b) 8 None ∷ [])) test
    ))

pub bad_count : (launch : LaunchOf) (kinds : List Kind) (taken : List (List ℕ)) (buffers : List BufferLine) (args : List Arg) (first line : ℕ) (u v : Unit {0})
    → buffers ≡ launch.buffers → args ≡ launch.args → first ≡ 5 + length launch.buffers
    → Ok u ≡ answer_of (first_fault 5 (map (buffer_rule taken) buffers)) → Ok v ≡ answer_of (first_fault first (arg_rules args kinds))
    → length launch.args ≢ length kinds → line ≡ 5 + length launch.buffers + length launch.args → Err (Rule 8 line) ≡ answer_of (fit_fault launch kinds taken)
unfolding first_fault
bad_count launch kinds taken buffers args first line u v same alike start fine is count at =
    let test : (length launch.args == length kinds) ≡ false = grind (arith, nat_tests) in
    ap (λ (n : ℕ). Err (Rule 8 n)) at
    ∙ sym (ap answer_of (
    fault-behind_args launch kinds taken buffers args first u v same alike start fine is
    ∙ ap (λ (b : Bool). first_fault (5 + length launch.buffers + length launch.args) (rule_where (not b) 8 None ∷ [])) test
    ))
