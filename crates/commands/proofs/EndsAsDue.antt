-- A run of a plan ends as is due, where the files are told.
use Rattle.std.proofs.Common.{◌≡◌, inl, inr, ℕ, ◌≤◌, ◌<◌, Bool, true, false, List, [], ◌∷◌, length, refl, sym, ap, ◌∙◌, subst, arith, cond, rules, tests}
use Rattle.std.specs.Prelude.{Option, Some, None, IfSome, option_map, nat_le}
use Rattle.q_io.specs.FilesMeaning.{Tree, with_file, FilesState, FilesCountsStay}
use Rattle.q_io.specs.SinkMeaning.{SinkState}
use Rattle.commands.specs.Lines.{SaysTrouble}
use Rattle.commands.specs.Plan.{Wanted, a_module, a_meaning, a_verdict, MadeOf, Plan, reads, writes, makes, commits, answers, Ends, GivesUp, StopsAtWrite, ReadTrouble, WriteTrouble}
use Rattle.commands.specs.Due.{Place, read, write, make, commit, Due, then_due, trouble_due, due_read, Made, module_made, meaning_made, verdict_made, made_for, due_made, due_of, AreMade, StoppedAt, EndsAsDue, EndsAsMade}
use Rattle.commands.specs.declared.status.Status.{Status}
use Rattle.commands.specs.declared.places.Trouble.{Trouble}
use Rattle.commands.specs.declared.places.Trouble.TheVariants.{Missing as IsMissing, TooLong as IsTooLong, ReadFault as IsReadFault, WriteFault as IsWriteFault, Memory as IsMemory}
use Rattle.promise.specs.Language.{Sources}

pub told_at : (told : Option Tree) (tree : Tree) (P : Tree → Type 0) → told ≡ Some tree → IfSome told P → P tree
told_at told tree P e h = subst (λ t. IfSome t P) e h

-- a fault at a place counts from an earlier moment too
earlier_fault : (place : Place) (tree : Tree) (first before now : FilesState) (trouble : Trouble) → FilesCountsStay first before → StoppedAt place tree before now trouble → StoppedAt place tree first now trouble
earlier_fault (read name) tree first before now trouble counts stopped =
    (stopped.0, elim stopped.1 [ inl h ↦ inl (h.0, omega (arith, h.1)) | inr h ↦ inr (h.0, omega (arith, h.1)) ])
earlier_fault (write name bytes) tree first before now trouble counts stopped =
    (stopped.0, elim stopped.1 [ inl h ↦ inl (h.0, omega (arith, h.1)) | inr h ↦ inr (h.0, omega (arith, h.1)) ])
earlier_fault (make wanted made) tree first before now trouble counts stopped = stopped
earlier_fault commit tree first before now trouble counts stopped = stopped

passes_read : (asks : Bool) (name : List ℕ) (due : Due) (tree : Tree) (first before now : FilesState) (out_before out_now : SinkState) (result : Status)
    → FilesCountsStay first before
    → EndsAsDue asks due tree before out_before now out_now result
    → EndsAsDue asks (then_due (read name) due) tree first out_before now out_now result
passes_read asks name due tree first before now out_before out_now result counts (inl h) = inl (record { files = h.files; says = h.says })
passes_read asks name due tree first before now out_before out_now result counts (inr (inl h)) =
    inr (inl (record {
      passed = read name ∷ h.passed;
      place = h.place;
      rest = h.rest;
      order = ap (λ ps. read name ∷ ps) h.order;
      trouble = h.trouble;
      stopped = earlier_fault h.place _ first before now h.trouble counts h.stopped;
      says = h.says;
    }))
passes_read asks name due tree first before now out_before out_now result counts (inr (inr h)) =
    inr (inr (record {
      may = h.may;
      is = h.is;
      passed = read name ∷ h.passed;
      rest = h.rest;
      order = ap (λ ps. read name ∷ ps) h.order;
      no_step = h.no_step;
      files = h.files;
      out = h.out;
    }))

passes_write : (asks : Bool) (name bytes : List ℕ) (due : Due) (tree : Tree) (first before now : FilesState) (out_before out_now : SinkState) (result : Status)
    → FilesCountsStay first before
    → EndsAsDue asks due (with_file name (Some bytes) tree) before out_before now out_now result
    → EndsAsDue asks (then_due (write name bytes) due) tree first out_before now out_now result
passes_write asks name bytes due tree first before now out_before out_now result counts (inl h) = inl (record { files = h.files; says = h.says })
passes_write asks name bytes due tree first before now out_before out_now result counts (inr (inl h)) =
    inr (inl (record {
      passed = write name bytes ∷ h.passed;
      place = h.place;
      rest = h.rest;
      order = ap (λ ps. write name bytes ∷ ps) h.order;
      trouble = h.trouble;
      stopped = earlier_fault h.place _ first before now h.trouble counts h.stopped;
      says = h.says;
    }))
passes_write asks name bytes due tree first before now out_before out_now result counts (inr (inr h)) =
    inr (inr (record {
      may = h.may;
      is = h.is;
      passed = write name bytes ∷ h.passed;
      rest = h.rest;
      order = ap (λ ps. write name bytes ∷ ps) h.order;
      no_step = h.no_step;
      files = h.files;
      out = h.out;
    }))

passes_make : (asks : Bool) (wanted : Wanted) (made : MadeOf wanted) (due : Due) (tree : Tree) (before now : FilesState) (out_before out_now : SinkState) (result : Status)
    → EndsAsDue asks due tree before out_before now out_now result
    → EndsAsDue asks (then_due (make wanted made) due) tree before out_before now out_now result
passes_make asks wanted made due tree before now out_before out_now result (inl h) = inl (record { files = h.files; says = h.says })
passes_make asks wanted made due tree before now out_before out_now result (inr (inl h)) =
    inr (inl (record {
      passed = make wanted made ∷ h.passed;
      place = h.place;
      rest = h.rest;
      order = ap (λ ps. make wanted made ∷ ps) h.order;
      trouble = h.trouble;
      stopped = h.stopped;
      says = h.says;
    }))
passes_make asks wanted made due tree before now out_before out_now result (inr (inr h)) =
    inr (inr (record {
      may = h.may;
      is = h.is;
      passed = make wanted made ∷ h.passed;
      rest = h.rest;
      order = ap (λ ps. make wanted made ∷ ps) h.order;
      no_step = h.no_step;
      files = h.files;
      out = h.out;
    }))

-- from here on memory isn't asked for
passes_commit : (asks : Bool) (due : Due) (tree : Tree) (before now : FilesState) (out_before out_now : SinkState) (result : Status)
    → EndsAsDue false due tree before out_before now out_now result
    → EndsAsDue asks (then_due commit due) tree before out_before now out_now result
passes_commit asks due tree before now out_before out_now result (inl h) = inl (record { files = h.files; says = h.says })
passes_commit asks due tree before now out_before out_now result (inr (inl h)) =
    inr (inl (record {
      passed = commit ∷ h.passed;
      place = h.place;
      rest = h.rest;
      order = ap (λ ps. commit ∷ ps) h.order;
      trouble = h.trouble;
      stopped = h.stopped;
      says = h.says;
    }))
passes_commit asks due tree before now out_before out_now result (inr (inr h)) = absurd (let no : false ≡ true = h.may in cc)

gives_up : (asks : Bool) (due : Due) (tree : Tree) (before now : FilesState) (out_before out_now : SinkState) (result : Status)
    → before.told ≡ Some tree
    → GivesUp asks before now out_before out_now result
    → EndsAsDue asks due tree before out_before now out_now result
gives_up asks due tree before now out_before out_now result told h =
    inr (inr (record {
      may = h.may;
      is = h.is;
      passed = [];
      rest = due.places;
      order = refl;
      no_step = refl;
      files = ap (λ f. f.told) h.files ∙ told;
      out = h.out;
    }))

-- what a read makes due begins with that read
begins_with_read : (name : List ℕ) (limit : ℕ) (content : Option (List ℕ)) (next : List ℕ → Due) → (rest : List Place) × ((due_read name limit content next).places ≡ read name ∷ rest)
begins_with_read name limit None next = ([], refl)
begins_with_read name limit (Some bytes) next =
    elim (nat_le (length bytes) limit) as (λ b. (rest : List Place) × ((cond b (then_due (read name) (next bytes)) (trouble_due IsTooLong name)).places ≡ read name ∷ rest)) [
      | true ↦ ((next bytes).places, refl)
      | false ↦ ([], refl)
    ]

le_true : (m n : ℕ) → m ≤ n → nat_le m n ≡ true
le_true m n h = search (rules, tests)

le_false : (m n : ℕ) → n < m → nat_le m n ≡ false
le_false m n h = search (rules, tests)

-- what is due of a read that finds its file
pub due_found : (name : List ℕ) (limit : ℕ) (content : Option (List ℕ)) (bytes : List ℕ) (next : List ℕ → Due) → content ≡ Some bytes → length bytes ≤ limit
    → due_read name limit content next ≡ then_due (read name) (next bytes)
due_found name limit content bytes next e h =
    ap (λ c. due_read name limit c next) e ∙ ap (λ b. cond b (then_due (read name) (next bytes)) (trouble_due IsTooLong name)) (le_true _ _ h)

due_long : (name : List ℕ) (limit : ℕ) (content : Option (List ℕ)) (bytes : List ℕ) (next : List ℕ → Due) → content ≡ Some bytes → limit < length bytes
    → due_read name limit content next ≡ trouble_due IsTooLong name
due_long name limit content bytes next e h =
    ap (λ c. due_read name limit c next) e ∙ ap (λ b. cond b (then_due (read name) (next bytes)) (trouble_due IsTooLong name)) (le_false _ _ h)

stops_at_read : (asks : Bool) (name : List ℕ) (limit : ℕ) (next : List ℕ → Due) (tree : Tree) (before now : FilesState) (out_before out_now : SinkState) (result : Status)
    → before.told ≡ Some tree
    → now.told ≡ before.told
    → (trouble : Trouble)
    → ReadTrouble before now name limit trouble
    → SaysTrouble out_before out_now trouble name result
    → EndsAsDue asks (due_read name limit (tree name) next) tree before out_before now out_now result
stops_at_read asks name limit next tree before now out_before out_now result told files IsMissing cause says =
    let lacks : tree name ≡ None = told_at before.told tree (λ t. t name ≡ None) told cause.1 in
    subst (λ c. EndsAsDue asks (due_read name limit c next) tree before out_before now out_now result) (sym lacks) (inl (record { files = files ∙ told; says = says }))
stops_at_read asks name limit next tree before now out_before out_now result told files IsTooLong cause says =
    let passes = told_at before.told tree (λ t. (bytes : List ℕ) × (t name ≡ Some bytes) × (limit < length bytes)) told cause.1 in
    subst (λ d. EndsAsDue asks d tree before out_before now out_now result) (sym (due_long name limit (tree name) passes.0 next passes.1 passes.2)) (inl (record { files = files ∙ told; says = says }))
stops_at_read asks name limit next tree before now out_before out_now result told files IsReadFault cause says =
    let begins = begins_with_read name limit (tree name) next in
    inr (inl (record {
      passed = [];
      place = read name;
      rest = begins.0;
      order = begins.1;
      trouble = IsReadFault;
      stopped = (files ∙ told, inl (refl, cause));
      says = says;
    }))
stops_at_read asks name limit next tree before now out_before out_now result told files IsWriteFault cause says = absurd cause
stops_at_read asks name limit next tree before now out_before out_now result told files IsMemory cause says =
    let begins = begins_with_read name limit (tree name) next in
    inr (inl (record {
      passed = [];
      place = read name;
      rest = begins.0;
      order = begins.1;
      trouble = IsMemory;
      stopped = (files ∙ told, inr (refl, cause));
      says = says;
    }))

write_cause : (name bytes : List ℕ) (tree : Tree) (before now : FilesState) (trouble : Trouble) → ((left : Option (List ℕ)) × (now.told ≡ Some (with_file name left tree))) → WriteTrouble before now trouble → StoppedAt (write name bytes) tree before now trouble
write_cause name bytes tree before now IsMissing left cause = absurd cause
write_cause name bytes tree before now IsTooLong left cause = absurd cause
write_cause name bytes tree before now IsReadFault left cause = absurd cause
write_cause name bytes tree before now IsWriteFault left cause = (left, inl (refl, cause))
write_cause name bytes tree before now IsMemory left cause = (left, inr (refl, cause))

stops_at_write : (asks : Bool) (name bytes : List ℕ) (due : Due) (tree : Tree) (before now : FilesState) (out_before out_now : SinkState) (result : Status)
    → before.told ≡ Some tree
    → StopsAtWrite before now out_before out_now name result
    → EndsAsDue asks (then_due (write name bytes) due) tree before out_before now out_now result
stops_at_write asks name bytes due tree before now out_before out_now result told stop =
    inr (inl (record {
      passed = [];
      place = write name bytes;
      rest = due.places;
      order = refl;
      trouble = stop.trouble;
      stopped = write_cause name bytes tree before now stop.trouble (stop.files.0, stop.files.1 ∙ ap (option_map (with_file name stop.files.0)) told) stop.cause;
      says = stop.says;
    }))

-- where nothing is made, no place makes anything
read_none_made : (sources : Sources) (name : List ℕ) (limit : ℕ) (content : Option (List ℕ)) (next : List ℕ → Due) → ((bytes : List ℕ) → AreMade sources (next bytes).places) → AreMade sources (due_read name limit content next).places
read_none_made sources name limit None next h = tt
read_none_made sources name limit (Some bytes) next h =
    elim (nat_le (length bytes) limit) as (λ b. AreMade sources (cond b (then_due (read name) (next bytes)) (trouble_due IsTooLong name)).places) [ true ↦ h bytes | false ↦ tt ]

none_made : (sources : Sources) (plan : Plan) (tree : Tree) → AreMade sources (due_of plan tree []).places
none_made sources (reads name limit next) tree = read_none_made sources name limit (tree name) _ (λ bytes. none_made sources (next bytes) tree)
none_made sources (writes name bytes next) tree = none_made sources next (with_file name (Some bytes) tree)
none_made sources (makes wanted next) tree = tt
none_made sources (commits next) tree = none_made sources next tree
none_made sources (answers answer line) tree = tt

-- what was made, as one of those that are made
made_as : (wanted : Wanted) → MadeOf wanted → Made
made_as (a_module source kernel) made = module_made made
made_as (a_meaning source kernel) made = meaning_made made
made_as (a_verdict item items buffers turns) made = verdict_made made

made_back : (wanted : Wanted) (made : MadeOf wanted) → made_for wanted (made_as wanted made) ≡ Some made
unfolding made_as
made_back (a_module source kernel) made = refl
made_back (a_meaning source kernel) made = refl
made_back (a_verdict item items buffers turns) made = refl

-- a run that stops before anything is made
stops : (sources : Sources) (asks : Bool) (plan : Plan) (tree : Tree) (before : FilesState) (out_before : SinkState) (now : FilesState) (out_now : SinkState) (result : Status)
    → EndsAsDue asks (due_of plan tree []) tree before out_before now out_now result
    → EndsAsMade sources asks (due_of plan tree) tree before out_before now out_now result
stops sources asks plan tree before out_before now out_now result h = ([], none_made sources plan tree, h)

pub ends_as_due : (sources : Sources) (asks : Bool) (plan : Plan) (tree : Tree) (before : FilesState) (out_before : SinkState) (now : FilesState) (out_now : SinkState) (result : Status)
    → before.told ≡ Some tree
    → Ends sources asks plan before out_before now out_now result
    → EndsAsMade sources asks (due_of plan tree) tree before out_before now out_now result
ends_as_due sources asks (reads name limit next) tree before out_before now out_now result told (inl h) =
    stops sources asks (reads name limit next) tree before out_before now out_now result (gives_up asks _ tree before now out_before out_now result told h)
ends_as_due sources asks (reads name limit next) tree before out_before now out_now result told (inr (inl h)) =
    stops sources asks (reads name limit next) tree before out_before now out_now result (stops_at_read asks name limit _ tree before now out_before out_now result told h.files h.trouble h.cause h.says)
ends_as_due sources asks (reads name limit next) tree before out_before now out_now result told (inr (inr h)) =
    let bytes = h.0 in
    let mid = h.1 in
    let has_read = h.2 in
    let is : tree name ≡ Some bytes = told_at before.told tree (λ t. t name ≡ Some bytes) told has_read.holds in
    let rest = ends_as_due sources asks (next bytes) tree mid out_before now out_now result (has_read.files ∙ told) h.3 in
    let all : List Made = rest.0 in
    let found = due_found name limit (tree name) bytes (λ b. due_of (next b) tree all) is has_read.fits in (
      all,
      subst (λ d. AreMade sources d.places) (sym found) rest.1,
      subst (λ d. EndsAsDue asks d tree before out_before now out_now result) (sym found) (passes_read asks name _ tree before mid now out_before out_now result has_read.counts rest.2),
    )
ends_as_due sources asks (writes name bytes next) tree before out_before now out_now result told (inl h) =
    stops sources asks (writes name bytes next) tree before out_before now out_now result (gives_up asks _ tree before now out_before out_now result told h)
ends_as_due sources asks (writes name bytes next) tree before out_before now out_now result told (inr (inl h)) =
    stops sources asks (writes name bytes next) tree before out_before now out_now result (stops_at_write asks name bytes _ tree before now out_before out_now result told h)
ends_as_due sources asks (writes name bytes next) tree before out_before now out_now result told (inr (inr h)) =
    let mid = h.0 in
    let written = h.1 in
    let rest = ends_as_due sources asks next (with_file name (Some bytes) tree) mid out_before now out_now result (written.files ∙ ap (option_map (with_file name (Some bytes))) told) h.2 in
    (rest.0, rest.1, passes_write asks name bytes _ tree before mid now out_before out_now result written.counts rest.2)
ends_as_due sources asks (makes wanted next) tree before out_before now out_now result told (inl h) =
    stops sources asks (makes wanted next) tree before out_before now out_now result (gives_up asks _ tree before now out_before out_now result told h)
ends_as_due sources asks (makes wanted next) tree before out_before now out_now result told (inr h) =
    let rest = ends_as_due sources asks (next h.0) tree before out_before now out_now result told h.2 in
    let all : List Made = rest.0 in
    let due : Due = then_due (make wanted h.0) (due_of (next h.0) tree all) in
    let is : due ≡ due_made wanted (made_for wanted (made_as wanted h.0)) (λ it. due_of (next it) tree all) =
    sym (ap (λ made. due_made wanted made (λ it. due_of (next it) tree all)) (made_back wanted h.0)) in (
      made_as wanted h.0 ∷ all,
      subst (λ d. AreMade sources d.places) is (h.1, rest.1),
      subst (λ d. EndsAsDue asks d tree before out_before now out_now result) is (passes_make asks wanted h.0 _ tree before now out_before out_now result rest.2),
    )
ends_as_due sources asks (commits next) tree before out_before now out_now result told (inl h) =
    stops sources asks (commits next) tree before out_before now out_now result (gives_up asks _ tree before now out_before out_now result told h)
ends_as_due sources asks (commits next) tree before out_before now out_now result told (inr h) =
    let rest = ends_as_due sources false next tree before out_before now out_now result told h in
    (rest.0, rest.1, passes_commit asks _ tree before now out_before out_now result rest.2)
ends_as_due sources asks (answers answer line) tree before out_before now out_now result told (inl h) =
    stops sources asks (answers answer line) tree before out_before now out_now result (gives_up asks _ tree before now out_before out_now result told h)
ends_as_due sources asks (answers answer line) tree before out_before now out_now result told (inr h) =
    ([], tt, inl (record { files = ap (λ f. f.told) h.0 ∙ told; says = h.1 }))
