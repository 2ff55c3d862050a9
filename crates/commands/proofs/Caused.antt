-- Each status that a run of a plan ends with has its cause.
use Rattle.std.proofs.Common.{◌≡◌, inl, inr, ℕ, Bool, true, false, List, sym, subst, arith}
use Rattle.q_io.specs.FilesMeaning.{FilesState, FilesCountsStay}
use Rattle.q_io.specs.SinkMeaning.{SinkState, PutsAll}
use Rattle.q_io.specs.declared.Put.{Put}
use Rattle.q_io.specs.declared.Put.TheVariants.{Done as WasPut, Failed as PutFailed, Memory as PutShort}
use Rattle.commands.specs.Lines.{Says, SaysTrouble, status_after}
use Rattle.commands.specs.Plan.{Plan, reads, writes, makes, commits, answers, Answer, done, refused, bad_module, bad_launch, broken, unfinished, not_safe, status_of, Ends, ReadTrouble, WriteTrouble}
use Rattle.commands.proofs.Causes.{EndCause}
use Rattle.commands.specs.declared.status.Status.{Status}
use Rattle.commands.specs.declared.status.Status.TheVariants.{Done, Memory, Usage, ReadFault, WriteFault, Missing, TooLong, Refused, BadModule, BadLaunch, Broken, Unfinished, NotSafe}
use Rattle.commands.specs.declared.places.Trouble.{Trouble}
use Rattle.commands.specs.declared.places.Trouble.TheVariants.{Missing as IsMissing, TooLong as IsTooLong, ReadFault as IsReadFault, WriteFault as IsWriteFault, Memory as IsMemory}
use Rattle.promise.specs.Language.{Sources}

-- what rose in a part of the run rose in the whole
earlier : (asks : Bool) (first before now : FilesState) (out_before out_now : SinkState) (status : Status) → FilesCountsStay first before → EndCause asks before out_before now out_now status → EndCause asks first out_before now out_now status
earlier asks first before now out_before out_now Done h c = tt
earlier asks first before now out_before out_now Memory h (inl c) = inl c
earlier asks first before now out_before out_now Memory h (inr (inl c)) = inr (inl (omega arith))
earlier asks first before now out_before out_now Memory h (inr (inr c)) = inr (inr c)
earlier asks first before now out_before out_now Usage h c = c
earlier asks first before now out_before out_now ReadFault h c = omega arith
earlier asks first before now out_before out_now WriteFault h (inl c) = inl (omega arith)
earlier asks first before now out_before out_now WriteFault h (inr c) = inr c
earlier asks first before now out_before out_now Missing h c = omega arith
earlier asks first before now out_before out_now TooLong h c = omega arith
earlier asks first before now out_before out_now Refused h c = tt
earlier asks first before now out_before out_now BadModule h c = tt
earlier asks first before now out_before out_now BadLaunch h c = tt
earlier asks first before now out_before out_now Broken h c = tt
earlier asks first before now out_before out_now Unfinished h c = tt
earlier asks first before now out_before out_now NotSafe h c = tt

no_longer_asks : (asks : Bool) (before now : FilesState) (out_before out_now : SinkState) (status : Status) → EndCause false before out_before now out_now status → EndCause asks before out_before now out_now status
no_longer_asks asks before now out_before out_now Done c = tt
no_longer_asks asks before now out_before out_now Memory (inl c) = absurd (let no : false ≡ true = c.0 in cc)
no_longer_asks asks before now out_before out_now Memory (inr c) = inr c
no_longer_asks asks before now out_before out_now Usage c = c
no_longer_asks asks before now out_before out_now ReadFault c = c
no_longer_asks asks before now out_before out_now WriteFault c = c
no_longer_asks asks before now out_before out_now Missing c = c
no_longer_asks asks before now out_before out_now TooLong c = c
no_longer_asks asks before now out_before out_now Refused c = tt
no_longer_asks asks before now out_before out_now BadModule c = tt
no_longer_asks asks before now out_before out_now BadLaunch c = tt
no_longer_asks asks before now out_before out_now Broken c = tt
no_longer_asks asks before now out_before out_now Unfinished c = tt
no_longer_asks asks before now out_before out_now NotSafe c = tt

answer_caused : (asks : Bool) (before now : FilesState) (out_before out_now : SinkState) (answer : Answer) → EndCause asks before out_before now out_now (status_of answer)
answer_caused asks before now out_before out_now done = tt
answer_caused asks before now out_before out_now refused = tt
answer_caused asks before now out_before out_now bad_module = tt
answer_caused asks before now out_before out_now bad_launch = tt
answer_caused asks before now out_before out_now broken = tt
answer_caused asks before now out_before out_now unfinished = tt
answer_caused asks before now out_before out_now not_safe = tt

put_caused : (asks : Bool) (before now : FilesState) (out_before out_now : SinkState) (line : List ℕ) (status : Status) (put : Put) → PutsAll out_before out_now line put → EndCause asks before out_before now out_now status → EndCause asks before out_before now out_now (status_after put status)
put_caused asks before now out_before out_now line status WasPut taken c = c
put_caused asks before now out_before out_now line status PutFailed taken c = inr taken.0
put_caused asks before now out_before out_now line status PutShort taken c = inr (inr taken.0)

says_caused : (asks : Bool) (before now : FilesState) (out_before out_now : SinkState) (line : List ℕ) (status result : Status) → Says out_before out_now line status result → EndCause asks before out_before now out_now status → EndCause asks before out_before now out_now result
says_caused asks before now out_before out_now line status result says c =
    subst (λ s. EndCause asks before out_before now out_now s) (sym says.is) (put_caused asks before now out_before out_now line status says.put says.taken c)

read_caused : (asks : Bool) (before now : FilesState) (out_before out_now : SinkState) (name : List ℕ) (limit : ℕ) (trouble : Trouble) (result : Status)
    → ReadTrouble before now name limit trouble → SaysTrouble out_before out_now trouble name result → EndCause asks before out_before now out_now result
read_caused asks before now out_before out_now name limit IsMissing result c says = says_caused asks before now out_before out_now _ Missing result says c.0
read_caused asks before now out_before out_now name limit IsTooLong result c says = says_caused asks before now out_before out_now _ TooLong result says c.0
read_caused asks before now out_before out_now name limit IsReadFault result c says = says_caused asks before now out_before out_now _ ReadFault result says c
read_caused asks before now out_before out_now name limit IsWriteFault result c says = absurd c
read_caused asks before now out_before out_now name limit IsMemory result c says = subst (λ s. EndCause asks before out_before now out_now s) (sym says.1) (inr (inl c))

write_caused : (asks : Bool) (before now : FilesState) (out_before out_now : SinkState) (name : List ℕ) (trouble : Trouble) (result : Status)
    → WriteTrouble before now trouble → SaysTrouble out_before out_now trouble name result → EndCause asks before out_before now out_now result
write_caused asks before now out_before out_now name IsMissing result c says = absurd c
write_caused asks before now out_before out_now name IsTooLong result c says = absurd c
write_caused asks before now out_before out_now name IsReadFault result c says = absurd c
write_caused asks before now out_before out_now name IsWriteFault result c says = says_caused asks before now out_before out_now _ WriteFault result says (inl c)
write_caused asks before now out_before out_now name IsMemory result c says = subst (λ s. EndCause asks before out_before now out_now s) (sym says.1) (inr (inl c))

gave_up : (asks : Bool) (before now : FilesState) (out_before out_now : SinkState) (result : Status) → asks ≡ true → result ≡ Memory → out_now ≡ out_before → EndCause asks before out_before now out_now result
gave_up asks before now out_before out_now result may e same = subst (λ s. EndCause asks before out_before now out_now s) (sym e) (inl (may, same))

pub ends_caused : (sources : Sources) (asks : Bool) (plan : Plan) (before : FilesState) (out_before : SinkState) (now : FilesState) (out_now : SinkState) (result : Status) → Ends sources asks plan before out_before now out_now result → EndCause asks before out_before now out_now result
ends_caused sources asks (reads name limit next) before out_before now out_now result (inl h) = gave_up asks before now out_before out_now result h.may h.is h.out
ends_caused sources asks (reads name limit next) before out_before now out_now result (inr (inl h)) =
    read_caused asks before now out_before out_now name limit h.trouble result h.cause h.says
ends_caused sources asks (reads name limit next) before out_before now out_now result (inr (inr h)) =
    earlier asks before h.1 now out_before out_now result h.2.counts (ends_caused sources asks (next h.0) h.1 out_before now out_now result h.3)
ends_caused sources asks (writes name bytes next) before out_before now out_now result (inl h) = gave_up asks before now out_before out_now result h.may h.is h.out
ends_caused sources asks (writes name bytes next) before out_before now out_now result (inr (inl h)) =
    write_caused asks before now out_before out_now name h.trouble result h.cause h.says
ends_caused sources asks (writes name bytes next) before out_before now out_now result (inr (inr h)) =
    earlier asks before h.0 now out_before out_now result h.1.counts (ends_caused sources asks next h.0 out_before now out_now result h.2)
ends_caused sources asks (makes wanted next) before out_before now out_now result (inl h) = gave_up asks before now out_before out_now result h.may h.is h.out
ends_caused sources asks (makes wanted next) before out_before now out_now result (inr h) = ends_caused sources asks (next h.0) before out_before now out_now result h.2
ends_caused sources asks (commits next) before out_before now out_now result (inl h) = gave_up asks before now out_before out_now result h.may h.is h.out
ends_caused sources asks (commits next) before out_before now out_now result (inr h) =
    no_longer_asks asks before now out_before out_now result (ends_caused sources false next before out_before now out_now result h)
ends_caused sources asks (answers answer line) before out_before now out_now result (inl h) = gave_up asks before now out_before out_now result h.may h.is h.out
ends_caused sources asks (answers answer line) before out_before now out_now result (inr h) =
    says_caused asks before now out_before out_now _ _ result h.1 (answer_caused asks before now out_before out_now answer)
