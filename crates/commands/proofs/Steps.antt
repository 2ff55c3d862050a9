-- Steps of a run of a plan.
use Rattle.std.proofs.Common.{◌≡◌, inl, inr, ℕ, ◌+◌, ◌<◌, true, List, [], ◌∷◌, ◌++◌, length, map, take, drop, get_or, suc, add-one, refl, sym, ap, ◌∙◌, subst}
use Rattle.std.specs.Prelude.{Some, Option, Result, Ok, Err, IfOk, IfErr}
use Rattle.std.proofs.Math.Seq.{drop-cons, take-suc}
use Rattle.std.proofs.lemmas.List.{map-append}
use Rattle.launch_file.specs.Layout.{buffer_lens}
use Rattle.launch_file.specs.declared.launch.BufferLine.{BufferLine}
use Rattle.q_io.specs.FilesMeaning.{FilesState}
use Rattle.q_io.specs.SinkMeaning.{SinkState}
use Rattle.commands.specs.declared.status.Status.{Status}
use Rattle.commands.specs.declared.status.Status.TheVariants.{Memory}
use Rattle.commands.specs.Plan.{Plan, reads, writes, makes, commits, answers, Ends, Leads, HasRead}
use Rattle.commands.specs.Buffers.{filled, read_buffer, read_buffers, write_buffer, write_buffers}
use Rattle.promise.specs.Language.{Sources}

-- before the machine's first step a run may end for want of memory at any place
pub gives_up : (sources : Sources) (plan : Plan) (files : FilesState) (out : SinkState) → Ends sources true plan files out files out Memory
gives_up sources (reads name limit next) files out = inl (record { may = refl; is = refl; files = refl; out = refl })
gives_up sources (writes name bytes next) files out = inl (record { may = refl; is = refl; files = refl; out = refl })
gives_up sources (makes wanted next) files out = inl (record { may = refl; is = refl; files = refl; out = refl })
gives_up sources (commits next) files out = inl (record { may = refl; is = refl; files = refl; out = refl })
gives_up sources (answers answer line) files out = inl (record { may = refl; is = refl; files = refl; out = refl })

-- the reads from the i-th line on are the i-th and then the later ones
pub read_buffers_at : (lines : List BufferLine) (i : ℕ) (line : BufferLine) (buffers : List (List ℕ)) (next : List (List ℕ) → Plan)
    → i < length lines → line ≡ get_or lines i line
    → read_buffers (drop i lines) buffers next ≡ read_buffer line (λ bytes. read_buffers (drop (i + 1) lines) (buffers ++ bytes ∷ []) next)
read_buffers_at lines i line buffers next within is =
    ap (λ ls. read_buffers ls buffers next) (drop-cons lines i line within ∙ ap (λ l. l ∷ drop (suc i) lines) (sym is) ∙ ap (λ n. line ∷ drop n lines) (sym (add-one i)))

pub gives_up_as : (sources : Sources) (status : Status) (plan : Plan) (files : FilesState) (out : SinkState) → status ≡ Memory → Ends sources true plan files out files out status
gives_up_as sources status plan files out e = subst (λ s. Ends sources true plan files out files out s) (sym e) (gives_up sources plan files out)

pub if_err_map : {T E : Type 0} (result : Result T E) (P Q : E → Type 0) → ((e : E) → P e → Q e) → IfErr result P → IfErr result Q
if_err_map (Ok x) P Q h p = tt
if_err_map (Err e) P Q h p = h e p

-- a buffer's file was read
pub buffer_read : (sources : Sources) (line : BufferLine) (name bytes : List ℕ) (next : List ℕ → Plan) (files mid : FilesState) (out : SinkState)
    → line.from ≡ Some name → HasRead files mid name line.size bytes
    → Leads sources true (read_buffer line next) files out (next (filled line.size bytes)) mid out
buffer_read sources line name bytes next files mid out e h =
    let P : Option (List ℕ) → Type 0 = λ from. Leads sources true (read_buffer (record line { from = from }) next) files out (next (filled line.size bytes)) mid out in
    subst P (sym e) (λ now out_now result ends. inr (inr (bytes, mid, h, ends)))

-- the writes from the i-th line on are the i-th and then the later ones
pub write_buffers_at : (lines : List BufferLine) (buffers : List (List ℕ)) (i : ℕ) (line : BufferLine) (bytes : List ℕ) (next : Plan)
    → i < length lines → i < length buffers → line ≡ get_or lines i line → bytes ≡ get_or buffers i bytes
    → write_buffers (drop i lines) (drop i buffers) next ≡ write_buffer line bytes (write_buffers (drop (i + 1) lines) (drop (i + 1) buffers) next)
write_buffers_at lines buffers i line bytes next within within_buffers is bytes_is =
    let at = drop-cons lines i line within ∙ ap (λ l. l ∷ drop (suc i) lines) (sym is) ∙ ap (λ n. line ∷ drop n lines) (sym (add-one i)) in
    let bytes_at = drop-cons buffers i bytes within_buffers ∙ ap (λ b. b ∷ drop (suc i) buffers) (sym bytes_is) ∙ ap (λ n. bytes ∷ drop n buffers) (sym (add-one i)) in
    ap (λ ls. write_buffers ls (drop i buffers) next) at ∙ ap (λ bs. write_buffers (line ∷ drop (i + 1) lines) bs next) bytes_at

pub if_ok_map : {T E : Type 0} (result : Result T E) (P Q : T → Type 0) → ((x : T) → P x → Q x) → IfOk result P → IfOk result Q
if_ok_map (Ok x) P Q h p = h x p
if_ok_map (Err e) P Q h p = tt

-- the sizes of the buffers from the lines up to the i-th
pub one_more_size : (lines : List BufferLine) (i : ℕ) (line : BufferLine) (got : List (List ℕ)) (bytes : List ℕ)
    → i < length lines → line ≡ get_or lines i line → map length got ≡ buffer_lens (take i lines) → length bytes ≡ line.size
    → map length (got ++ bytes ∷ []) ≡ buffer_lens (take (i + 1) lines)
one_more_size lines i line got bytes within is sizes size =
    let taken : take (i + 1) lines ≡ take i lines ++ line ∷ [] =
    ap (λ n. take n lines) (add-one i) ∙ take-suc lines i line within ∙ ap (λ l. take i lines ++ l ∷ []) (sym is) in
    map-append length got (bytes ∷ []) ∙ ap (λ ns. ns ++ length bytes ∷ []) sizes ∙ ap (λ n. buffer_lens (take i lines) ++ n ∷ []) size
    ∙ sym (ap buffer_lens taken ∙ map-append (λ buffer. buffer.size) (take i lines) (line ∷ []))
