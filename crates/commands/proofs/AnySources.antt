-- A run that makes what it wants for these sources makes it for others, where all that is made rightly for the ones is so for the others.
use Rattle.std.proofs.Common.{inl, inr, Bool, false, ℕ, List}
use Rattle.q_io.specs.FilesMeaning.{FilesState}
use Rattle.q_io.specs.SinkMeaning.{SinkState}
use Rattle.promise.specs.Language.{Language, Meanings, Sources}
use Rattle.commands.specs.Plan.{Compilation, IsCompilation, compiled, violated, Understanding, IsUnderstanding, understood, refuted, no_language, no_meanings, no_sources, both, Wanted, a_module, a_meaning, a_verdict, MadeOf, IsMadeOf, Plan, reads, writes, makes, commits, answers, Ends}
use Rattle.commands.specs.declared.status.Status.{Status}

module _ (one other : Sources) (more : (wanted : Wanted) (made : MadeOf wanted) → IsMadeOf one wanted made → IsMadeOf other wanted made) where
  ends_more : (asks : Bool) (plan : Plan) (before : FilesState) (out_before : SinkState) (now : FilesState) (out_now : SinkState) (result : Status)
      → Ends one asks plan before out_before now out_now result → Ends other asks plan before out_before now out_now result
  ends_more asks (reads name limit next) before out_before now out_now result (inl h) = inl h
  ends_more asks (reads name limit next) before out_before now out_now result (inr (inl h)) = inr (inl h)
  ends_more asks (reads name limit next) before out_before now out_now result (inr (inr h)) =
      inr (inr (h.0, h.1, h.2, ends_more asks (next h.0) h.1 out_before now out_now result h.3))
  ends_more asks (writes name bytes next) before out_before now out_now result (inl h) = inl h
  ends_more asks (writes name bytes next) before out_before now out_now result (inr (inl h)) = inr (inl h)
  ends_more asks (writes name bytes next) before out_before now out_now result (inr (inr h)) =
      inr (inr (h.0, h.1, ends_more asks next h.0 out_before now out_now result h.2))
  ends_more asks (makes wanted next) before out_before now out_now result (inl h) = inl h
  ends_more asks (makes wanted next) before out_before now out_now result (inr h) =
      inr (h.0, more wanted h.0 h.1, ends_more asks (next h.0) before out_before now out_now result h.2)
  ends_more asks (commits next) before out_before now out_now result (inl h) = inl h
  ends_more asks (commits next) before out_before now out_now result (inr h) = inr (ends_more false next before out_before now out_now result h)
  ends_more asks (answers answer line) before out_before now out_now result (inl h) = inl h
  ends_more asks (answers answer line) before out_before now out_now result (inr h) = inr h

none_compiled : (source kernel : List ℕ) (made : Compilation) → IsCompilation no_language source kernel made → ⊥
none_compiled source kernel (compiled code) h = h.1.is_kernel
none_compiled source kernel (violated rule at) h = h

none_understood : (source kernel : List ℕ) (made : Understanding) → IsUnderstanding no_meanings source kernel made → ⊥
none_understood source kernel (understood meaning) h = h
none_understood source kernel (refuted rule at) h = h

-- a run that compiles nothing
pub ends_judged : (language : Language) (meanings : Meanings) (asks : Bool) (plan : Plan) (before : FilesState) (out_before : SinkState) (now : FilesState) (out_now : SinkState) (result : Status)
    → Ends (both no_language meanings) asks plan before out_before now out_now result → Ends (both language meanings) asks plan before out_before now out_now result
ends_judged language meanings = ends_more (both no_language meanings) (both language meanings) made_judged
  where
    made_judged : (wanted : Wanted) (made : MadeOf wanted) → IsMadeOf (both no_language meanings) wanted made → IsMadeOf (both language meanings) wanted made
    made_judged (a_module source kernel) made h = absurd (none_compiled source kernel made h)
    made_judged (a_meaning source kernel) made h = h
    made_judged (a_verdict item items buffers turns) made h = h

-- a run that asks for no meaning
pub ends_compiled : (language : Language) (meanings : Meanings) (asks : Bool) (plan : Plan) (before : FilesState) (out_before : SinkState) (now : FilesState) (out_now : SinkState) (result : Status)
    → Ends (both language no_meanings) asks plan before out_before now out_now result → Ends (both language meanings) asks plan before out_before now out_now result
ends_compiled language meanings = ends_more (both language no_meanings) (both language meanings) made_compiled
  where
    made_compiled : (wanted : Wanted) (made : MadeOf wanted) → IsMadeOf (both language no_meanings) wanted made → IsMadeOf (both language meanings) wanted made
    made_compiled (a_module source kernel) made h = h
    made_compiled (a_meaning source kernel) made h = absurd (none_understood source kernel made h)
    made_compiled (a_verdict item items buffers turns) made h = h

-- a run that does neither
pub ends_any : (language : Language) (meanings : Meanings) (asks : Bool) (plan : Plan) (before : FilesState) (out_before : SinkState) (now : FilesState) (out_now : SinkState) (result : Status)
    → Ends no_sources asks plan before out_before now out_now result → Ends (both language meanings) asks plan before out_before now out_now result
ends_any language meanings asks plan before out_before now out_now result h =
    ends_judged language meanings asks plan before out_before now out_now result (ends_compiled no_language meanings asks plan before out_before now out_now result h)
