-- A source has one meaning of a kernel's name at most, or else one first violation at most, and not both.
use Rattle.std.proofs.Common.{◌≡◌, ℕ, List, sym, ap, ◌∙◌}
use Rattle.clc_types.specs.declared.typed.TFunction.{TFunction}
use Rattle.clc_front.specs.Kinds.{kinds_at}
use Rattle.clc_front.proofs.Violations.{judged_once}
use Rattle.item_meaning.specs.ItemMeaning.{item}
use Rattle.promise.specs.Kernel.{Meaning}
use Rattle.promise.specs.Laws.{MeaningsAreOne}
use Rattle.clc_meanings.specs.Meanings.{IsMeant, opencl_meanings}

abbrev meaning_of : List TFunction → ℕ → Meaning
meaning_of functions number = record { kinds = kinds_at functions number; item = item functions number }

same_meaning : (source name : List ℕ) (one other : Meaning) → IsMeant source name one → IsMeant source name other → one ≡ other
same_meaning source name one other h g =
    let same = judged_once.same source name h.functions g.functions h.number g.number h.has g.has in
    h.is ∙ ap (λ functions. meaning_of functions h.number) same.0 ∙ ap (meaning_of g.functions) same.1 ∙ sym g.is

pub meanings_are_one : MeaningsAreOne opencl_meanings
meanings_are_one =
    record {
      one = λ source name one other h g. same_meaning source name one other h g;
      none = λ source name meaning rule at h. judged_once.none source name h.functions h.number rule at h.has;
      first = λ source name rule other at place. judged_once.one source name rule other at place;
    }
