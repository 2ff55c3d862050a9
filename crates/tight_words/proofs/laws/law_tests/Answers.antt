use Rattle.tight_words.proofs.Decide.{loose_sound, loose_complete}
use Rattle.tight_words.proofs.laws.law_tests.Goals as goal

pub returns : goal.returns
returns c = record { sound_ = loose_sound; complete_ = loose_complete }
