use Rattle.std.proofs.Common.{refl}
use Rattle.item_meaning.specs.Rows.{Questions}
use Rattle.item_meaning.proofs.rows.row_questions.Goals as goal

rows : Questions
unfolding Rattle.q_lane.specs.Numbers.applied Rattle.q_lane.specs.Numbers.applied_one Rattle.q_lane.specs.Numbers.narrowed Rattle.q_lane.specs.Numbers.quotient Rattle.q_lane.specs.Numbers.remainder Rattle.q_lane.specs.Numbers.is_less Rattle.q_functions.specs.NumberFunctions.number_function Rattle.q_functions.specs.NumberFunctions.built_in Rattle.q_functions.specs.WorkFunctions.work_function Rattle.item_meaning.specs.ItemMeaning.item
rows = (((refl, refl, refl), refl), ((refl, refl, refl), refl), ((refl, refl, refl), refl), ((refl, refl, refl), refl), ((refl, refl, refl), refl), ((refl, refl, refl), refl), ((refl, refl, refl), refl), ((refl, refl, refl), refl), ((refl, refl, refl), refl), ((refl, refl, refl), refl))

pub returns : goal.returns
returns c = rows
