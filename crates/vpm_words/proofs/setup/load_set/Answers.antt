use Rattle.std.proofs.Common.{arith, ◌∙◌, ap}
use Rattle.vpm_words.specs.Words.{load_word, read_setup_of}
use Rattle.vpm_words.proofs.WordLaws.{load_bounds, load_read}
use Rattle.vpm_words.proofs.setup.load_set.Goals as goal

pub overflow_add-result : goal.overflow_add-result
overflow_add-result c = let b = load_bounds c.t.inside.mode c.t.inside.len c.t.inside.row c.t.inside.col c.t.invariant in omega (arith, b)

pub overflow_add-result-2 : goal.overflow_add-result-2
overflow_add-result-2 c = let b = load_bounds c.t.inside.mode c.t.inside.len c.t.inside.row c.t.inside.col c.t.invariant in omega (arith, b)

pub overflow_add-result-3 : goal.overflow_add-result-3
overflow_add-result-3 c = let b = load_bounds c.t.inside.mode c.t.inside.len c.t.inside.row c.t.inside.col c.t.invariant in omega (arith, b)

pub overflow_add-result-4 : goal.overflow_add-result-4
overflow_add-result-4 c = let b = load_bounds c.t.inside.mode c.t.inside.len c.t.inside.row c.t.inside.col c.t.invariant in omega (arith, b)

pub returns-clause-word : goal.returns-clause-word
unfolding load_word
returns-clause-word c = let b = load_bounds c.t.inside.mode c.t.inside.len c.t.inside.row c.t.inside.col c.t.invariant in rw (← c.t.view_is) (omega (arith, b))

pub returns-clause-again : goal.returns-clause-again
returns-clause-again c = ap read_setup_of (returns-clause-word c) ∙ load_read c.args.t (rw (← c.t.view_is) c.t.invariant)
