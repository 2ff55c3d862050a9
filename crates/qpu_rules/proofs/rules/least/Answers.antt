use Rattle.std.proofs.Common.{sym, ◌∙◌, ap}
use Rattle.qpu_rules.proofs.Chain.{first_true, first_false, least_of_few}
use Rattle.qpu_rules.specs.Restrictions.{breaks_h5, is_several, least_of_accesses, least_rule}
use Rattle.qpu_rules.proofs.rules.least.Goals as goal

pub returns-then-reads_fresh : goal.returns-then-reads_fresh
unfolding least_rule breaks_h5
returns-then-reads_fresh c = first_true _ _ (sym c.reads_fresh.ensures ∙ c.if-reads_fresh.true)

pub returns-then-rotates_fresh : goal.returns-then-rotates_fresh
unfolding least_rule breaks_h5
returns-then-rotates_fresh c = first_false _ _ (sym c.reads_fresh.ensures ∙ c.if-reads_fresh.false) (first_true _ _ (sym c.rotates_fresh.ensures ∙ c.if-rotates_fresh.true))

pub returns-then-rotates_by_fresh : goal.returns-then-rotates_by_fresh
unfolding least_rule breaks_h5
returns-then-rotates_by_fresh c = first_false _ _ (sym c.reads_fresh.ensures ∙ c.if-reads_fresh.false) (first_false _ _ (sym c.rotates_fresh.ensures ∙ c.if-rotates_fresh.false) (first_true _ _ (sym c.rotates_by_fresh.ensures ∙ c.if-rotates_by_fresh.true)))

pub returns-then-lacks_uniform : goal.returns-then-lacks_uniform
unfolding least_rule breaks_h5
returns-then-lacks_uniform c = first_false _ _ (sym c.reads_fresh.ensures ∙ c.if-reads_fresh.false) (first_false _ _ (sym c.rotates_fresh.ensures ∙ c.if-rotates_fresh.false) (first_false _ _ (sym c.rotates_by_fresh.ensures ∙ c.if-rotates_by_fresh.false) (first_true _ _ (sym c.lacks_uniform.ensures ∙ c.if-lacks_uniform.true))))

pub returns-then-several : goal.returns-then-several
unfolding least_rule breaks_h5
returns-then-several c = first_false _ _ (sym c.reads_fresh.ensures ∙ c.if-reads_fresh.false) (first_false _ _ (sym c.rotates_fresh.ensures ∙ c.if-rotates_fresh.false) (first_false _ _ (sym c.rotates_by_fresh.ensures ∙ c.if-rotates_by_fresh.false) (first_false _ _ (sym c.lacks_uniform.ensures ∙ c.if-lacks_uniform.false) (first_true _ _ (sym (c.several.ensures ∙ ap is_several c.accesses_of-accesses.ensures) ∙ c.if-several.true)))))

pub returns-then-turns_off_late : goal.returns-then-turns_off_late
unfolding least_rule breaks_h5
returns-then-turns_off_late c = first_false _ _ (sym c.reads_fresh.ensures ∙ c.if-reads_fresh.false) (first_false _ _ (sym c.rotates_fresh.ensures ∙ c.if-rotates_fresh.false) (first_false _ _ (sym c.rotates_by_fresh.ensures ∙ c.if-rotates_by_fresh.false) (first_false _ _ (sym c.lacks_uniform.ensures ∙ c.if-lacks_uniform.false) (first_false _ _ (sym (c.several.ensures ∙ ap is_several c.accesses_of-accesses.ensures) ∙ c.if-several.false) (first_true _ _ (sym c.turns_off_late.ensures ∙ c.if-turns_off_late.true))))))

pub returns-then-works_at_end : goal.returns-then-works_at_end
unfolding least_rule breaks_h5
returns-then-works_at_end c = first_false _ _ (sym c.reads_fresh.ensures ∙ c.if-reads_fresh.false) (first_false _ _ (sym c.rotates_fresh.ensures ∙ c.if-rotates_fresh.false) (first_false _ _ (sym c.rotates_by_fresh.ensures ∙ c.if-rotates_by_fresh.false) (first_false _ _ (sym c.lacks_uniform.ensures ∙ c.if-lacks_uniform.false) (first_false _ _ (sym (c.several.ensures ∙ ap is_several c.accesses_of-accesses.ensures) ∙ c.if-several.false) (first_false _ _ (sym c.turns_off_late.ensures ∙ c.if-turns_off_late.false) (first_true _ _ (sym c.works_at_end.ensures ∙ c.if-works_at_end.true)))))))

pub returns-else-works_at_end : goal.returns-else-works_at_end
unfolding least_rule breaks_h5
returns-else-works_at_end c = first_false _ _ (sym c.reads_fresh.ensures ∙ c.if-reads_fresh.false) (first_false _ _ (sym c.rotates_fresh.ensures ∙ c.if-rotates_fresh.false) (first_false _ _ (sym c.rotates_by_fresh.ensures ∙ c.if-rotates_by_fresh.false) (first_false _ _ (sym c.lacks_uniform.ensures ∙ c.if-lacks_uniform.false) (first_false _ _ (sym (c.several.ensures ∙ ap is_several c.accesses_of-accesses.ensures) ∙ c.if-several.false) (first_false _ _ (sym c.turns_off_late.ensures ∙ c.if-turns_off_late.false) (first_false _ _ (sym c.works_at_end.ensures ∙ c.if-works_at_end.false) (c.broken_by_accesses.ensures ∙ ap (λ n. least_of_accesses n c.args.recent.now.age c.args.seen.now) c.accesses_of-accesses.ensures
    ∙ least_of_few _ _ _ (sym (c.several.ensures ∙ ap is_several c.accesses_of-accesses.ensures) ∙ c.if-several.false))))))))
