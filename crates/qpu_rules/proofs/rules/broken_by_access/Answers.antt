use Rattle.std.proofs.Common.{sym, ◌∙◌, refl}
use Rattle.qpu_rules.proofs.Chain.{first_true, first_false}
use Rattle.qpu_rules.specs.Restrictions.{least_of_access}
use Rattle.qpu_rules.proofs.rules.broken_by_access.Goals as goal

pub returns-then-misuses_mutex : goal.returns-then-misuses_mutex
unfolding least_of_access
returns-then-misuses_mutex c = first_true _ _ (sym c.misuses_mutex.ensures ∙ c.if-misuses_mutex.true)

pub returns-then-is_without_mutex : goal.returns-then-is_without_mutex
unfolding least_of_access
returns-then-is_without_mutex c = first_false _ _ (sym c.misuses_mutex.ensures ∙ c.if-misuses_mutex.false) (first_true _ _ (sym c.is_without_mutex.ensures ∙ c.if-is_without_mutex.true))

pub returns-then-touches_busy_row : goal.returns-then-touches_busy_row
unfolding least_of_access
returns-then-touches_busy_row c = first_false _ _ (sym c.misuses_mutex.ensures ∙ c.if-misuses_mutex.false) (first_false _ _ (sym c.is_without_mutex.ensures ∙ c.if-is_without_mutex.false) (first_true _ _ (sym c.touches_busy_row.ensures ∙ c.if-touches_busy_row.true)))

pub returns-then-meets_busy_engine : goal.returns-then-meets_busy_engine
unfolding least_of_access
returns-then-meets_busy_engine c = first_false _ _ (sym c.misuses_mutex.ensures ∙ c.if-misuses_mutex.false) (first_false _ _ (sym c.is_without_mutex.ensures ∙ c.if-is_without_mutex.false) (first_false _ _ (sym c.touches_busy_row.ensures ∙ c.if-touches_busy_row.false) (first_true _ _ (sym c.meets_busy_engine.ensures ∙ c.if-meets_busy_engine.true))))

pub returns-then-starts_outside : goal.returns-then-starts_outside
unfolding least_of_access
returns-then-starts_outside c = first_false _ _ (sym c.misuses_mutex.ensures ∙ c.if-misuses_mutex.false) (first_false _ _ (sym c.is_without_mutex.ensures ∙ c.if-is_without_mutex.false) (first_false _ _ (sym c.touches_busy_row.ensures ∙ c.if-touches_busy_row.false) (first_false _ _ (sym c.meets_busy_engine.ensures ∙ c.if-meets_busy_engine.false) (first_true _ _ (sym c.starts_outside.ensures ∙ c.if-starts_outside.true)))))

pub returns-then-reads_no_row : goal.returns-then-reads_no_row
unfolding least_of_access
returns-then-reads_no_row c = first_false _ _ (sym c.misuses_mutex.ensures ∙ c.if-misuses_mutex.false) (first_false _ _ (sym c.is_without_mutex.ensures ∙ c.if-is_without_mutex.false) (first_false _ _ (sym c.touches_busy_row.ensures ∙ c.if-touches_busy_row.false) (first_false _ _ (sym c.meets_busy_engine.ensures ∙ c.if-meets_busy_engine.false) (first_false _ _ (sym c.starts_outside.ensures ∙ c.if-starts_outside.false) (first_true _ _ (sym c.reads_no_row.ensures ∙ c.if-reads_no_row.true))))))

pub returns-then-sets_up_nothing : goal.returns-then-sets_up_nothing
unfolding least_of_access
returns-then-sets_up_nothing c = first_false _ _ (sym c.misuses_mutex.ensures ∙ c.if-misuses_mutex.false) (first_false _ _ (sym c.is_without_mutex.ensures ∙ c.if-is_without_mutex.false) (first_false _ _ (sym c.touches_busy_row.ensures ∙ c.if-touches_busy_row.false) (first_false _ _ (sym c.meets_busy_engine.ensures ∙ c.if-meets_busy_engine.false) (first_false _ _ (sym c.starts_outside.ensures ∙ c.if-starts_outside.false) (first_false _ _ (sym c.reads_no_row.ensures ∙ c.if-reads_no_row.false) (first_true _ _ (sym c.sets_up_nothing.ensures ∙ c.if-sets_up_nothing.true)))))))

pub returns-then-lacks_setup : goal.returns-then-lacks_setup
unfolding least_of_access
returns-then-lacks_setup c = first_false _ _ (sym c.misuses_mutex.ensures ∙ c.if-misuses_mutex.false) (first_false _ _ (sym c.is_without_mutex.ensures ∙ c.if-is_without_mutex.false) (first_false _ _ (sym c.touches_busy_row.ensures ∙ c.if-touches_busy_row.false) (first_false _ _ (sym c.meets_busy_engine.ensures ∙ c.if-meets_busy_engine.false) (first_false _ _ (sym c.starts_outside.ensures ∙ c.if-starts_outside.false) (first_false _ _ (sym c.reads_no_row.ensures ∙ c.if-reads_no_row.false) (first_false _ _ (sym c.sets_up_nothing.ensures ∙ c.if-sets_up_nothing.false) (first_true _ _ (sym c.lacks_setup.ensures ∙ c.if-lacks_setup.true))))))))

pub returns-then-asks_again : goal.returns-then-asks_again
unfolding least_of_access
returns-then-asks_again c = first_false _ _ (sym c.misuses_mutex.ensures ∙ c.if-misuses_mutex.false) (first_false _ _ (sym c.is_without_mutex.ensures ∙ c.if-is_without_mutex.false) (first_false _ _ (sym c.touches_busy_row.ensures ∙ c.if-touches_busy_row.false) (first_false _ _ (sym c.meets_busy_engine.ensures ∙ c.if-meets_busy_engine.false) (first_false _ _ (sym c.starts_outside.ensures ∙ c.if-starts_outside.false) (first_false _ _ (sym c.reads_no_row.ensures ∙ c.if-reads_no_row.false) (first_false _ _ (sym c.sets_up_nothing.ensures ∙ c.if-sets_up_nothing.false) (first_false _ _ (sym c.lacks_setup.ensures ∙ c.if-lacks_setup.false) (first_true _ _ (sym c.asks_again.ensures ∙ c.if-asks_again.true)))))))))

pub returns-else-asks_again : goal.returns-else-asks_again
unfolding least_of_access
returns-else-asks_again c = first_false _ _ (sym c.misuses_mutex.ensures ∙ c.if-misuses_mutex.false) (first_false _ _ (sym c.is_without_mutex.ensures ∙ c.if-is_without_mutex.false) (first_false _ _ (sym c.touches_busy_row.ensures ∙ c.if-touches_busy_row.false) (first_false _ _ (sym c.meets_busy_engine.ensures ∙ c.if-meets_busy_engine.false) (first_false _ _ (sym c.starts_outside.ensures ∙ c.if-starts_outside.false) (first_false _ _ (sym c.reads_no_row.ensures ∙ c.if-reads_no_row.false) (first_false _ _ (sym c.sets_up_nothing.ensures ∙ c.if-sets_up_nothing.false) (first_false _ _ (sym c.lacks_setup.ensures ∙ c.if-lacks_setup.false) (first_false _ _ (sym c.asks_again.ensures ∙ c.if-asks_again.false) (refl)))))))))
