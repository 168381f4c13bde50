use mathlib.Core.Path.{sym, ◌∙◌}
use borrow.Author.Rules.{rules}
use Rattle.state_ranges.specs.Inner.Ranks.{past_at, past_all, past_not}
use Rattle.state_ranges.proofs.past_of.Goals as goal

pub overflow_sub-last : goal.overflow_sub-last
overflow_sub-last c = search rules

pub overflow_cast-last : goal.overflow_cast-last
overflow_cast-last c = search rules

pub overflow_add-last : goal.overflow_add-last
overflow_add-last c = search rules

pub overflow_add-result : goal.overflow_add-result
overflow_add-result c = search rules

-- `state_ranges::past_of`: past the place of stop, or where it would stand. Assumes nothing.
pub returns-then-holds : goal.returns-then-holds
returns-then-holds c = past_at _ _ c.args.ids.order _ _ (sym c.holds.ensures ∙ c.if-holds.true)

pub returns-then-ends_by : goal.returns-then-ends_by
returns-then-ends_by c = past_all _ _ c.args.ids.order _ (sym c.ends_by.ensures ∙ c.if-ends_by.true)

pub returns-then-holds-2 : goal.returns-then-holds-2
returns-then-holds-2 c = past_at _ _ c.args.ids.order _ _ (sym c.holds-2.ensures ∙ c.if-holds-2.true)

pub returns : goal.returns
returns c =
    let r = c.rank_of-l.ensures in
    (past_not _ _ c.args.ids.order _ _ r.0 (sym c.holds-2.ensures ∙ c.if-holds-2.false), r.1)
