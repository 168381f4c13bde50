use mathlib.Core.Path.{sym, ◌∙◌}
use native.Mathlib.Omega.{arith}
use borrow.Author.Tests.{not-true, not-false}
use Rattle.send_good_ids.specs.Inner.Marks.{range_none, range_unknown, range_some, range_adds}
use mathlib.Core.Path.{ap}
use mathlib.Core.Bool.{not}
use Rattle.send_good_ids.proofs.mark_range.Goals as goal

-- the places from the first one inside, before the one behind the last
pub returns-then-stop-start : goal.returns-then-stop-start
returns-then-stop-start c = range_none _ _ _ _ _ c.if-stop-start.true

pub returns-then-not-is_up_to : goal.returns-then-not-is_up_to
returns-then-not-is_up_to c =
    range_unknown _ _ _ _ c.args.search.ids.order _ c.first_near-first.ensures.0 (sym c.is_up_to.ensures ∙ not-true _ (ap not c.if-not-is_up_to.true))

pub past_near-past-requires : goal.past_near-past-requires
past_near-past-requires c = (c.first_near-first.ensures.1, c.if-stop-start.false)

pub mark-requires : goal.mark-requires
mark-requires c =
    let t = c.args.search.ids in
    let e = c.past_near-past.ensures in
    let l = range_some _ _ _ t.order _ _ e.0 (sym c.is_up_to.ensures ∙ not-false _ (ap not c.if-not-is_up_to.false)) in
    (omega (arith, l, t.few, e.1), omega (arith, t.few, e.1))

pub returns : goal.returns
returns c =
    range_adds _ _ _ _ c.args.search.ids.order c.first_near-first.ensures.0 c.past_near-past.ensures.0 c.mark.ensures
