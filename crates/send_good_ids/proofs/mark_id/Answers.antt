use mathlib.Core.Path.{sym, ◌∙◌}
use native.Mathlib.Omega.{arith}
use borrow.Author.Tests.{not-true, not-false}
use Rattle.send_good_ids.specs.Inner.Marks.{range_unknown, range_adds, one_past}
use mathlib.Core.Path.{ap}
use mathlib.Core.Bool.{not}
use Rattle.send_good_ids.proofs.mark_id.Goals as goal

pub returns-then-not-is_up_to : goal.returns-then-not-is_up_to
returns-then-not-is_up_to c =
    range_unknown _ _ _ _ c.args.search.ids.order _ c.first_near-l.ensures.0 (sym c.is_up_to.ensures ∙ not-true _ (ap not c.if-not-is_up_to.true))

pub mark-requires : goal.mark-requires
mark-requires c =
    let t = c.args.search.ids in
    let e = one_past _ _ _ t.order _ c.first_near-l.ensures.0 (sym c.is_up_to.ensures ∙ not-false _ (ap not c.if-not-is_up_to.false)) in
    (omega (arith, t.few, e.1), omega (arith, t.few, e.1))

pub returns : goal.returns
returns c =
    let r = c.first_near-l.ensures in
    let h = c.args.search.ids.order in
    let e = one_past _ _ _ h _ r.0 (sym c.is_up_to.ensures ∙ not-false _ (ap not c.if-not-is_up_to.false)) in
    range_adds _ _ _ _ h r.0 e.0 c.mark.ensures
