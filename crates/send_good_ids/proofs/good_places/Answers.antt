use mathlib.Core.Path.{◌∙◌}
use native.Mathlib.Omega.{arith}
use borrow.Author.Rules.{rules}
use Rattle.laws.specs.Inner.Below.{from_one}
use Rattle.send_good_ids.specs.Inner.Marks.{swept_none, swept_more, goods_none, goods_more, goods_end}
use Rattle.send_good_ids.proofs.good_places.Goals as goal

pub loop-l-init : goal.loop-l-init
loop-l-init c = (goods_none _ _ _, swept_none _, search rules)

pub loop-l-preserved : goal.loop-l-preserved
loop-l-preserved c =
    let i = c.loop-l.invariant in
    let s = swept_more i.1 c.max-past.ensures in
    (goods_more _ _ i.0 (omega (arith, c.args.links.ids.few, c.loop-l-test.true)) s (c.from-in-loop-l.ensures ∙ from_one _ ∙ rw (c.from.ensures, c.has.ensures, c.owner_at.ensures.0)), s, search rules)

pub returns : goal.returns
returns c = goods_end c.loop-l.invariant.0 c.loop-l-test.false c.marks_of-until.ensures
