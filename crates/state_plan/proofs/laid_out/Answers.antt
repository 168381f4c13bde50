use borrow.Author.Tests.{le-leb, lt-leb}
use Rattle.state_plan.specs.Plan.{layout_ok, follow}
use Rattle.state_plan.proofs.laid_out.Goals as goal

-- `state_plan::laid_out`: the bodies follow one another. Assumes nothing.
pub returns-then-s-lt-CONTENTS : goal.returns-then-s-lt-CONTENTS
unfolding layout_ok
returns-then-s-lt-CONTENTS c = rw (lt-leb 24 _ c.if-s-lt-CONTENTS.true)

pub returns : goal.returns
unfolding layout_ok follow
returns c = rw (le-leb 24 _ c.if-s-lt-CONTENTS.false, c.entry_ok-z.ensures, c.entry_ok-y.ensures, c.entry_ok-x.ensures, c.count_of-3.ensures.0, c.count_of-2.ensures.0, c.count_of.ensures.0)
