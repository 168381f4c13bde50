use borrow.Author.Tests.{lt-ltb, le-ltb}
use Rattle.state_names.specs.Inner.Run.{GoodAt}
use Rattle.state_names.proofs.is_good_at.Goals as goal

-- within the links the identifier and its owner decide
pub returns-then-links-l : goal.returns-then-links-l
unfolding GoodAt
returns-then-links-l c = rw (le-ltb _ _ c.if-links-l.true)

pub returns : goal.returns
unfolding GoodAt
returns c = rw (lt-ltb _ _ c.if-links-l.false, c.has.ensures, c.owner_at.ensures.0)
