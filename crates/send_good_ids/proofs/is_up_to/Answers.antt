use borrow.Author.Tests.{lt-ltb, le-ltb}
use Rattle.send_good_ids.proofs.is_up_to.Goals as goal

pub returns-then-l-ids : goal.returns-then-l-ids
returns-then-l-ids c = rw (lt-ltb _ _ c.if-l-ids.true)

pub returns : goal.returns
returns c = rw (le-ltb _ _ c.if-l-ids.false)
