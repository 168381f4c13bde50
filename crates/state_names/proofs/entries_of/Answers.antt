use Rattle.state_ranges.specs.Named.{entries}
use Rattle.state_names.proofs.entries_of.Goals as goal

-- `state_names::entries_of`: by the tag. Assumes nothing.
pub returns-then-pairs : goal.returns-then-pairs
unfolding entries
returns-then-pairs c = rw c.if-pairs.true

pub returns : goal.returns
unfolding entries
returns c = rw c.if-pairs.false
