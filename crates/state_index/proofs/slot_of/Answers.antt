use Rattle.state_index.specs.Inner.Spots.{slot_of, slot_small}
use Rattle.state_index.proofs.slot_of.Goals as goal

-- `state_index::slot_of`: the definition's own number. Assumes nothing.
pub returns : goal.returns
unfolding slot_of
returns c = (rw c.from.ensures, rw c.from.ensures (slot_small c.args.x))
