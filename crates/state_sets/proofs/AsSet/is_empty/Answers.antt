use Rattle.state_sets.specs.Inner.Bits.{none_bits}
use Rattle.state_sets.proofs.AsSet.is_empty.Goals as goal

-- `state_sets::is_none`: the sixteen digits are 0. Assumes nothing.
pub returns : goal.returns
returns c = none_bits c.args.self.bits
