use Rattle.state_sets.specs.Inner.Bits.{within_bits}
use Rattle.state_sets.proofs.AsSet.is_within.Goals as goal

-- `state_sets::is_within`: the union adds nothing. Assumes nothing.
pub returns : goal.returns
returns c = within_bits c.args.self.bits c.args.other.bits
