use Rattle.state_sets.specs.Inner.Bits.{flags_zero}
use Rattle.state_sets.proofs.AsSet.empty.Goals as goal

pub returns : goal.returns
returns c = flags_zero
