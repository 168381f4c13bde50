use Rattle.state_sets.specs.Inner.Bits.{flags_both}
use Rattle.state_sets.proofs.AsSet.common.Goals as goal

-- `state_sets::common`: digit by digit. Assumes nothing.
pub returns : goal.returns
returns c = flags_both c.args.self.bits c.args.other.bits
