use mathlib.Core.Path.{sym}
use Rattle.state_sets.specs.Inner.Bits.{bit_at, flag_is}
use Rattle.state_sets.proofs.AsSet.has.Goals as goal

-- `state_sets::has`: the bit of a. Assumes nothing.
pub returns : goal.returns
unfolding bit_at
returns c = sym (flag_is c.args.self.bits c.args.a c.requires)
