use mathlib.Core.Path.{ap, ◌∙◌}
use native.Mathlib.Omega.{arith}
use lib.Bits.{bit_or}
use lib.Pow.{shl_exact}
use Rattle.state_sets.specs.Inner.Bits.{flags_of, flags_with}
use Rattle.state_sets.proofs.AsSet.with.Goals as goal

-- `state_sets::with_as`: the bit of a is set, and no other changes. Assumes nothing.
pub returns : goal.returns
returns c = ap (λ x. flags_of (bit_or c.args.self.bits x)) (shl_exact 1 c.args.a 32 (omega arith) (omega (arith, c.requires))) ∙ flags_with c.args.self.bits c.args.a c.requires
