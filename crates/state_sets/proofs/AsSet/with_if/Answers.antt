use Prim.Native.Nat.{ℕ, ◌*◌, ◌^◌, ◌%◌}
use mathlib.Core.Path.{ap, ◌∙◌}
use lib.Bits.{bit_or}
use Rattle.state_sets.specs.Inner.Bits.{flags_of, flags_if}
use Rattle.state_sets.proofs.AsSet.with_if.Goals as goal

-- one AS more, or none
pub returns : goal.returns
returns c = let s = c.args.self in ap (λ (b : ℕ). flags_of (bit_or s.bits (b * 2 ^ c.args.a % 2 ^ 32))) c.from.ensures ∙ flags_if s.bits c.args.a c.args.t c.requires
