use mathlib.Core.Path.{◌∙◌}
use native.Mathlib.Omega.{arith}
use Rattle.state_ranges.specs.Named.{start_at}
use Rattle.state_names.specs.Inner.Entries.{inside}
use Rattle.state_names.proofs.start_at.Goals as goal

-- `state_names::start_at`: by the tag. Assumes nothing.
pub overflow_mul-i : goal.overflow_mul-i
overflow_mul-i c = omega (arith, rw c.if-pairs.true at (inside _ _ _ c.requires))

pub get32-requires : goal.get32-requires
get32-requires c = omega (arith, rw c.if-pairs.true at (inside _ _ _ c.requires))

pub returns-then-pairs : goal.returns-then-pairs
unfolding start_at
returns-then-pairs c = c.get32.ensures ∙ rw c.if-pairs.true

pub overflow_mul-i-2 : goal.overflow_mul-i-2
overflow_mul-i-2 c = omega (arith, rw c.if-pairs.false at (inside _ _ _ c.requires))

pub get32-requires-2 : goal.get32-requires-2
get32-requires-2 c = omega (arith, rw c.if-pairs.false at (inside _ _ _ c.requires))

pub returns : goal.returns
unfolding start_at
returns c = c.get32-2.ensures ∙ rw c.if-pairs.false
