use mathlib.Core.Path.{◌∙◌}
use native.Mathlib.Omega.{arith}
use Rattle.state_ranges.specs.Named.{stop_at}
use Rattle.state_names.specs.Inner.Entries.{inside, alone_ends}
use Rattle.state_names.proofs.stop_at.Goals as goal

-- `state_names::stop_at`: by the tag. Assumes nothing.
pub overflow_mul-i : goal.overflow_mul-i
overflow_mul-i c = omega (arith, rw c.if-pairs.true at (inside _ _ _ c.requires))

pub overflow_add-i : goal.overflow_add-i
overflow_add-i c = omega (arith, rw c.if-pairs.true at (inside _ _ _ c.requires))

pub get32-requires : goal.get32-requires
get32-requires c = omega (arith, rw c.if-pairs.true at (inside _ _ _ c.requires))

pub returns-then-pairs : goal.returns-then-pairs
unfolding stop_at
returns-then-pairs c = c.get32.ensures ∙ rw c.if-pairs.true

pub returns : goal.returns
returns c = c.start_at.ensures ∙ alone_ends _ _ _ c.if-pairs.false
