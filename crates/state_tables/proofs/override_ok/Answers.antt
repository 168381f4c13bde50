use mathlib.Core.Path.{refl}
use Rattle.state_tables.specs.Sound.{override_at}
use Rattle.state_tables.proofs.override_ok.Goals as goal

-- `state_tables::override_ok`: the definition's own tests. Assumes nothing.
pub returns : goal.returns
unfolding override_at
returns c = refl
