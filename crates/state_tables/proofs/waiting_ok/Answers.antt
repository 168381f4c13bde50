use mathlib.Core.Path.{refl}
use Rattle.state_tables.specs.Sound.{waiting_at}
use Rattle.state_tables.proofs.waiting_ok.Goals as goal

-- `state_tables::waiting_ok`: the definition's own tests. Assumes nothing.
pub returns : goal.returns
unfolding waiting_at
returns c = refl
