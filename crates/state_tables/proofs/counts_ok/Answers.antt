use mathlib.Core.Path.{refl}
use Rattle.state_tables.specs.Sound.{counts_in}
use Rattle.state_tables.proofs.counts_ok.Goals as goal

-- `state_tables::counts_ok`: the definition's own tests. Assumes nothing.
pub returns : goal.returns
unfolding counts_in
returns c = refl
