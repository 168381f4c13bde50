use Rattle.state_tables.specs.Sound.{zeros}
use Rattle.state_tables.proofs.Gateway.zeros.Goals as goal

-- `state_tables::Gateway::zeros`: zeros in every column. Assumes nothing.
pub returns : goal.returns
unfolding zeros
returns c = rw c.none.ensures
