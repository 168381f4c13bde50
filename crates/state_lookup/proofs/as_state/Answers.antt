use Rattle.state_lookup.specs.Inner.Servers.{state_of}
use Rattle.state_lookup.proofs.as_state.Goals as goal

-- `state_lookup::as_state`: from the three tests. Assumes nothing.
pub returns : goal.returns
unfolding state_of
returns c = cc
