use Rattle.rules_server.specs.Change.{record_with}
use Rattle.rules_server.proofs.settled.Goals as goal

-- `rules_server::settled`: the two tests. Assumes nothing.
pub returns : goal.returns
unfolding record_with
returns c = rw (c.has_some-now.ensures, c.has_some-was.ensures)
