use Rattle.rules_server.specs.Record.{record_from}
use Rattle.rules_server.proofs.record_of.Goals as goal

-- `rules_server::record_of`: the two rows. Assumes nothing.
pub returns : goal.returns
unfolding record_from
returns c = rw (c.members_up-ups.ensures, c.row_of-acts.ensures)
