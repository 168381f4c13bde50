use Rattle.event_traffic.specs.Inner.Aims.{other_mode_in}
use Rattle.event_traffic.proofs.other_mode.Goals as goal

pub returns : goal.returns
unfolding other_mode_in
returns c = rw c.some_other.ensures
