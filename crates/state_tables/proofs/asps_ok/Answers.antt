use Rattle.state_tables.specs.Sound.{sound_asps}
use Rattle.state_tables.proofs.asps_ok.Goals as goal

-- `state_tables::asps_ok`: the conditions of the ASPs. Assumes nothing.
pub returns : goal.returns
unfolding sound_asps
returns c h = cc (c.within-n.ensures.1 h)
