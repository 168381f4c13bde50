use Rattle.state_tables.specs.Sound.{sound_links}
use Rattle.state_tables.proofs.links_ok.Goals as goal

-- `state_tables::links_ok`: the conditions of the links. Assumes nothing.
pub returns : goal.returns
unfolding sound_links
returns c h = cc (c.within-n.ensures.1 h)
