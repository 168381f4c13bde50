use Rattle.state_tables.specs.Sound.{sound_kinds, sound_lists}
use Rattle.state_tables.proofs.columns_ok.Goals as goal

-- `state_tables::columns_ok`: column by column. Assumes nothing.
pub returns : goal.returns
unfolding sound_kinds sound_lists
returns c = cc
