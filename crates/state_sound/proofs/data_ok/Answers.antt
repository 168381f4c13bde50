use borrow.Author.Rules.{rules}
use Rattle.state_sound.specs.Inner.Sound.{data_fit}
use Rattle.state_sound.proofs.data_ok.Goals as goal

-- `state_sound::data_ok`: the tests together. Assumes nothing.
pub returns : goal.returns
unfolding data_fit
returns c = search rules
