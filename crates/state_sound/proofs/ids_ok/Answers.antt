use borrow.Author.Rules.{rules}
use Rattle.state_sound.specs.Inner.Sound.{seen_fit}
use Rattle.state_sound.proofs.ids_ok.Goals as goal

pub every-requires : goal.every-requires
every-requires c = λ i b. search rules

pub returns : goal.returns
unfolding seen_fit
returns c = c.every.ensures.is _ (λ i b l h. search rules)
