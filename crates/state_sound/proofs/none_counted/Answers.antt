use borrow.Author.Rules.{rules}
use Rattle.state_sound.specs.Inner.Sound.{none_counted}
use Rattle.state_sound.proofs.none_counted.Goals as goal

pub every-requires : goal.every-requires
every-requires c = λ i b. search rules

pub returns : goal.returns
unfolding none_counted
returns c = c.every.ensures.is _ (λ i b l h. search rules)
