use borrow.Author.Rules.{rules}
use Rattle.state_sound.specs.Inner.Sound.{counts_fit}
use Rattle.state_sound.proofs.counts_ok.Goals as goal

pub every-requires : goal.every-requires
every-requires c = λ i b. search rules

pub returns : goal.returns
unfolding counts_fit
returns c = c.every.ensures.is _ (λ i b l h. search rules)
