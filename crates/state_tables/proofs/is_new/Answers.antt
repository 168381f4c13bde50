use borrow.Author.Rules.{rules}
use Rattle.state_tables.specs.Sound.{differs}
use Rattle.state_tables.proofs.is_new.Goals as goal

pub every-requires : goal.every-requires
every-requires c = λ i b. search rules

pub returns : goal.returns
unfolding differs
returns c = c.every.ensures.is _ (λ i b l h. search rules)
