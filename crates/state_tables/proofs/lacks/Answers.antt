use borrow.Author.Rules.{rules}
use Rattle.state_tables.specs.Inner.Differ.{lacks_from}
use Rattle.state_tables.proofs.lacks.Goals as goal

pub every-requires : goal.every-requires
every-requires c = λ i b. search rules

pub returns : goal.returns
unfolding lacks_from
returns c = c.every.ensures.is _ (λ i b l h. search rules)
