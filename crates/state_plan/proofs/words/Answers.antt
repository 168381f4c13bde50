use borrow.Author.Rules.{rules}
use Rattle.state_plan.specs.Inner.Tables.{column_read}
use Rattle.state_plan.proofs.words.Goals as goal

pub column-requires : goal.column-requires
column-requires g c = (search rules, (c.requires.0, λ i b. let h = c.requires.1 i b in search rules))

pub returns : goal.returns
returns g c = column_read _ c.column.ensures (λ i x b h. search rules)
