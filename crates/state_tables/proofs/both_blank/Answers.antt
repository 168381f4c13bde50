use mathlib.Core.Path.{◌∙◌}
use mathlib.Core.Bool.{◌&&◌}
use lib.Dec.{eqb}
use borrow.Author.Rules.{rules}
use Rattle.laws.specs.Columns.{number_at}
use Rattle.state_tables.proofs.Turns.{both_blank_is}
use Rattle.state_tables.proofs.both_blank.Goals as goal

pub every_from-requires : goal.every_from-requires
every_from-requires c = (c.requires.0, λ i b l. search rules)

pub returns : goal.returns
returns c = c.every_from.ensures.past (λ i. eqb (number_at c.args.c.now i) 0 && eqb (number_at c.args.d.now i) 0) (λ i b l h. search rules) ∙ both_blank_is _ _ _ _
