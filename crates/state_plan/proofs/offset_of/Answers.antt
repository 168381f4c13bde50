use borrow.Author.Rules.{rules}
use Rattle.state_plan.specs.Plan.{offset}
use Rattle.state_plan.proofs.offset_of.Goals as goal

-- `state_plan::offset_of`: the number read. Assumes nothing.
pub returns : goal.returns
unfolding offset
returns c = (c.get32.ensures, search rules)
