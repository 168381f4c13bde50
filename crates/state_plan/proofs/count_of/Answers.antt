use borrow.Author.Rules.{rules}
use Rattle.state_plan.specs.Plan.{count}
use Rattle.state_plan.proofs.count_of.Goals as goal

-- `state_plan::count_of`: the number read. Assumes nothing.
pub returns : goal.returns
unfolding count
returns c = (c.get32.ensures, search rules)
