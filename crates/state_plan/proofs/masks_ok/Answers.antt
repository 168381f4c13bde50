use borrow.Author.Rules.{rules}
use Rattle.state_plan.proofs.masks_ok.Goals as goal

pub every-requires : goal.every-requires
every-requires c = λ i b. let h = c.requires.0 i b in search rules

pub returns : goal.returns
returns c = c.every.ensures.is _ (λ i b l h. search rules)
