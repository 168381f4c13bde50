use Rattle.state_plan.proofs.entry_ok.Goals as goal

-- `state_plan::entry_ok`: what the contents say. Assumes nothing.
pub returns : goal.returns
returns c = cc
