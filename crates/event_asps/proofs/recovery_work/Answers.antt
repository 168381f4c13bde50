use Rattle.event_asps.proofs.recovery_work.Goals as goal

pub returns : goal.returns
returns c = rw c.only.ensures at c.change_only.ensures
