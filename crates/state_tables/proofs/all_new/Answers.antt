use Rattle.state_tables.proofs.all_new.Goals as goal

-- `state_tables::all_new`: one loop or the other. Assumes nothing.
pub returns-then-n-lt8 : goal.returns-then-n-lt8
returns-then-n-lt8 c = c.few_new.ensures

pub returns : goal.returns
returns c = c.many_new.ensures
