use borrow.Author.Tests.{ltb-true}
use Rattle.rules_action.specs.Inner.Words.{written_none}
use Rattle.rules_server.specs.Units.{let_out}
use Rattle.rules_server.proofs.let_out.Goals as goal

-- `rules_server::let_out`: by the change. Assumes nothing.
pub units_out-requires : goal.units_out-requires
units_out-requires c =
    let p = c.requires in
    (ltb-true _ 16 (rw c.in-Activate.is at c.args.k.sane), p.0, p.1)

pub returns-in-Activate : goal.returns-in-Activate
unfolding let_out
returns-in-Activate c = rw c.in-Activate.is c.units_out.ensures

pub returns-in-AspUp : goal.returns-in-AspUp
unfolding let_out
returns-in-AspUp c = rw c.in-AspUp.is (written_none _ _)

pub returns-in-AspDown : goal.returns-in-AspDown
unfolding let_out
returns-in-AspDown c = rw c.in-AspDown.is (written_none _ _)

pub returns-in-Deactivate : goal.returns-in-Deactivate
unfolding let_out
returns-in-Deactivate c = rw c.in-Deactivate.is (written_none _ _)

pub returns-in-Recover : goal.returns-in-Recover
unfolding let_out
returns-in-Recover c = rw c.in-Recover.is (written_none _ _)
