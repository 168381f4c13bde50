use native.Mathlib.Omega.{arith}
use borrow.Author.Rules.{rules}
use Rattle.rules_action.specs.Inner.Words.{emit_bound, written_length}
use Rattle.rules_servers.proofs.Turn.{run_end, run_none, run_turn}
use Rattle.rules_servers.specs.Inner.Changed.{actions_at_short}
use Rattle.rules_servers.proofs.run.Goals as goal

pub loop-a-init : goal.loop-a-init
loop-a-init c = (run_none _ _ _ _ _ _ _ _ _ _ _ (search rules) (search rules), omega arith)

pub step-m-requires : goal.step-m-requires
step-m-requires c = let h = c.loop-a.invariant.0 in (omega arith, omega (arith, written_length h.wrote.wrote, emit_bound 24 (actions_at_short _ _ _ _ _ c.by-moved.result.sane) h.wrote))

pub loop-a-preserved : goal.loop-a-preserved
loop-a-preserved c = (run_turn _ _ _ _ _ _ _ _ _ (omega arith) c.loop-a.invariant.0 c.step-m.ensures, search rules)

pub shape_of-words : goal.shape_of-words
shape_of-words c = written_length c.loop-a.invariant.0.wrote.wrote

pub returns : goal.returns
returns c = rw c.by-moved.ensures at (run_end _ _ _ _ _ _ _ _ _ c.loop-a-test.false c.loop-a.invariant.1 c.loop-a.invariant.0)
