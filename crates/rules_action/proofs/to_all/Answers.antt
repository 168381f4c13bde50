use native.Mathlib.Omega.{arith}
use borrow.Author.Rules.{rules}
use Rattle.rules_action.specs.Words.{to_all, to_each}
use Rattle.rules_action.specs.Inner.Words.{emit_bound, emit_end, emit_more, emit_none, to_each_short, written_length}
use Rattle.rules_action.proofs.to_all.Goals as goal

pub loop-q-init : goal.loop-q-init
loop-q-init c = (emit_none _ _ _, omega arith)

pub put_if-m-requires : goal.put_if-m-requires
put_if-m-requires c = let h = c.loop-q.invariant.0 in omega (arith, written_length h.wrote, emit_bound 1 (to_each_short _ _ _ _) h)

pub loop-q-preserved : goal.loop-q-preserved
unfolding to_each
loop-q-preserved c = (emit_more c.loop-q.invariant.0 c.put_if-m.ensures, search rules)

pub returns : goal.returns
unfolding to_all
returns c = emit_end c.loop-q.invariant.0 c.loop-q-test.false c.loop-q.invariant.1
