use native.Mathlib.Omega.{arith}
use borrow.Author.Rules.{rules}
use Rattle.rules_action.specs.Inner.Words.{emit_bound, emit_end, emit_more, emit_none, written_length}
use Rattle.rules_server.specs.Units.{unit_out, units_out}
use Rattle.rules_server.specs.Inner.Units.{unit_out_short}
use Rattle.rules_server.proofs.units_out.Goals as goal

pub loop-k-init : goal.loop-k-init
loop-k-init c = (emit_none _ _ _, omega arith)

pub put_if-at-requires : goal.put_if-at-requires
put_if-at-requires c = let h = c.loop-k.invariant.0 in omega (arith, written_length h.wrote, emit_bound 1 (unit_out_short _ _ _ _) h, c.requires.2)

pub loop-k-preserved : goal.loop-k-preserved
unfolding unit_out
loop-k-preserved c = (emit_more c.loop-k.invariant.0 (rw c.from-held.ensures at c.put_if-at.ensures), search rules)

pub shape_of-words : goal.shape_of-words
shape_of-words c = written_length c.loop-k.invariant.0.wrote

pub returns : goal.returns
unfolding units_out
returns c = emit_end c.loop-k.invariant.0 c.loop-k-test.false c.loop-k.invariant.1
