use Rattle.std.proofs.Common.{arith}
use Rattle.tool_text.proofs.Lengths.{hex_start, hex_turn, hex_end}
use Rattle.tool_text.proofs.buffer.put_pairs.Goals as goal

pub loop-i-init : goal.loop-i-init
loop-i-init c = hex_start c.args.out.now c.args.s.now

pub loop-i-preserved : goal.loop-i-preserved
loop-i-preserved c = let l = c.loop-i in let e = l.auto.out in hex_turn l.out c.args.s.now l.i _ _ (omega arith) (omega arith) c.digit.ensures c.digit-in-loop-i.ensures l.invariant

pub returns : goal.returns
returns c = let l = c.loop-i in let e = l.auto.out in hex_end l.out c.args.s.now l.i (omega arith) (omega arith) l.invariant
