use Rattle.std.proofs.Common.{arith, refl, ◌∙◌}
use Rattle.tool_text.proofs.Lengths.{digits_turn, digits_end}
use Rattle.tool_text.proofs.buffer.put_digits.Goals as goal

pub loop-i-preserved : goal.loop-i-preserved
loop-i-preserved c =
    let l = c.loop-i in
    let e = l.auto.places in
    let h = l.auto.i in
    digits_turn l.places l.i l.rest _ (omega arith) (omega arith) refl ∙ l.invariant

pub returns : goal.returns
returns c = let l = c.loop-i in digits_end l.places l.i l.rest (omega arith) ∙ l.invariant
