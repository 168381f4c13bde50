use Rattle.tool_text.proofs.Parses.{number_empty, number_done, number_next, number_stop, number_some}
use Rattle.std.proofs.Common.{◌∙◌, sym, arith}
use Rattle.tool_text.proofs.number_of.Goals as goal

pub returns-then-is_empty : goal.returns-then-is_empty
returns-then-is_empty c = number_empty _ c.if-is_empty.ensures

pub returns-in_err-n : goal.returns-in_err-n
returns-in_err-n c =
    let l = c.loop-b in
    rw c.from_residual.ensures (sym (number_stop _ l.b-index l.n (omega arith) (sym c.in_err-n.ensures)) ∙ l.invariant ∙ number_some _ c.if-is_empty.ensures)

pub loop-b-preserved : goal.loop-b-preserved
loop-b-preserved c =
    let l = c.loop-b in
    number_next _ l.b-index l.n _ (omega arith) (sym c.in_ok-n.ensures) ∙ l.invariant

pub returns : goal.returns
returns c =
    let l = c.loop-b in
    sym (number_done _ l.b-index l.n (omega arith)) ∙ l.invariant ∙ number_some _ c.if-is_empty.ensures
