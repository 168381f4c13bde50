use Rattle.codec_wire.proofs.Refusals.{number_some}
use Rattle.codec_write.proofs.Writes.{err_written, writes_size, writes_kind, writes_short, writes_all}
use Rattle.codec_write.proofs.message.Message.write_into.Goals as goal

pub returns-in_err-whole : goal.returns-in_err-whole
returns-in_err-whole c =
    rw (err_written _ _ c.from_residual.ensures) (writes_size _ _ _ _ _ _ _ (number_some _) c.in_err-whole.ensures.size)

pub returns-in_err-kind_check : goal.returns-in_err-kind_check
returns-in_err-kind_check c =
    let w = c.in_ok-whole.whole in
    let d = c.in_ok-whole.ensures.same in
    rw (err_written _ _ c.from_residual-in_err-kind_check.ensures, ← d)
    (writes_kind _ _ _ _ _ _ w.length w.sized _ (number_some _) c.in_err-kind_check.ensures)

pub returns-then-out-whole : goal.returns-then-out-whole
returns-then-out-whole c =
    let w = c.in_ok-whole.whole in
    rw (← c.in_ok-whole.ensures.same) (writes_short _ _ _ _ _ _ w.length w.sized c.in_ok-kind_check.ensures c.if-out-whole.true)

pub returns : goal.returns
returns c =
    let w = c.in_ok-whole.whole in
    rw (← c.in_ok-whole.ensures.same) (writes_all _ _ _ _ _ _ w.length w.sized c.in_ok-kind_check.ensures c.if-out-whole.false _ c.put.ensures)
