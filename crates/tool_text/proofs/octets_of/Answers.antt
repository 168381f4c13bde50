use Rattle.tool_text.proofs.Parses.{octets_stop, octets_done, unhex_done, hex_next, hex_stop, unhex_next, rest_next, odd_stop}
use Rattle.std.proofs.Common.{arith, sym, refl, ◌∙◌, ◌+◌, ◌*◌, ◌<◌, length}
use Rattle.tool_text.proofs.octets_of.Goals as goal

pub returns-then-w-ne0-clause-size : goal.returns-then-w-ne0-clause-size
returns-then-w-ne0-clause-size c = octets_stop _ (odd_stop _ c.if-w-ne0.true)

pub loop-i-init : goal.loop-i-init
loop-i-init c = (refl, refl, refl)

pub returns-in_err-bytes-clause-size : goal.returns-in_err-bytes-clause-size
returns-in_err-bytes-clause-size c = rw c.from_residual.ensures (octets_stop _ (sym c.loop-i.invariant.1 ∙ hex_stop _ c.loop-i.i (omega arith) c.in_err-bytes.ensures))

pub loop-i-preserved : goal.loop-i-preserved
loop-i-preserved c =
    let l = c.loop-i in
    let w = c.args.w.now in
    let h : 2 * l.i + 1 < length w = omega arith in
    let e = c.in_ok-bytes.ensures in
    (unhex_next w l.i h l.bytes _ (omega arith) e ∙ l.invariant.0, hex_next w l.i h _ e ∙ l.invariant.1, rest_next l.bytes _ l.i _ l.invariant.2)

pub returns-clause-size : goal.returns-clause-size
returns-clause-size c = let l = c.loop-i in octets_done _ l.bytes l.i (omega arith) (omega arith) (omega arith) l.invariant.1

pub returns-clause-bytes : goal.returns-clause-bytes
returns-clause-bytes c = let l = c.loop-i in unhex_done _ l.bytes l.i (omega arith) (omega arith) (omega arith) l.invariant.0
