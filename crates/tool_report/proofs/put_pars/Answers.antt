use Rattle.codec_wire.proofs.Steps.{step_next}
use Rattle.tool_report.proofs.Rest.{rest_used, rest_stop, rest_room, rest_next}
use mathlib.Core.Path.{sym, ◌∙◌}
use native.Mathlib.Omega.{arith}
use Rattle.tool_report.proofs.put_pars.Goals as goal

pub put_par-requires : goal.put_par-requires
put_par-requires c =
    let k = rest_room c.loop-tag.invariant _ _ _ (sym c.reading_at.ensures ∙ c.in-Param.is) in
    rw (c.value_at-v.ensures, c.from.ensures) (omega arith)

pub loop-tag-smaller : goal.loop-tag-smaller
loop-tag-smaller c =
    let k = step_next _ _ _ _ _ (sym c.reading_at.ensures ∙ c.in-Param.is) in
    omega arith

pub loop-tag-preserved : goal.loop-tag-preserved
loop-tag-preserved c =
    let e = c.value_at-v.ensures in
    let f = c.from.ensures in
    rest_next c.loop-tag.invariant _ _ _ (sym c.reading_at.ensures ∙ c.in-Param.is) _ (rw (e, f) at c.put_par.ensures)

pub returns : goal.returns
returns c = record { text = rest_stop c.loop-tag.invariant _ (sym c.reading_at.ensures) c.in_default.not-Param; upper_bound = rest_used c.loop-tag.invariant }
