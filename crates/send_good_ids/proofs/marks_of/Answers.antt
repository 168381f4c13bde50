use mathlib.Core.Path.{sym, ◌∙◌}
use native.Mathlib.Omega.{arith}
use Rattle.codec_wire.proofs.Steps.{step_next, pars_next, pars_stop}
use Rattle.send_good_ids.specs.Inner.Marks.{rest_all, rest_next, rest_end}
use Rattle.send_good_ids.proofs.marks_of.Goals as goal

pub loop-tag-init : goal.loop-tag-init
loop-tag-init c = rest_all _ _ _ c.args.ids.few

pub returns-in_default : goal.returns-in_default
returns-in_default c = rest_end _ (rw (pars_stop _ _ _ (sym c.step_at-w.ensures) c.in_default.not-Param) at c.loop-tag.invariant)

pub loop-tag-preserved : goal.loop-tag-preserved
loop-tag-preserved c =
    let i = c.loop-tag.invariant in
    let z = pars_next _ _ _ _ _ (sym c.step_at-w.ensures ∙ c.in-Param.is) in
    rest_next _ _ _ (rw z at i) c.mark_par.ensures

-- the parameter lies within the message
pub overflow_add-start : goal.overflow_add-start
overflow_add-start c = let k = step_next _ _ _ _ _ (sym c.step_at-w.ensures ∙ c.in-Param.is) in omega arith

pub overflow_add-stop : goal.overflow_add-stop
overflow_add-stop c = let k = step_next _ _ _ _ _ (sym c.step_at-w.ensures ∙ c.in-Param.is) in omega arith

pub slice_bounds-mark_par-count : goal.slice_bounds-mark_par-count
slice_bounds-mark_par-count c = let k = step_next _ _ _ _ _ (sym c.step_at-w.ensures ∙ c.in-Param.is) in omega arith

pub slice_bounds-mark_par-start : goal.slice_bounds-mark_par-start
slice_bounds-mark_par-start c = let k = step_next _ _ _ _ _ (sym c.step_at-w.ensures ∙ c.in-Param.is) in omega arith

pub slice_bounds-mark_par-end : goal.slice_bounds-mark_par-end
slice_bounds-mark_par-end c = let k = step_next _ _ _ _ _ (sym c.step_at-w.ensures ∙ c.in-Param.is) in omega arith

pub loop-tag-smaller : goal.loop-tag-smaller
loop-tag-smaller c = let k = step_next _ _ _ _ _ (sym c.step_at-w.ensures ∙ c.in-Param.is) in omega arith
