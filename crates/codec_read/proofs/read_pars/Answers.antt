use native.Mathlib.Omega.{arith}
use mathlib.Core.Path.{refl, sym, ◌∙◌}
use Rattle.codec_wire.proofs.Refusals.{number_some}
use Rattle.codec_read.proofs.Turns.{head_none, ends, refused, passes}
use Rattle.codec_wire.proofs.Steps.{step_next}
use Rattle.codec_read.proofs.read_pars.Goals as goal

pub loop-tag-init : goal.loop-tag-init
loop-tag-init c = rw c.none-seen.ensures (record { here = head_none _ _; same_code = refl })

pub returns-in_default : goal.returns-in_default
returns-in_default c = c.finish.ensures
    ∙ ends c.loop-tag.invariant c.requires.1.0 c.requires.1.1 _
    (sym c.step_at-w.ensures) c.in_default.not-Param _
    c.step_code.ensures

pub overflow_add-start : goal.overflow_add-start
overflow_add-start c = let k = step_next _ _ _ _ _ (sym c.step_at-w.ensures ∙ c.in-Param.is) in omega arith

pub overflow_add-stop : goal.overflow_add-stop
overflow_add-stop c = let k = step_next _ _ _ _ _ (sym c.step_at-w.ensures ∙ c.in-Param.is) in omega arith

pub slice_bounds-value-count : goal.slice_bounds-value-count
slice_bounds-value-count c = let k = step_next _ _ _ _ _ (sym c.step_at-w.ensures ∙ c.in-Param.is) in omega arith

pub slice_bounds-value-start : goal.slice_bounds-value-start
slice_bounds-value-start c = let k = step_next _ _ _ _ _ (sym c.step_at-w.ensures ∙ c.in-Param.is) in omega arith

pub slice_bounds-value-end : goal.slice_bounds-value-end
slice_bounds-value-end c = let k = step_next _ _ _ _ _ (sym c.step_at-w.ensures ∙ c.in-Param.is) in omega arith

pub loop-tag-smaller : goal.loop-tag-smaller
loop-tag-smaller c = let k = step_next _ _ _ _ _ (sym c.step_at-w.ensures ∙ c.in-Param.is) in omega arith

pub returns-in-Err : goal.returns-in-Err
returns-in-Err c =
    c.refused_at.ensures
    ∙ refused c.loop-tag.invariant c.requires.1.0 c.requires.1.1 _ _ _ _
    (sym c.step_at-w.ensures ∙ c.in-Param.is) (rw (c.slot_of-k.ensures.0, c.from.ensures) at c.in-Err.ensures) (number_some _)

pub loop-tag-preserved : goal.loop-tag-preserved
loop-tag-preserved c =
    passes c.loop-tag.invariant c.requires.1.0 c.requires.1.1 _ _ _ _
    (sym c.step_at-w.ensures ∙ c.in-Param.is) (rw (c.slot_of-k.ensures.0, c.from.ensures) at c.in_default-par_at.ensures) refl _ (rw (c.slot_of-k.ensures.0, c.from.ensures) at c.keep.ensures)
