use native.Mathlib.Omega.{arith}
use mathlib.Core.Path.{refl, sym, ◌∙◌}
use Rattle.laws.specs.Inner.Choice.{at_yes, at_no}
use Rattle.codec_wire.proofs.Steps.{step_next}
use Rattle.codec_read.proofs.Places.{found_next, found_stop}
use Rattle.codec_read.proofs.find.Goals as goal

pub loop-tag-init : goal.loop-tag-init
loop-tag-init c = refl

pub returns-in_default : goal.returns-in_default
returns-in_default c = sym (found_stop _ _ _ _ _ (sym c.reading_at-w.ensures) c.in_default.not-Param) ∙ c.loop-tag.invariant

-- the reading is the walk's, and the parameter lies within the message
pub overflow_add-start : goal.overflow_add-start
overflow_add-start c = let k = step_next _ _ _ _ _ (sym c.reading_at-w.ensures ∙ c.in-Param.is) in omega arith

pub overflow_add-stop : goal.overflow_add-stop
overflow_add-stop c = let k = step_next _ _ _ _ _ (sym c.reading_at-w.ensures ∙ c.in-Param.is) in omega arith

pub overflow_sub-result : goal.overflow_sub-result
overflow_sub-result c = let k = step_next _ _ _ _ _ (sym c.reading_at-w.ensures ∙ c.in-Param.is) in omega arith

pub returns-then-tag-t : goal.returns-then-tag-t
returns-then-tag-t c =
    rw c.from.ensures
    (at_yes _ _ _ c.if-tag-t.true refl ∙ sym (found_next _ _ _ _ _ (sym c.reading_at-w.ensures ∙ c.in-Param.is) _ _) ∙ c.loop-tag.invariant)

pub loop-tag-smaller : goal.loop-tag-smaller
loop-tag-smaller c = let k = step_next _ _ _ _ _ (sym c.reading_at-w.ensures ∙ c.in-Param.is) in omega arith

pub loop-tag-preserved : goal.loop-tag-preserved
loop-tag-preserved c =
    at_no _ _ _ c.if-tag-t.false refl ∙ sym (found_next _ _ _ _ _ (sym c.reading_at-w.ensures ∙ c.in-Param.is) _ _) ∙ c.loop-tag.invariant
