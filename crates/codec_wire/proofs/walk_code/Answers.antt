use Rattle.codec_wire.specs.Walk.{Walk}
use Rattle.codec_wire.proofs.Steps.{step_next, walk_step, walk_stop}
use mathlib.Core.Path.{sym, ap, ◌∙◌}
use native.Mathlib.Omega.{arith}
use Rattle.codec_wire.proofs.walk_code.Goals as goal

pub returns-in_default : goal.returns-in_default
returns-in_default c = c.step_code.ensures ∙ ap (λ (w : Walk). w.code) (sym (walk_stop _ _ _ (sym c.step_at-w.ensures) c.in_default.not-Param)) ∙ c.loop-next.invariant

pub loop-next-smaller : goal.loop-next-smaller
loop-next-smaller c = let e = c.step_at-w.ensures in let k = step_next _ _ _ _ _ (sym e ∙ c.in-Param.is) in omega arith

pub loop-next-preserved : goal.loop-next-preserved
loop-next-preserved c = ap (λ (w : Walk). w.code) (sym (walk_step _ _ _ (sym c.step_at-w.ensures ∙ c.in-Param.is))) ∙ c.loop-next.invariant
