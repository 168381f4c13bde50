use Rattle.event_traffic.specs.Inner.Named.{owners_none, owners_more, good_end}
use Rattle.state_ranges.specs.Inner.Owners.{looked_none}
use Rattle.codec_wire.proofs.Steps.{step_next, pars_next, pars_stop}
use mathlib.Core.Path.{sym, ◌∙◌}
use native.Mathlib.Omega.{arith}
use Rattle.event_reach.proofs.owners_good.Goals as goal

pub loop-tag-init : goal.loop-tag-init
loop-tag-init c = (rw c.empty-set.ensures (owners_none _ _), looked_none _ _)

pub returns-in_default : goal.returns-in_default
returns-in_default c = c.flags.ensures ∙ good_end _ _ _ _ _ (rw (pars_stop _ _ _ (sym c.step_at-w.ensures) c.in_default.not-Param) at c.loop-tag.invariant.0) c.common.ensures

pub overflow_add-start : goal.overflow_add-start
overflow_add-start c = let k = step_next _ _ _ _ _ (sym c.step_at-w.ensures ∙ c.in-Param.is) in omega arith

pub overflow_cast-stop : goal.overflow_cast-stop
overflow_cast-stop c = let k = step_next _ _ _ _ _ (sym c.step_at-w.ensures ∙ c.in-Param.is) in omega arith

pub overflow_add-stop : goal.overflow_add-stop
overflow_add-stop c = let k = step_next _ _ _ _ _ (sym c.step_at-w.ensures ∙ c.in-Param.is) in omega arith

pub slice_bounds-owners_par-count : goal.slice_bounds-owners_par-count
slice_bounds-owners_par-count c = let k = step_next _ _ _ _ _ (sym c.step_at-w.ensures ∙ c.in-Param.is) in omega arith

pub slice_bounds-owners_par-start : goal.slice_bounds-owners_par-start
slice_bounds-owners_par-start c = let k = step_next _ _ _ _ _ (sym c.step_at-w.ensures ∙ c.in-Param.is) in omega arith

pub slice_bounds-owners_par-end : goal.slice_bounds-owners_par-end
slice_bounds-owners_par-end c = let k = step_next _ _ _ _ _ (sym c.step_at-w.ensures ∙ c.in-Param.is) in omega arith

pub owners_par-set-requires : goal.owners_par-set-requires
owners_par-set-requires c = c.loop-tag.invariant.1

pub loop-tag-smaller : goal.loop-tag-smaller
loop-tag-smaller c = let k = step_next _ _ _ _ _ (sym c.step_at-w.ensures ∙ c.in-Param.is) in omega arith

pub loop-tag-preserved : goal.loop-tag-preserved
loop-tag-preserved c =
    let i = c.loop-tag.invariant in
    let e = c.owners_par-set.ensures in
    (owners_more _ _ _ _ _ _ (rw (pars_next _ _ _ _ _ (sym c.step_at-w.ensures ∙ c.in-Param.is)) at i.0) e.0, e.1)
