use Rattle.event_traffic.specs.Inner.Aims.{aims_all, aims_named}
use Rattle.event_traffic.specs.Inner.Named.{refused_mine, refusing_none, refusing_more, refusing_end, owners_none, owners_more, good_end}
use Rattle.state_lookup.specs.Inner.Table.{table_of}
use Rattle.state_ranges.specs.Inner.Owners.{looked_none}
use Rattle.codec_wire.proofs.Steps.{step_next, pars_next, pars_stop}
use mathlib.Core.Bool.{not}
use mathlib.Core.Path.{refl, sym, ap, ◌∙◌}
use native.Mathlib.Omega.{arith}
use Rattle.event_traffic.proofs.aim.Goals as goal

pub returns-then-not-ids : goal.returns-then-not-ids
returns-then-not-ids c = aims_all (ap not c.if-not-ids.true) refl c.ases_of-mine.ensures

pub loop-tag-init : goal.loop-tag-init
loop-tag-init c = (refusing_none _ _, rw c.empty.ensures (owners_none _ _), looked_none _ _, c.ases_of-mine.ensures)

pub returns-in_default : goal.returns-in_default
returns-in_default c =
    let i = c.loop-tag.invariant in
    let z = pars_stop _ _ _ (sym c.step_at-w.ensures) c.in_default.not-Param in
    aims_named (ap not c.if-not-ids.false)
    (record { refused = refusing_end _ _ _ (rw z at i.0); set = rw (sym i.3) (good_end _ _ _ _ _ (rw z at i.1) c.common.ensures) })

pub loop-tag-preserved : goal.loop-tag-preserved
loop-tag-preserved c =
    let i = c.loop-tag.invariant in
    let n = c.named_par-named.ensures in
    let e = rw (refused_mine _ _ _ _ _ _ (table_of c.args.links) i.3) at n.0.refused in
    let z = pars_next _ _ _ _ _ (sym c.step_at-w.ensures ∙ c.in-Param.is) in
    (refusing_more _ _ _ _ _ _ (rw z at i.0) e, owners_more _ _ _ _ _ _ (rw z at i.1) n.0.set, n.1, i.3)

-- the parameter lies within the message
pub overflow_add-start : goal.overflow_add-start
overflow_add-start c = let k = step_next _ _ _ _ _ (sym c.step_at-w.ensures ∙ c.in-Param.is) in omega arith

pub overflow_add-stop : goal.overflow_add-stop
overflow_add-stop c = let k = step_next _ _ _ _ _ (sym c.step_at-w.ensures ∙ c.in-Param.is) in omega arith

pub slice_bounds-named_par-count : goal.slice_bounds-named_par-count
slice_bounds-named_par-count c = let k = step_next _ _ _ _ _ (sym c.step_at-w.ensures ∙ c.in-Param.is) in omega arith

pub slice_bounds-named_par-start : goal.slice_bounds-named_par-start
slice_bounds-named_par-start c = let k = step_next _ _ _ _ _ (sym c.step_at-w.ensures ∙ c.in-Param.is) in omega arith

pub slice_bounds-named_par-end : goal.slice_bounds-named_par-end
slice_bounds-named_par-end c = let k = step_next _ _ _ _ _ (sym c.step_at-w.ensures ∙ c.in-Param.is) in omega arith

pub loop-tag-smaller : goal.loop-tag-smaller
loop-tag-smaller c = let k = step_next _ _ _ _ _ (sym c.step_at-w.ensures ∙ c.in-Param.is) in omega arith
