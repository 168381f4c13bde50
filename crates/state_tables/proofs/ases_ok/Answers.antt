use mathlib.Core.Path.{◌≡◌, ◌∙◌, sym}
use native.Mathlib.Omega.{arith}
use borrow.Author.Rules.{rules}
use Rattle.laws.specs.Inner.Below.{all_none, all_next}
use Rattle.laws.specs.Inner.Columns.{half_more, half_at}
use Rattle.state_tables.specs.Sound.{sound_row, active_in}
use Rattle.state_tables.specs.Inner.Limits.{flags_small, half_zeros}
use Rattle.state_tables.specs.Inner.Rows.{row_said, row_over, row_under, active_few, rows_fail, rows_whole}
use Rattle.state_tables.proofs.ases_ok.Goals as goal

pub loop-a-init : goal.loop-a-init
loop-a-init c = (all_none _, half_zeros _, omega arith, search rules, search rules, search rules)

pub row_count-c-requires : goal.row_count-c-requires
row_count-c-requires c = (omega arith, flags_small _ _ c.loop-a.invariant.5)

pub returns-then-c-gt16 : goal.returns-then-c-gt16
returns-then-c-gt16 c h =
    sym (rows_fail c.args.up.now c.args.member.now c.args.active.now c.args.mode.now c.args.waiting.now c.args.asps c.within-m.result c.loop-a.a (omega arith) (row_over (sound_row c.args.up.now c.args.member.now c.args.active.now c.args.asps c.within-m.result c.loop-a.a) (active_in c.args.active.now c.loop-a.a) c.row_count-c.result (active_few _ _) (row_said c.args.up.now c.args.member.now c.args.active.now c.limits-top.result c.flags-on.result c.args.asps c.within-m.result c.loop-a.a c.row_count-c.result (omega arith) c.loop-a.invariant.4 c.loop-a.invariant.5 c.row_count-c.ensures) c.if-c-gt16.true))
    ∙ rw (c.within-m.ensures.1 h)

pub overflow_cast-count : goal.overflow_cast-count
overflow_cast-count c = omega (arith, c.if-c-gt16.false)

pub bounds-count-a : goal.bounds-count-a
bounds-count-a c = omega arith

pub loop-a-preserved : goal.loop-a-preserved
loop-a-preserved c =
    let r = row_under (sound_row c.args.up.now c.args.member.now c.args.active.now c.args.asps c.within-m.result c.loop-a.a) (active_in c.args.active.now c.loop-a.a) c.row_count-c.result (row_said c.args.up.now c.args.member.now c.args.active.now c.limits-top.result c.flags-on.result c.args.asps c.within-m.result c.loop-a.a c.row_count-c.result (omega arith) c.loop-a.invariant.4 c.loop-a.invariant.5 c.row_count-c.ensures) c.if-c-gt16.false in
    (all_next _ _ c.loop-a.invariant.0 r.0, half_more _ c.loop-a.invariant.1 (omega arith) r.1, search rules, search rules, search rules, search rules)

pub returns : goal.returns
returns c h =
    let e : c.loop-a.a ≡ c.within-m.result = omega arith in
    rw (c.marks_ok-marks.ensures, c.both_blank-beyond.ensures, ← c.within-m.ensures.1 h)
    (rows_whole c.args.up.now c.args.member.now c.args.active.now c.args.mode.now c.args.waiting.now c.args.asps c.within-m.result c.loop-a.count (half_at e c.loop-a.invariant.1) c.within-m.ensures.0 (rw e at c.loop-a.invariant.0))
