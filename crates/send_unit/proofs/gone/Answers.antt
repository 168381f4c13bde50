use Prim.Native.Nat.{ℕ}
use mathlib.Core.Path.{◌≡◌, sym, ap, ◌∙◌}
use native.Mathlib.Omega.{arith}
use Rattle.laws.specs.Columns.{number_at}
use Rattle.codec_put.specs.Bytes.{overlay}
use Rattle.codec_select.proofs.Runs.{run_none, run_two, put_length}
use Rattle.send_unit.specs.Inner.Units.{zeros, length_zeros, gone_row, gone_rows, gone_list, rows_none, rows_more, rows_short}
use Rattle.send_unit.proofs.gone.Goals as goal

pub loop-a-init : goal.loop-a-init
unfolding zeros
loop-a-init c = (rw (rows_none c.args.before.now c.args.after.now) (run_none _ _), omega arith)

pub slice_bounds-add_row-end : goal.slice_bounds-add_row-end
slice_bounds-add_row-end c = sym (put_length c.loop-a.invariant.0 ∙ length_zeros)

pub add_row-n-requires : goal.add_row-n-requires
add_row-n-requires c = let a = c.args in
    let lp = c.loop-a in
    let n = lp.invariant.0.next in
    let m = rows_short a.before.now a.after.now lp.a in
    let l = put_length lp.invariant.0 in
    (omega arith, omega (arith, length_zeros))

pub loop-a-preserved : goal.loop-a-preserved
loop-a-preserved c = let a = c.args in
    let lp = c.loop-a in
    (rw (rows_more a.before.now a.after.now lp.a) (run_two (gone_rows a.before.now a.after.now lp.a) (gone_row (number_at a.before.now lp.a) (number_at a.after.now lp.a) lp.a) lp.invariant.0 c.add_row-n.ensures), omega arith)

pub returns : goal.returns
unfolding gone_list
returns c = let lp = c.loop-a in let a = c.args in let e : lp.a ≡ 16 = omega arith in lp.invariant.0.bytes ∙ ap (λ (k : ℕ). overlay zeros 0 (gone_rows a.before.now a.after.now k)) e
