use mathlib.Core.Path.{◌≡◌, refl}
use native.Mathlib.Omega.{arith}
use mathlib.Core.List.{[], ◌∷◌, append-nil}
use Rattle.codec_put.specs.Bytes.{overlay}
use borrow.Author.Tests.{lt-ltb, le-ltb}
use mathlib.Core.Logic.{inl, inr}
use Rattle.state_tables.specs.Sound.{unit_index}
use Rattle.codec_select.proofs.Runs.{run_none, run_two, put_length}
use Rattle.send_unit.specs.Inner.Units.{row_to, row_none, row_more, row_empty, row_length}
use Rattle.send_unit.proofs.add_row.Goals as goal
use Rattle.send_unit.proofs.add_row.Goals.{then-k-from, else-k-from}

pub returns-then-before-eq0 : goal.returns-then-before-eq0
returns-then-before-eq0 c = let a = c.args in rw (row_empty a.before a.after a.a (inl c.if-before-eq0.true)) (run_none _ _)

pub returns-then-after-ne0 : goal.returns-then-after-ne0
returns-then-after-ne0 c = let a = c.args in rw (row_empty a.before a.after a.a (inr c.if-after-ne0.true)) (run_none _ _)

pub loop-k-init : goal.loop-k-init
loop-k-init c = let a = c.args in (rw (row_none a.before a.after a.a) (run_none _ _), omega arith)

pub bounds-list-at : goal.bounds-list-at
bounds-list-at c = let a = c.args in
    let lp = c.loop-k in
    let n = lp.invariant.0.next in
    let m = row_length a.before a.after a.a lp.k in
    let l = put_length lp.invariant.0 in
    omega arith

pub overflow_add-at : goal.overflow_add-at
overflow_add-at c = let a = c.args in
    let lp = c.loop-k in
    let n = lp.invariant.0.next in
    let m = row_length a.before a.after a.a lp.k in
    let l = put_length lp.invariant.0 in
    omega arith

pub loop-k-preserved : goal.loop-k-preserved
unfolding overlay
loop-k-preserved c = let a = c.args in
    let lp = c.loop-k in
    let i = lp.invariant.0 in
    let e = row_more a.before a.after a.a lp.k c.if-after-ne0.false in (
      elim c.if-k-from.branch [
        | then-k-from w ↦
            rw (e, lt-ltb lp.k a.before (omega (arith, w.if-k-from.true, c.from.ensures)), w.at-is, w.list-is)
            (run_two (row_to a.before a.after a.a lp.k) (unit_index a.a lp.k ∷ []) i (record { next = refl; bytes = refl }))
        | else-k-from w ↦ rw (e, le-ltb lp.k a.before (omega (arith, w.if-k-from.false, c.from.ensures)), append-nil (row_to a.before a.after a.a lp.k), w.at-is, w.list-is) i
      ],
      omega arith,
    )

pub shape_of-list : goal.shape_of-list
shape_of-list c = put_length c.loop-k.invariant.0

pub returns : goal.returns
returns c = let lp = c.loop-k in let e : lp.k ≡ 8 = omega arith in rw e at lp.invariant.0
