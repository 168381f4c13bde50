use mathlib.Core.Path.{refl}
use native.Mathlib.Omega.{arith}
use Rattle.event_asked.specs.Happened.{happened}
use Rattle.send_orders.specs.Inner.Ran.{no_101, ran}
use Rattle.send_orders.specs.Inner.Many.{many_refused, many_beyond, many_done}
use Rattle.send_orders.proofs.Written.{can_write, written}
use Rattle.send_orders.proofs.m2ua_orders_at.Goals as goal

pub returns-then-done-ne0 : goal.returns-then-done-ne0
returns-then-done-ne0 c =
    let k = happened c.args.kind c.args.i c.args.msg.now in
    rw c.batch_of.ensures (many_refused _ _ _ _ _ _ _ (no_101 _ c.args.hold.now k refl c.run-done.ensures) c.if-done-ne0.true)

pub returns-then-done-place : goal.returns-then-done-place
returns-then-done-place c =
    let k = happened c.args.kind c.args.i c.args.msg.now in
    rw c.batch_of-then-done-place.ensures (many_beyond _ _ _ _ _ _ (ran _ c.args.hold.now k refl c.run-done.ensures c.if-done-ne0.false) c.if-done-place.true)

pub put_from-reached-requires : goal.put_from-reached-requires
put_from-reached-requires c =
    let a = c.args in
    can_write a.msg.now a.kind a.i a.place (ran _ a.hold.now (happened a.kind a.i a.msg.now) refl c.run-done.ensures c.if-done-ne0.false) (omega (arith, c.if-done-place.false))

pub returns : goal.returns
returns c =
    let a = c.args in
    let t = ran _ a.hold.now (happened a.kind a.i a.msg.now) refl c.run-done.ensures c.if-done-ne0.false in
    let p = c.put_from-reached.ensures in
    rw (c.batch_of-2.ensures, c.some_reached.ensures)
    (many_done _ a.hold.now (happened a.kind a.i a.msg.now) a.place a.lens.now a.out.now t c.if-done-place.false p.few
    (written a.msg.now a.kind a.i a.place t p.wrote))
