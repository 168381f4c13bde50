use Prim.Native.Nat.{ℕ, ◌+◌, ◌≤◌}
use mathlib.Core.Path.{◌≡◌, sym, subst}
use mathlib.Core.Bool.{Bool}
use mathlib.Core.List.{List}
use native.Mathlib.Omega.{arith}
use borrow.Author.Rules.{rules}
use lib.ListN.{length}
use Rattle.state_tables.specs.declared.Gateway.{Gateway}
use Rattle.rules_event.specs.Event.{EventKind}
use Rattle.event_asked.specs.Happened.{happened}
use Rattle.send_message.specs.Send.{part_at}
use Rattle.send_orders.specs.Inner.Batch.{Ended}
use Rattle.send_orders.specs.Inner.Ran.{Ran}
use Rattle.send_orders.specs.Inner.Stays.{hold_same}
use Rattle.send_orders.specs.Inner.Handled.{handles_short, handles_refused, handles_quiet, ran_handled, handles_all}
use Rattle.send_orders.proofs.Written.{can_write, written}
use Rattle.send_orders.proofs.m2ua_handle_at.Goals as goal

-- it was run, is not refused and has actions: so the hold stayed, and what is written of the hold behind the
-- event is written of the one before it
ran_on : {g : Gateway} {k : EventKind} {count : ℕ} {ws : List ℕ} {c : Gateway} {h h' : List ℕ} → h' ≡ h → Ran g h k count ws c → Ran g h' k count ws c
ran_on {g} {k} {count} {ws} {c} e t = subst (λ (h : List ℕ). Ran g h k count ws c) (sym e) t

same_hold : (g : Gateway) (k : EventKind) {all : ℕ → Bool} {h h' lens out lens' out' : List ℕ} {n at : ℕ} → h' ≡ h → Ended (λ j. part_at g h' k (0 + j)) all lens out n at lens' out'
    → Ended (λ j. part_at g h k (0 + j)) all lens out n at lens' out'
same_hold g k {all} {lens = lens} {out} {lens'} {out'} {n} {at} e x = subst (λ (y : List ℕ). Ended (λ j. part_at g y k (0 + j)) all lens out n at lens' out') e x

pub returns-then-out-lt-ROOM_BYTES : goal.returns-then-out-lt-ROOM_BYTES
returns-then-out-lt-ROOM_BYTES c =
    let a = c.args in
    rw c.handled_of.ensures (handles_short _ (happened a.kind a.i a.msg.now) a.hold.now a.words.now a.lens.now a.out.now (omega arith) c.run-done.ensures c.refused.ensures)

pub returns-then-done-ne0 : goal.returns-then-done-ne0
returns-then-done-ne0 c =
    let a = c.args in
    rw c.handled_of-then-done-ne0.ensures (handles_refused _ (happened a.kind a.i a.msg.now) a.hold.now a.words.now a.lens.now a.out.now (search rules) (omega arith) c.run-done-2.ensures c.if-done-ne0.true c.refused-then-done-ne0.ensures)

pub returns-then-done-eq0 : goal.returns-then-done-eq0
returns-then-done-eq0 c =
    let a = c.args in
    rw c.handled_of-then-done-eq0.ensures (handles_quiet _ (happened a.kind a.i a.msg.now) a.hold.now a.words.now a.lens.now a.out.now (search rules) (omega arith) c.run-done-2.ensures c.if-done-ne0.false c.if-done-eq0.true)

pub put_from-reached-requires : goal.put_from-reached-requires
put_from-reached-requires c =
    let a = c.args in
    let k = happened a.kind a.i a.msg.now in
    let m = c.run-done-2.ensures in
    let e = hold_same _ k m (omega (arith, c.if-done-eq0.false)) in
    can_write a.msg.now a.kind a.i 0
    (ran_on e (ran_handled _ k a.hold.now a.words.now a.lens.now a.out.now (search rules) (omega arith) m c.if-done-ne0.false))
    (omega arith)

pub returns : goal.returns
returns c =
    let a = c.args in
    let k = happened a.kind a.i a.msg.now in
    let m = c.run-done-2.ensures in
    let e = hold_same _ k m (omega (arith, c.if-done-eq0.false)) in
    let room : 790528 ≤ length a.out.now = omega arith in
    let p = c.put_from-reached.ensures in
    let t = ran_on e (ran_handled _ k a.hold.now a.words.now a.lens.now a.out.now (search rules) room m c.if-done-ne0.false) in
    rw c.handled_of-2.ensures (handles_all _ k a.hold.now a.words.now a.lens.now a.out.now (search rules) room m (search rules) c.if-done-ne0.false (omega (arith, p.few))
    (same_hold _ k e (written a.msg.now a.kind a.i 0 t p.wrote)))
