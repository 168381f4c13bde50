use Prim.Native.Nat.{◌-◌}
use mathlib.Core.Path.{sym}
use native.Mathlib.Omega.{arith}
use lib.ListN.{drop, length-drop}
use lib.Seq.{length-take-le}
use Rattle.send_orders.specs.Inner.Part.{put_short, put_fits}
use Rattle.send_orders.proofs.put_again.Goals as goal

pub returns-then-out-at : goal.returns-then-out-at
returns-then-out-at c = let a = c.args in
    let p = c.requires in
    put_short _ _ _ (sym (length-take-le a.size (drop (a.at - a.size) a.out.now) (omega (arith, p.0, p.1, length-drop (a.at - a.size) a.out.now)))) c.if-out-at.true

pub returns : goal.returns
returns c = let a = c.args in
    let p = c.requires in
    put_fits _ _ _ (sym (length-take-le a.size (drop (a.at - a.size) a.out.now) (omega (arith, p.0, p.1, length-drop (a.at - a.size) a.out.now)))) c.if-out-at.false c.again.ensures
