use Prim.Native.Nat.{◌-◌, ◌+◌, ◌≤◌}
use mathlib.Core.Path.{refl, ◌∙◌}
use native.Mathlib.Omega.{arith}
use lib.ListN.{length, take, drop}
use Rattle.send_orders.specs.Inner.Part.{Again, made_from, put_as}
use Rattle.send_orders.proofs.put_turn.Goals as goal

pub put_again-requires : goal.put_again-requires
put_again-requires c =
    let w = rw c.in-Some.is at c.requires.1 in
    (omega (arith, w.0, w.1.far), c.requires.0.room)

pub returns : goal.returns
returns c = let a = c.args in
    let w = rw c.in-Some.is at c.requires.1 in
    put_as c.put_again.ensures ((λ y. take (w.0 y) (drop (a.t.at - w.0 y) a.out.now)) ∙ w.1.stand) refl refl
