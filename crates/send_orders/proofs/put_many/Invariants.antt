use Prim.Native.Nat.{◌+◌, ◌-◌, ◌<◌, ◌≤◌}
use mathlib.Core.Path.{◌≡◌}
use lib.Dec.{leb}
use lib.ListN.{length}
use Rattle.send_unit.specs.Inner.Words.{data_in}
use Rattle.send_orders.specs.Inner.Part.{lent_in, part_in}
use Rattle.send_orders.specs.Inner.Batch.{Filled}
use Rattle.send_orders.proofs.put_many.Given as goal

abbrev pub invariant-loop-n : goal.invariant-loop-n
invariant-loop-n l =
    (l.run.place + l.n ≤ l.run.count)
    × Filled (λ j. part_in (lent_in l.run l.words l.list l.s l.units) (l.run.place + j)) (λ m. leb l.run.count (l.run.place + m)) l.initial.lens l.initial.out l.n l.at l.lens l.out
    × (0 < l.n → l.size ≡ length (part_in (lent_in l.run l.words l.list l.s l.units) (l.run.place + (l.n - 1))))
    × (l.d ≡ data_in l.words (l.run.place + l.n))
