use Prim.Native.Nat.{◌≤◌, ◌-◌, ◌+◌, ◌*◌}
use mathlib.Core.Path.{◌≡◌}
use mathlib.Core.Bool.{◌&&◌}
use lib.Dec.{leb, ltb}
use lib.ListN.{length}
use Rattle.laws.specs.Below.{all_below}
use Rattle.state_plan.specs.Plan.{high, low, link_kinds}
use Rattle.state_plan.specs.Inner.Tables.{word_of, floor_of}
use Rattle.state_plan.proofs.links_ok.Given as goal

abbrev pub invariant-loop-l : goal.invariant-loop-l
invariant-loop-l l = (l.ok ≡ all_below (λ i. leb (floor_of (word_of l.s l.at 8) i) (word_of l.s l.at 8 i) && ltb (low (word_of l.s (l.at + 4) 8 i)) l.ases) l.l) × (l.least ≡ floor_of (word_of l.s l.at 8) l.l) × (ltb (high l.bits) link_kinds ≡ all_below (λ i. ltb (high (word_of l.s (l.at + 4) 8 i)) link_kinds) l.l) × (l.l ≤ l.links) × (l.links ≤ 128) × (l.at + 8 * l.links ≤ length l.s)

abbrev pub decreases-loop-l : goal.decreases-loop-l
decreases-loop-l l = l.links - l.l
