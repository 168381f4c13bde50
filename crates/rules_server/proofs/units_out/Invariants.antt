use Prim.Native.Nat.{◌≤◌, ◌-◌}
use Rattle.rules_action.specs.Inner.Words.{Emitted}
use Rattle.rules_server.specs.Units.{unit_out}
use Rattle.rules_server.proofs.units_out.Given as goal

abbrev pub invariant-loop-k : goal.invariant-loop-k
invariant-loop-k l = Emitted (unit_out l.p l.n l.id l.a) l.initial.words l.m l.k l.words l.at × (l.k ≤ 8)

abbrev pub decreases-loop-k : goal.decreases-loop-k
decreases-loop-k l = 8 - l.k
