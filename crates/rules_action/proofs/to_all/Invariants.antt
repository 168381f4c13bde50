use Prim.Native.Nat.{◌≤◌, ◌-◌}
use Rattle.rules_action.specs.Words.{to_each}
use Rattle.rules_action.specs.Inner.Words.{Emitted}
use Rattle.rules_action.proofs.to_all.Given as goal

abbrev pub invariant-loop-q : goal.invariant-loop-q
invariant-loop-q l = Emitted (to_each l.who l.classtype l.subject l.value) l.initial.words l.n l.q l.words l.m × (l.q ≤ 16)

abbrev pub decreases-loop-q : goal.decreases-loop-q
decreases-loop-q l = 16 - l.q
