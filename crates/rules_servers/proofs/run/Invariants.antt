use Prim.Native.Nat.{◌≤◌, ◌-◌}
use Rattle.rules_server.specs.Record.{record_from}
use Rattle.rules_servers.specs.Inner.Run.{Running}
use Rattle.rules_servers.proofs.run.Given as goal

abbrev pub invariant-loop-a : goal.invariant-loop-a
invariant-loop-a l = Running l.moved.change l.named (record_from l.up l.member l.initial.active l.initial.waiting l.mode) l.count l.id l.initial.active l.initial.waiting l.initial.words l.n l.a l.active l.waiting l.words l.m × (l.a ≤ 16)

abbrev pub decreases-loop-a : goal.decreases-loop-a
decreases-loop-a l = 16 - l.a
