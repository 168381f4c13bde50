use lib.ListN.{length}
use Prim.Native.Nat.{◌-◌}
use Rattle.tool_report.proofs.Rest.{Rest}
use Rattle.tool_report.proofs.put_pars.Given as goal

abbrev pub invariant-loop-tag : goal.invariant-loop-tag
invariant-loop-tag l = Rest l.style l.s l.initial.out l.out l.at

abbrev pub decreases-loop-tag : goal.decreases-loop-tag
decreases-loop-tag l = length l.s - l.at
