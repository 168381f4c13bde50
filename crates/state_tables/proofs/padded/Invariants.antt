use Prim.Native.Nat.{◌≤◌, ◌-◌, ◌+◌}
use Rattle.laws.specs.Inner.Columns.{HalfCol}
use Rattle.state_tables.specs.Inner.Differ.{pad_at}
use Rattle.state_tables.proofs.padded.Given as goal

abbrev pub invariant-loop-q : goal.invariant-loop-q
invariant-loop-q l = HalfCol (pad_at l.aspid l.x) (λ i. l.x) 32 (l.q + 16) l.r × (l.q ≤ 16)

abbrev pub decreases-loop-q : goal.decreases-loop-q
decreases-loop-q l = 16 - l.q
