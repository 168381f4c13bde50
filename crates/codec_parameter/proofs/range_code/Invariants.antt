use Rattle.laws.specs.Below.{all_below}
use Rattle.codec_wire.specs.Number.{be}
use lib.Dec.{leb}
use mathlib.Core.List.{List}
use Prim.Native.Nat.{ℕ, ◌+◌, ◌*◌}
use mathlib.Core.Bool.{Bool, true}
use mathlib.Core.Path.{◌≡◌}
use Rattle.codec_parameter.proofs.range_code.Given as goal

-- the pair at a place ascends
abbrev pub ordered : List ℕ → ℕ → Bool
ordered v k = leb (be 4 v (k * 8)) (be 4 v (k * 8 + 4))

abbrev pub invariant-loop-k : goal.invariant-loop-k
invariant-loop-k l = all_below (ordered l.v) l.k ≡ true
