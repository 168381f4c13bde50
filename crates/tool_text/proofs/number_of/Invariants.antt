use Rattle.tool_text.specs.Inner.Parse.{number_from}
use lib.ListN.{drop}
use mathlib.Core.Path.{◌≡◌}
use Rattle.tool_text.proofs.number_of.Given as goal

abbrev pub invariant-loop-b : goal.invariant-loop-b
invariant-loop-b l = number_from l.n (drop l.b-index l.w) ≡ number_from 0 l.w
