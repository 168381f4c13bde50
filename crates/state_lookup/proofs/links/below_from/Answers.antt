use Prim.Native.Nat.{◌+◌}
use mathlib.Core.Path.{sym}
use lib.Dec.{ltb}
use Rattle.laws.specs.Columns.{number_at}
use native.Mathlib.Omega.{arith}
use borrow.Author.Rules.{rules}
use Rattle.laws.specs.Below.{count_below}
use Rattle.laws.specs.Inner.Below.{at_end, count_none, count_more}
use Rattle.laws.specs.Inner.Below.{from_one, from_small}
use Rattle.state_lookup.proofs.links.below_from.Goals as goal

pub loop-j-init : goal.loop-j-init
loop-j-init c = (sym (count_none _), search rules, search rules, search rules)

pub loop-j-preserved : goal.loop-j-preserved
loop-j-preserved c = (rw (count_more, c.loop-j.invariant.0, c.from-c.ensures, from_one _), omega (arith, c.from-c.ensures, from_small (ltb (number_at c.args.iid.now (c.args.first + c.loop-j.j)) c.args.x)), search rules, search rules)

pub returns : goal.returns
returns c = at_end (count_below _) c.loop-j.invariant.0 c.loop-j-test.false c.loop-j.invariant.2
