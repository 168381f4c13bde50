use Prim.Native.Nat.{◌*◌}
use mathlib.Core.Path.{sym}
use lib.Dec.{ltb}
use Rattle.laws.specs.Columns.{number_at}
use native.Mathlib.Omega.{arith}
use borrow.Author.Rules.{rules}
use Rattle.laws.specs.Below.{count_below}
use Rattle.laws.specs.Inner.Below.{at_end, count_none, count_more}
use Rattle.laws.specs.Inner.Below.{from_one, from_small}
use Rattle.state_lookup.proofs.links.Identifiers.eighths_below.Goals as goal

pub loop-k-init : goal.loop-k-init
loop-k-init c = (sym (count_none _), search rules, search rules, search rules)

pub loop-k-preserved : goal.loop-k-preserved
loop-k-preserved c = (rw (count_more, c.loop-k.invariant.0, c.from-c.ensures, from_one _), omega (arith, c.from-c.ensures, from_small (ltb (number_at c.args.self.iid.now (8 * c.loop-k.k)) c.args.x)), search rules, search rules)

pub returns : goal.returns
returns c = at_end (count_below _) c.loop-k.invariant.0 c.loop-k-test.false c.loop-k.invariant.2
