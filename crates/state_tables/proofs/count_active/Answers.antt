use Prim.Native.Nat.{◌+◌, ◌*◌}
use mathlib.Core.Path.{sym}
use native.Mathlib.Omega.{arith}
use borrow.Author.Rules.{rules}
use Rattle.state_tables.specs.Sound.{active_in}
use Rattle.laws.specs.Below.{count_below}
use Rattle.laws.specs.Inner.Below.{at_end, count_none, count_more, count_small}
use Rattle.laws.specs.Columns.{is_set}
use Rattle.laws.specs.Inner.Below.{one_small}
use Rattle.laws.specs.Inner.Below.{from_one}
use Rattle.state_tables.proofs.count_active.Goals as goal

pub loop-q-init : goal.loop-q-init
loop-q-init c = (sym (count_none _), search rules, search rules)

pub overflow_add-n : goal.overflow_add-n
overflow_add-n c = let e = from_one (is_set c.args.active.now (c.args.a * 16 + c.loop-q.q)) in let o = one_small (is_set c.args.active.now (c.args.a * 16 + c.loop-q.q)) in omega (arith, c.from-n.ensures, e, o, c.loop-q.invariant.0, count_small (λ i. is_set c.args.active.now (c.args.a * 16 + i)) c.loop-q.q)

pub loop-q-preserved : goal.loop-q-preserved
loop-q-preserved c = (rw (count_more, c.loop-q.invariant.0, c.from-n.ensures, from_one), search rules, search rules)

pub returns : goal.returns
unfolding active_in
returns c = at_end (count_below _) c.loop-q.invariant.0 c.loop-q-test.false c.loop-q.invariant.1
