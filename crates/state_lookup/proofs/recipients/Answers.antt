use mathlib.Core.Path.{refl, sym}
use native.Mathlib.Omega.{arith}
use borrow.Author.Rules.{rules}
use Rattle.state_lookup.specs.Servers.{receives}
use Rattle.state_lookup.specs.Inner.Servers.{before_none, before_more, before_small}
use Rattle.laws.specs.Inner.Columns.{half_none, half_more, half_end}
use Rattle.laws.specs.Columns.{is_set}
use Rattle.state_tables.specs.Sound.{pair}
use Rattle.laws.specs.Inner.Below.{from_one, from_small}
use Rattle.state_lookup.proofs.recipients.Goals as goal

pub loop-q-init : goal.loop-q-init
loop-q-init c = (half_none _ 16 _ refl, sym (before_none _ _), search rules, search rules, rw (c.rest-place.ensures, c.count_active-k.ensures))

pub overflow_add-n : goal.overflow_add-n
overflow_add-n c = omega (arith, c.from-n.ensures, from_small (is_set c.args.active.now (pair c.args.a c.loop-q.q)), c.loop-q.invariant.1, before_small c.args.active.now c.args.a c.loop-q.q)

pub loop-q-preserved : goal.loop-q-preserved
unfolding receives
loop-q-preserved c = (half_more _ c.loop-q.invariant.0 (omega arith) (rw (c.loop-q.invariant.1, c.loop-q.invariant.4)), rw (before_more, c.loop-q.invariant.1, c.from-n.ensures, from_one _), search rules, search rules, search rules)

pub returns : goal.returns
returns c = half_end c.loop-q.invariant.0 c.loop-q-test.false
