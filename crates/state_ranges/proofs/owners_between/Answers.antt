use native.Mathlib.Omega.{arith}
use borrow.Author.Rules.{rules}
use Rattle.state_sets.specs.Inner.Bits.{flags_long}
use Rattle.state_ranges.specs.Inner.Owners.{walk_start, walk_jump, walk_step, walk_looked, walk_owners}
use Rattle.state_ranges.proofs.owners_between.Goals as goal

pub overflow_cast-end : goal.overflow_cast-end
overflow_cast-end c = omega (arith, c.requires.0, c.args.links.ids.few)

pub loop-l-init : goal.loop-l-init
loop-l-init c = (walk_start _ _ c.requires.1, search rules, c.requires.0)

pub loop-l-smaller-then-l-next : goal.loop-l-smaller-then-l-next
loop-l-smaller-then-l-next c = omega (arith, c.if-l-next.true, c.loop-l-test.true)

pub loop-l-preserved-then-l-next : goal.loop-l-preserved-then-l-next
loop-l-preserved-then-l-next c =
    let i = c.loop-l.invariant in
    (walk_jump i.0 (omega (arith, i.2, c.args.links.ids.few, c.loop-l-test.true)) _ c.max.ensures _ c.from-next.ensures c.if-l-next.true, omega (arith, i.1, c.if-l-next.true), i.2)

pub loop-l-preserved : goal.loop-l-preserved
loop-l-preserved c =
    let i = c.loop-l.invariant in
    let t = c.loop-l-test.true in
    let o = c.owner_at.ensures in
    (rw (c.with-r.ensures, o.0) (walk_step i.0 (omega (arith, i.2, c.args.links.ids.few, t)) _ c.max.ensures i.1 t (omega (arith, c.from-next.ensures, c.if-l-next.false)) (flags_long _) (rw o.0 at o.1)), omega (arith, i.1), i.2)

pub returns : goal.returns
returns c = let i = c.loop-l.invariant in (walk_owners i.0 c.loop-l-test.false (flags_long _), walk_looked i.0 c.loop-l-test.false)
