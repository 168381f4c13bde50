use mathlib.Core.Path.{refl}
use native.Mathlib.Omega.{arith}
use borrow.Author.Rules.{rules}
use Rattle.state_sets.specs.Inner.Bits.{flags_long}
use Rattle.state_ranges.specs.Named.{start_at, entries}
use Rattle.state_ranges.specs.Inner.Names.{as_plain}
use Rattle.state_names.specs.Inner.Run.{sofar_none, sofar_more, sofar_end}
use Rattle.state_names.proofs.of_few.Goals as goal

pub loop-i-init : goal.loop-i-init
unfolding entries
loop-i-init c = (sofar_none (as_plain _) (flags_long _), search rules, refl)

pub get32-x-requires : goal.get32-x-requires
unfolding entries
get32-x-requires c = omega (arith, c.loop-i.invariant.2)

pub with_id-e-requires : goal.with_id-e-requires
with_id-e-requires c = c.rank_near-l.ensures.0

pub overflow_add-from-in-loop-i : goal.overflow_add-from-in-loop-i
overflow_add-from-in-loop-i c = omega (arith, c.args.links.ids.few, c.rank_near-l.ensures.1)

pub in_order-t-requires : goal.in_order-t-requires
in_order-t-requires c = omega (arith, c.loop-i.invariant.2)

pub loop-i-smaller : goal.loop-i-smaller
loop-i-smaller c = let g = c.in_order-t.ensures in omega (arith, g.on)

pub loop-i-preserved : goal.loop-i-preserved
unfolding start_at
loop-i-preserved c =
    let v = c.loop-i.invariant in
    let g = c.in_order-t.ensures in
    (g.so _ _ _ (sofar_more v.0 c.get32-x.ensures c.with_id-e.ensures), omega (arith, g.within, v.2), v.2)

pub returns : goal.returns
returns c = let v = c.loop-i.invariant in sofar_end v.0 (omega (arith, v.1, v.2))
