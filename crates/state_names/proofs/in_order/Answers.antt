use Prim.Native.Nat.{◌<◌}
use mathlib.Core.Path.{refl, sym, ◌∙◌}
use mathlib.Core.Bool.{false}
use native.Mathlib.Omega.{arith}
use Rattle.state_lookup.specs.Inner.Table.{table_of}
use Rattle.state_sets.specs.Inner.Bits.{flags_long}
use Rattle.state_ranges.specs.Named.{start_at, entries}
use Rattle.state_names.specs.Inner.Run.{goes_none, goes_more, goes_end, good_within}
use Rattle.state_names.proofs.in_order.Goals as goal

pub returns-then-not-go : goal.returns-then-not-go
returns-then-not-go c = goes_none c.requires

pub loop-i-init : goal.loop-i-init
unfolding entries
loop-i-init c = (goes_none c.requires, refl, c.requires)

pub get32-x-requires : goal.get32-x-requires
unfolding entries
get32-x-requires c = omega (arith, c.loop-i.invariant.1)

pub returns-then-not-is_good_at : goal.returns-then-not-is_good_at
returns-then-not-is_good_at c = c.loop-i.invariant.0

pub owner_at-requires : goal.owner_at-requires
owner_at-requires c = good_within _ _ _ _ _ _ (sym c.is_good_at.ensures ∙ c.if-not-is_good_at.false)

pub overflow_add-l : goal.overflow_add-l
overflow_add-l c =
    omega (arith, c.args.links.ids.few, good_within _ _ _ _ _ _ (sym c.is_good_at.ensures ∙ c.if-not-is_good_at.false))

pub loop-i-preserved : goal.loop-i-preserved
unfolding start_at
loop-i-preserved c =
    let v = c.loop-i.invariant in
    let b : c.loop-i.i < entries false c.args.value.now = omega (arith, v.1) in
    (goes_more _ (table_of c.args.links) v.0 b c.get32-x.ensures (sym c.is_good_at.ensures ∙ c.if-not-is_good_at.false) (flags_long _) (rw c.owner_at.ensures.0 at c.with-r.ensures), v.1, omega arith)

pub returns : goal.returns
returns c = let v = c.loop-i.invariant in goes_end v.0 (omega arith)
