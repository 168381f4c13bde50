use mathlib.Core.Path.{refl}
use mathlib.Core.Bool.{true}
use native.Mathlib.Omega.{arith}
use borrow.Author.Rules.{rules}
use Rattle.state_sets.specs.Inner.Bits.{flags_long}
use Rattle.state_ranges.specs.Named.{start_at, stop_at, entries}
use Rattle.state_ranges.specs.Inner.Of.{refused_of}
use Rattle.state_ranges.specs.Inner.Names.{as_plain}
use Rattle.state_names.specs.Inner.Entries.{refused_none, refused_more, refused_end, flags_none, flags_more, flags_end}
use Rattle.state_names.proofs.of_ranges.Goals as goal

pub loop-i-init : goal.loop-i-init
unfolding entries
loop-i-init c = (refused_none _ _ _ _ (as_plain _), flags_none _ _ _ _ (flags_long _), c.requires, search rules, refl)

pub get32-start-requires : goal.get32-start-requires
unfolding entries
get32-start-requires c = omega (arith, c.loop-i.invariant.4)

pub get32-stop-requires : goal.get32-stop-requires
unfolding entries
get32-stop-requires c = omega (arith, c.loop-i.invariant.4)

pub with_range-r-requires : goal.with_range-r-requires
with_range-r-requires c = c.loop-i.invariant.2

pub loop-i-preserved : goal.loop-i-preserved
unfolding start_at stop_at
loop-i-preserved c =
    let k = c.with_range-r.ensures in
    let i = c.loop-i.invariant in
    let p = c.get32-start.ensures in
    let q = c.get32-stop.ensures in
    (refused_more true c.args.value.now c.loop-i.i _ _ p q (refused_of c.args.links c.args.mine) _ _ _ i.0 k.0.refused, flags_more true c.args.value.now c.loop-i.i _ _ p q _ _ _ _ i.1 k.0.set, k.1, search rules, i.4)

pub returns : goal.returns
returns c =
    let i = c.loop-i.invariant in
    (record { refused = refused_end true c.args.value.now c.loop-i.i (omega (arith, i.4)) _ _ _ i.0; set = flags_end true c.args.value.now c.loop-i.i (omega (arith, i.4)) _ _ _ i.1 }, i.2)
