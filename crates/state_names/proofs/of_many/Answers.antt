use mathlib.Core.Path.{refl}
use native.Mathlib.Omega.{arith}
use borrow.Author.Rules.{rules}
use Rattle.state_sets.specs.Inner.Bits.{flags_long}
use Rattle.state_ranges.specs.Named.{start_at, entries}
use Rattle.state_ranges.specs.Inner.Names.{as_plain}
use Rattle.state_names.specs.Inner.Run.{sofar_none, sofar_more, sofar_end}
use Rattle.state_names.proofs.of_many.Goals as goal

pub table_of-table-requires : goal.table_of-table-requires
table_of-table-requires c = c.args.links.ids.few

pub loop-i-init : goal.loop-i-init
unfolding entries
loop-i-init c = (sofar_none (as_plain _) (flags_long _), search rules, refl, c.table_of-table.ensures)

pub get32-x-requires : goal.get32-x-requires
unfolding entries
get32-x-requires c = omega (arith, c.loop-i.invariant.2)

pub find-f-requires : goal.find-f-requires
find-f-requires c = c.loop-i.invariant.3

pub with_found-r-requires : goal.with_found-r-requires
with_found-r-requires c = c.find-f.ensures

pub loop-i-preserved : goal.loop-i-preserved
unfolding start_at
loop-i-preserved c =
    let v = c.loop-i.invariant in
    (sofar_more v.0 c.get32-x.ensures c.with_found-r.ensures, search rules, v.2, v.3)

pub returns : goal.returns
returns c = let v = c.loop-i.invariant in sofar_end v.0 (omega (arith, v.1, v.2))
