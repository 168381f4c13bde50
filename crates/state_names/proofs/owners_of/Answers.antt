use native.Mathlib.Omega.{arith}
use borrow.Author.Rules.{rules}
use Rattle.state_sets.specs.Inner.Bits.{flags_long}
use Rattle.state_names.specs.Inner.Entries.{flags_none, flags_more, flags_end}
use Rattle.state_names.proofs.owners_of.Goals as goal

pub loop-i-init : goal.loop-i-init
loop-i-init c = (flags_none _ _ _ _ (flags_long _), c.requires, search rules, c.entries_of-n.ensures)

pub start_at-start-requires : goal.start_at-start-requires
start_at-start-requires c = omega (arith, c.loop-i.invariant.3)

pub stop_at-stop-requires : goal.stop_at-stop-requires
stop_at-stop-requires c = omega (arith, c.loop-i.invariant.3)

pub owners_in-r-requires : goal.owners_in-r-requires
owners_in-r-requires c = c.loop-i.invariant.1

pub loop-i-preserved : goal.loop-i-preserved
loop-i-preserved c = let i = c.loop-i.invariant in (flags_more _ _ _ _ _ c.start_at-start.ensures c.stop_at-stop.ensures _ _ _ _ i.0 c.owners_in-r.ensures.0, c.owners_in-r.ensures.1, search rules, i.3)

pub returns : goal.returns
returns c = let i = c.loop-i.invariant in (flags_end _ _ _ (omega (arith, i.3)) _ _ _ i.0, i.1)
