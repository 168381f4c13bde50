use Prim.Native.Nat.{◌-◌}
use mathlib.Core.Path.{sym, ◌∙◌}
use native.Mathlib.Omega.{arith}
use borrow.Author.Rules.{rules}
use Rattle.laws.specs.Columns.{number_at}
use Rattle.state_ranges.specs.Inner.Ranks.{rank_here, rank_end}
use Rattle.state_ranges.specs.Inner.Alone.{stands_at}
use Rattle.state_ranges.proofs.rank_at.Goals as goal

pub bounds-ids-0 : goal.bounds-ids-0
bounds-ids-0 c = search rules

pub bounds-ids-0-then-ids-x : goal.bounds-ids-0-then-ids-x
bounds-ids-0-then-ids-x c = search rules

pub overflow_sub-l : goal.overflow_sub-l
overflow_sub-l c = search rules

pub overflow_cast-l : goal.overflow_cast-l
overflow_cast-l c = search rules

-- `state_ranges::rank_at`: where the guess holds it is the rank, and above the last identifier all are below.
pub returns-then-holds : goal.returns-then-holds
returns-then-holds c =
    let a = c.args in
    let s = stands_at a.ids.iid.now a.ids.count (a.x - number_at a.ids.iid.now 0) a.x (sym c.holds.ensures ∙ c.if-holds.true) in
    (rank_here _ _ c.args.ids.order _ _ s.0 s.1, omega (arith, s.0))

pub returns-then-ids-x-2 : goal.returns-then-ids-x-2
returns-then-ids-x-2 c = (rank_end _ _ c.args.ids.order _ c.if-ids-gt0.true c.if-ids-x-2.true, omega arith)
