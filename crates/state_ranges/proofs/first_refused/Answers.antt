use mathlib.Core.Path.{sym, ◌∙◌}
use native.Mathlib.Omega.{arith}
use Rattle.state_lookup.specs.Inner.Table.{table_of}
use Rattle.state_ranges.specs.Inner.Refused.{good_none, good_more, refuses_at, none_refused, within, stands}
use Rattle.state_ranges.specs.Inner.Ranks.{rank_next}
use Rattle.state_ranges.proofs.first_refused.Goals as goal

pub loop-x-init : goal.loop-x-init
loop-x-init c = (c.requires.0, good_none _ _)

pub is_refused-requires : goal.is_refused-requires
is_refused-requires c = c.loop-x.invariant.0

pub returns-then-is_refused : goal.returns-then-is_refused
returns-then-is_refused c = refuses_at _ _ _ c.loop-x.auto.x c.loop-x.invariant.1 _ c.loop-x-test.true (sym c.is_refused.ensures ∙ c.if-is_refused.true)

pub overflow_add-l : goal.overflow_add-l
overflow_add-l c =
    let t = table_of c.args.links in
    omega (arith, t.few, within _ _ _ t _ _ _ c.loop-x.invariant.0 (sym c.is_refused.ensures ∙ c.if-is_refused.false))

pub loop-x-preserved : goal.loop-x-preserved
loop-x-preserved c =
    let i = c.loop-x.invariant in
    let t = table_of c.args.links in
    let f = sym c.is_refused.ensures ∙ c.if-is_refused.false in
    (rank_next _ _ t.order _ _ (within _ _ _ t _ _ _ i.0 f) (stands _ _ _ t _ _ _ i.0 f), good_more _ _ _ c.loop-x.auto.x i.1 f)

pub returns-else-is_refused : goal.returns-else-is_refused
returns-else-is_refused c = none_refused _ _ _ _ (omega arith) (good_more _ _ _ c.loop-x.auto.x c.loop-x.invariant.1 (sym c.is_refused.ensures ∙ c.if-is_refused.false))
