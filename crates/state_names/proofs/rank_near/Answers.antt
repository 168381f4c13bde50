use mathlib.Core.Path.{sym, ◌∙◌}
use Rattle.state_ranges.specs.Inner.Ranks.{rank_at}
use Rattle.state_names.proofs.rank_near.Goals as goal

-- `state_names::rank_near`: the place where x stands is its rank. Assumes nothing.
pub returns-then-holds : goal.returns-then-holds
returns-then-holds c = rank_at _ _ c.args.ids.order _ _ (sym c.holds.ensures ∙ c.if-holds.true)
