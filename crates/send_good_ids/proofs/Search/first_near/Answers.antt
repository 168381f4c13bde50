use mathlib.Core.Path.{sym, ◌∙◌}
use Rattle.state_ranges.specs.Inner.Ranks.{rank_at}
use Rattle.send_good_ids.proofs.Search.first_near.Goals as goal

pub returns-then-holds : goal.returns-then-holds
returns-then-holds c = rank_at _ _ c.args.self.ids.order _ _ (sym c.holds.ensures ∙ c.if-holds.true)
