use mathlib.Core.Path.{sym, ◌∙◌}
use Rattle.state_lookup.specs.Inner.Links.{index_stands, index_stands_not}
use Rattle.state_lookup.proofs.links.Identifiers.index_of.Goals as goal

-- x stands at its rank or nowhere
pub returns-then-holds : goal.returns-then-holds
returns-then-holds c = index_stands _ _ c.args.self.order _ _ c.rank_of-l.ensures.0 (sym c.holds.ensures ∙ c.if-holds.true)

pub returns : goal.returns
returns c = index_stands_not _ _ c.args.self.order _ _ c.rank_of-l.ensures.0 (sym c.holds.ensures ∙ c.if-holds.false)
