use mathlib.Core.Path.{◌∙◌}
use Rattle.state_lookup.specs.Inner.Index.{index_known}
use Rattle.state_lookup.proofs.links.Identifiers.is_known.Goals as goal

pub returns : goal.returns
returns c = c.is_some.ensures ∙ index_known _ _ _ _ c.index_of.ensures
