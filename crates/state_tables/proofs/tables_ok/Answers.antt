use mathlib.Core.Path.{refl}
use Rattle.state_tables.specs.Inner.Laws.{joined}
use Rattle.state_tables.proofs.tables_ok.Goals as goal

-- `state_tables::tables_ok`: the groups together. Assumes nothing.
pub returns : goal.returns
returns c = joined _ _ _ _ _ _ _ c.counts_ok-c.ensures refl c.asps_ok-x.ensures c.ases_ok-y.ensures c.links_ok-z.ensures c.columns_ok-k.ensures
