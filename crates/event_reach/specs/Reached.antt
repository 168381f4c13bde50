-- What an event reaches (Rule 9.1), as the row of flags that the code hands back.
-- Assumes nothing.
use Rattle.std.specs.Prelude.{Bool, List}
use Rattle.laws.specs.Columns.{tabulate}
use Rattle.state_tables.specs.declared.Gateway.{Gateway}
use Rattle.rules_event.specs.Event.{Event}
use Rattle.rules_event.specs.Reach.{reach}

-- a flag for each AS: whether the event may look into it and change it
unfoldable pub reached : Gateway → Event → List Bool
reached g e = tabulate 16 (reach g e)
