use mathlib.Core.Path.{refl}
use Rattle.rules_event.specs.Sent.{is_data}
use Rattle.send_unit.proofs.is_data.Goals as goal

pub returns : goal.returns
unfolding is_data
returns c = refl
