use Rattle.laws.specs.Inner.Choice.{choices}
use Rattle.codec_parameter.proofs.value_code.Goals as goal

pub returns-then-t-eq-TRAFFIC_MODE : goal.returns-then-t-eq-TRAFFIC_MODE
returns-then-t-eq-TRAFFIC_MODE c = search choices depth 9

pub returns-else-t-eq-TRAFFIC_MODE : goal.returns-else-t-eq-TRAFFIC_MODE
returns-else-t-eq-TRAFFIC_MODE c = search choices depth 9
