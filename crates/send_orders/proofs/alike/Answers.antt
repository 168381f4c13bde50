use mathlib.Core.Path.{refl}
use Rattle.send_orders.specs.Inner.Alike.{are_alike}
use Rattle.send_orders.proofs.alike.Goals as goal

pub returns : goal.returns
unfolding are_alike
returns c = refl
