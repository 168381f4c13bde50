use mathlib.Core.Path.{refl}
use Rattle.send_orders.specs.Inner.Parts.{is_part_in}
use Rattle.send_orders.proofs.in_part.Goals as goal

pub returns : goal.returns
unfolding is_part_in
returns c = refl
