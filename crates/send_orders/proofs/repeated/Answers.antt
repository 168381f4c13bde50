use mathlib.Core.Path.{sym}
use lib.Seq.{length-take-le}
use Rattle.send_orders.proofs.repeated.Goals as goal

pub slice_bounds-result-end : goal.slice_bounds-result-end
slice_bounds-result-end c = sym (length-take-le _ _ (rw c.in-Some.is at c.requires))

pub returns-in_default : goal.returns-in_default
returns-in_default c = rw c.in_default.is c.received.ensures

pub returns : goal.returns
returns c = rw c.in-Some.is
