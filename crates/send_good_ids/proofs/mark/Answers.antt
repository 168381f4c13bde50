use native.Mathlib.Omega.{arith}
use Rattle.send_good_ids.specs.Inner.Marks.{mark_more}
use Rattle.send_good_ids.proofs.mark.Goals as goal

pub overflow_cast-past : goal.overflow_cast-past
overflow_cast-past c = omega (arith, c.requires.1)

pub returns : goal.returns
returns c = mark_more _ _ _ _ (omega (arith, c.requires.0, c.told-until)) c.max.ensures
