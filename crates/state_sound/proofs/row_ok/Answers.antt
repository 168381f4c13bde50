use mathlib.Core.Path.{refl}
use Rattle.laws.specs.Inner.Choice.{at_eq, at_ne}
use Rattle.state_sound.specs.Inner.Sound.{row_seen}
use Rattle.state_sound.proofs.row_ok.Goals as goal

-- `state_sound::row_ok`: units, and blank places after them. Assumes nothing.
pub returns-then-n-eq0 : goal.returns-then-n-eq0
unfolding row_seen
returns-then-n-eq0 c = at_eq _ _ _ _ c.if-n-eq0.true refl

pub returns : goal.returns
unfolding row_seen
returns c = at_ne _ _ _ _ c.if-n-eq0.false (rw (c.fields_ok-x.ensures, c.ids_ok-y.ensures, c.blank-z.ensures))
