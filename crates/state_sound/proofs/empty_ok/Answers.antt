use borrow.Author.Rules.{rules}
use Rattle.laws.specs.Inner.Choice.{at_eq, at_ne}
use mathlib.Core.Path.{refl}
use Rattle.state_sound.specs.Inner.Sound.{empty_fit}
use Rattle.state_sound.proofs.empty_ok.Goals as goal

pub blank-requires : goal.blank-requires
blank-requires c = search rules

-- `state_sound::empty_ok`: by the count. Assumes nothing.
pub returns-then-n-eq0 : goal.returns-then-n-eq0
unfolding empty_fit
returns-then-n-eq0 c = at_eq _ _ _ _ c.if-n-eq0.true c.blank.ensures

pub returns : goal.returns
unfolding empty_fit
returns c = at_ne _ _ _ _ c.if-n-eq0.false refl
