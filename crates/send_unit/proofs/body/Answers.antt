use mathlib.Core.Path.{refl}
use Rattle.laws.specs.Inner.Choice.{at_yes, at_no}
use Rattle.send_unit.proofs.body.Goals as goal

pub slice_bounds-result-end : goal.slice_bounds-result-end
slice_bounds-result-end c = rw c.if-held.true at c.requires.1

pub returns-then-held : goal.returns-then-held
returns-then-held c = at_yes _ _ _ c.if-held.true refl

pub returns : goal.returns
returns c = at_no _ _ _ c.if-held.false refl
