use mathlib.Core.Path.{sym, ◌∙◌}
use borrow.Author.Rules.{rules}
use Rattle.laws.specs.Below.{all_below}
use Rattle.laws.specs.Inner.Below.{all_none, all_next, all_not, at_end}
use Rattle.state_sound.specs.Inner.Sound.{empties_fit}
use Rattle.state_sound.proofs.empties_ok.Goals as goal

pub loop-a-init : goal.loop-a-init
loop-a-init c = (all_none _, search rules)

pub returns-then-not-empty_ok : goal.returns-then-not-empty_ok
unfolding empties_fit
returns-then-not-empty_ok c = sym (all_not _ 16 _ c.loop-a-test.true (sym c.empty_ok.ensures ∙ c.if-not-empty_ok.true))

pub loop-a-preserved : goal.loop-a-preserved
loop-a-preserved c = (all_next _ _ c.loop-a.invariant.0 (sym c.empty_ok.ensures ∙ c.if-not-empty_ok.false), search rules)

pub returns : goal.returns
unfolding empties_fit
returns c = at_end (all_below _) (sym c.loop-a.invariant.0) c.loop-a-test.false c.loop-a.invariant.1
