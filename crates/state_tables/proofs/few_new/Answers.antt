use mathlib.Core.Path.{sym, ◌∙◌}
use native.Mathlib.Omega.{arith}
use borrow.Author.Rules.{rules}
use Rattle.state_tables.specs.Sound.{differs}
use Rattle.laws.specs.Below.{all_below}
use Rattle.laws.specs.Inner.Below.{all_none, all_next, all_not, at_end}
use Rattle.state_tables.proofs.few_new.Goals as goal

pub loop-p-init : goal.loop-p-init
loop-p-init c = (all_none _, search rules, search rules)

pub returns-then-not-is_new : goal.returns-then-not-is_new
returns-then-not-is_new c = sym (all_not (differs c.args.aspid.now) c.args.n c.loop-p.p (omega arith) (sym c.is_new.ensures ∙ c.if-not-is_new.true))

pub loop-p-preserved : goal.loop-p-preserved
loop-p-preserved c = (all_next _ _ c.loop-p.invariant.0 (sym c.is_new.ensures ∙ c.if-not-is_new.false), search rules, search rules)

pub returns : goal.returns
returns c = at_end (all_below _) (sym c.loop-p.invariant.0) c.loop-p-test.false c.loop-p.invariant.1
