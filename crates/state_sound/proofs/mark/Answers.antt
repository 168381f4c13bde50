use mathlib.Core.Path.{◌≡◌, refl}
use native.Mathlib.Omega.{arith}
use borrow.Author.Rules.{rules}
use Rattle.state_sound.proofs.Units.{marked_none, marked_more}
use Rattle.state_sound.proofs.mark.Goals as goal

pub overflow_mul-from : goal.overflow_mul-from
overflow_mul-from c = search rules

pub loop-k-init : goal.loop-k-init
loop-k-init c = (marked_none _ _ _ _ (search rules), search rules, refl, c.requires)

pub loop-k-preserved : goal.loop-k-preserved
loop-k-preserved c =
    let i = c.loop-k.invariant in
    (marked_more _ _ _ _ i.0 (search rules) _ c.marked_if.ensures, search rules, refl, i.3)

pub returns : goal.returns
returns c = let e : c.loop-k.k ≡ 8 = omega (arith, c.loop-k-test.false, c.loop-k.invariant.1) in rw e at c.loop-k.invariant.0
