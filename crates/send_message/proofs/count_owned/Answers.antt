use mathlib.Core.Path.{◌≡◌, sym, ap, ◌∙◌}
use native.Mathlib.Omega.{arith}
use lib.Dec.{eqb}
use borrow.Author.Rules.{rules}
use Rattle.laws.specs.Below.{count_below, one}
use Rattle.laws.specs.Inner.Below.{at_end, count_none, count_more}
use Rattle.laws.specs.Columns.{number_at}
use Rattle.laws.specs.Inner.Below.{from_one, one_small}
use Rattle.send_message.proofs.Owned.{is_owner}
use Rattle.send_message.proofs.count_owned.Goals as goal

pub loop-l-init : goal.loop-l-init
loop-l-init c = (sym (count_none _), search rules, search rules, search rules)

pub loop-l-preserved : goal.loop-l-preserved
loop-l-preserved c = let a = c.args in
    let o = number_at a.owners.owner.now c.loop-l.l in
    let e : c.from-n.result ≡ one (eqb o a.a) = c.from-n.ensures ∙ from_one _ ∙ ap one (is_owner o a.a (omega arith)) in
    (rw (count_more, c.loop-l.invariant.0, e), omega (arith, e, one_small (eqb o a.a)), search rules, search rules)

pub returns : goal.returns
returns c =
    let i = c.loop-l.invariant in
    (c.from.ensures ∙ at_end (count_below _) i.0 c.loop-l-test.false i.2, omega (arith, c.from.ensures))
