use mathlib.Core.Path.{◌≡◌, sym, ap, ◌∙◌}
use native.Mathlib.Omega.{arith}
use Rattle.laws.specs.Below.{one}
use Rattle.laws.specs.Inner.Below.{at_end}
use Rattle.rules_event.specs.Sent.{is_data}
use Rattle.laws.specs.Inner.Below.{from_one, one_small}
use Rattle.send_unit.specs.Inner.Words.{action_in, data_in, data_none, data_more, data_small}
use borrow.Author.Rules.{rules}
use Rattle.send_unit.proofs.data_before.Goals as goal

pub loop-m-init : goal.loop-m-init
loop-m-init c = (sym (data_none _), search rules, search rules, search rules)

pub loop-m-preserved : goal.loop-m-preserved
loop-m-preserved c = let l = c.loop-m in
    let e : c.from-d.result ≡ one (is_data (action_in c.args.words.now l.m)) = c.from-d.ensures ∙ from_one _ ∙ ap one (c.is_data.ensures ∙ ap is_data c.action_at.ensures) in
    (rw (data_more, l.invariant.0, e), omega (arith, e, one_small (is_data (action_in c.args.words.now l.m))), search rules, search rules)

pub returns : goal.returns
returns c = at_end (data_in _) c.loop-m.invariant.0 c.loop-m-test.false c.loop-m.invariant.2
