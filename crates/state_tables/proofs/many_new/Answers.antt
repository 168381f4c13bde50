use Prim.Native.Nat.{◌-◌}
use mathlib.Core.Path.{◌≡◌, sym, ◌∙◌}
use native.Mathlib.Omega.{arith}
use borrow.Author.Rules.{rules}
use Rattle.laws.specs.Below.{all_below}
use Rattle.laws.specs.Inner.Below.{all_none, all_next, all_not, at_end}
use Rattle.laws.specs.Columns.{number_at}
use Rattle.state_tables.specs.Inner.Differ.{differs_to, lacks_differs, differ_all}
use Rattle.state_tables.proofs.many_new.Goals as goal

pub loop-p-init : goal.loop-p-init
loop-p-init c = (all_none _, search rules, search rules, search rules, search rules, search rules)

pub returns-then-not-lacks : goal.returns-then-not-lacks
returns-then-not-lacks c =
    let d : c.lacks.result ≡ differs_to c.args.aspid.now (number_at c.args.aspid.now (c.args.n - 1)) c.loop-p.p = c.lacks.ensures ∙ rw c.loop-p.invariant.4 (lacks_differs c.args.aspid.now (number_at c.args.aspid.now (c.args.n - 1)) c.loop-p.p (omega arith)) in
    sym (all_not (differs_to c.args.aspid.now (number_at c.args.aspid.now (c.args.n - 1))) (c.args.n - 1) c.loop-p.p (omega arith) (sym d ∙ c.if-not-lacks.true)) ∙ differ_all c.args.aspid.now c.args.n (omega arith)

pub loop-p-preserved : goal.loop-p-preserved
loop-p-preserved c =
    let d : c.lacks.result ≡ differs_to c.args.aspid.now (number_at c.args.aspid.now (c.args.n - 1)) c.loop-p.p = c.lacks.ensures ∙ rw c.loop-p.invariant.4 (lacks_differs c.args.aspid.now (number_at c.args.aspid.now (c.args.n - 1)) c.loop-p.p (omega arith)) in
    (all_next _ _ c.loop-p.invariant.0 (sym d ∙ c.if-not-lacks.false), search rules, search rules, search rules, search rules, search rules)

pub returns : goal.returns
returns c = at_end (all_below (differs_to c.args.aspid.now (number_at c.args.aspid.now (c.args.n - 1)))) (sym c.loop-p.invariant.0) c.loop-p-test.false c.loop-p.invariant.1 ∙ differ_all c.args.aspid.now c.args.n (omega arith)
