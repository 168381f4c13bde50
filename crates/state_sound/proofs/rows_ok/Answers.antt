use mathlib.Core.Path.{sym, ◌∙◌}
use borrow.Author.Rules.{rules}
use Rattle.laws.specs.Below.{all_below}
use Rattle.laws.specs.Inner.Below.{all_none, all_next, all_not, at_end}
use Rattle.state_sound.specs.Inner.Sound.{rows_fit}
use Rattle.state_sound.proofs.Units.{row_seen_lem}
use Rattle.state_sound.proofs.rows_ok.Goals as goal

pub loop-a-init : goal.loop-a-init
loop-a-init c = (all_none _, search rules, c.seen_of-seen.ensures, c.requires)

pub row_ok-requires : goal.row_ok-requires
row_ok-requires c = (search rules, rw c.from.ensures (c.loop-a.invariant.3 _ c.loop-a-test.true))

pub returns-then-not-row_ok : goal.returns-then-not-row_ok
unfolding rows_fit
returns-then-not-row_ok c =
    let i = c.loop-a.invariant in
    let t = c.loop-a-test.true in
    let w = c.from.ensures in
    sym (all_not _ 16 _ t (rw (← w) (sym (row_seen_lem _ _ _ _ i.2 _ _ t (rw w (i.3 _ t))) ∙ sym c.row_ok.ensures ∙ c.if-not-row_ok.true)))

pub loop-a-preserved : goal.loop-a-preserved
loop-a-preserved c =
    let i = c.loop-a.invariant in
    let t = c.loop-a-test.true in
    let w = c.from.ensures in
    (all_next _ _ i.0 (rw (← w) (sym (row_seen_lem _ _ _ _ i.2 _ _ t (rw w (i.3 _ t))) ∙ sym c.row_ok.ensures ∙ c.if-not-row_ok.false)), search rules, i.2, i.3)

pub returns : goal.returns
unfolding rows_fit
returns c = at_end (all_below _) (sym c.loop-a.invariant.0) c.loop-a-test.false c.loop-a.invariant.1
