use mathlib.Core.Path.{sym, ◌∙◌}
use borrow.Author.Rules.{rules}
use Rattle.state_sound.proofs.Units.{counts_fail, empties_fail, rows_said, units_none, counts_few}
use Rattle.state_sound.proofs.held_ok.Goals as goal

pub none_counted-requires : goal.none_counted-requires
none_counted-requires c = search rules

pub blank-requires : goal.blank-requires
blank-requires c = search rules

-- `state_sound::held_ok`: none is held; or else count by count, and row by row. Assumes nothing.
pub returns-then-none_counted : goal.returns-then-none_counted
returns-then-none_counted c = c.blank.ensures ∙ units_none _ _ _ _ _ (sym c.none_counted.ensures ∙ c.if-none_counted.true)

pub returns-then-not-counts_ok : goal.returns-then-not-counts_ok
returns-then-not-counts_ok c = counts_fail _ _ _ _ _ (sym c.counts_ok.ensures ∙ c.if-not-counts_ok.true)

pub returns-then-not-empties_ok : goal.returns-then-not-empties_ok
returns-then-not-empties_ok c =
    empties_fail _ _ _ _ _ (sym c.counts_ok.ensures ∙ c.if-not-counts_ok.false)
    (sym c.empties_ok.ensures ∙ c.if-not-empties_ok.true)

pub rows_ok-requires : goal.rows_ok-requires
rows_ok-requires c =
    counts_few _ _ (sym c.counts_ok.ensures ∙ c.if-not-counts_ok.false)

pub returns : goal.returns
returns c =
    rows_said _ _ _ _ _ _ (sym c.counts_ok.ensures ∙ c.if-not-counts_ok.false)
    (sym c.empties_ok.ensures ∙ c.if-not-empties_ok.false) c.rows_ok.ensures
