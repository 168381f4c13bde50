use mathlib.Core.Path.{sym, ◌∙◌}
use borrow.Author.Rules.{rules}
use Rattle.state_sound.proofs.Units.{sized_is, tables_links, tables_fail, units_said}
use Rattle.state_sound.proofs.sound_of.Goals as goal

pub tables_ok-requires : goal.tables_ok-requires
tables_ok-requires c = search rules

-- `state_sound::sound_of`: the tables, then the units. Assumes nothing.
pub returns-then-not-tables_ok : goal.returns-then-not-tables_ok
returns-then-not-tables_ok c = tables_fail _ (sym c.tables_ok.ensures ∙ c.if-not-tables_ok.true)

pub units_ok-requires : goal.units_ok-requires
units_ok-requires c = rw c.from.ensures (tables_links _ (sym c.tables_ok.ensures ∙ c.if-not-tables_ok.false))

pub returns : goal.returns
returns c =
    units_said _ _ _ _ (sym c.tables_ok.ensures ∙ c.if-not-tables_ok.false) c.from.ensures (sized_is _ (search rules) (search rules) (search rules) (search rules) (search rules) (search rules)) c.units_ok.ensures
