use borrow.Author.Tests.{eq-eqb, ne_eqb}
use mathlib.Core.Path.{◌∙◌}
use Rattle.state_lookup.specs.Inner.Index.{index_or}
use Rattle.event_asked.proofs.place_in.Goals as goal

pub returns-then-r-eq6 : goal.returns-then-r-eq6
returns-then-r-eq6 c = rw (eq-eqb _ _ c.if-r-eq6.true) (rw (c.unwrap_or.ensures ∙ index_or _ _ _ _ c.index_of.ensures) at c.place_at.ensures)

pub returns : goal.returns
returns c = rw (ne_eqb _ _ c.if-r-eq6.false) c.place_at-2.ensures
