use mathlib.Core.Path.{sym, ◌∙◌}
use Rattle.rules_server.specs.Record.{state_in}
use Rattle.rules_server.proofs.state_in.Goals as goal

-- `rules_server::state_in`: test by test. Assumes nothing.
pub returns-then-has_some : goal.returns-then-has_some
unfolding state_in
returns-then-has_some c = simp (sym c.has_some.ensures ∙ c.if-has_some.true)

pub returns-then-s : goal.returns-then-s
unfolding state_in
returns-then-s c = simp (sym c.has_some.ensures ∙ c.if-has_some.false, c.if-s.true)

pub returns-then-has_some-2 : goal.returns-then-has_some-2
unfolding state_in
returns-then-has_some-2 c = simp (sym c.has_some.ensures ∙ c.if-has_some.false, c.if-s.false, sym c.has_some-2.ensures ∙ c.if-has_some-2.true)

pub returns : goal.returns
unfolding state_in
returns c = simp (sym c.has_some.ensures ∙ c.if-has_some.false, c.if-s.false, sym c.has_some-2.ensures ∙ c.if-has_some-2.false)
