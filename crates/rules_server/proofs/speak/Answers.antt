use mathlib.Core.Path.{sym, ◌∙◌}
use Rattle.rules_server.specs.Inner.Notify.{spoken}
use Rattle.rules_server.proofs.speak.Goals as goal

-- `rules_server::speak`: by whether someone is overtaken. Assumes nothing.
pub returns-then-has_some : goal.returns-then-has_some
unfolding spoken
returns-then-has_some c = rw (sym c.has_some.ensures ∙ c.if-has_some.true) c.to_all.ensures

pub returns : goal.returns
unfolding spoken
returns c = rw (sym c.has_some.ensures ∙ c.if-has_some.false) c.announce.ensures
