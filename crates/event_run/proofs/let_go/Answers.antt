use mathlib.Core.Path.{◌∙◌, refl, sym}
use Rattle.rules_servers.specs.Inner.Units.{numbers_emptied}
use Rattle.event_run.proofs.let_go.Goals as goal

pub returns-then-has_some : goal.returns-then-has_some
returns-then-has_some c =
    let some_go = rw c.goes-go.ensures at (sym c.has_some.ensures ∙ c.if-has_some.true) in
    rw (
      c.clear_counts.ensures,
      c.clear_rows.ensures ∙ numbers_emptied _ _,
      c.clear_rows-then-has_some.ensures ∙ numbers_emptied _ _,
      c.clear_rows-then-has_some-2.ensures ∙ numbers_emptied _ _,
      c.clear_rows-then-has_some-3.ensures ∙ numbers_emptied _ _,
      c.clear_rows-then-has_some-4.ensures ∙ numbers_emptied _ _,
      c.goes-go.ensures,
      some_go,
    )
    refl
