use mathlib.Core.Path.{◌∙◌}
use native.Mathlib.Omega.{arith}
use Rattle.state_plan.specs.Inner.Layout.{taken_over, whole, answer}
use Rattle.state_plan.proofs.load.Goals as goal

-- `state_plan::load`: a number, and the state of the rows that are taken over. Assumes nothing.
pub build-requires : goal.build-requires
build-requires c = rw (c.unwrap_or.ensures, taken_over, c.rows_in-rows.ensures) (whole _ (λ i. omega (arith, c.type_inv.file i)))

pub returns : goal.returns
returns c = c.build.ensures ∙ rw (c.code_of.ensures, c.unwrap_or.ensures, taken_over, c.rows_in-rows.ensures) (answer _)
