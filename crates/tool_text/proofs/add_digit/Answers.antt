use Rattle.std.proofs.Common.{arith}
use Rattle.std.proofs.lemmas.Grind.{common_steps}
use Rattle.tool_text.specs.Inner.Parse.{add_digit}
use Rattle.tool_text.proofs.add_digit.Goals as goal

pub returns-in_default : goal.returns-in_default
unfolding add_digit
returns-in_default c = grind (arith, common_steps)

pub returns-in_default-2 : goal.returns-in_default-2
unfolding add_digit
returns-in_default-2 c = grind (arith, common_steps)

pub returns-in_err-checked_mul : goal.returns-in_err-checked_mul
unfolding add_digit
returns-in_err-checked_mul c = grind (arith, common_steps)

pub returns : goal.returns
unfolding add_digit
returns c = grind (arith, common_steps)
