use native.Mathlib.Omega.{arith}
use Rattle.send_message.specs.Inner.Form.{data_size}
use Rattle.send_message.proofs.data_size.Goals as goal

pub returns-in_default : goal.returns-in_default
unfolding data_size
returns-in_default c = rw c.in_default.is (omega arith, omega arith)

pub returns : goal.returns
unfolding data_size
returns c = rw c.in-Some.is (omega arith, omega arith)
