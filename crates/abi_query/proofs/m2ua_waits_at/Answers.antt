use Rattle.abi_query.specs.Query.{waits}
use Rattle.abi_query.proofs.m2ua_waits_at.Goals as goal

pub returns : goal.returns
unfolding waits
returns c = λ i. record { began = c.new_in-began.ensures i; ended = c.new_in-ended.ensures i }
