use mathlib.Core.Path.{ap}
use Rattle.abi_query.specs.Query.{told, param_at}
use Rattle.abi_query.proofs.m2ua_parameter.Goals as goal

pub returns-in-Some : goal.returns-in-Some
unfolding param_at
returns-in-Some c = ap told c.in-Some.ensures

pub returns-in-None : goal.returns-in-None
unfolding param_at
returns-in-None c = ap told c.in-None.ensures
