use Rattle.std.proofs.Common.{arith}
use Rattle.tool_report.proofs.Texts.{accepted_short}
use Rattle.tool_report.proofs.put_read.Goals as goal

pub put_pars-requires : goal.put_pars-requires
put_pars-requires c = omega (arith, accepted_short _ _ c.read-r.ensures c.if-r-eq0.true)

pub returns-then-r-eq0-clause-upper_bound : goal.returns-then-r-eq0-clause-upper_bound
returns-then-r-eq0-clause-upper_bound c = omega (arith, accepted_short _ _ c.read-r.ensures c.if-r-eq0.true)
