use Rattle.tool_report.proofs.Texts.{accepted_short}
use Rattle.tool_report.proofs.put_shown.Goals as goal

pub put_accepted-requires : goal.put_accepted-requires
put_accepted-requires c = (c.requires, accepted_short _ _ c.read-r.ensures c.if-r-eq0.true)
