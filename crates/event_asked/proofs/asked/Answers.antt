use Rattle.std.proofs.Common.{sym, ◌∙◌}
use Rattle.event_asked.specs.Inner.Kind.{happened_some}
use Rattle.event_asked.proofs.asked.Goals as goal

pub returns-in-Some : goal.returns-in-Some
returns-in-Some c = rw (happened_some c.args.kind c.args.i c.args.msg.now (sym c.of_number.ensures ∙ c.in-Some.is)) at c.ask_kind.ensures
