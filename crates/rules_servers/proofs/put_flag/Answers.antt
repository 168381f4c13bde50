use borrow.Author.Rules.{rules}
use mathlib.Core.Path.{sym, ◌∙◌}
use native.Mathlib.Omega.{arith}
use lib.Seq.{set_out}
use Rattle.rules_servers.specs.Inner.Changed.{flag_at_set}
use Rattle.rules_servers.proofs.put_flag.Goals as goal

-- `rules_servers::put_flag`: one place, or none. Assumes nothing.
pub returns-then-p-lt16 : goal.returns-then-p-lt16
returns-then-p-lt16 c = flag_at_set _ _ _ (search rules)

pub returns-else-p-lt16 : goal.returns-else-p-lt16
returns-else-p-lt16 c = sym (set_out _ c.args.p c.args.x (omega (arith, c.if-p-lt16.false))) ∙ flag_at_set _ _ _ (search rules)
