use Rattle.laws.specs.Inner.Below.{from_one}
use mathlib.Core.Path.{◌∙◌}
use native.Mathlib.Omega.{arith}
use borrow.Author.Rules.{rules}
use Rattle.laws.specs.Inner.Columns.{half_at, half_more}
use Rattle.rules_server.specs.Inner.Record.{laid_end, laid_in, laid_none}
use Rattle.rules_server.proofs.put_row.Goals as goal

pub loop-q-init : goal.loop-q-init
loop-q-init c = (laid_none _ _ c.args.x (search rules), omega arith)

pub loop-q-preserved : goal.loop-q-preserved
loop-q-preserved c = (half_at (omega arith) (half_more _ c.loop-q.invariant.0 (omega arith) ((c.from.ensures ∙ from_one _) ∙ laid_in c.args.column.now c.args.a c.args.x c.loop-q.q (omega arith))), search rules)

pub returns : goal.returns
returns c = laid_end c.args.column.now c.loop-q.column c.args.x c.args.a c.loop-q.q c.loop-q.invariant.0 c.loop-q-test.false c.loop-q.invariant.1
