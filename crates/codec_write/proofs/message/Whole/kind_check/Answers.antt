use mathlib.Core.Path.{sym, ◌∙◌}
use native.Mathlib.Omega.{arith}
use Rattle.codec_parameter.specs.Table.{table, row_in}
use Rattle.codec_parameter.proofs.Rows.{row_most}
use Rattle.codec_read.proofs.Order.{row_known}
use Rattle.codec_write.proofs.message.Whole.kind_check.Goals as goal

pub row_check-requires : goal.row_check-requires
unfolding table
row_check-requires c =
    let m = c.args.self.message in
    let k = row_known (row_in table m.class m.msgtype) c.in-Some.row (row_most table _ _) (sym c.row_of.ensures ∙ c.in-Some.is) in
    (omega arith, k.0)
