use mathlib.Core.Path.{sym, ap, ◌∙◌}
use borrow.Author.Tests.{ne_eqb}
use Rattle.codec_wire.specs.Refusal.{number}
use Rattle.codec_wire.proofs.Refusals.{number_some}
use Rattle.codec_parameter.specs.Table.{table}
use Rattle.codec_parameter.specs.Inner.Slot.{info_of}
use Rattle.codec_parameter.proofs.Rows.{row_most}
use Rattle.codec_read.specs.Inner.Seen.{row_outcome}
use Rattle.codec_read.proofs.Order.{row_known}
use Rattle.codec_read.proofs.Turns.{row_of}
use Rattle.codec_read.proofs.read_kind.Goals as goal

pub read_pars-requires : goal.read_pars-requires
unfolding table
read_pars-requires c =
    let k = row_known (row_of c.args.s.now) c.in-Ok.i (row_most table _ _) (sym c.row_of.ensures ∙ c.in-Ok.ensures.row) in
    (c.requires, (k.1, c.row_info.ensures ∙ ap info_of k.0))

pub returns-in-Ok : goal.returns-in-Ok
unfolding row_outcome
returns-in-Ok c = let e = rw (c.class_ok.ensures, c.row_of.ensures, c.get32.ensures) at c.in-Ok.ensures.number in rw (← e) c.read_pars.ensures

pub returns-in-Err : goal.returns-in-Err
unfolding row_outcome
returns-in-Err c = let e = rw (c.class_ok.ensures, c.row_of.ensures, c.get32.ensures) at c.in-Err.ensures.number in rw (← e, ne_eqb (number c.in-Err.r) 0 (number_some c.in-Err.r)) c.refused.ensures
