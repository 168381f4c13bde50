use Rattle.codec_parameter.proofs.Rows.{packed, base, class_row, no_row}
use Rattle.codec_parameter.specs.Table.{table, has_class}
use mathlib.Core.Path.{refl}
use native.Mathlib.Omega.{arith}
use Rattle.std.proofs.lemmas.Grind.{common_steps}
use Rattle.codec_parameter.proofs.row_of.Goals as goal

pub returns-in-0 : goal.returns-in-0
unfolding packed base has_class table
returns-in-0 c = class_row 0 _ _ _ c.row_in.ensures.row c.row_in.ensures.place (omega arith) refl c.in-0.is

pub returns-in-3 : goal.returns-in-3
unfolding packed base has_class table
returns-in-3 c = class_row 3 _ _ _ c.row_in-in-3.ensures.row c.row_in-in-3.ensures.place (omega arith) refl c.in-3.is

pub returns-in-4 : goal.returns-in-4
unfolding packed base has_class table
returns-in-4 c = class_row 4 _ _ _ c.row_in-in-4.ensures.row c.row_in-in-4.ensures.place (omega arith) refl c.in-4.is

pub returns-in-6 : goal.returns-in-6
unfolding packed base has_class table
returns-in-6 c = class_row 6 _ _ _ c.row_in-in-6.ensures.row c.row_in-in-6.ensures.place (omega arith) refl c.in-6.is

pub returns-in_default : goal.returns-in_default
unfolding has_class table
returns-in_default c = no_row _ _ (grind (arith, common_steps))
