use native.Mathlib.Omega.{arith}
use mathlib.Core.Path.{refl}
use Rattle.codec_parameter.specs.Inner.Slot.{row_bits}
use Rattle.laws.specs.Inner.Choice.{choices}
use Rattle.codec_parameter.proofs.row_in.Goals as goal

pub returns-then-t-gt15 : goal.returns-then-t-gt15
unfolding row_bits
returns-then-t-gt15 c = search choices depth 9

pub returns-then-place-eq15-clause-row : goal.returns-then-place-eq15-clause-row
unfolding row_bits
returns-then-place-eq15-clause-row c = let e = rw c.from.ensures at c.if-place-eq15.true in search choices depth 9

pub returns-clause-row : goal.returns-clause-row
unfolding row_bits
returns-clause-row c = let n = rw c.from.ensures at c.if-place-eq15.false in rw c.from.ensures (search choices depth 9)

pub returns-clause-place : goal.returns-clause-place
returns-clause-place c = let n = rw c.from.ensures at c.if-place-eq15.false in ((omega arith, omega (arith, n)), rw c.from.ensures refl)
