use mathlib.Core.Path.{sym, ◌∙◌}
use native.Mathlib.Omega.{arith}
use Rattle.codec_read.proofs.Order.{order_same}
use Rattle.codec_read.proofs.NoParameters.{bare_length, bare_read}
use Rattle.codec_read.proofs.read.Goals as goal

pub bounds-s-2 : goal.bounds-s-2
bounds-s-2 c = omega (arith, bare_length _ (sym c.is_bare.ensures ∙ c.if-is_bare.true))

pub bounds-s-3 : goal.bounds-s-3
bounds-s-3 c = omega (arith, bare_length _ (sym c.is_bare.ensures ∙ c.if-is_bare.true))

pub returns-then-is_bare : goal.returns-then-is_bare
returns-then-is_bare c = c.bare.ensures ∙ bare_read _ (sym c.is_bare.ensures ∙ c.if-is_bare.true)

pub returns : goal.returns
returns c = c.read_checks.ensures ∙ order_same _
