use mathlib.Core.Path.{sym}
use Rattle.codec_wire.proofs.Refusals.{passed_on}
use Rattle.codec_parameter.specs.Check.{par_code}
use Rattle.laws.specs.Inner.Choice.{or_none}
use Rattle.codec_parameter.proofs.par_at.Goals as goal

pub returns-in_err-allowed_code : goal.returns-in_err-allowed_code
unfolding par_code
returns-in_err-allowed_code c = rw (← c.use_at.ensures, ← c.use_at-u.ensures) (passed_on _ _ _ _ c.from_residual.ensures c.in_err-allowed_code.ensures)

pub returns : goal.returns
unfolding par_code
returns c = rw (← c.use_at.ensures, ← c.use_at-u.ensures) (or_none _ _ _ (sym c.in_ok-allowed_code.ensures) c.body_code.ensures)
