use native.Mathlib.Omega.{arith}
use native.Mathlib.Nat.{add-zero}
use Rattle.codec_wire.specs.Number.{be}
use Rattle.codec_wire.proofs.get32.Goals as goal

pub returns : goal.returns
unfolding be
returns c = rw add-zero (omega (arith, c.from_be_bytes.ensures))
