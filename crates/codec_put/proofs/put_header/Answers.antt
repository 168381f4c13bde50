use mathlib.Core.Path.{refl}
use Rattle.codec_put.proofs.Sets.{over_two}
use Rattle.codec_put.proofs.put_header.Goals as goal

pub returns : goal.returns
returns c = over_two _ _ _ _ _ _ _ c.put_bytes.ensures refl c.put32.ensures
