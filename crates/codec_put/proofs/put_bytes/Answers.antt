use mathlib.Core.Path.{◌∙◌}
use native.Mathlib.Omega.{arith}
use Rattle.codec_put.proofs.Sets.{over_part, four}
use Rattle.codec_put.proofs.put_bytes.Goals as goal

pub returns-in-len4 : goal.returns-in-len4
returns-in-len4 c = over_part _ _ _ _ _ (c.copy_from_slice.ensures.after ∙ four _ (omega arith)) (omega arith) c.requires

pub returns : goal.returns
returns c = over_part _ _ _ _ _ c.copy_from_slice-2.ensures.after (omega arith) c.requires
