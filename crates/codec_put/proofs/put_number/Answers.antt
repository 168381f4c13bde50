use mathlib.Core.Path.{refl}
use mathlib.Core.List.{◌++◌}
use Rattle.codec_put.specs.Bytes.{bytes16, bytes32, par_bytes}
use Rattle.codec_put.proofs.Sets.{over_two}
use Rattle.codec_put.proofs.put_number.Goals as goal

pub returns : goal.returns
unfolding par_bytes
returns c = let a = c.args in
    record {
      next = refl;
      bytes = over_two _ (bytes16 a.tag ++ bytes16 8) (bytes32 a.n) _ _ _ _ c.put_head.ensures refl c.put32.ensures;
    }
