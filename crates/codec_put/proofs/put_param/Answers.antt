use mathlib.Core.Path.{refl}
use mathlib.Core.List.{◌++◌}
use Prim.Native.Nat.{◌+◌, ◌-◌}
use lib.ListN.{length, replicate}
use Rattle.codec_put.specs.Bytes.{bytes16, par_size, par_bytes}
use Rattle.codec_put.proofs.Sets.{over_two}
use Rattle.codec_put.proofs.put_param.Goals as goal

pub returns : goal.returns
unfolding par_bytes
returns c = let a = c.args in
    let n = 4 + length a.v.now in
    record {
      next = refl;
      bytes = over_two _ (bytes16 a.tag ++ bytes16 n) (a.v.now ++ replicate (par_size (length a.v.now) - n) 0) _ _ _ _
          c.put_head.ensures refl c.put_value.ensures;
    }
