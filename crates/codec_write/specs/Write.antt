-- What the writer promises.
-- Assumes nothing.
use Rattle.std.specs.Prelude.{◌≡◌, ℕ, cond, not, List, length, ltb, eqb}
use Rattle.laws.specs.Choice.{◌or_else◌, ◌if◌}
use Rattle.codec_read.specs.Verdict.{verdict}
use Rattle.codec_put.specs.Bytes.{overlay}
use Rattle.codec_write.specs.Encode.{encode, pars_in, whole}
use Rattle.codec_write.specs.declared.Written.{Written}

-- the number of a write into a buffer of n bytes (Rule 3.3)
unfoldable pub write_code : ℕ → ℕ → List ℕ → List ℕ → List ℕ → ℕ → ℕ
write_code c t ts ns vs n =
    (7 if not (whole ts ns vs))
    or_else verdict (encode c t (pars_in ts ns vs))
    or_else (103 if ltb n (length (encode c t (pars_in ts ns vs))))

-- the promise of `write`, of the buffer before and after (Rule 3.5)
pub record Writes (c t : ℕ) (ts ns vs out : List ℕ) (r : Written) (out' : List ℕ) : Type 0 where
  pub code_is : r.code ≡ write_code c t ts ns vs (length out)
  pub length_is : r.length ≡ cond (eqb r.code 0) (length (encode c t (pars_in ts ns vs))) 0
  pub bytes_are : out' ≡ cond (eqb r.code 0) (overlay out 0 (encode c t (pars_in ts ns vs))) out
