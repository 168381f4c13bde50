-- Whole lists, and the code's checks, as definitions that only code and proofs use.
-- Assumes nothing.
use Rattle.std.specs.Prelude.{◌≡◌, ℕ, ◌+◌, ◌≤◌, cond, not, List, [], ◌∷◌, length, ltb, eqb}
use Rattle.laws.specs.Choice.{◌or_else◌}
use Rattle.codec_wire.specs.Walk.{Par}
use Rattle.codec_parameter.specs.Table.{table, has_class, row_in}
use Rattle.codec_read.specs.Verdict.{most, check7, check8}
use Rattle.codec_put.specs.Bytes.{par_size}
use Rattle.codec_write.specs.Encode.{total}

-- the bytes of parameters whose values have these lengths
unfoldable pub sizes : List ℕ → ℕ
sizes [] = 0
sizes (n ∷ ns) = par_size n + sizes ns

-- a whole list, by facts
pub record Lent (ts ns vs : List ℕ) : Type 0 where
  pub lengths : length ns ≡ length ts
  pub values : total ns ≡ length vs

-- a whole list whose message has n bytes, which the reader takes
pub record Sized (ts ns vs : List ℕ) (n : ℕ) : Type 0 where
  pub lent : Lent ts ns vs
  pub size_is : n ≡ 8 + sizes ns
  pub small : n ≤ most

-- ---- in the order in which the code asks

-- a list that is not whole, or whose message is over 2,048 bytes
unfoldable pub size_code : List ℕ → List ℕ → List ℕ → ℕ
size_code ts ns vs = cond (eqb (length ns) (length ts)) (cond (ltb most (8 + sizes ns)) 7 (cond (eqb (total ns) (length vs)) 0 7)) 7

-- the checks 7 and 8 of a row
unfoldable pub row_code : ℕ → ℕ → ℕ → List Par → ℕ
row_code i c t ps = check7 i ps or_else check8 i c t ps

-- the checks 3, 4, 7 and 8 of a class, a type and parameters
unfoldable pub kind_code : ℕ → ℕ → List Par → ℕ
kind_code c t ps = cond (not (has_class table c)) 3 (cond (eqb (row_in table c t) 17) 4 (row_code (row_in table c t) c t ps))
