-- The laws of `be`: a number is its higher bytes and its lower bytes, at any widths.
-- Assumes nothing.
use mathlib.Core.Path.{◌≡◌, ◌∙◌}
use mathlib.Core.List.{List}
use Prim.Native.Nat.{ℕ, zero, suc, ◌+◌, ◌*◌, ◌^◌}
use native.Mathlib.Nat.{add-zero, zero-add, add-suc, add_assoc, mul_assoc, pow-suc}
use native.Mathlib.Omega.{arith}
use lib.ListN.{get_or}
use Rattle.codec_wire.specs.Number.{be}

pub be_join : (s : List ℕ) (at m n : ℕ) → be (m + n) s at ≡ be m s at * 256 ^ n + be n s (at + m)
unfolding be
be_join s at m zero = rw add-zero (omega arith)
be_join s at m (suc n) = rw (add-suc m n, ← add_assoc at m n, be_join s at m n, pow-suc 256 n, ← mul_assoc (be m s at) (256 ^ n) 256) (omega arith)

pub be_one : (s : List ℕ) (at : ℕ) → be 1 s at ≡ get_or s at 0
unfolding be
be_one s at = simp (zero-add, add-zero)

pub be_two : (s : List ℕ) (at : ℕ) → be 2 s at ≡ get_or s at 0 * 256 + get_or s (at + 1) 0
be_two s at = be_join s at 1 1 ∙ simp be_one

pub be_four : (s : List ℕ) (at : ℕ) → be 4 s at ≡ be 2 s at * 65536 + be 2 s (at + 2)
be_four s at = be_join s at 2 2
