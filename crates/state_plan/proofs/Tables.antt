-- The table of members, which two loops fill.
-- Assumes nothing.
use Prim.Native.Nat.{ℕ, ◌+◌, ◌*◌, ◌/◌, ◌%◌, ◌<◌, ◌≤◌}
use mathlib.Core.Path.{◌≡◌}
use mathlib.Core.List.{List}
use native.Mathlib.Omega.{arith}
use native.Mathlib.Nat.{not-suc-le-zero}
use lib.ListN.{replicate, length-replicate, get_or-replicate}
use Rattle.laws.specs.Columns.{number_at}
use Rattle.laws.specs.Inner.Columns.{HalfCol}
use Rattle.state_plan.specs.Plan.{bit}

pub column_none : (places : ℕ) (f : ℕ → ℕ) → HalfCol f (λ i. 0) places 0 (replicate places 0)
column_none places f =
    record {
      long = length-replicate places 0;
      new = λ i b. absurd (not-suc-le-zero b);
      old = λ i b c. get_or-replicate places i 0 0 c;
    }

-- the bit of pair (a, q) stands at its index
pub bit_at_lem : (mask : List ℕ) (a q : ℕ) → q < 16 → bit (number_at mask q) a ≡ bit (number_at mask ((a * 16 + q) % 16)) ((a * 16 + q) / 16)
bit_at_lem mask a q h =
    let d : (a * 16 + q) / 16 ≡ a = omega arith in
    let m : (a * 16 + q) % 16 ≡ q = omega arith in
    rw (d, m)

-- the places of row a, one after the other. (Said here, since a proof in the middle of a loop's body has too
-- many facts to choose from.)
pub row_start : (a : ℕ) → a * 16 ≡ a * 16 + 0
row_start a = omega arith

pub row_next : (a q : ℕ) → a * 16 + q + 1 ≡ a * 16 + (q + 1)
row_next a q = omega arith

pub row_in_lem : (a q : ℕ) → a < 16 → q < 16 → a * 16 + q < 256
row_in_lem a q h b = omega arith

pub row_end : (a q : ℕ) → 16 ≤ q → q ≤ 16 → a * 16 + q ≡ (a + 1) * 16
row_end a q h b = omega arith
