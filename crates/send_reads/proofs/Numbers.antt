-- Numbers and identifiers as values of parameters: what the checks of a message say of them.
-- Assumes nothing.
use mathlib.Core.Path.{◌≡◌, refl}
use mathlib.Core.Bool.{Bool, true, false, cond}
use mathlib.Core.List.{List, []}
use Prim.Native.Nat.{ℕ, zero, suc, ◌*◌, ◌%◌, ◌≤◌}
use native.Mathlib.Omega.{arith}
use lib.Dec.{eqb}
use lib.ListN.{length, length-append}
use borrow.Author.Tests.{le-ltb, eq-eqb}
use Rattle.laws.specs.Below.{concat_below}
use Rattle.laws.specs.Columns.{number_at}
use Rattle.codec_wire.specs.Walk.{Par}
use Rattle.codec_parameter.specs.declared.Usage.TheVariants.{Repeated}
use Rattle.codec_parameter.specs.Value.{bytes_of, limits_of, plain_code, id_code}
use Rattle.codec_put.specs.Bytes.{bytes32}
use Rattle.state_tables.specs.declared.Gateway.{Gateway}
use Rattle.send_message.specs.Message.{ids_of, good_ids}
use Rattle.rules_event.specs.Identifiers.{owner_at, is_named_good}

abbrev pub largest : ℕ
largest = 0xffff_ffff

-- ---- a number

-- of 32 bits, where nothing less is asked
pub number_code : (t n : ℕ) → limits_of t ≡ bytes_of 8 8 → plain_code (limits_of t) t (bytes32 n) ≡ 0
unfolding plain_code
number_code t n e = rw e

-- ---- identifiers

-- lists of four bytes or none, joined
pub record Fours (n : ℕ) (v : List ℕ) : Type 0 where
  pub multiple : length v % 4 ≡ 0
  pub most : length v ≤ n * 4

-- the identifiers of those of the first n links that a test chooses
chosen_fours : (iid : List ℕ) (f : ℕ → Bool) (n : ℕ) → Fours n (concat_below (λ l. cond (f l) (bytes32 (number_at iid l)) []) n)
unfolding concat_below
chosen_fours iid f zero = record { multiple = refl; most = omega arith }
chosen_fours iid f (suc n) =
    let h = chosen_fours iid f n in
    let o = one (f n) in
    let j = length-append (concat_below (λ l. cond (f l) (bytes32 (number_at iid l)) []) n) (cond (f n) (bytes32 (number_at iid n)) []) in
    record { multiple = omega arith; most = omega arith }
  where
    one : (b : Bool) → (length (cond b (bytes32 (number_at iid n)) []) % 4 ≡ 0) × (length (cond b (bytes32 (number_at iid n)) []) ≤ 4)
    one true = (refl, omega arith)
    one false = (refl, omega arith)

pub ids_fours : (g : Gateway) (a : ℕ) → Fours g.links (ids_of g a)
unfolding ids_of
ids_fours g a = chosen_fours g.iid (λ l. eqb (owner_at g l) a) g.links

pub good_fours : (g : Gateway) (p : ℕ) (ps : List Par) → Fours g.links (good_ids g p ps)
unfolding good_ids
good_fours g p ps = chosen_fours g.iid (is_named_good g p ps) g.links

-- one or more of them
pub ids_code : (n : ℕ) (v : List ℕ) → Fours n v → (length v ≡ 0 → ⊥) → id_code Repeated v ≡ 0
unfolding id_code
ids_code n v h ne =
    let m = h.multiple in
    rw (le-ltb (length v) 4 (omega (arith, ne)), eq-eqb (length v % 4) 0 h.multiple)
