-- A set of ASes as the bits of a number: AS a is bit a.
-- Assumes nothing.
use Rattle.std.specs.Prelude.{◌≡◌, refl, Bool, true, false, cond, not, ◌||◌, ◌&&◌, List, ℕ, zero, suc, ◌+◌, ◌*◌, ◌/◌, ◌%◌, ◌^◌, ◌<◌, ◌≤◌, ◌-◌, max, min, length, get_or, set, replicate, eqb}
use Rattle.std.proofs.Common.{sym, ap, ap₂, ◌∙◌, mul_assoc, arith, length-set, get_or-set_same, get_or-set_other, shl_exact, pow-add, shr_lt, eq-eqb, eqb-true}
use Rattle.std.proofs.Math.Nat.{max-le}
use Rattle.std.proofs.Math.Decide.{ℕ_discrete, dec_lt}
use Rattle.std.proofs.lemmas.List.{get_or-replicate}
use Rattle.std.specs.Int.Bits.{bit_and, bit_or, and_step, or_step, or_zero_r, shifted_even}
use Rattle.std.proofs.lemmas.Nat.{and_shr, or_shr, shl-shr, mod-pow-add}
use Rattle.std.proofs.Math.Pow.{pow-lt, mod-mod-pow, field}
use mir.Val.{bool_byte}
use Rattle.laws.specs.Below.{any_below, all_below}
use Rattle.laws.specs.Inner.Every.{all_ext, and_left, and_right, and_both, same_truth}
use Rattle.laws.specs.Columns.{flag_at, tabulate}
use Rattle.laws.specs.Inner.Columns.{Half, half_none, half_more, half_keep, is_tabulate, get_d_tabulate, length_tabulate}

-- AS a is in the set
unfoldable pub bit_at : ℕ → ℕ → Bool
bit_at n a = eqb (n / 2 ^ a % 2) 1

-- the set as flags
unfoldable pub flags_of : ℕ → List Bool
flags_of n = tabulate 16 (bit_at n)

-- none is in the set 0
pub flags_zero : flags_of 0 ≡ replicate 16 false
unfolding flags_of bit_at tabulate
flags_zero = refl

pub flags_long : (n : ℕ) → length (flags_of n) ≡ 16
unfolding flags_of
flags_long n = length_tabulate 16 (bit_at n)

pub flag_is : (n a : ℕ) → a < 16 → flag_at (flags_of n) a ≡ bit_at n a
unfolding flags_of
flag_is n a b = get_d_tabulate 16 (bit_at n) a false b

-- ---- the digits of two sets

-- what holds of both digits in each case
two_digits : (P : ℕ → ℕ → Type 0) → P 0 0 → P 0 1 → P 1 0 → P 1 1 → (x y : ℕ) → x < 2 → y < 2 → P x y
two_digits P a b c d zero zero h k = a
two_digits P a b c d zero (suc zero) h k = b
two_digits P a b c d (suc zero) zero h k = c
two_digits P a b c d (suc zero) (suc zero) h k = d
two_digits P a b c d (suc (suc x)) y h k = let w : ⊥ = omega arith in absurd w
two_digits P a b c d zero (suc (suc y)) h k = let w : ⊥ = omega arith in absurd w
two_digits P a b c d (suc zero) (suc (suc y)) h k = let w : ⊥ = omega arith in absurd w

-- those of a union
or_digit : (n m a : ℕ) → bit_or n m / 2 ^ a % 2 ≡ max (n / 2 ^ a % 2) (m / 2 ^ a % 2)
or_digit n m a =
    let x = n / 2 ^ a in
    let y = m / 2 ^ a in
    let b : max (x % 2) (y % 2) ≤ 1 = max-le (omega arith) (omega arith) in
    let e : bit_or x y % 2 ≡ max (x % 2) (y % 2) = omega (arith, or_step x y, b) in
    rw (or_shr n m a) e

bit_or_lem : (n m a : ℕ) → bit_at (bit_or n m) a ≡ (bit_at n a || bit_at m a)
unfolding bit_at
bit_or_lem n m a =
    ap (λ (x : ℕ). eqb x 1) (or_digit n m a)
    ∙ two_digits (λ x y. eqb (max x y) 1 ≡ (eqb x 1 || eqb y 1)) refl refl refl refl (n / 2 ^ a % 2) (m / 2 ^ a % 2) (omega arith) (omega arith)

-- ---- one AS more

bit_own : (a : ℕ) → bit_at (1 * 2 ^ a) a ≡ true
unfolding bit_at
bit_own a = rw (shl-shr 1 a)

bit_other : (a b : ℕ) → (b ≡ a → ⊥) → bit_at (1 * 2 ^ a) b ≡ false
unfolding bit_at
bit_other a b n = go (dec_lt b a)
  where
    lower : (j : ℕ) → a ≡ suc j + b → eqb (1 * 2 ^ a / 2 ^ b % 2) 1 ≡ false
    lower j e = rw (e, pow-add 2 (suc j) b, sym (mul_assoc 1 (2 ^ suc j) (2 ^ b)), shl-shr (1 * 2 ^ suc j) b, shifted_even 1 j)

    go : Dec (b < a) → eqb (1 * 2 ^ a / 2 ^ b % 2) 1 ≡ false
    go (yes h) = lower (a - suc b) (omega arith)
    go (no h) =
        let l : 2 ^ a < 2 ^ (0 + b) = pow-lt (omega arith) in
        let z : 1 * 2 ^ a / 2 ^ b < 1 = shr_lt 0 b (omega arith) in
        let y : 1 * 2 ^ a / 2 ^ b % 2 ≡ 0 = omega arith in
        rw y

or_none : (u : Bool) → (u || false) ≡ u
or_none true = refl
or_none false = refl

or_true : (u : Bool) → (u || true) ≡ true
or_true true = refl
or_true false = refl

pub flags_with : (n a : ℕ) → a < 16 → flags_of (bit_or n (1 * 2 ^ a)) ≡ set (flags_of n) a true
unfolding flags_of
flags_with n a h = sym (is_tabulate false (set (flags_of n) a true) 16 (bit_at (bit_or n (1 * 2 ^ a))) (length-set (flags_of n) a true ∙ flags_long n) (λ b q. at b q (ℕ_discrete b a)))
  where
    at : (b : ℕ) → b < 16 → Dec (b ≡ a) → get_or (set (flags_of n) a true) b false ≡ bit_at (bit_or n (1 * 2 ^ a)) b
    at b q (yes e) = rw e (get_or-set_same (flags_of n) a true false (let l = flags_long n in omega arith) ∙ sym (bit_or_lem n (1 * 2 ^ a) a ∙ rw (bit_own a) (or_true (bit_at n a))))
    at b q (no e) = get_or-set_other (flags_of n) a b true false e ∙ flag_is n b q ∙ sym (bit_or_lem n (1 * 2 ^ a) b ∙ rw (bit_other a b e) (or_none (bit_at n b)))

-- one AS more where t holds
pub flags_if : (n a : ℕ) (t : Bool) → a < 16 → flags_of (bit_or n (bool_byte t * 2 ^ a % 2 ^ 32)) ≡ cond t (set (flags_of n) a true) (flags_of n)
flags_if n a true h = ap (λ x. flags_of (bit_or n x)) (shl_exact 1 a 32 (omega arith) (omega arith)) ∙ flags_with n a h
flags_if n a false h = ap (λ x. flags_of (bit_or n x)) (zero_shifted a) ∙ ap flags_of (or_zero_r n)
  where
    zero_shifted : (a : ℕ) → 0 * 2 ^ a % 2 ^ 32 ≡ 0
    zero_shifted a = omega arith

-- ---- a set that grows AS by AS

pub flag_zero : (a : ℕ) → a < 16 → flag_at (flags_of 0) a ≡ false
flag_zero a b = ap (λ (l : List Bool). flag_at l a) flags_zero ∙ get_or-replicate 16 a false false b

-- none of the ASes was looked at
pub half_empty : (f : ℕ → Bool) {l : List Bool} → l ≡ replicate 16 false → Half f (flag_at (flags_of 0)) 16 0 l
half_empty f e = rw (e ∙ sym flags_zero) (half_none f 16 (flags_of 0) (flags_long 0))

-- AS k is looked at
pub half_if : (f : ℕ → Bool) (k : ℕ) {l next : List Bool} (t : Bool) → Half f (flag_at (flags_of 0)) 16 k l → k < 16 → t ≡ f k → next ≡ cond t (set l k true) l → Half f (flag_at (flags_of 0)) 16 (k + 1) next
half_if f k true h b e q = rw q (half_more true h b e)
half_if f k false h b e q = rw q (half_keep h b (flag_zero k b ∙ e))

-- ---- whether every AS of a set is in another

-- two numbers are equal where their first digits are, and the rests
split_same : (n m k : ℕ) → eqb (n % 2 ^ (1 + k)) (m % 2 ^ (1 + k)) ≡ (eqb (n % 2 ^ k) (m % 2 ^ k) && eqb (n / 2 ^ k % 2) (m / 2 ^ k % 2))
split_same n m k =
    let r = n % 2 ^ k in
    let q = m % 2 ^ k in
    let x = n / 2 ^ k % 2 in
    let y = m / 2 ^ k % 2 in
    same_truth (eqb (n % 2 ^ (1 + k)) (m % 2 ^ (1 + k))) (eqb r q && eqb x y)
    (λ e. let w = eqb-true (n % 2 ^ (1 + k)) (m % 2 ^ (1 + k)) e in
    and_both (eqb r q) (eqb x y)
    (eq-eqb r q (sym (mod-mod-pow n 1 k) ∙ ap (λ (z : ℕ). z % 2 ^ k) w ∙ mod-mod-pow m 1 k))
    (eq-eqb x y (sym (field n 1 k) ∙ ap (λ (z : ℕ). z / 2 ^ k) w ∙ field m 1 k)))
    (λ e. eq-eqb (n % 2 ^ (1 + k)) (m % 2 ^ (1 + k))
    (mod-pow-add n 1 k
    ∙ ap₂ (λ (u v : ℕ). u * 2 ^ k + v) (eqb-true x y (and_right (eqb r q) (eqb x y) e)) (eqb-true r q (and_left (eqb r q) (eqb x y) e))
    ∙ sym (mod-pow-add m 1 k)))

same_below : (n m k : ℕ) → eqb (n % 2 ^ k) (m % 2 ^ k) ≡ all_below (λ a. eqb (n / 2 ^ a % 2) (m / 2 ^ a % 2)) k
unfolding all_below
same_below n m zero = let e : n % 1 ≡ m % 1 = omega arith in eq-eqb (n % 1) (m % 1) e
same_below n m (suc k) =
    let e : suc k ≡ 1 + k = omega arith in
    ap (λ (j : ℕ). eqb (n % 2 ^ j) (m % 2 ^ j)) e
    ∙ split_same n m k
    ∙ ap (λ (u : Bool). u && eqb (n / 2 ^ k % 2) (m / 2 ^ k % 2)) (same_below n m k)

-- the union has no AS beside those of m just where every AS of n is one of them
within_digit : (n m a : ℕ) → eqb (bit_or n m / 2 ^ a % 2) (m / 2 ^ a % 2) ≡ (not (bit_at n a) || bit_at m a)
unfolding bit_at
within_digit n m a =
    ap (λ (x : ℕ). eqb x (m / 2 ^ a % 2)) (or_digit n m a)
    ∙ two_digits (λ x y. eqb (max x y) y ≡ (not (eqb x 1) || eqb y 1)) refl refl refl refl (n / 2 ^ a % 2) (m / 2 ^ a % 2) (omega arith) (omega arith)

pub within_bits : (n m : ℕ) → eqb (bit_or n m % 65536) (m % 65536) ≡ all_below (λ a. not (flag_at (flags_of n) a) || flag_at (flags_of m) a) 16
within_bits n m = same_below (bit_or n m) m 16 ∙ all_ext _ _ 16 (λ a b. within_digit n m a ∙ sym (rw (flag_is n a b, flag_is m a b)))

-- ---- whether some AS is in a set

some_not : (f g : ℕ → Bool) (k : ℕ) → ((a : ℕ) → a < k → f a ≡ not (g a)) → any_below f k ≡ not (all_below g k)
unfolding any_below all_below
some_not f g zero h = refl
some_not f g (suc k) h = rw (some_not f g k (λ a b. h a (omega arith)), h k (omega arith)) (both (all_below g k) (g k))
  where
    both : (u v : Bool) → (not u || not v) ≡ not (u && v)
    both true v = refl
    both false v = refl

pub some_bits : (n : ℕ) → any_below (flag_at (flags_of n)) 16 ≡ not (eqb (n % 65536) 0)
some_bits n =
    some_not (flag_at (flags_of n)) (λ a. not (flag_at (flags_of n) a) || flag_at (flags_of 0) a) 16 (λ a b. rw (flag_zero a b) (twice (flag_at (flags_of n) a)))
    ∙ ap not (sym (within_bits n 0))
    ∙ ap (λ (x : ℕ). not (eqb (x % 65536) 0)) (or_zero_r n)
  where
    twice : (u : Bool) → u ≡ not (not u || false)
    twice true = refl
    twice false = refl

-- ---- the ASes of both sets

and_digit : (n m a : ℕ) → bit_and n m / 2 ^ a % 2 ≡ min (n / 2 ^ a % 2) (m / 2 ^ a % 2)
and_digit n m a =
    let x = n / 2 ^ a in
    let y = m / 2 ^ a in
    let b : min (x % 2) (y % 2) ≤ 1 = two_digits (λ u v. min u v ≤ 1) (omega arith) (omega arith) (omega arith) (omega arith) (x % 2) (y % 2) (omega arith) (omega arith) in
    let e : bit_and x y % 2 ≡ min (x % 2) (y % 2) = omega (arith, and_step x y, b) in
    rw (and_shr n m a) e

bit_and_lem : (n m a : ℕ) → bit_at (bit_and n m) a ≡ (bit_at n a && bit_at m a)
unfolding bit_at
bit_and_lem n m a =
    ap (λ (x : ℕ). eqb x 1) (and_digit n m a)
    ∙ two_digits (λ x y. eqb (min x y) 1 ≡ (eqb x 1 && eqb y 1)) refl refl refl refl (n / 2 ^ a % 2) (m / 2 ^ a % 2) (omega arith) (omega arith)

pub flags_both : (n m : ℕ) → flags_of (bit_and n m) ≡ tabulate 16 (λ a. flag_at (flags_of n) a && flag_at (flags_of m) a)
flags_both n m = is_tabulate false (flags_of (bit_and n m)) 16 (λ a. flag_at (flags_of n) a && flag_at (flags_of m) a) (flags_long (bit_and n m)) (λ a b. flag_is (bit_and n m) a b ∙ bit_and_lem n m a ∙ sym (rw (flag_is n a b, flag_is m a b)))

-- ---- none is in a set

pub none_bits : (n : ℕ) → eqb (n % 65536) 0 ≡ not (any_below (flag_at (flags_of n)) 16)
none_bits n = again (eqb (n % 65536) 0) ∙ ap not (sym (some_bits n))
  where
    again : (u : Bool) → u ≡ not (not u)
    again true = refl
    again false = refl
