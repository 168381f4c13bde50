-- Limits by place: inside the count a bound of the column's own, beyond it 1, under which only 0 is. What
-- they mean is said once, of any column of flags.
-- Assumes nothing.
use Rattle.std.specs.Prelude.{ℕ, zero, suc, ◌<◌, ◌≤◌, ◌≡◌, refl, Bool, true, false, ◌||◌, ◌&&◌, cond, not, List, replicate, leb, ltb, eqb}
use Rattle.std.proofs.Common.{arith, not-suc-le-zero, lt-ltb, le-ltb, le-leb, ne_eqb}
use Rattle.std.proofs.Math.Decide.{dec_lt}
use Rattle.std.proofs.lemmas.Bool.{lt-leb}
use Rattle.laws.specs.Inner.Below.{one_small}
use Rattle.laws.specs.Below.{all_below, any_below, one}
use Rattle.laws.specs.Columns.{number_at, is_set, tabulate}
use Rattle.laws.specs.Inner.Columns.{HalfCol, get_d_tabulate}
use Rattle.state_tables.specs.Sound.{flag_if}

-- the column whose places hold their own index, as long as the longest table
unfoldable pub places : List ℕ
places = tabulate 128 (λ i. i)

-- the limit of a place, which is inside the count or not
abbrev pub limit : Bool → ℕ → ℕ
limit inside most = cond inside most 1

-- the limits of a column of 16 places, and its flags
unfoldable pub limits_to : ℕ → ℕ → List ℕ
limits_to n most = tabulate 16 (λ q. limit (ltb q n) most)

unfoldable pub flags_of : List ℕ → List ℕ
flags_of c = tabulate 16 (λ q. one (is_set c q))

-- a column of 16 places that holds nothing but flags
abbrev pub Flags : List ℕ → Type 0
Flags c = (q : ℕ) → q < 16 → number_at c q ≤ 1

-- ---- laws

pub limits_at : (n most q : ℕ) → q < 16 → number_at (limits_to n most) q ≡ limit (ltb q n) most
unfolding limits_to
limits_at n most q b = get_d_tabulate 16 (λ q. limit (ltb q n) most) q 0 b

pub flags_at : (c : List ℕ) (q : ℕ) → q < 16 → number_at (flags_of c) q ≡ one (is_set c q)
unfolding flags_of
flags_at c q b = get_d_tabulate 16 (λ q. one (is_set c q)) q 0 b

pub flags_small : (l c : List ℕ) → l ≡ flags_of c → Flags l
flags_small l c e q b = rw (e, flags_at c q b) (one_small (is_set c q))

zeros_at : (n i : ℕ) → number_at (replicate n 0) i ≡ 0
zeros_at zero i = refl
zeros_at (suc n) zero = refl
zeros_at (suc n) (suc i) = zeros_at n i

-- a column of zeros, before its places are set in turn
pub half_zeros : (f : ℕ → ℕ) → HalfCol f (λ i. 0) 16 0 (replicate 16 0)
half_zeros f = record { long = refl; new = λ i b. absurd (not-suc-le-zero b); old = λ i b c. zeros_at 16 i }

pub place_at : (i : ℕ) → i < 128 → number_at places i ≡ i
unfolding places
place_at i b = get_d_tabulate 128 (λ i. i) i 0 b

-- what is under its limit is under the bound inside the count, and 0 beyond it
pub under_limit : (x : ℕ) (b : Bool) (most : ℕ) → ltb x (limit b most) ≡ cond b (ltb x most) (eqb x 0)
under_limit x true most = refl
under_limit zero false most = refl
under_limit (suc x) false most = rw (le-ltb (suc x) 1 (omega arith), ne_eqb (suc x) 0 (λ e. omega arith))

-- a flag is under its limit
pub flag_limit : (x : ℕ) (b : Bool) → ltb x (limit b 2) ≡ flag_if x b
flag_limit zero true = refl
flag_limit zero false = refl
flag_limit (suc zero) true = refl
flag_limit (suc zero) false = refl
flag_limit (suc (suc x)) true = rw (le-ltb (suc (suc x)) 2 (omega arith), ne_eqb (suc (suc x)) 0 (λ e. omega arith), ne_eqb (suc (suc x)) 1 (λ e. omega arith))
flag_limit (suc (suc x)) false = rw (le-ltb (suc (suc x)) 1 (omega arith), ne_eqb (suc (suc x)) 0 (λ e. omega arith), ne_eqb (suc (suc x)) 1 (λ e. omega arith))

-- not below is at least
pub le_not : (x y : ℕ) → leb y x ≡ not (ltb x y)
le_not x y = go (dec_lt x y)
  where
    go : Dec (x < y) → leb y x ≡ not (ltb x y)
    go (yes z) = rw (lt-ltb x y z, lt-leb y x z)
    go (no z) = rw (le-ltb x y (omega arith), le-leb y x (omega arith))

-- above the largest flag that may be set
pub flag_above : (x : ℕ) (b : Bool) → ltb (one b) x ≡ not (flag_if x b)
flag_above x true = rw (← flag_limit x true) (go (dec_lt x 2))
  where
    go : Dec (x < 2) → ltb 1 x ≡ not (ltb x 2)
    go (yes z) = rw (lt-ltb x 2 z, le-ltb 1 x (omega arith))
    go (no z) = rw (le-ltb x 2 (omega arith), lt-ltb 1 x (omega arith))
flag_above x false = rw (← flag_limit x false) (go (dec_lt x 1))
  where
    go : Dec (x < 1) → ltb 0 x ≡ not (ltb x 1)
    go (yes z) = rw (lt-ltb x 1 z, le-ltb 0 x (omega arith))
    go (no z) = rw (le-ltb x 1 (omega arith), lt-ltb 0 x (omega arith))

-- the search for a number that fails
pub any_fails : (f g : ℕ → Bool) (n : ℕ) → ((i : ℕ) → i < n → g i ≡ not (f i)) → any_below g n ≡ not (all_below f n)
unfolding any_below all_below
any_fails f g zero h = refl
any_fails f g (suc n) h = rw (any_fails f g n (λ i b. h i (omega arith)), h n (omega arith)) (go (all_below f n) (f n))
  where
    go : (u v : Bool) → (not u || not v) ≡ not (u && v)
    go true v = refl
    go false v = refl
