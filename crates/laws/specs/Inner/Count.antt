-- More on counting: equal tests, a test that holds of one number, a test that holds of fewer numbers.
-- Assumes nothing.
use Rattle.std.specs.Prelude.{ℕ, zero, suc, ◌+◌, ◌<◌, ◌≤◌, ◌≡◌, refl, Bool, true, false, ◌||◌, ltb, eqb}
use Rattle.std.proofs.lemmas.Bool.{false≢true}
use Rattle.std.proofs.Common.{arith, lt-ltb, le-ltb, eq-eqb, ne_eqb}
use Rattle.std.proofs.Math.Decide.{dec_lt, ℕ_discrete}
use Rattle.laws.specs.Below.{count_below, any_below, one}

pub count_ext : (f g : ℕ → Bool) (n : ℕ) → ((i : ℕ) → i < n → f i ≡ g i) → count_below f n ≡ count_below g n
unfolding count_below
count_ext f g zero h = refl
count_ext f g (suc n) h = rw (count_ext f g n (λ i q. h i (omega arith)), h n (omega arith))

-- one number is counted once
pub count_single : (p n : ℕ) → count_below (λ q. eqb q p) n ≡ one (ltb p n)
unfolding count_below
count_single p zero = rw (le-ltb p 0 (omega arith))
count_single p (suc n) = rw (count_single p n) (go (dec_lt p n) (ℕ_discrete n p))
  where
    go : Dec (p < n) → Dec (n ≡ p) → one (ltb p n) + one (eqb n p) ≡ one (ltb p (suc n))
    go (yes l) (yes e) = let z : ⊥ = omega arith in absurd z
    go (yes l) (no e) = rw (lt-ltb p n l, ne_eqb n p e, lt-ltb p (suc n) (omega arith))
    go (no l) (yes e) = rw (le-ltb p n (omega arith), eq-eqb n p e, lt-ltb p (suc n) (omega arith))
    go (no l) (no e) = rw (le-ltb p n (omega arith), ne_eqb n p e, le-ltb p (suc n) (omega arith))

-- a test that implies another counts no more
pub count_fewer : (f g : ℕ → Bool) (n : ℕ) → ((i : ℕ) → i < n → f i ≡ true → g i ≡ true) → count_below f n ≤ count_below g n
unfolding count_below
count_fewer f g zero h = omega arith
count_fewer f g (suc n) h = omega (arith, count_fewer f g n (λ i q. h i (omega arith)), last (f n) (g n) (h n (omega arith)))
  where
    last : (u v : Bool) → (u ≡ true → v ≡ true) → one u ≤ one v
    last true v k = rw (k refl) (omega arith)
    last false v k = omega arith

-- a number that has the test is counted
pub count_some : (f : ℕ → Bool) (n : ℕ) → any_below f n ≡ true → 1 ≤ count_below f n
unfolding count_below any_below
count_some f zero h = absurd (false≢true h)
count_some f (suc n) h = go (any_below f n) (f n) (count_some f n) h
  where
    go : (u v : Bool) → (u ≡ true → 1 ≤ count_below f n) → (u || v) ≡ true → 1 ≤ count_below f n + one v
    go true v k e = omega (arith, k refl)
    go false true k e = omega arith
    go false false k e = absurd (false≢true e)
