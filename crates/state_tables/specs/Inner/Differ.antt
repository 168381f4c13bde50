-- Identifiers that differ, each compared with 16 places at once: those before it, and the last one.
-- Assumes nothing.
use Rattle.std.specs.Prelude.{ℕ, zero, suc, ◌+◌, ◌-◌, ◌<◌, ◌≤◌, ◌≡◌, refl, Bool, ◌&&◌, cond, List, eqb, ltb, replicate}
use Rattle.std.proofs.Common.{◌∙◌, sym, not-suc-le-zero}
use Rattle.std.proofs.Math.Bool.{true, not}
use native.Mathlib.Omega.{arith}
use Rattle.std.proofs.Math.Decide.{dec_lt}
use borrow.Author.Tests.{lt-ltb, le-ltb, eqb-true, eq-eqb}
use Rattle.laws.specs.Below.{all_below}
use Rattle.laws.specs.Inner.Below.{all_at, all_of}
use Rattle.laws.specs.Columns.{number_at, tabulate}
use Rattle.laws.specs.Inner.Columns.{HalfCol, get_d_tabulate}
use Rattle.laws.specs.Inner.Every.{and_left, and_right, and_both, same_truth}
use Rattle.state_tables.specs.Sound.{differs}

abbrev pub pad_at : List ℕ → ℕ → ℕ → ℕ
pad_at c x i = cond (ltb i 16) x (number_at c (i - 16))

-- a column of 16 places, after as many that hold x
unfoldable pub pad_with : List ℕ → ℕ → List ℕ
pad_with c x = tabulate 32 (pad_at c x)

-- the first k places from p on do not hold x
unfoldable pub lacks_from : List ℕ → ℕ → ℕ → ℕ → Bool
lacks_from c p x = all_below (λ q. not (eqb (number_at c (p + q)) x))

-- the identifier at p differs from those before it and from y
unfoldable pub differs_to : List ℕ → ℕ → ℕ → Bool
differs_to c y p = differs c p && not (eqb (number_at c p) y)

-- ---- laws

at_replicate : (x n i : ℕ) → i < n → number_at (replicate n x) i ≡ x
at_replicate x zero i b = absurd (not-suc-le-zero b)
at_replicate x (suc n) zero b = refl
at_replicate x (suc n) (suc i) b = at_replicate x n i (omega arith)

pub pad_half : (c : List ℕ) (x : ℕ) → HalfCol (pad_at c x) (λ i. x) 32 (0 + 16) (replicate 32 x)
pad_half c x = record { long = refl; new = λ i b. rw (lt-ltb i 16 (omega arith)) (at_replicate x 32 i (omega arith)); old = λ i b d. at_replicate x 32 i d }

pub pad_more : (c : List ℕ) (x q : ℕ) → number_at c q ≡ pad_at c x (q + 16)
pad_more c x q = let e : q + 16 - 16 ≡ q = omega arith in rw (le-ltb (q + 16) 16 (omega arith), e)

eqb_sym : (a b : ℕ) → eqb a b ≡ eqb b a
eqb_sym a b = same_truth (eqb a b) (eqb b a) (λ h. eq-eqb b a (sym (eqb-true a b h))) (λ h. eq-eqb a b (sym (eqb-true b a h)))

module _ (c : List ℕ) (y p : ℕ) (small : p < 16) where
  abbrev apart : ℕ → Bool
  apart q = not (eqb (number_at c q) (number_at c p))

  abbrev lacking : ℕ → Bool
  lacking q = not (eqb (number_at (pad_with c y) (p + q)) (number_at c p))

  pad_low : (q : ℕ) → p + q < 16 → lacking q ≡ not (eqb (number_at c p) y)
  unfolding pad_with
  pad_low q b = rw (get_d_tabulate 32 (pad_at c y) (p + q) 0 (omega arith), lt-ltb (p + q) 16 b, eqb_sym y (number_at c p))

  pad_high : (q : ℕ) → q < 16 → 16 ≤ p + q → lacking q ≡ apart (p + q - 16)
  unfolding pad_with
  pad_high q d b = rw (get_d_tabulate 32 (pad_at c y) (p + q) 0 (omega arith), le-ltb (p + q) 16 b)

  pub lacks_differs : lacks_from (pad_with c y) p (number_at c p) 16 ≡ differs_to c y p
  unfolding lacks_from differs_to differs
  lacks_differs =
      same_truth (all_below lacking 16) (all_below apart p && not (eqb (number_at c p) y))
      (λ h. and_both (all_below apart p) (not (eqb (number_at c p) y))
      (all_of apart p (λ r b. let e : p + (r + 16 - p) - 16 ≡ r = omega arith in rw e at (sym (pad_high (r + 16 - p) (omega arith) (omega arith)) ∙ all_at lacking 16 h (r + 16 - p) (omega arith))))
      (sym (pad_low 0 (omega arith)) ∙ all_at lacking 16 h 0 (omega arith)))
      (λ h. all_of lacking 16 (λ q b. go h q b (dec_lt (p + q) 16)))
    where
      go : (all_below apart p && not (eqb (number_at c p) y)) ≡ true → (q : ℕ) → q < 16 → Dec (p + q < 16) → lacking q ≡ true
      go h q b (yes z) = pad_low q z ∙ and_right (all_below apart p) (not (eqb (number_at c p) y)) h
      go h q b (no z) = pad_high q b (omega arith) ∙ all_at apart p (and_left (all_below apart p) (not (eqb (number_at c p) y)) h) (p + q - 16) (omega arith)

-- each but the last differs from those before it and from the last: so all differ
pub differ_all : (c : List ℕ) (n : ℕ) → 1 ≤ n → all_below (differs_to c (number_at c (n - 1))) (n - 1) ≡ all_below (differs c) n
unfolding differs_to differs
differ_all c n w =
    same_truth (all_below (differs_to c (number_at c (n - 1))) (n - 1)) (all_below (differs c) n)
    (λ h. all_of (differs c) n (λ i b. go h i b (dec_lt i (n - 1))))
    (λ h. all_of (differs_to c (number_at c (n - 1))) (n - 1) (λ p b. and_both (differs c p) (not (eqb (number_at c p) (number_at c (n - 1)))) (all_at (differs c) n h p (omega arith)) (all_at (λ q. not (eqb (number_at c q) (number_at c (n - 1)))) (n - 1) (all_at (differs c) n h (n - 1) (omega arith)) p b)))
  where
    go : all_below (differs_to c (number_at c (n - 1))) (n - 1) ≡ true → (i : ℕ) → i < n → Dec (i < n - 1) → differs c i ≡ true
    go h i b (yes z) = and_left (differs c i) (not (eqb (number_at c i) (number_at c (n - 1)))) (all_at (differs_to c (number_at c (n - 1))) (n - 1) h i z)
    go h i b (no z) =
        let e : i ≡ n - 1 = omega arith in
        rw e (all_of (λ q. not (eqb (number_at c q) (number_at c (n - 1)))) (n - 1) (λ q d. and_right (differs c q) (not (eqb (number_at c q) (number_at c (n - 1)))) (all_at (differs_to c (number_at c (n - 1))) (n - 1) h q d)))
