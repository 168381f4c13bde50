-- The laws of a column of numbers below a bound (`sound_column`), each once: of its places, and of what makes
-- it and keeps it so. A column of flags has the bound 2.
-- Assumes nothing.
use Rattle.std.specs.Prelude.{ℕ, ◌<◌, ◌≤◌, ◌≡◌, refl, Bool, true, false, ◌||◌, cond, List, eqb, length, set, replicate}
use Rattle.std.proofs.Common.{arith, get_or-set_same, get_or-set_other}
use Rattle.std.proofs.Math.Decide.{dec_lt, ℕ_discrete}
use Rattle.std.proofs.Math.Dec.{ltb}
use Rattle.std.proofs.lemmas.List.{get_or-replicate}
use Rattle.std.proofs.Math.Seq.{set_out}
use borrow.Author.Tests.{eqb-true, ltb-true, lt-ltb, le-ltb}
use Rattle.laws.specs.Inner.Below.{all_at, all_of}
use Rattle.laws.specs.Columns.{number_at}
use Rattle.state_tables.specs.Sound.{blank_from, all_under, under_within, sound_column}

-- place i of a column may hold x
abbrev pub fits : ℕ → ℕ → ℕ → ℕ → Bool
fits most n i x = cond (ltb i n) (ltb x most) (eqb x 0)

pub fits_inside : (most n i x : ℕ) → i < n → x < most → fits most n i x ≡ true
fits_inside most n i x b l = rw (lt-ltb i n b, lt-ltb x most l)

pub fits_zero : (most n i : ℕ) → 0 < most → fits most n i 0 ≡ true
fits_zero most n i l = rw (lt-ltb 0 most l) (go (ltb i n))
  where
    go : (u : Bool) → cond u true true ≡ true
    go true = refl
    go false = refl

-- ---- its places

module _ (c : List ℕ) (most n places : ℕ) (h : sound_column c most n places ≡ true) where
  pub column_at : (i : ℕ) → i < places → fits most n i (number_at c i) ≡ true
  unfolding sound_column under_within
  column_at i b = all_at (λ i. fits most n i (number_at c i)) places h i b

  -- a place of the count is below the bound
  pub column_under : (i : ℕ) → i < places → i < n → number_at c i < most
  column_under i b l = let e : ltb (number_at c i) most ≡ true = rw (lt-ltb i n l) at (column_at i b) in ltb-true (number_at c i) most e

  -- zeros beyond
  pub column_zero : (i : ℕ) → i < places → n ≤ i → number_at c i ≡ 0
  column_zero i b l = let e : eqb (number_at c i) 0 ≡ true = rw (le-ltb i n l) at (column_at i b) in eqb-true (number_at c i) 0 e

  -- so any place is below the bound
  pub column_any : 0 < most → (i : ℕ) → i < places → number_at c i < most
  column_any l i b = go (dec_lt i n)
    where
      go : Dec (i < n) → number_at c i < most
      go (yes z) = column_under i b z
      go (no z) = omega (arith, column_zero i b (omega arith))

  pub column_all : n ≤ places → all_under c most n ≡ true
  unfolding all_under
  column_all l = all_of (λ i. ltb (number_at c i) most) n (λ i b. lt-ltb (number_at c i) most (column_under i (omega arith) b))

-- ---- what makes it

-- a place beyond the count holds zero
pub blank_at_lem : (c : List ℕ) (n places : ℕ) → blank_from c n places ≡ true → (i : ℕ) → i < places → n ≤ i → number_at c i ≡ 0
unfolding blank_from
blank_at_lem c n places h i b g =
    let e : eqb (number_at c i) 0 ≡ true = rw (le-ltb i n g) at (all_at (λ i. ltb i n || eqb (number_at c i) 0) places h i b) in
    eqb-true (number_at c i) 0 e

pub under_at : (c : List ℕ) (most n : ℕ) → all_under c most n ≡ true → (i : ℕ) → i < n → number_at c i < most
unfolding all_under
under_at c most n h i b = ltb-true (number_at c i) most (all_at (λ i. ltb (number_at c i) most) n h i b)

-- and so fewer places, and below a larger bound
pub under_fewer : (c : List ℕ) (most n m : ℕ) → m ≤ n → all_under c most n ≡ true → all_under c most m ≡ true
unfolding all_under
under_fewer c most n m l h = all_of (λ i. ltb (number_at c i) most) m (λ i b. lt-ltb (number_at c i) most (under_at c most n h i (omega arith)))

pub under_wider : (c : List ℕ) (most more n : ℕ) → most ≤ more → all_under c most n ≡ true → all_under c more n ≡ true
unfolding all_under
under_wider c most more n l h = all_of (λ i. ltb (number_at c i) more) n (λ i b. lt-ltb (number_at c i) more (omega (arith, under_at c most n h i b)))

column_of_lem : (c : List ℕ) (most n places : ℕ) → ((i : ℕ) → i < places → fits most n i (number_at c i) ≡ true) → sound_column c most n places ≡ true
unfolding sound_column under_within
column_of_lem c most n places f = all_of (λ i. fits most n i (number_at c i)) places f

-- rows of a plan, and zeros beyond them
pub column_made : (c : List ℕ) (most n places : ℕ) → all_under c most n ≡ true → blank_from c n places ≡ true → sound_column c most n places ≡ true
column_made c most n places u z = column_of_lem c most n places (λ i b. go i b (dec_lt i n))
  where
    go : (i : ℕ) → i < places → Dec (i < n) → fits most n i (number_at c i) ≡ true
    go i b (yes l) = fits_inside most n i (number_at c i) l (under_at c most n u i l)
    go i b (no l) = rw (le-ltb i n (omega arith), blank_at_lem c n places z i b (omega arith))

-- nothing but zeros, as a fresh state has it of what events change
pub column_zeros : (most n places : ℕ) → 0 < most → sound_column (replicate places 0) most n places ≡ true
column_zeros most n places l = column_of_lem (replicate places 0) most n places (λ i b. rw (get_or-replicate {A = ℕ} places i 0 0 b) (fits_zero most n i l))

-- ---- what keeps it

module _ (c : List ℕ) (most n places : ℕ) (h : sound_column c most n places ≡ true) where
  -- another column that differs from it at p alone, where it has v
  pub column_turned : (d : List ℕ) (p v : ℕ) → ((i : ℕ) → i < places → number_at d i ≡ cond (eqb i p) v (number_at c i)) → fits most n p v ≡ true → sound_column d most n places ≡ true
  column_turned d p v e f = column_of_lem d most n places (λ i b. rw (e i b) (go i b (eqb i p) refl))
    where
      go : (i : ℕ) → i < places → (t : Bool) → eqb i p ≡ t → fits most n i (cond t v (number_at c i)) ≡ true
      go i b true q = rw (eqb-true i p q) f
      go i b false q = column_at c most n places h i b

  -- a store to a place of the count
  pub column_set : (l v : ℕ) → l < n → v < most → sound_column (set c l v) most n places ≡ true
  column_set l v b w = column_of_lem (set c l v) most n places (λ i q. go i q (ℕ_discrete i l) (dec_lt l (length c)))
    where
      go : (i : ℕ) → i < places → Dec (i ≡ l) → Dec (l < length c) → fits most n i (number_at (set c l v) i) ≡ true
      go i q (yes z) (yes u) = rw (z, get_or-set_same c l v 0 u) (fits_inside most n l v b w)
      go i q (yes z) (no u) = rw (set_out c l v (omega arith)) (column_at c most n places h i q)
      go i q (no z) u = rw (get_or-set_other c l i v 0 z) (column_at c most n places h i q)
