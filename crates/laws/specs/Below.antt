-- Of the numbers below a count: whether some of them, whether all have a property, the first and the last
-- that has it, how many have it; and their lists, joined.
-- Assumes nothing.
use Rattle.std.specs.Prelude.{ℕ, zero, suc, ◌+◌, Bool, true, false, ◌||◌, ◌&&◌, cond, List, [], ◌∷◌, ◌++◌, ltb}

-- whether some number below n has f
unfoldable pub any_below : (ℕ → Bool) → ℕ → Bool
any_below f zero = false
any_below f (suc n) = any_below f n || f n

-- whether every number below n has f
unfoldable pub all_below : (ℕ → Bool) → ℕ → Bool
all_below f zero = true
all_below f (suc n) = all_below f n && f n

module _ {A : Type 0} where
  -- the lists of the numbers below n, one after the other
  unfoldable pub concat_below : (ℕ → List A) → ℕ → List A
  concat_below f zero = []
  concat_below f (suc n) = concat_below f n ++ f n

  -- one element where b holds, else none
  abbrev pub when : Bool → A → List A
  when b x = cond b (x ∷ []) []

-- the least number below n that has f, and n if there is none
unfoldable pub first_below : (ℕ → Bool) → ℕ → ℕ
first_below f zero = 0
first_below f (suc n) = cond (ltb (first_below f n) n) (first_below f n) (cond (f n) n (suc n))

-- the greatest one, and n if there is none
unfoldable pub last_below : (ℕ → Bool) → ℕ → ℕ
last_below f zero = 0
last_below f (suc n) = cond (f n) n (cond (ltb (last_below f n) n) (last_below f n) (suc n))

-- how many numbers below n have f
abbrev pub one : Bool → ℕ
one t = cond t 1 0

unfoldable pub count_below : (ℕ → Bool) → ℕ → ℕ
count_below f zero = 0
count_below f (suc n) = count_below f n + one (f n)
