-- A property of every element of a list, by the ways in which the rules put lists of actions together.
-- Assumes nothing.
use mathlib.Core.Bool.{Bool, true, false, cond}
use mathlib.Core.List.{List, [], ◌∷◌, ◌++◌}
use Prim.Native.Nat.{ℕ, zero, suc, ◌<◌}
use native.Mathlib.Omega.{arith}
use lib.ListN.{length, get_or}
use Rattle.laws.specs.Below.{concat_below, when}

pub data Each {A : Type 0} (P : A → Type 0) : List A → Type 0 where
  each_none : Each P []
  each_more : {x : A} {xs : List A} → P x → Each P xs → Each P (x ∷ xs)

module _ {A : Type 0} {P : A → Type 0} where
  pub each_append : (xs ys : List A) → Each P xs → Each P ys → Each P (xs ++ ys)
  each_append [] ys h k = k
  each_append (x ∷ xs) ys (each_more p h) k = each_more p (each_append xs ys h k)

  -- a list that a test chooses
  pub each_cond : (u : Bool) (xs ys : List A) → Each P xs → Each P ys → Each P (cond u xs ys)
  each_cond true xs ys h k = h
  each_cond false xs ys h k = k

  pub each_when : (u : Bool) (x : A) → P x → Each P (when u x)
  each_when u x h = each_cond u (x ∷ []) [] (each_more h each_none) each_none

  -- the lists of the numbers below a count
  pub each_below : (f : ℕ → List A) (n : ℕ) → ((i : ℕ) → Each P (f i)) → Each P (concat_below f n)
  unfolding concat_below
  each_below f zero h = each_none
  each_below f (suc n) h = each_append (concat_below f n) (f n) (each_below f n h) (h n)

  pub each_at : (xs : List A) (i : ℕ) (d : A) → Each P xs → i < length xs → P (get_or xs i d)
  each_at [] i d h q = absurd (omega arith)
  each_at (x ∷ xs) zero d (each_more p h) q = p
  each_at (x ∷ xs) (suc i) d (each_more p h) q = each_at xs i d h (omega arith)
