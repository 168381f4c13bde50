-- Sums over the numbers below a count, and how many of a list of actions are Data to an ASP about a link of
-- AS a.
-- Assumes nothing.
use mathlib.Core.Path.{◌≡◌, refl, ap, ◌∙◌}
use mathlib.Core.Bool.{Bool, true, false, cond, not, ◌&&◌}
use mathlib.Core.List.{List, [], ◌∷◌, ◌++◌}
use Prim.Native.Nat.{ℕ, zero, suc, ◌+◌, ◌*◌, ◌<◌, ◌≤◌}
use native.Mathlib.Omega.{arith}
use native.Mathlib.Decide.{dec_lt, ℕ_discrete}
use lib.Dec.{eqb, ltb}
use lib.ListN.{length}
use borrow.Author.Tests.{eq-eqb, ne_eqb, lt-ltb, le-ltb}
use Rattle.laws.specs.Below.{one, count_below, concat_below}
use Rattle.state_tables.specs.declared.Gateway.{Gateway}
use Rattle.rules_action.specs.declared.Action.{Action}
use Rattle.rules_action.specs.Types.{user_data}
use Rattle.rules_action.specs.Words.{words_of, link_side}
use Rattle.rules_conserve.specs.Conserve.{is_data_of, is_data_at, least, sum_below}

-- ---- tests

pub and_yes : (t : Bool) → (t && true) ≡ t
and_yes true = refl
and_yes false = refl

pub and_no : (t : Bool) → (t && false) ≡ false
and_no true = refl
and_no false = refl

pub zero_either : (t : Bool) → ◌≡◌ {A = ℕ} 0 (cond t 0 0)
zero_either true = refl
zero_either false = refl

-- ---- sums

pub sum_ext : (f f' : ℕ → ℕ) (n : ℕ) → ((i : ℕ) → i < n → f i ≡ f' i) → sum_below f n ≡ sum_below f' n
unfolding sum_below
sum_ext f f' zero h = refl
sum_ext f f' (suc n) h = rw (sum_ext f f' n (λ i q. h i (omega arith)), h n (omega arith))

pub sum_none : (f : ℕ → ℕ) (n : ℕ) → ((i : ℕ) → i < n → f i ≡ 0) → sum_below f n ≡ 0
unfolding sum_below
sum_none f zero h = refl
sum_none f (suc n) h = omega (arith, sum_none f n (λ i q. h i (omega arith)), h n (omega arith))

-- one number alone has something
pub sum_single : (a x n : ℕ) → sum_below (λ i. cond (eqb i a) x 0) n ≡ cond (ltb a n) x 0
unfolding sum_below
sum_single a x zero = rw (le-ltb a 0 (omega arith))
sum_single a x (suc n) = rw (sum_single a x n) (go (dec_lt a n) (ℕ_discrete n a))
  where
    go : Dec (a < n) → Dec (n ≡ a) → cond (ltb a n) x 0 + cond (eqb n a) x 0 ≡ cond (ltb a (suc n)) x 0
    go (yes l) e = rw (lt-ltb a n l, ne_eqb n a (λ z. omega arith), lt-ltb a (suc n) (omega arith)) (omega arith)
    go (no l) (yes e) = rw (le-ltb a n (omega arith), eq-eqb n a e, lt-ltb a (suc n) (omega arith)) (omega arith)
    go (no l) (no e) = rw (le-ltb a n (omega arith), ne_eqb n a e, le-ltb a (suc n) (omega arith))

-- how many are below k
pub sum_upto : (k n : ℕ) → sum_below (λ i. one (ltb i k)) n ≡ least k n
unfolding sum_below
sum_upto k zero = rw (le-ltb k 0 (omega arith))
sum_upto k (suc n) = rw (sum_upto k n) (go (dec_lt n k) (ℕ_discrete n k))
  where
    go : Dec (n < k) → Dec (n ≡ k) → least k n + one (ltb n k) ≡ least k (suc n)
    go (yes l) e = rw (le-ltb k n (omega arith), lt-ltb n k l, le-ltb k (suc n) (omega arith)) (omega arith)
    go (no l) (yes e) = rw (e, le-ltb k k (omega arith), lt-ltb k (suc k) (omega arith)) (omega arith)
    go (no l) (no e) = rw (lt-ltb k n (omega arith), le-ltb n k (omega arith), lt-ltb k (suc n) (omega arith)) (omega arith)

pub least_is : (k n : ℕ) → k ≤ n → least k n ≡ k
least_is k n b = go (dec_lt k n)
  where
    go : Dec (k < n) → least k n ≡ k
    go (yes l) = rw (lt-ltb k n l)
    go (no l) = rw (le-ltb k n (omega arith)) (omega arith)

-- ---- Data among actions

unfoldable pub data_in : Gateway → ℕ → List Action → ℕ
data_in g a [] = 0
data_in g a (o ∷ os) = one (is_data_of g a o.to o.classtype o.subject) + data_in g a os

module _ (g : Gateway) (a : ℕ) where
  pub data_append : (os ps : List Action) → data_in g a (os ++ ps) ≡ data_in g a os + data_in g a ps
  unfolding data_in
  data_append [] ps = omega arith
  data_append (o ∷ os) ps = omega (arith, data_append os ps)

  pub data_concat : (f : ℕ → List Action) (n : ℕ) → data_in g a (concat_below f n) ≡ sum_below (λ i. data_in g a (f i)) n
  unfolding concat_below data_in sum_below
  data_concat f zero = refl
  data_concat f (suc n) = data_append (concat_below f n) (f n) ∙ rw (data_concat f n)

  -- any other action
  pub no_data : (q k s : ℕ) → eqb k user_data ≡ false → is_data_of g a q k s ≡ false
  no_data q k s e = rw e (and_no (not (eqb q link_side)))

  -- ---- as words

  front : (f : ℕ → Bool) (n : ℕ) → count_below f (suc n) ≡ one (f 0) + count_below (λ i. f (suc i)) n
  unfolding count_below
  front f zero = omega arith
  front f (suc n) = omega (arith, front f n)

  -- behind the four words of an action
  behind : (x y z v : ℕ) (ws : List ℕ) (i : ℕ) → is_data_at g a (x ∷ y ∷ z ∷ v ∷ ws) (suc i) ≡ is_data_at g a ws i
  unfolding is_data_at
  behind x y z v ws i =
      let e₀ : suc i * 4 ≡ suc (suc (suc (suc (i * 4)))) = omega arith in
      let e₁ : suc i * 4 + 1 ≡ suc (suc (suc (suc (i * 4 + 1)))) = omega arith in
      let e₂ : suc i * 4 + 2 ≡ suc (suc (suc (suc (i * 4 + 2)))) = omega arith in
      rw (e₁, e₂, e₀)

  pub data_words : (os : List Action) (ws : List ℕ) → count_below (is_data_at g a (words_of os ++ ws)) (length os) ≡ data_in g a os
  unfolding words_of data_in is_data_at count_below
  data_words [] ws = refl
  data_words (o ∷ os) ws =
      front (is_data_at g a (words_of (o ∷ os) ++ ws)) (length os)
      ∙ ap (λ (f : ℕ → Bool). one (is_data_of g a o.to o.classtype o.subject) + count_below f (length os)) (λ j i. behind o.to o.classtype o.subject o.value (words_of os ++ ws) i j)
      ∙ ap (λ (x : ℕ). one (is_data_of g a o.to o.classtype o.subject) + x) (data_words os ws)
