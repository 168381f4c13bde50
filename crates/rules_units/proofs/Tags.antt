-- Actions beside the indices of units: each Data to an ASP has the next index, any other action has none.
-- Assumes nothing.
use mathlib.Core.Path.{◌≡◌, refl, ap, ◌∙◌, sym}
use mathlib.Core.Bool.{Bool, true, false, false≢true}
use mathlib.Core.List.{List, [], ◌∷◌, ◌++◌, append-nil, append_assoc}
use Prim.Native.Nat.{ℕ, zero, suc, ◌+◌, ◌*◌, ◌<◌}
use native.Mathlib.Numerals.{add-one}
use native.Mathlib.Nat.{add-zero, add-suc, not-suc-le-zero}
use native.Mathlib.Omega.{arith}
use lib.ListN.{length, get_or}
use Rattle.laws.specs.Below.{concat_below, count_below, one}
use Rattle.laws.specs.Inner.Below.{concat_empty}
use Rattle.rules_action.specs.declared.Action.{Action}
use Rattle.rules_event.specs.Sent.{action_at, is_data}
use Rattle.rules_units.specs.Inner.Counted.{data_before}

-- P is what an index says of its Data
pub data Tagged (P : Action → ℕ → Type 0) : List Action → List ℕ → Type 0 where
  done : Tagged P [] []
  other : {o : Action} {os : List Action} {is : List ℕ} → is_data o ≡ false → Tagged P os is → Tagged P (o ∷ os) is
  tag : {o : Action} {os : List Action} {i : ℕ} {is : List ℕ} → is_data o ≡ true → P o i → Tagged P os is → Tagged P (o ∷ os) (i ∷ is)

-- ---- the count of the Data before a place, from the first on

count_first : (f : ℕ → Bool) (n : ℕ) → count_below f (suc n) ≡ count_below (λ m. f (suc m)) n + one (f 0)
unfolding count_below
count_first f zero = refl
count_first f (suc n) = rw (count_first f n) (omega arith)

data_other : (o : Action) (os : List Action) (n : ℕ) → is_data o ≡ false → data_before (o ∷ os) (suc n) ≡ data_before os n
unfolding data_before action_at
data_other o os n e = count_first (λ m. is_data (action_at (o ∷ os) m)) n ∙ rw (e, add-zero)

data_tag_lem : (o : Action) (os : List Action) (n : ℕ) → is_data o ≡ true → data_before (o ∷ os) (suc n) ≡ suc (data_before os n)
unfolding data_before action_at
data_tag_lem o os n e = count_first (λ m. is_data (action_at (o ∷ os) m)) n ∙ rw (e, add-one)

-- ---- a Data has the index of its rank

module _ {P : Action → ℕ → Type 0} where
  pub tagged_at : {os : List Action} {is : List ℕ} → Tagged P os is → (n : ℕ) → n < length os → is_data (action_at os n) ≡ true → P (action_at os n) (get_or is (data_before os n) 0)
  unfolding action_at data_before count_below
  tagged_at done n b d = absurd (not-suc-le-zero b)
  tagged_at (other e t) zero b d = absurd (false≢true (sym e ∙ d))
  tagged_at (other {o} {os} e t) (suc n) b d = rw (data_other o os n e) (tagged_at t n (omega arith) d)
  tagged_at (tag e p t) zero b d = p
  tagged_at (tag {o} {os} e p t) (suc n) b d = rw (data_tag_lem o os n e) (tagged_at t n (omega arith) d)

  -- where no index is left there is no Data
  pub untagged : {os : List Action} → Tagged P os [] → (n : ℕ) → n < length os → is_data (action_at os n) ≡ true → ⊥
  unfolding action_at
  untagged done n b d = absurd (not-suc-le-zero b)
  untagged (other e t) zero b d = absurd (false≢true (sym e ∙ d))
  untagged (other e t) (suc n) b d = untagged t n (omega arith) d

  -- ---- lists put together

  pub tagged_append : {os rs : List Action} {is js : List ℕ} → Tagged P os is → Tagged P rs js → Tagged P (os ++ rs) (is ++ js)
  tagged_append done u = u
  tagged_append (other e t) u = other e (tagged_append t u)
  tagged_append (tag e p t) u = tag e p (tagged_append t u)

  pub tagged_below : (f : ℕ → List Action) (t : ℕ → List ℕ) (n : ℕ) → ((i : ℕ) → i < n → Tagged P (f i) (t i)) → Tagged P (concat_below f n) (concat_below t n)
  unfolding concat_below
  tagged_below f t zero h = done
  tagged_below f t (suc n) h = tagged_append (tagged_below f t n (λ i b. h i (omega arith))) (h n (omega arith))

  pub untagged_below : (f : ℕ → List Action) (n : ℕ) → ((i : ℕ) → i < n → Tagged P (f i) []) → Tagged P (concat_below f n) []
  untagged_below f n h = rw (concat_empty n) at (tagged_below f (λ i. []) n h)

-- ---- the numbers below n * 8, eight by eight

concat_add : {A : Type 0} (f : ℕ → List A) (m n : ℕ) → concat_below f (m + n) ≡ concat_below f m ++ concat_below (λ k. f (m + k)) n
unfolding concat_below
concat_add f m zero = rw (add-zero, append-nil)
concat_add f m (suc n) = rw (add-suc, ← append_assoc, ← concat_add f m n)

pub concat_rows : {A : Type 0} (f : ℕ → List A) (n : ℕ) → concat_below f (n * 8) ≡ concat_below (λ a. concat_below (λ k. f (a * 8 + k)) 8) n
unfolding concat_below
concat_rows f zero = refl
concat_rows f (suc n) = let e : suc n * 8 ≡ n * 8 + 8 = omega arith in ap (concat_below f) e ∙ concat_add f (n * 8) 8 ∙ rw (concat_rows f n)
