-- Laws of specs/Below.antt, and definitions that only code and proofs use.
-- Assumes nothing.
use Prim.Native.Nat.{ℕ, zero, suc, ◌+◌, ◌-◌, ◌*◌, ◌<◌, ◌≤◌}
use Rattle.std.specs.Prelude.{◌≡◌, Bool, true, false, ◌||◌, ◌&&◌, List, [], ◌++◌, ◌⊎◌, length}
use Rattle.std.proofs.Math.Path.{refl}
use Rattle.std.proofs.Common.{ap, ◌∙◌, sym, inl, inr, arith, suc-mul, not-suc-le-zero, add-zero, add-suc, lt-ltb, le-ltb, length-append}
use Rattle.std.proofs.lemmas.Bool.{false≢true}
use Rattle.std.proofs.Math.Numerals.{add-one}
use Rattle.std.proofs.Math.Nat.{zero-mul}
use Rattle.std.proofs.Math.Decide.{dec_lt}
use mir.Val.{bool_byte}
use Rattle.laws.specs.Below.{any_below, all_below, concat_below, when, first_below, one, count_below}

pub any_none : (f : ℕ → Bool) → any_below f 0 ≡ false
unfolding any_below
any_none f = refl

pub any_more : (f : ℕ → Bool) (n : ℕ) → any_below f (n + 1) ≡ (any_below f n || f n)
unfolding any_below
any_more f n = rw add-one

pub all_none : (f : ℕ → Bool) → all_below f 0 ≡ true
unfolding all_below
all_none f = refl

pub all_more : (f : ℕ → Bool) (n : ℕ) → all_below f (n + 1) ≡ (all_below f n && f n)
unfolding all_below
all_more f n = rw add-one

-- both parts of a true conjunction are true
pub both_true : (u v : Bool) → (u && v) ≡ true → (u ≡ true) × (v ≡ true)
both_true true v h = (refl, h)
both_true false v h = absurd (false≢true h)

all_last : (f : ℕ → Bool) (n i : ℕ) → i < suc n → (i < n → f i ≡ true) → f n ≡ true → Dec (i < n) → f i ≡ true
all_last f n i q g e (yes l) = g l
all_last f n i q g e (no l) = let z : i ≡ n = omega arith in rw z e

pub all_at : (f : ℕ → Bool) (n : ℕ) → all_below f n ≡ true → (i : ℕ) → i < n → f i ≡ true
unfolding all_below
all_at f zero h i q = absurd (not-suc-le-zero q)
all_at f (suc n) h i q =
    let e = both_true (all_below f n) (f n) h in
    all_last f n i q (λ l. all_at f n e.0 i l) e.1 (dec_lt i n)

-- a loop over the numbers: one more passes
pub all_next : (f : ℕ → Bool) (k : ℕ) → all_below f k ≡ true → f k ≡ true → all_below f (k + 1) ≡ true
all_next f k a e = all_more f k ∙ rw (a, e)

-- one fails
pub all_not : (f : ℕ → Bool) (n k : ℕ) → k < n → f k ≡ false → all_below f n ≡ false
all_not f n k h e = go (all_below f n) refl
  where
    go : (b : Bool) → all_below f n ≡ b → b ≡ false
    go false a = refl
    go true a = absurd (false≢true (sym e ∙ all_at f n a k h))

-- at a loop's end: what is known at the count is known at the bound
pub at_end : {A : Type 0} (f : ℕ → A) {x : A} {n k : ℕ} → x ≡ f k → n ≤ k → k ≤ n → x ≡ f n
at_end f {n = n} {k = k} h p q = let e : k ≡ n = omega arith in h ∙ ap f e

module _ {A : Type 0} where
  pub concat_none : (f : ℕ → List A) → concat_below f 0 ≡ []
  unfolding concat_below
  concat_none f = refl

  pub concat_more : (f : ℕ → List A) (n : ℕ) → concat_below f (n + 1) ≡ concat_below f n ++ f n
  unfolding concat_below
  concat_more f n = rw add-one

  pub when_short : (b : Bool) (x : A) → length (when b x) ≤ 1
  when_short true x = omega arith
  when_short false x = omega arith

  pub concat_short : (f : ℕ → List A) (k : ℕ) → ((i : ℕ) → length (f i) ≤ k) → (n : ℕ) → length (concat_below f n) ≤ n * k
  unfolding concat_below
  concat_short f k h zero = rw zero-mul (omega arith)
  concat_short f k h (suc n) = rw (length-append, suc-mul) (omega (arith, h n, concat_short f k h n))

pub any_ext : (f g : ℕ → Bool) (n : ℕ) → ((i : ℕ) → i < n → f i ≡ g i) → any_below f n ≡ any_below g n
unfolding any_below
any_ext f g zero h = refl
any_ext f g (suc n) h = rw (any_ext f g n (λ i q. h i (omega arith)), h n (omega arith))

module _ {A : Type 0} where
  pub concat_ext : (f g : ℕ → List A) (n : ℕ) → ((i : ℕ) → i < n → f i ≡ g i) → concat_below f n ≡ concat_below g n
  unfolding concat_below
  concat_ext f g zero h = refl
  concat_ext f g (suc n) h = rw (concat_ext f g n (λ i q. h i (omega arith)), h n (omega arith))

pub first_none : (f : ℕ → Bool) → first_below f 0 ≡ 0
unfolding first_below
first_none f = refl

-- a search that has found nothing below n goes on
pub first_more : (f : ℕ → Bool) (n : ℕ) → first_below f n ≡ n → f n ≡ false → first_below f (n + 1) ≡ n + 1
unfolding first_below
first_more f n h e = rw (add-one, h, le-ltb n n (omega arith), e)

-- and one that finds n there is done
pub first_found : (f : ℕ → Bool) (n k : ℕ) → first_below f n ≡ n → f n ≡ true → first_below f (n + 1 + k) ≡ n
unfolding first_below
first_found f n zero h e = rw (add-zero, add-one, h, le-ltb n n (omega arith), e)
first_found f n (suc k) h e =
    rw (add-suc (n + 1) k, first_found f n k h e, lt-ltb n (n + 1 + k) (omega arith))

pub first_at : (f : ℕ → Bool) (n m : ℕ) → first_below f n ≡ n → f n ≡ true → n < m → first_below f m ≡ n
first_at f n m h e q = let z : n + 1 + (m - (n + 1)) ≡ m = omega arith in rw z at (first_found f n (m - (n + 1)) h e)

pub count_none : (f : ℕ → Bool) → count_below f 0 ≡ 0
unfolding count_below
count_none f = refl

pub count_more : (f : ℕ → Bool) (n : ℕ) → count_below f (n + 1) ≡ count_below f n + one (f n)
unfolding count_below
count_more f n = rw add-one

pub one_small : (t : Bool) → one t ≤ 1
one_small true = omega arith
one_small false = omega arith

-- a test as a number: what `u32::from` gives
pub from_one : (t : Bool) → bool_byte t ≡ one t
from_one true = refl
from_one false = refl

pub from_small : (t : Bool) → bool_byte t ≤ 1
from_small true = omega arith
from_small false = omega arith

pub count_small : (f : ℕ → Bool) (n : ℕ) → count_below f n ≤ n
unfolding count_below
count_small f zero = omega arith
count_small f (suc n) = omega (arith, count_small f n, one_small (f n))

pub all_of : (f : ℕ → Bool) (n : ℕ) → ((i : ℕ) → i < n → f i ≡ true) → all_below f n ≡ true
unfolding all_below
all_of f zero h = refl
all_of f (suc n) h = rw (all_of f n (λ i q. h i (omega arith)), h n (omega arith))

-- what a search over the numbers below n says of each
or_false : (u v : Bool) → (u || v) ≡ false → (u ≡ false) × (v ≡ false)
or_false true v h = absurd (false≢true (sym h))
or_false false v h = (refl, h)

pub any_not : (f : ℕ → Bool) (n : ℕ) → any_below f n ≡ false → (i : ℕ) → i < n → f i ≡ false
unfolding any_below
any_not f zero h i q = absurd (not-suc-le-zero q)
any_not f (suc n) h i q = let e = or_false (any_below f n) (f n) h in last (dec_lt i n) (λ l. any_not f n e.0 i l) e.1
  where
    last : Dec (i < n) → (i < n → f i ≡ false) → f n ≡ false → f i ≡ false
    last (yes l) g e = g l
    last (no l) g e = let z : i ≡ n = omega arith in rw z e

pub any_in : (f : ℕ → Bool) (n i : ℕ) → i < n → f i ≡ true → any_below f n ≡ true
any_in f n i q h = go (any_below f n) refl
  where
    go : (u : Bool) → any_below f n ≡ u → u ≡ true
    go true e = refl
    go false e = absurd (false≢true (sym (any_not f n e i q) ∙ h))

or_true : (u v : Bool) → (u || v) ≡ true → (u ≡ true) ⊎ (v ≡ true)
or_true true v h = inl refl
or_true false v h = inr h

pub any_at : (f : ℕ → Bool) (n : ℕ) → any_below f n ≡ true → (i : ℕ) × (i < n) × (f i ≡ true)
unfolding any_below
any_at f zero h = absurd (false≢true h)
any_at f (suc n) h = go (or_true (any_below f n) (f n) h) (any_at f n)
  where
    go : (any_below f n ≡ true) ⊎ (f n ≡ true) → (any_below f n ≡ true → (i : ℕ) × (i < n) × (f i ≡ true)) → (i : ℕ) × (i < suc n) × (f i ≡ true)
    go (inl e) g = let x = g e in (x.0, omega (arith, x.1), x.2)
    go (inr e) g = (n, omega arith, e)

module _ {A : Type 0} where
  pub when_nil : (b : Bool) (x : A) → when b x ++ [] ≡ when b x
  when_nil true x = refl
  when_nil false x = refl

  pub concat_empty : (n : ℕ) → ◌≡◌ {A = List A} (concat_below (λ (i : ℕ). []) n) []
  unfolding concat_below
  concat_empty zero = refl
  concat_empty (suc n) = rw (concat_empty n)
