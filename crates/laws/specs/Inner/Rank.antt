-- Counting below a number: a test that holds up to a point, the one of a given rank, a count in parts; what a
-- search finds, or that it finds nothing.
-- Assumes nothing.
use Rattle.std.specs.Prelude.{ℕ, zero, suc, ◌+◌, ◌-◌, ◌<◌, ◌≤◌, ◌≡◌, refl, Bool, true, false, ◌&&◌, cond, ltb, eqb}
use Rattle.std.proofs.Common.{ap, ◌∙◌, sym, arith, not-suc-le-zero, add-zero, add-suc, lt-ltb, le-ltb, eq-eqb, ne_eqb, eqb-true}
use Rattle.std.proofs.Math.Decide.{dec_lt, ℕ_discrete}
use Rattle.laws.specs.Below.{all_below, first_below, last_below, count_below, one}
use Rattle.laws.specs.Inner.Below.{count_small, all_at, all_of}
use Rattle.laws.specs.Inner.Every.{count_not, same_truth}

-- a test that holds of all below n is counted n times
pub count_all : (f : ℕ → Bool) (n : ℕ) → ((i : ℕ) → i < n → f i ≡ true) → count_below f n ≡ n
unfolding count_below
count_all f zero h = refl
count_all f (suc n) h = rw (count_all f n (λ i q. h i (omega arith)), h n (omega arith)) (omega arith)

-- a test that holds of each number before one of which it holds, holds of just those below its count
pub count_prefix : (f : ℕ → Bool) (n : ℕ) → ((i j : ℕ) → i < j → j < n → f j ≡ true → f i ≡ true) → (i : ℕ) → i < n → f i ≡ ltb i (count_below f n)
unfolding count_below
count_prefix f zero m i b = absurd (not-suc-le-zero b)
count_prefix f (suc n) m i b = go (f n) refl (λ l. count_prefix f n (λ i j p q. m i j p (omega arith)) i l)
  where
    last : Dec (i < n) → (i < n → f i ≡ ltb i (count_below f n)) → f n ≡ false → f i ≡ ltb i (count_below f n + 0)
    last (yes l) g e = g l ∙ ap (ltb i) (omega arith)
    last (no l) g e =
        let z : i ≡ n = omega arith in
        rw z (e ∙ sym (le-ltb n (count_below f n + 0) (omega (arith, count_small f n))))

    every : f n ≡ true → (k : ℕ) → k < n → f k ≡ true
    every e k q = m k n q (omega arith) e

    first : Dec (i < n) → f n ≡ true → f i ≡ true
    first (yes l) e = every e i l
    first (no l) e = let z : i ≡ n = omega arith in rw z e

    go : (u : Bool) → f n ≡ u → (i < n → f i ≡ ltb i (count_below f n)) → f i ≡ ltb i (count_below f n + one (f n))
    go true e g = first (dec_lt i n) e ∙ sym (rw e (lt-ltb i (count_below f n + 1) (omega (arith, count_all f n (every e)))))
    go false e g = rw e (last (dec_lt i n) g e)

-- a search that finds nothing
pub first_not : (f : ℕ → Bool) (n : ℕ) → ((i : ℕ) → i < n → f i ≡ false) → first_below f n ≡ n
unfolding first_below
first_not f zero h = refl
first_not f (suc n) h =
    rw (first_not f n (λ i q. h i (omega arith)), le-ltb n n (omega arith), h n (omega arith))

-- of the numbers below n that have f, just one has p of them before it, if there are more than p
pub rank_one : (f : ℕ → Bool) (p n : ℕ) → count_below (λ q. f q && eqb (count_below f q) p) n ≡ one (ltb p (count_below f n))
unfolding count_below
rank_one f p zero = rw (le-ltb p 0 (omega arith))
rank_one f p (suc n) = rw (rank_one f p n) (go (f n) (dec_lt p (count_below f n)) (ℕ_discrete (count_below f n) p))
  where
    go : (u : Bool) → Dec (p < count_below f n) → Dec (count_below f n ≡ p) → one (ltb p (count_below f n)) + one (u && eqb (count_below f n) p) ≡ one (ltb p (count_below f n + one u))
    go true (yes l) e = rw (lt-ltb p (count_below f n) l, ne_eqb (count_below f n) p (λ z. omega arith), lt-ltb p (count_below f n + 1) (omega arith))
    go true (no l) (yes e) = rw (le-ltb p (count_below f n) (omega arith), eq-eqb (count_below f n) p e, lt-ltb p (count_below f n + 1) (omega arith))
    go true (no l) (no e) = rw (le-ltb p (count_below f n) (omega arith), ne_eqb (count_below f n) p e, le-ltb p (count_below f n + 1) (omega arith))
    go false d e = let z : count_below f n + 0 ≡ count_below f n = omega arith in rw z (omega arith)

-- what a search finds below n has f
pub first_hit : (f : ℕ → Bool) (n : ℕ) → first_below f n < n → f (first_below f n) ≡ true
unfolding first_below
first_hit f zero h = absurd (not-suc-le-zero h)
first_hit f (suc n) h = go (dec_lt (first_below f n) n) (f n) refl (first_hit f n) h
  where
    go : Dec (first_below f n < n) → (u : Bool) → f n ≡ u → (first_below f n < n → f (first_below f n) ≡ true) → cond (ltb (first_below f n) n) (first_below f n) (cond (f n) n (suc n)) < suc n → f (cond (ltb (first_below f n) n) (first_below f n) (cond (f n) n (suc n))) ≡ true
    go (yes z) u e g k = rw (lt-ltb (first_below f n) n z) (g z)
    go (no z) true e g k = rw (le-ltb (first_below f n) n (omega arith), e) e
    go (no z) false e g k =
        let q : suc n < suc n = rw (le-ltb (first_below f n) n (omega arith), e) at k in
        let w : ⊥ = omega arith in
        absurd w

-- a search for the last finds the one after which none has f
pub last_at : (f : ℕ → Bool) (n k : ℕ) → k < n → f k ≡ true → ((i : ℕ) → k < i → i < n → f i ≡ false) → last_below f n ≡ k
unfolding last_below
last_at f zero k b e h = absurd (not-suc-le-zero b)
last_at f (suc n) k b e h = go (dec_lt k n) (λ l. last_at f n k l e (λ i p q. h i p (omega arith)))
  where
    go : Dec (k < n) → (k < n → last_below f n ≡ k) → cond (f n) n (cond (ltb (last_below f n) n) (last_below f n) (suc n)) ≡ k
    go (yes l) g = rw (h n l (omega arith), g l, lt-ltb k n l)
    go (no l) g = let z : n ≡ k = omega arith in let w : f n ≡ true = rw z e in rw w z

-- a count in two parts
pub count_split : (f : ℕ → Bool) (m n : ℕ) → count_below f (m + n) ≡ count_below f m + count_below (λ j. f (m + j)) n
unfolding count_below
count_split f m zero = rw (add-zero m, add-zero (count_below f m))
count_split f m (suc n) = rw (add-suc m n, count_split f m n) (omega arith)

-- numbers without f add nothing
pub count_rest : (f : ℕ → Bool) (m n : ℕ) → m ≤ n → ((j : ℕ) → m ≤ j → j < n → f j ≡ false) → count_below f n ≡ count_below f m
count_rest f m n b h =
    let z : m + (n - m) ≡ n = omega arith in
    let e : count_below (λ j. f (m + j)) (n - m) ≡ 0 = count_not (λ j. f (m + j)) (n - m) (λ j q. h (m + j) (omega arith) (omega arith)) in
    rw z at (count_split f m (n - m)) ∙ (rw e (omega arith))

-- all have f just where as many as there are have it
count_full : (f : ℕ → Bool) (n : ℕ) → count_below f n ≡ n → (i : ℕ) → i < n → f i ≡ true
unfolding count_below
count_full f zero e i b = absurd (not-suc-le-zero b)
count_full f (suc n) e i b = go (f n) refl (dec_lt i n) (λ c l. count_full f n c i l)
  where
    go : (u : Bool) → f n ≡ u → Dec (i < n) → (count_below f n ≡ n → i < n → f i ≡ true) → f i ≡ true
    go true z (yes l) g = let w : count_below f n + 1 ≡ suc n = rw z at e in g (omega arith) l
    go true z (no l) g = let w : i ≡ n = omega arith in rw w z
    go false z d g =
        let w : count_below f n + 0 ≡ suc n = rw z at e in
        let v : ⊥ = omega (arith, count_small f n) in
        absurd v

pub all_by_count : (f : ℕ → Bool) (n : ℕ) → all_below f n ≡ eqb (count_below f n) n
all_by_count f n =
    same_truth (all_below f n) (eqb (count_below f n) n)
    (λ e. eq-eqb (count_below f n) n (count_all f n (all_at f n e)))
    (λ e. all_of f n (count_full f n (eqb-true (count_below f n) n e)))
