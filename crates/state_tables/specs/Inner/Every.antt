-- That every number of a range passes a test, which is code: what the code may answer is all that is known of
-- it.
-- Assumes nothing.
use Rattle.std.specs.Prelude.{ℕ, suc, ◌+◌, ◌<◌, ◌≤◌, ◌≡◌, Bool, true, ◌||◌, ◌&&◌, ltb}
use Rattle.std.proofs.Common.{◌∙◌, sym, arith, lt-ltb, le-ltb}
use Rattle.laws.specs.Below.{all_below}
use Rattle.laws.specs.Inner.Below.{all_of}
use Rattle.laws.specs.Inner.Every.{all_ext}

-- `gives` says what the test may answer to a number: where that is what f says, all from the first one on and
-- below the end are asked
pub record EveryFrom (gives : ℕ → Bool → Type 0) (first end : ℕ) (ok : Bool) : Type 0 where
  pub past : (f : ℕ → Bool) → ((i : ℕ) (b : Bool) → i < end → gives i b → b ≡ f i) → ok ≡ all_below (λ i. ltb i first || f i) end

-- all below n
pub record Every (gives : ℕ → Bool → Type 0) (n : ℕ) (ok : Bool) : Type 0 where
  pub is : (f : ℕ → Bool) → ((i : ℕ) (b : Bool) → i < n → gives i b → b ≡ f i) → ok ≡ all_below f n

-- ---- laws

pub every_none : (gives : ℕ → Bool → Type 0) (first : ℕ) → EveryFrom gives first first true
every_none gives first = record { past = λ f e. sym (all_of (λ i. ltb i first || f i) first (λ i l. rw (lt-ltb i first l))) }

pub every_more : {gives : ℕ → Bool → Type 0} {first n : ℕ} {ok : Bool} (b : Bool) → first ≤ n → EveryFrom gives first n ok → gives n b → EveryFrom gives first (n + 1) (ok && b)
unfolding all_below
every_more {gives} {first} {n} {ok} b m h g = record { past = λ f e. next f e }
  where
    next : (f : ℕ → Bool) → ((i : ℕ) (b : Bool) → i < n + 1 → gives i b → b ≡ f i) → (ok && b) ≡ all_below (λ i. ltb i first || f i) (n + 1)
    next f e =
        let d : n + 1 ≡ suc n = omega arith in
        rw (d, h.past f (λ i c l k. e i c (omega arith) k), e n b (omega arith) g, le-ltb n first m)

pub every_all : {gives : ℕ → Bool → Type 0} {first m n : ℕ} {ok : Bool} → m ≡ n → EveryFrom gives first m ok → EveryFrom gives first n ok
every_all e h = rw e at h

pub every_below : {gives : ℕ → Bool → Type 0} {n : ℕ} {ok : Bool} → EveryFrom gives 0 n ok → Every gives n ok
every_below {gives} {n} {ok} h = record { is = λ f e. h.past f e ∙ all_ext (λ i. ltb i 0 || f i) f n (λ i l. rw (le-ltb i 0 (omega arith))) }
