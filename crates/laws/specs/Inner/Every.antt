-- Further laws on `all_below`: equal tests, and two tests at once. And two Bools that hold together, or
-- cannot.
-- Assumes nothing.
use Rattle.std.specs.Prelude.{ℕ, zero, suc, ◌<◌, ◌≤◌, ◌≡◌, refl, Bool, true, false, ◌&&◌, ◌||◌}
use Rattle.std.proofs.Common.{◌∙◌, sym, arith}
use Rattle.std.proofs.lemmas.Bool.{false≢true}
use Rattle.std.proofs.Math.Decide.{dec_lt}
use Rattle.laws.specs.Below.{all_below, count_below, any_below}
use Rattle.laws.specs.Inner.Below.{any_at, any_in, all_of, all_at}

pub all_ext : (f g : ℕ → Bool) (n : ℕ) → ((i : ℕ) → i < n → f i ≡ g i) → all_below f n ≡ all_below g n
unfolding all_below
all_ext f g zero h = refl
all_ext f g (suc n) h = rw (all_ext f g n (λ i q. h i (omega arith)), h n (omega arith))

-- the parts of a conjunction
pub and_left : (u v : Bool) → (u && v) ≡ true → u ≡ true
and_left true v h = refl
and_left false v h = h

pub and_right : (u v : Bool) → (u && v) ≡ true → v ≡ true
and_right true v h = h
and_right false v h = absurd (false≢true h)

pub and_both : (u v : Bool) → u ≡ true → v ≡ true → (u && v) ≡ true
and_both u v p q = rw (p, q)

-- of two tests one holds
pub or_case : {A : Type 0} (u v : Bool) → (u || v) ≡ true → (u ≡ true → A) → (v ≡ true → A) → A
or_case true v h f g = f refl
or_case false v h f g = g h

-- a test that fails and holds
pub clash : {A : Type 0} (t : Bool) → t ≡ false → t ≡ true → A
clash t f h = absurd (false≢true (sym f ∙ h))

pub false_of : (t : Bool) → (t ≡ true → ⊥) → t ≡ false
false_of true h = absurd (h refl)
false_of false h = refl

pub count_not : (f : ℕ → Bool) (n : ℕ) → ((i : ℕ) → i < n → f i ≡ false) → count_below f n ≡ 0
unfolding count_below
count_not f zero h = refl
count_not f (suc n) h = rw (count_not f n (λ i q. h i (omega arith)), h n (omega arith))

-- two tests that imply each other are equal
pub same_truth : (u v : Bool) → (u ≡ true → v ≡ true) → (v ≡ true → u ≡ true) → u ≡ v
same_truth true v f g = sym (f refl)
same_truth false true f g = g refl
same_truth false false f g = refl

-- numbers without f add nothing to whether some number has it
pub any_rest : (f : ℕ → Bool) (l n : ℕ) → l ≤ n → ((j : ℕ) → l ≤ j → j < n → f j ≡ false) → any_below f n ≡ any_below f l
any_rest f l n b h = same_truth (any_below f n) (any_below f l) (λ e. let x = any_at f n e in go x.0 x.1 x.2 (dec_lt x.0 l)) (λ e. let x = any_at f l e in any_in f n x.0 (omega (arith, x.1)) x.2)
  where
    go : (i : ℕ) → i < n → f i ≡ true → Dec (i < l) → any_below f l ≡ true
    go i p q (yes z) = any_in f l i z q
    go i p q (no z) = absurd (false≢true (sym (h i (omega arith) p) ∙ q))

-- two tests at once
pub all_two : (f g : ℕ → Bool) (n : ℕ) → all_below (λ i. f i && g i) n ≡ (all_below f n && all_below g n)
all_two f g n =
    same_truth (all_below (λ i. f i && g i) n) (all_below f n && all_below g n)
    (λ h. and_both (all_below f n) (all_below g n) (all_of f n (λ i b. and_left (f i) (g i) (all_at (λ i. f i && g i) n h i b))) (all_of g n (λ i b. and_right (f i) (g i) (all_at (λ i. f i && g i) n h i b))))
    (λ h. all_of (λ i. f i && g i) n (λ i b. and_both (f i) (g i) (all_at f n (and_left (all_below f n) (all_below g n) h) i b) (all_at g n (and_right (all_below f n) (all_below g n) h) i b)))
