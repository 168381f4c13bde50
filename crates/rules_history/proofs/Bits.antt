-- Laws of Boolean tests, of choices, and of a place that is stored. Nothing here knows of the gateway.
-- Assumes nothing.
use mathlib.Core.Path.{◌≡◌, refl, sym, ap, ◌∙◌}
use mathlib.Core.Bool.{Bool, true, false, ◌&&◌, ◌||◌, cond}
use mathlib.Core.List.{List, [], ◌∷◌}
use Prim.Native.Nat.{ℕ, suc, ◌+◌, ◌-◌, ◌<◌, ◌≤◌}
use native.Mathlib.Omega.{arith}
use native.Mathlib.Decide.{dec_lt, ℕ_discrete}
use lib.ListN.{length, set, drop, length-set}
use lib.Seq.{ext_get_or, get_or-set_same, get_or-set_other, set_out, get_or-drop}
use Rattle.laws.specs.Columns.{number_at}
use Rattle.codec_put.specs.Bytes.{overlay}

pub or_left : {s : Bool} (t : Bool) → s ≡ true → (s || t) ≡ true
or_left t p = ap (λ (x : Bool). x || t) p

pub or_right : (s : Bool) {t : Bool} → t ≡ true → (s || t) ≡ true
or_right true p = refl
or_right false p = p

pub and_cong : (s : Bool) {t u : Bool} → (s ≡ true → t ≡ u) → (s && t) ≡ (s && u)
and_cong true h = h refl
and_cong false h = refl

-- two choices by one test
pub cond_same : {A : Type 0} (t : Bool) {x y x' y' : A} → (t ≡ true → x ≡ x') → (t ≡ false → y ≡ y') → cond t x y ≡ cond t x' y'
cond_same true hx hy = hx refl
cond_same false hx hy = hy refl

pub cond_yes : {A : Type 0} {t : Bool} (x y : A) → t ≡ true → cond t x y ≡ x
cond_yes x y p = ap (λ (t : Bool). cond t x y) p

pub cond_no : {A : Type 0} {t : Bool} (x y : A) → t ≡ false → cond t x y ≡ y
cond_no x y p = ap (λ (t : Bool). cond t x y) p

-- the same stored into lists of one length, alike at a place, leaves them alike there
pub set_same : (l m : List ℕ) (i k v : ℕ) → length l ≡ length m → number_at l k ≡ number_at m k → number_at (set l i v) k ≡ number_at (set m i v) k
set_same l m i k v e h = go (ℕ_discrete k i) (dec_lt i (length l))
  where
    go : Dec (k ≡ i) → Dec (i < length l) → number_at (set l i v) k ≡ number_at (set m i v) k
    go (yes p) (yes b) = rw p (get_or-set_same l i v 0 b ∙ sym (get_or-set_same m i v 0 (omega arith)))
    go (yes p) (no b) = rw (set_out l i v (omega arith), set_out m i v (omega arith)) h
    go (no p) d = get_or-set_other l i k v 0 p ∙ h ∙ sym (get_or-set_other m i k v 0 p)

-- the same of bytes laid over them
pub over_same : (vs l m : List ℕ) (i k : ℕ) → length l ≡ length m → number_at l k ≡ number_at m k → number_at (overlay l i vs) k ≡ number_at (overlay m i vs) k
unfolding overlay
over_same [] l m i k e h = h
over_same (v ∷ vs) l m i k e h =
    over_same vs (set l i v) (set m i v) (suc i) k (length-set l i v ∙ e ∙ sym (length-set m i v)) (set_same l m i k v e h)

-- a place that they do not cover stays
pub over_other : (vs l : List ℕ) (i k : ℕ) → (i ≤ k → k < i + length vs → ⊥) → number_at (overlay l i vs) k ≡ number_at l k
unfolding overlay
over_other [] l i k h = refl
over_other (v ∷ vs) l i k h =
    over_other vs (set l i v) (suc i) k (λ p q. h (omega arith) (omega arith)) ∙ get_or-set_other l i k v 0 (λ z. h (omega arith) (omega arith))

-- lists that are alike in their first n places, and have one length and the same after those
pub ext_front : (n : ℕ) (l m : List ℕ) → ((i : ℕ) → i < n → number_at l i ≡ number_at m i) → length l ≡ length m → drop n l ≡ drop n m → l ≡ m
ext_front n l m f e d = ext_get_or 0 l m e (λ i b. go i (dec_lt i n))
  where
    go : (i : ℕ) → Dec (i < n) → number_at l i ≡ number_at m i
    go i (yes b) = f i b
    go i (no b) =
        let z : n + (i - n) ≡ i = omega arith in
        let w : number_at l (n + (i - n)) ≡ number_at m (n + (i - n)) = sym (get_or-drop n l (i - n) 0) ∙ ap (λ (x : List ℕ). number_at x (i - n)) d ∙ get_or-drop n m (i - n) 0 in
        rw z at w

pub cond_both : {A : Type 0} (t : Bool) {t' : Bool} {x y x' y' : A} → t' ≡ t → (t ≡ true → x' ≡ x) → (t ≡ false → y' ≡ y) → cond t' x' y' ≡ cond t x y
cond_both t {x' = x'} {y' = y'} e hx hy = ap (λ (b : Bool). cond b x' y') e ∙ cond_same t hx hy
