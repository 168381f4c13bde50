-- Clearing the places of a list, for numbers of any width: so a value that stands for zero goes beside it.
-- Laws of it and of `cleared` of specs/Changed.antt.
-- Assumes nothing.
use Rattle.std.specs.Prelude.{ℕ, zero, suc, ◌+◌, ◌<◌, ◌≡◌, refl, Bool, true, false, ◌||◌, cond, List, [], ◌∷◌, eqb, get_or, length, set}
use Rattle.std.proofs.Common.{ap, ◌∙◌, sym, arith, length-set, ext_get_or, get_or-set_same, get_or-set_other, eq-eqb, ne_eqb}
use Rattle.std.proofs.Math.Decide.{ℕ_discrete}
use Rattle.laws.specs.Columns.{number_at}
use Rattle.rules_servers.specs.Changed.{cleared_from, cleared}

-- ---- from a place on

module _ {A : Type 0} (z : A) where
  -- the list from place i on, with z at the places that p marks
  unfoldable pub emptied_from : (ℕ → Bool) → ℕ → List A → List A
  emptied_from p i [] = []
  emptied_from p i (x ∷ c) = cond (p i) z x ∷ emptied_from p (suc i) c

  abbrev pub emptied : (ℕ → Bool) → List A → List A
  emptied p c = emptied_from p 0 c

  length_from : (p : ℕ → Bool) (n : ℕ) (c : List A) → length (emptied_from p n c) ≡ length c
  unfolding emptied_from
  length_from p n [] = refl
  length_from p n (x ∷ c) = ap suc (length_from p (suc n) c)

  same_zero : (t : Bool) → z ≡ cond t z z
  same_zero true = refl
  same_zero false = refl

  from_at : (p : ℕ → Bool) (n : ℕ) (c : List A) (i : ℕ) → get_or (emptied_from p n c) i z ≡ cond (p (n + i)) z (get_or c i z)
  unfolding emptied_from
  from_at p n [] i = same_zero (p (n + i))
  from_at p n (x ∷ c) zero = let e : n ≡ n + zero = omega arith in ap (λ (k : ℕ). cond (p k) z x) e
  from_at p n (x ∷ c) (suc i) =
      let e : suc n + i ≡ n + suc i = omega arith in
      from_at p (suc n) c i ∙ ap (λ (k : ℕ). cond (p k) z (get_or c i z)) e

  -- ---- the laws

  pub length_emptied : (p : ℕ → Bool) (c : List A) → length (emptied p c) ≡ length c
  length_emptied p c = length_from p 0 c

  -- beyond the list both are z
  pub emptied_at : (p : ℕ → Bool) (c : List A) (i : ℕ) → get_or (emptied p c) i z ≡ cond (p i) z (get_or c i z)
  emptied_at p c i = let e : 0 + i ≡ i = omega arith in from_at p 0 c i ∙ ap (λ (k : ℕ). cond (p k) z (get_or c i z)) e

  pub emptied_is : (p : ℕ → Bool) (c d : List A) → length d ≡ length c → ((i : ℕ) → i < length c → get_or d i z ≡ cond (p i) z (get_or c i z)) → d ≡ emptied p c
  emptied_is p c d e h =
      ext_get_or z d (emptied p c) (e ∙ sym (length_emptied p c)) (λ i b. h i (omega arith) ∙ sym (emptied_at p c i))

  pub emptied_none : (p : ℕ → Bool) (c : List A) → ((i : ℕ) → i < length c → p i ≡ false) → emptied p c ≡ c
  emptied_none p c h = sym (emptied_is p c c refl (λ i b. rw (h i b)))

  -- only the places of the list count
  pub emptied_ext : (p p' : ℕ → Bool) (c : List A) → ((i : ℕ) → i < length c → p i ≡ p' i) → emptied p c ≡ emptied p' c
  emptied_ext p p' c h =
      emptied_is p' c (emptied p c) (length_emptied p c) (λ i b. emptied_at p c i ∙ ap (λ (t : Bool). cond t z (get_or c i z)) (h i b))

  -- one after the other
  pub emptied_twice : (p q : ℕ → Bool) (c : List A) → emptied p (emptied q c) ≡ emptied (λ i. p i || q i) c
  emptied_twice p q c =
      emptied_is (λ i. p i || q i) c (emptied p (emptied q c)) (length_emptied p (emptied q c) ∙ length_emptied q c)
      (λ i b. emptied_at p (emptied q c) i ∙ ap (cond (p i) z) (emptied_at q c i) ∙ either (p i) (q i) (get_or c i z))
    where
      either : (u v : Bool) (x : A) → cond u z (cond v z x) ≡ cond (u || v) z x
      either true v x = refl
      either false v x = refl

  -- one place alone
  pub emptied_one : (c : List A) (i : ℕ) → set c i z ≡ emptied (λ j. eqb j i) c
  emptied_one c i = emptied_is (λ j. eqb j i) c (set c i z) (length-set c i z) (λ j b. go j b (ℕ_discrete j i))
    where
      go : (j : ℕ) → j < length c → Dec (j ≡ i) → get_or (set c i z) j z ≡ cond (eqb j i) z (get_or c j z)
      go j b (yes y) = rw (eq-eqb j i y, y) (get_or-set_same c i z z (omega arith))
      go j b (no y) = rw (ne_eqb j i y) (get_or-set_other c i j z z y)

-- ---- of columns

numbers_from : (p : ℕ → Bool) (n : ℕ) (c : List ℕ) → emptied_from 0 p n c ≡ cleared_from p n c
unfolding emptied_from cleared_from
numbers_from p n [] = refl
numbers_from p n (x ∷ c) = ap (λ (l : List ℕ). cond (p n) 0 x ∷ l) (numbers_from p (suc n) c)

pub numbers_emptied : (p : ℕ → Bool) (c : List ℕ) → emptied 0 p c ≡ cleared p c
numbers_emptied p c = numbers_from p 0 c

pub cleared_at : (p : ℕ → Bool) (c : List ℕ) (i : ℕ) → number_at (cleared p c) i ≡ cond (p i) 0 (number_at c i)
cleared_at p c i = rw (← numbers_emptied p c) (emptied_at 0 p c i)

pub length_cleared : (p : ℕ → Bool) (c : List ℕ) → length (cleared p c) ≡ length c
length_cleared p c = rw (← numbers_emptied p c) (length_emptied 0 p c)

pub cleared_none : (p : ℕ → Bool) (c : List ℕ) → ((i : ℕ) → i < length c → p i ≡ false) → cleared p c ≡ c
cleared_none p c h = sym (numbers_emptied p c) ∙ emptied_none 0 p c h
