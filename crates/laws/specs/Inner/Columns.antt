-- Laws of specs/Columns.antt, and definitions that only code and proofs use.
-- Assumes nothing.
use Prim.Native.Nat.{ℕ, zero, suc, ◌+◌, ◌<◌, ◌≤◌}
use Rattle.std.specs.Prelude.{◌≡◌, Bool, false, List, length, get_or, set}
use Rattle.std.proofs.Math.Path.{refl, ap}
use Rattle.std.proofs.Common.{◌∙◌, sym, arith, not-suc-le-zero, length-set, ext_get_or, get_or-set_same, get_or-set_other}
use Rattle.std.proofs.Math.Decide.{ℕ_discrete}
use Rattle.laws.specs.Columns.{tabulate}

module _ {A : Type 0} where
  pub get_d_tabulate : (n : ℕ) (f : ℕ → A) (i : ℕ) (d : A) → i < n → get_or (tabulate n f) i d ≡ f i
  unfolding tabulate
  get_d_tabulate zero f i d b = absurd (not-suc-le-zero b)
  get_d_tabulate (suc n) f zero d b = refl
  get_d_tabulate (suc n) f (suc i) d b = get_d_tabulate n (λ k. f (suc k)) i d (omega arith)

  pub length_tabulate : (n : ℕ) (f : ℕ → A) → length (tabulate n f) ≡ n
  unfolding tabulate
  length_tabulate zero f = refl
  length_tabulate (suc n) f = ap suc (length_tabulate n (λ k. f (suc k)))

  pub is_tabulate : (d : A) (l : List A) (n : ℕ) (f : ℕ → A) → length l ≡ n → ((i : ℕ) → i < n → get_or l i d ≡ f i) → l ≡ tabulate n f
  is_tabulate d l n f e h =
      ext_get_or d l (tabulate n f) (e ∙ sym (length_tabulate n f)) (λ i b. let g : i < n = omega arith in h i g ∙ sym (get_d_tabulate n f i d g))

  pub tabulate_ext : (d : A) (n : ℕ) (f g : ℕ → A) → ((i : ℕ) → i < n → f i ≡ g i) → tabulate n f ≡ tabulate n g
  tabulate_ext d n f g h = is_tabulate d (tabulate n f) n g (length_tabulate n f) (λ i b. get_d_tabulate n f i d b ∙ h i b)

  -- of n places those below k hold f, the others g; d is only for the reading of a place
  pub record HalfOf (d : A) (f g : ℕ → A) (n k : ℕ) (l : List A) : Type 0 where
    pub long : length l ≡ n
    pub new : (i : ℕ) → i < k → get_or l i d ≡ f i
    pub old : (i : ℕ) → k ≤ i → i < n → get_or l i d ≡ g i

  pub half_none : {d : A} (f : ℕ → A) (n : ℕ) (l : List A) → length l ≡ n → HalfOf d f (λ i. get_or l i d) n 0 l
  half_none f n l e = record { long = e; new = λ i b. absurd (not-suc-le-zero b); old = λ i b c. refl }

  pub half_more : {d : A} {f g : ℕ → A} {n k : ℕ} {l : List A} (v : A) → HalfOf d f g n k l → k < n → v ≡ f k → HalfOf d f g n (k + 1) (set l k v)
  half_more {d} {f} {g} {n} {k} {l} v h b e =
      record {
        long = length-set l k v ∙ h.long;
        new = λ i q. news i q (ℕ_discrete i k);
        old = λ i q c. get_or-set_other l k i v d (λ z. omega arith) ∙ h.old i (omega arith) c;
      }
    where
      news : (i : ℕ) → i < k + 1 → Dec (i ≡ k) → get_or (set l k v) i d ≡ f i
      news i q (yes z) = rw z (get_or-set_same l k v d (omega (arith, h.long)) ∙ e)
      news i q (no z) = get_or-set_other l k i v d z ∙ h.new i (omega arith)

  pub half_end : {d : A} {f g : ℕ → A} {n k : ℕ} {l : List A} → HalfOf d f g n k l → n ≤ k → l ≡ tabulate n f
  half_end {d} {f} {g} {n} {k} {l} h b = is_tabulate d l n f h.long (λ i q. h.new i (omega arith))

  pub half_at : {d : A} {f g : ℕ → A} {n j k : ℕ} {l : List A} → j ≡ k → HalfOf d f g n j l → HalfOf d f g n k l
  half_at e h = rw (sym e) h

  -- a place that keeps its value
  pub half_keep : {d : A} {f g : ℕ → A} {n k : ℕ} {l : List A} → HalfOf d f g n k l → k < n → g k ≡ f k → HalfOf d f g n (k + 1) l
  half_keep {d} {f} {g} {n} {k} {l} h b e =
      record { long = h.long; new = λ i q. news i q (ℕ_discrete i k); old = λ i q c. h.old i (omega arith) c }
    where
      news : (i : ℕ) → i < k + 1 → Dec (i ≡ k) → get_or l i d ≡ f i
      news i q (yes z) = rw z (h.old k (omega arith) b ∙ e)
      news i q (no z) = h.new i (omega arith)

abbrev pub Half : (ℕ → Bool) → (ℕ → Bool) → ℕ → ℕ → List Bool → Type 0
Half f g n k l = HalfOf false f g n k l

-- the same of a column of numbers
abbrev pub HalfCol : (ℕ → ℕ) → (ℕ → ℕ) → ℕ → ℕ → List ℕ → Type 0
HalfCol f g n k l = HalfOf 0 f g n k l
