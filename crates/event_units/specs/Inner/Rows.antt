-- The loops that clear a column: place by place in a row of 8, and AS by AS. The numbers of a column may have
-- any width, so z stands for zero.
-- Assumes nothing.
use Rattle.std.specs.Prelude.{ℕ, ◌+◌, ◌-◌, ◌*◌, ◌/◌, ◌<◌, ◌≤◌, ◌≡◌, refl, Bool, true, false, ◌||◌, ◌&&◌, cond, not, List, eqb, leb, ltb, get_or, length, set}
use Rattle.std.proofs.Common.{ap, ◌∙◌, sym, arith, lt-ltb, le-ltb, le-leb, eq-eqb, ne_eqb}
use Rattle.std.proofs.lemmas.Bool.{false≢true, lt-leb}
use Rattle.std.proofs.Math.Decide.{dec_lt, ℕ_discrete}
use Rattle.std.proofs.Math.ListN.{get_or-eq_default}
use Rattle.std.proofs.lemmas.List.{set-get_or}
use Rattle.laws.specs.Columns.{flag_at}
use Rattle.rules_servers.specs.Inner.Units.{emptied, emptied_none, emptied_ext, emptied_one, emptied_twice}

module _ {A : Type 0} (z : A) where
  -- ---- a turn of any of them

  further : (p q r : ℕ → Bool) (c₀ c c' : List A) → c ≡ emptied z p c₀ → c' ≡ emptied z q c → ((i : ℕ) → r i ≡ (q i || p i)) → c' ≡ emptied z r c₀
  further p q r c₀ c c' h e f =
      e ∙ ap (emptied z q) h ∙ emptied_twice z q p c₀ ∙ sym (emptied_ext z r (λ i. q i || p i) c₀ (λ i b. f i))

  or_with : (u : Bool) → u ≡ ((u && true) || false)
  or_with true = refl
  or_with false = refl

  or_without : (u v : Bool) → v ≡ ((u && false) || v)
  or_without true v = refl
  or_without false v = refl

  -- ---- a row

  -- the first k places of AS a
  abbrev pub row_to : ℕ → ℕ → ℕ → Bool
  row_to a k i = leb (a * 8) i && ltb i (a * 8 + k)

  -- they are emptied z
  pub record Row (a k : ℕ) (c₀ c : List A) : Type 0 where
    pub is : c ≡ emptied z (row_to a k) c₀

  -- what the loop over a row keeps, from c₀ on, and how much of it is left
  abbrev pub RowKept : List A → ℕ → Bool → ℕ → List A → ℕ → Type 0
  RowKept c₀ a go k₀ c k = Row a k c₀ c × (k ≤ 8)

  abbrev pub row_left : List A → ℕ → Bool → ℕ → List A → ℕ → ℕ
  row_left c₀ a go k₀ c k = 8 - k

  pub row_none : {a : ℕ} {c : List A} → Row a 0 c c
  row_none {a} {c} = record { is = sym (emptied_none z (row_to a 0) c (λ i b. go i (dec_lt i (a * 8)))) }
    where
      go : (i : ℕ) → Dec (i < a * 8) → row_to a 0 i ≡ false
      go i (yes y) = rw (lt-leb (a * 8) i y)
      go i (no y) = rw (le-leb (a * 8) i (omega arith), le-ltb i (a * 8 + 0) (omega arith))

  pub row_more : {a k : ℕ} {c₀ c : List A} → Row a k c₀ c → Row a (k + 1) c₀ (set c (a * 8 + k) z)
  row_more {a} {k} {c₀} {c} h =
      record {
        is =
            further (row_to a k) (λ i. eqb i (a * 8 + k)) (row_to a (k + 1)) c₀ c (set c (a * 8 + k) z) h.is (emptied_one z c (a * 8 + k))
            (λ i. go i (dec_lt i (a * 8)) (dec_lt i (a * 8 + k)) (ℕ_discrete i (a * 8 + k)));
      }
    where
      go : (i : ℕ) → Dec (i < a * 8) → Dec (i < a * 8 + k) → Dec (i ≡ a * 8 + k) → row_to a (k + 1) i ≡ (eqb i (a * 8 + k) || row_to a k i)
      go i (yes y) v w = rw (lt-leb (a * 8) i y, ne_eqb i (a * 8 + k) (λ e. omega arith))
      go i (no y) v (yes w) = rw (le-leb (a * 8) i (omega arith), eq-eqb i (a * 8 + k) w, lt-ltb i (a * 8 + (k + 1)) (omega arith))
      go i (no y) (yes v) (no w) =
          rw (le-leb (a * 8) i (omega arith), ne_eqb i (a * 8 + k) w, lt-ltb i (a * 8 + k) v, lt-ltb i (a * 8 + (k + 1)) (omega arith))
      go i (no y) (no v) (no w) =
          rw (le-leb (a * 8) i (omega arith), ne_eqb i (a * 8 + k) w, le-ltb i (a * 8 + k) (omega arith), le-ltb i (a * 8 + (k + 1)) (omega arith))

  pub row_end : (go : Bool) {a k : ℕ} {c₀ c : List A} → Row a k c₀ c → 8 ≤ k → k ≤ 8 → not go ≡ false → c ≡ emptied z (λ i. go && eqb (i / 8) a) c₀
  row_end false h u v t = absurd (false≢true (sym t))
  row_end true {a} {k} {c₀} {c} h u v t =
      h.is ∙ emptied_ext z (row_to a k) (λ i. eqb (i / 8) a) c₀ (λ i b. go i (dec_lt i (a * 8)) (dec_lt i (a * 8 + k)))
    where
      go : (i : ℕ) → Dec (i < a * 8) → Dec (i < a * 8 + k) → row_to a k i ≡ eqb (i / 8) a
      go i (yes y) w = rw (lt-leb (a * 8) i y, ne_eqb (i / 8) a (λ e. omega arith))
      go i (no y) (yes w) = rw (le-leb (a * 8) i (omega arith), lt-ltb i (a * 8 + k) w, eq-eqb (i / 8) a (omega arith))
      go i (no y) (no w) =
          rw (le-leb (a * 8) i (omega arith), le-ltb i (a * 8 + k) (omega arith), ne_eqb (i / 8) a (λ e. omega arith))

  pub row_stays : (a : ℕ) (go : Bool) (c : List A) → not go ≡ true → c ≡ emptied z (λ i. go && eqb (i / 8) a) c
  row_stays a true c t = absurd (false≢true t)
  row_stays a false c t = sym (emptied_none z (λ i. false) c (λ i b. refl))

  -- ---- AS by AS; f i is the AS of place i

  abbrev pub rows_to : List Bool → (ℕ → ℕ) → ℕ → ℕ → Bool
  rows_to go f a i = ltb (f i) a && flag_at go (f i)

  -- the first a of them are emptied z
  pub record Rows (go : List Bool) (f : ℕ → ℕ) (a : ℕ) (c₀ c : List A) : Type 0 where
    pub is : c ≡ emptied z (rows_to go f a) c₀

  pub rows_none : {go : List Bool} {f : ℕ → ℕ} {c : List A} → Rows go f 0 c c
  rows_none {go} {f} {c} = record { is = sym (emptied_none z (rows_to go f 0) c (λ i b. rw (le-ltb (f i) 0 (omega arith)))) }

  pub rows_more : {go : List Bool} {f : ℕ → ℕ} {a : ℕ} {c₀ c c' : List A} → Rows go f a c₀ c → c' ≡ emptied z (λ i. flag_at go a && eqb (f i) a) c → Rows go f (a + 1) c₀ c'
  rows_more {go} {f} {a} {c₀} {c} {c'} h e =
      record {
        is =
            further (rows_to go f a) (λ i. flag_at go a && eqb (f i) a) (rows_to go f (a + 1)) c₀ c c' h.is e
            (λ i. turn (f i) (dec_lt (f i) a) (ℕ_discrete (f i) a));
      }
    where
      turn : (x : ℕ) → Dec (x < a) → Dec (x ≡ a) → (ltb x (a + 1) && flag_at go x) ≡ ((flag_at go a && eqb x a) || (ltb x a && flag_at go x))
      turn x (yes y) w =
          rw (lt-ltb x a y, lt-ltb x (a + 1) (omega arith), ne_eqb x a (λ e. omega arith)) (or_without (flag_at go a) (flag_at go x))
      turn x (no y) (yes w) =
          rw (le-ltb x a (omega arith), lt-ltb x (a + 1) (omega arith), eq-eqb x a w, w) (or_with (flag_at go a))
      turn x (no y) (no w) =
          rw (le-ltb x a (omega arith), le-ltb x (a + 1) (omega arith), ne_eqb x a w) (or_without (flag_at go a) false)

  -- a column of one place for each AS
  pub rows_place : {go : List Bool} {a : ℕ} {x : A} {c₀ c : List A} → Rows go (λ i. i) a c₀ c → x ≡ cond (flag_at go a) z (get_or c a z) → Rows go (λ i. i) (a + 1) c₀ (set c a x)
  rows_place {go} {a} {x} {c₀} {c} h e = rows_more h (place (flag_at go a) e)
    where
      place : (t : Bool) → x ≡ cond t z (get_or c a z) → set c a x ≡ emptied z (λ i. t && eqb i a) c
      place true e = ap (set c a) e ∙ emptied_one z c a
      place false e = ap (set c a) e ∙ set-get_or c a z ∙ sym (emptied_none z (λ i. false) c (λ i b. refl))

  pub rows_end : {go : List Bool} {f : ℕ → ℕ} {a : ℕ} {c₀ c : List A} → Rows go f a c₀ c → length go ≡ 16 → 16 ≤ a → c ≡ emptied z (λ i. flag_at go (f i)) c₀
  rows_end {go} {f} {a} {c₀} {c} h l b = h.is ∙ emptied_ext z (rows_to go f a) (λ i. flag_at go (f i)) c₀ (λ i q. last (f i) (dec_lt (f i) a))
    where
      last : (x : ℕ) → Dec (x < a) → (ltb x a && flag_at go x) ≡ flag_at go x
      last x (yes y) = rw (lt-ltb x a y)
      last x (no y) = rw (le-ltb x a (omega arith)) (sym (get_or-eq_default go false (omega arith)))
