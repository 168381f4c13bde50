-- The row of a class and type, by the code's table.
-- Assumes nothing.
use mathlib.Core.Path.{◌≡◌, refl, sym, ap, ◌∙◌}
use mathlib.Core.Bool.{Bool, true, false, cond, not, ◌&&◌, ◌||◌, false≢true}
use mathlib.Core.List.{List, [], ◌∷◌}
use Prim.Native.Nat.{ℕ, suc, ◌+◌, ◌*◌, ◌/◌, ◌%◌, ◌^◌, ◌<◌, ◌≤◌}
use Rattle.std.specs.Prelude.{Option, Some, None, IfSome}
use native.Mathlib.Omega.{arith}
use native.Mathlib.Decide.{dec_lt}
use lib.ListN.{length}
use lib.Dec.{ltb, eqb}
use borrow.Author.Tests.{eqb-true, ltb-true, lt-ltb, eq-eqb, ne_eqb}
use Rattle.laws.specs.Below.{all_below}
use Rattle.laws.specs.Inner.Below.{all_at, both_true}
use Rattle.codec_parameter.specs.Table.{Row, table, among, has_class, row_in}
use Rattle.codec_parameter.specs.Inner.Slot.{row_bits, row_or_none, listed}

-- each number is below n
below : ℕ → List ℕ → Bool
below n [] = true
below n (x ∷ xs) = ltb x n && below n xs

-- each class is below 11, and each type below 16
small : List Row → Bool
small [] = true
small (r ∷ rs) = (ltb r.class 11 && below 16 r.types) && small rs

table_small : small table ≡ true
unfolding table small below
table_small = refl

not_among : (x n : ℕ) (xs : List ℕ) → below n xs ≡ true → n ≤ x → among x xs ≡ false
unfolding among below
not_among x n [] h l = refl
not_among x n (y ∷ ys) h l =
    let b = both_true (ltb y n) (below n ys) h in
    let k : y < n = ltb-true y n b.0 in
    rw (ne_eqb x y (omega arith)) (not_among x n ys b.1 l)

both_false : (a b : Bool) → b ≡ false → (a && b) ≡ false
both_false true b e = e
both_false false b e = refl

-- beyond these there is no row
far : (rs : List Row) (c t : ℕ) → small rs ≡ true → (10 < c → ⊥) → 16 ≤ t → row_in rs c t ≡ length rs
unfolding row_in small
far [] c t h n l = refl
far (r ∷ rs) c t h n l =
    let b = both_true (ltb r.class 11 && below 16 r.types) (small rs) h in
    let w = both_true (ltb r.class 11) (below 16 r.types) b.0 in
    rw (both_false (eqb c r.class) (among t r.types) (not_among t 16 r.types w.1 l)) (ap suc (far rs c t b.1 n l))

far_class : (rs : List Row) (c t : ℕ) → small rs ≡ true → 10 < c → row_in rs c t ≡ length rs
unfolding row_in small
far_class [] c t h n = refl
far_class (r ∷ rs) c t h n =
    let b = both_true (ltb r.class 11 && below 16 r.types) (small rs) h in
    let w = both_true (ltb r.class 11) (below 16 r.types) b.0 in
    let k : r.class < 11 = ltb-true r.class 11 w.0 in
    rw (ne_eqb c r.class (omega arith)) (ap suc (far_class rs c t b.1 n))

pub no_class : (c t : ℕ) → 10 < c → row_in table c t ≡ 17
unfolding table
no_class c t h = far_class table c t table_small h

pub no_type : (c t : ℕ) → (10 < c → ⊥) → 15 < t → row_in table c t ≡ 17
unfolding table
no_type c t n h = far table c t table_small n (omega arith)

-- ---- the code's packed rows

-- the places of a class's types, 15 for none
unfoldable pub packed : ℕ → ℕ
packed c = cond (eqb c 0) 0xffffffffffffff10 (cond (eqb c 3) 0xfffffffff211210f (cond (eqb c 4) 0xfffffffffff1010f 0x987654322111110f))

unfoldable pub base : ℕ → ℕ
base c = cond (eqb c 0) 0 (cond (eqb c 3) 2 (cond (eqb c 4) 5 7))

far_bits : (rows b t : ℕ) → 16 ≤ t → row_bits rows b t ≡ 17
unfolding row_bits
far_bits rows b t h = rw (lt-ltb 15 t h)

right : ℕ → ℕ → Bool
right c t = not (has_class table c) || eqb (row_bits (packed c) (base c) t) (row_in table c t)

all_right : all_below (λ c. all_below (right c) 16) 7 ≡ true
unfolding all_below right packed base row_bits has_class row_in among table
all_right = refl

implied : (a b : Bool) → (not a || b) ≡ true → a ≡ true → b ≡ true
implied true b h e = h
implied false b h e = absurd (false≢true e)

-- the packed row of a listed class is the table's
pub row_right : (c t : ℕ) → c < 7 → has_class table c ≡ true → row_bits (packed c) (base c) t ≡ row_in table c t
unfolding right
row_right c t hc hl = go (dec_lt t 16)
  where
    go : Dec (t < 16) → row_bits (packed c) (base c) t ≡ row_in table c t
    go (yes h) = eqb-true _ _ (implied (has_class table c) _ (all_at (right c) 16 (all_at (λ x. all_below (right x) 16) 7 all_right c hc) t h) hl)
    go (no n) = far_bits (packed c) (base c) t (omega arith) ∙ sym (no_type c t (λ h. omega arith) (omega arith))

-- no place in a packed row is that of no row
apart : ℕ → ℕ → Bool
apart c t = not (ltb (packed c / 2 ^ (4 * t) % 16) 15 && eqb (base c + packed c / 2 ^ (4 * t) % 16) 17)

all_apart : all_below (λ c. all_below (apart c) 16) 7 ≡ true
unfolding all_below apart packed base
all_apart = refl

row_apart : (c t : ℕ) → c < 7 → t ≤ 15 → packed c / 2 ^ (4 * t) % 16 < 15 → base c + packed c / 2 ^ (4 * t) % 16 ≡ 17 → ⊥
unfolding apart
row_apart c t hc ht l e = false≢true (sym (simp (lt-ltb _ 15 l, eq-eqb _ 17 e)) ∙ all_at (apart c) 16 (all_at (λ x. all_below (apart x) 16) 7 all_apart c hc) t (omega arith))

-- what the code finds in the packed row of the class k is the row of c, which is k
pub class_row : (k c t : ℕ) (r : Option ℕ) → row_or_none r ≡ row_bits (packed k) (base k) t → IfSome r (λ i. ((t ≤ 15) × (packed k / 2 ^ (4 * t) % 16 < 15)) × (i ≡ base k + packed k / 2 ^ (4 * t) % 16))
    → k < 7 → has_class table k ≡ true → c ≡ k → r ≡ listed (row_in table c t)
class_row k c t r e p h l ek = go r (e ∙ row_right k t h l ∙ ap (λ (x : ℕ). row_in table x t) (sym ek)) p
  where
    go : (r : Option ℕ) → row_or_none r ≡ row_in table c t → IfSome r (λ i. ((t ≤ 15) × (packed k / 2 ^ (4 * t) % 16 < 15)) × (i ≡ base k + packed k / 2 ^ (4 * t) % 16)) → r ≡ listed (row_in table c t)
    go None q p = ap listed q
    go (Some i) q p = sym (ap (λ (b : Bool). cond b None (Some i)) (ne_eqb i 17 (λ z. row_apart k t h p.0.0 p.0.1 (sym p.1 ∙ z)))) ∙ ap listed q

-- a class that is not listed has no row
pub unlisted : (rs : List Row) (c t : ℕ) → has_class rs c ≡ false → row_in rs c t ≡ length rs
unfolding has_class row_in
unlisted [] c t h = refl
unlisted (r ∷ rs) c t h = go (eqb c r.class) h (unlisted rs c t)
  where
    go : (b : Bool) → (b || has_class rs c) ≡ false → (has_class rs c ≡ false → row_in rs c t ≡ length rs) → cond (b && among t r.types) 0 (suc (row_in rs c t)) ≡ suc (length rs)
    go true e ih = absurd (false≢true (sym e))
    go false e ih = ap suc (ih e)

-- so the code finds none
pub no_row : (c t : ℕ) → has_class table c ≡ false → None ≡ listed (row_in table c t)
unfolding table
no_row c t h = ap listed (sym (unlisted table c t h))

-- a row's index is at most the number of rows
pub row_most : (rs : List Row) (c t : ℕ) → row_in rs c t ≤ length rs
unfolding row_in
row_most [] c t = omega arith
row_most (r ∷ rs) c t = go (eqb c r.class && among t r.types) (row_most rs c t)
  where
    go : (b : Bool) → row_in rs c t ≤ length rs → cond b 0 (suc (row_in rs c t)) ≤ suc (length rs)
    go true h = omega arith
    go false h = omega arith
