-- Writing one run of bytes after another is writing both.
-- Assumes nothing.
use mathlib.Core.Path.{◌≡◌, refl, sym, ap, ◌∙◌}
use mathlib.Core.List.{List, [], ◌∷◌, ◌++◌, append_assoc}
use Prim.Native.Nat.{ℕ, suc, ◌+◌, ◌<◌, ◌≤◌}
use native.Mathlib.Nat.{add-zero, zero-add}
use native.Mathlib.Omega.{arith}
use native.Mathlib.Numerals.{add-one}
use lib.ListN.{length, get_or, take, drop, set}
use lib.Seq.{drop-drop, take-suc, length-take-le, length-sets, sets-eq, take_at, get_or-take}
use borrow.Rule.Slice.PartMut.{put_mid}
use Rattle.codec_put.specs.Bytes.{overlay}

pub over_append : (l xs ys : List ℕ) (i : ℕ) → overlay (overlay l i xs) (i + length xs) ys ≡ overlay l i (xs ++ ys)
unfolding overlay
over_append l [] ys i = rw (add-zero i)
over_append l (x ∷ xs) ys i = let e : i + suc (length xs) ≡ suc i + length xs = omega arith in rw e (over_append (set l i x) xs ys (suc i))

-- one byte more
pub over_more : (l v : List ℕ) (i k : ℕ) → k < length v → set (overlay l i (take k v)) (i + k) (get_or v k 0) ≡ overlay l i (take (k + 1) v)
unfolding overlay
over_more l v i k h =
    let e : length (take k v) ≡ k = length-take-le k v (omega arith) in
    sym (rw (add-one, take-suc v k 0, ← over_append l (take k v) (get_or v k 0 ∷ []) i, e))

-- the same at the start
pub first_more : (l v : List ℕ) (k : ℕ) → k < length v → set (overlay l 0 (take k v)) k (get_or v k 0) ≡ overlay l 0 (take (k + 1) v)
first_more l v k h = rw (zero-add k) at (over_more l v 0 k h)

-- two runs, the second where the first ends
pub over_two : (l xs ys l₁ l₂ : List ℕ) (i j : ℕ) → l₁ ≡ overlay l i xs → j ≡ i + length xs → l₂ ≡ overlay l₁ j ys → l₂ ≡ overlay l i (xs ++ ys)
over_two l xs ys l₁ l₂ i j e₁ ej e₂ = rw (e₂, e₁, ej) (over_append l xs ys i)

-- a part of a list that now has the bytes v
pub over_part : (l v ys : List ℕ) (i k : ℕ) → ys ≡ v → k ≡ length v → i + length v ≤ length l → put_mid i k l ys ≡ overlay l i v
unfolding overlay
over_part l v ys i k e ek h = rw (e, ek, drop-drop (length v) i l, sets-eq v l i h) (sym (append_assoc (take i l) v _))

pub length_over : (l : List ℕ) (i : ℕ) (vs : List ℕ) → length (overlay l i vs) ≡ length l
unfolding overlay
length_over l i vs = length-sets l i vs

-- what was written at the start stands there
pub take_over : (l vs : List ℕ) → length vs ≤ length l → take (length vs) (overlay l 0 vs) ≡ vs
unfolding overlay
take_over l vs h = rw (sets-eq vs l 0 (omega arith)) (take_at vs (drop (0 + length vs) l) (length vs) refl)

-- a byte of a list that begins with v
pub begins_at : (l v : List ℕ) (k : ℕ) → take (length v) l ≡ v → k < length v → get_or l k 0 ≡ get_or v k 0
begins_at l v k e h = sym (get_or-take (length v) l k 0 h) ∙ ap (λ x. get_or x k 0) e

-- four bytes
pub four : (v : List ℕ) → length v ≡ 4 → get_or v 0 0 ∷ get_or v 1 0 ∷ get_or v 2 0 ∷ get_or v 3 0 ∷ [] ≡ v
four (a ∷ b ∷ c ∷ d ∷ []) h = refl
four [] h = absurd (omega arith)
four (a ∷ []) h = absurd (omega arith)
four (a ∷ b ∷ []) h = absurd (omega arith)
four (a ∷ b ∷ c ∷ []) h = absurd (omega arith)
four (a ∷ b ∷ c ∷ d ∷ e ∷ v) h = absurd (omega arith)
