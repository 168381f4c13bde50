-- The turns of the loops that read numbers and bytes.
-- Assumes nothing.
use mathlib.Core.Path.{◌≡◌, refl, sym, ap, ◌∙◌}
use mathlib.Core.Bool.{Bool, true, false, cond, false≢true}
use lib.Dec.{ltb, eqb}
use Rattle.std.specs.Prelude.{Some, None}
use Rattle.std.proofs.lemmas.Option.{none-some, same_Some}
use mathlib.Core.List.{List, [], ◌∷◌, ◌++◌, append_assoc, append-nil}
use Prim.Native.Nat.{ℕ, suc, ◌+◌, ◌*◌, ◌/◌, ◌%◌, ◌<◌, ◌≤◌}
use native.Mathlib.Omega.{arith}
use native.Mathlib.Numerals.{add-one}
use lib.ListN.{length, get_or, take, drop, set, drop_of_length-le}
use lib.Seq.{drop-cons}
use Rattle.std.proofs.lemmas.List.{take_more_set, drop-drop, drop-set-lt}
use borrow.Author.Tests.{ne_eqb}
use Rattle.tool_text.specs.Parse.{octet_of, is_hex, unhex, is_dash, octets}
use Rattle.tool_text.specs.Word.{same}
use Rattle.tool_text.specs.Inner.Parse.{octet_in, add_digit, number_from, number_of}

pub number_next : (w : List ℕ) (i n m : ℕ) → i < length w → add_digit n (get_or w i 0) ≡ Some m → number_from m (drop (i + 1) w) ≡ number_from n (drop i w)
unfolding number_from
number_next w i n m h e = sym (rw (add-one, drop-cons w i 0 h, e))

pub number_stop : (w : List ℕ) (i n : ℕ) → i < length w → add_digit n (get_or w i 0) ≡ None → number_from n (drop i w) ≡ None
unfolding number_from
number_stop w i n h e = rw (drop-cons w i 0 h, e)

pub number_some : (w : List ℕ) → false ≡ eqb (length w) 0 → number_from 0 w ≡ number_of w
unfolding number_of
number_some w h = sym (simp (sym h))

some_of : (t : Bool) (x y : ℕ) → cond t None (Some x) ≡ Some y → (t ≡ false) × (x ≡ y)
some_of true x y q = absurd (none-some y q)
some_of false x y q = (refl, same_Some x y q)

none_of : (t : Bool) (x : ℕ) → cond t None (Some x) ≡ None → t ≡ true
none_of true x q = refl
none_of false x q = absurd (none-some x (sym q))

-- two characters of a word
pub drop_two : (w : List ℕ) (i : ℕ) → 2 * i + 1 < length w → drop (2 * i) w ≡ get_or w (2 * i) 0 ∷ get_or w (2 * i + 1) 0 ∷ drop (2 * (i + 1)) w
drop_two w i h =
    let e : suc (suc (2 * i)) ≡ 2 * (i + 1) = omega arith in
    rw (add-one (2 * i), drop-cons w (2 * i) 0 (omega arith), drop-cons w (suc (2 * i)) 0 (omega arith), e)

module _ (w : List ℕ) (i : ℕ) (h : 2 * i + 1 < length w) where
  pub hex_next : (v : ℕ) → Some v ≡ octet_in (get_or w (2 * i) 0) (get_or w (2 * i + 1) 0) → is_hex (drop (2 * (i + 1)) w) ≡ is_hex (drop (2 * i) w)
  unfolding is_hex
  hex_next v e = sym (rw (drop_two w i h, (some_of _ _ v (sym e)).0))

  pub hex_stop : None ≡ octet_in (get_or w (2 * i) 0) (get_or w (2 * i + 1) 0) → is_hex (drop (2 * i) w) ≡ false
  unfolding is_hex
  hex_stop e = rw (drop_two w i h, none_of _ _ (sym e))

  -- a byte is written; the rest of the word is still to come
  pub unhex_next : (l : List ℕ) (v : ℕ) → i < length l → Some v ≡ octet_in (get_or w (2 * i) 0) (get_or w (2 * i + 1) 0) → take (i + 1) (set l i v) ++ unhex (drop (2 * (i + 1)) w) ≡ take i l ++ unhex (drop (2 * i) w)
  unfolding unhex
  unhex_next l v k e = let p = (some_of _ _ v (sym e)).1 in sym (rw (drop_two w i h, take_more_set l i v k, append_assoc (take i l), p))

-- a byte is written; what stands behind it is as it was
pub rest_next : (l k : List ℕ) (i v : ℕ) → drop i l ≡ drop i k → drop (i + 1) (set l i v) ≡ drop (i + 1) k
rest_next l k i v h = drop-set-lt (i + 1) l i v (omega arith) ∙ sym (drop-drop 1 i l) ∙ ap (drop 1) h ∙ drop-drop 1 i k

pub number_empty : (w : List ℕ) → true ≡ eqb (length w) 0 → None ≡ number_of w
unfolding number_of
number_empty w h = sym (simp (sym h))

pub number_done : (w : List ℕ) (i n : ℕ) → length w ≤ i → number_from n (drop i w) ≡ Some n
unfolding number_from
number_done w i n h = rw (drop_of_length-le w {i = i} h)

-- where the digits stop, and where all are read
pub octets_stop : (w : List ℕ) → is_hex w ≡ false → None ≡ octets w
unfolding octets
octets_stop w e = sym (simp e)

module _ (w l : List ℕ) (i : ℕ) (a : length w / 2 ≤ i) (b : i ≤ length w / 2) (m : length w % 2 ≡ 0) where
  none_left : drop (2 * i) w ≡ []
  none_left = drop_of_length-le w {i = 2 * i} (omega arith)

  pub octets_done : is_hex (drop (2 * i) w) ≡ is_hex w → Some (length w / 2) ≡ octets w
  unfolding octets is_hex
  octets_done h = let t : true ≡ is_hex w = rw none_left at h in sym (simp (sym t))

  pub unhex_done : take i l ++ unhex (drop (2 * i) w) ≡ unhex w → take (length w / 2) l ≡ unhex w
  unfolding unhex
  unhex_done h = let e : length w / 2 ≡ i = omega arith in let h' : take i l ++ [] ≡ unhex w = rw none_left at h in rw e (sym (append-nil (take i l)) ∙ h')

-- an odd number of characters
pub odd_stop : (w : List ℕ) → (length w % 2 ≡ 0 → ⊥) → is_hex w ≡ false
unfolding is_hex
odd_stop [] h = absurd (h refl)
odd_stop (x ∷ []) h = refl
odd_stop (x ∷ y ∷ w) h = go (ltb 255 (octet_of x y)) (odd_stop w (λ e. h (omega arith)))
  where
    go : (t : Bool) → is_hex w ≡ false → cond t false (is_hex w) ≡ false
    go true e = refl
    go false e = e

pub dash_same : (w : List ℕ) → same w (45 ∷ []) ≡ is_dash w
unfolding same is_dash
dash_same [] = refl
dash_same (x ∷ []) = go (eqb x 45)
  where
    go : (t : Bool) → cond t true false ≡ t
    go true = refl
    go false = refl
dash_same (x ∷ y ∷ w) = rw (ne_eqb (suc (suc (length w))) 1 (λ e. omega arith)) (go (eqb x 45))
  where
    go : (t : Bool) → cond t false false ≡ false
    go true = refl
    go false = refl

-- a word that is one `-` says no bytes
pub unhex_dash : (w : List ℕ) → is_dash w ≡ true → [] ≡ unhex w
unfolding is_dash unhex
unhex_dash [] d = refl
unhex_dash (x ∷ []) d = refl
unhex_dash (x ∷ y ∷ w) d = absurd (false≢true (sym (ap (λ t. cond t (eqb x 45) false) (ne_eqb (suc (suc (length w))) 1 (λ e. omega arith))) ∙ d))
