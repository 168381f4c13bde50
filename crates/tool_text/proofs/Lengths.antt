-- How long numbers and bytes are as text, and one byte more.
-- Assumes nothing.
use mathlib.Core.Path.{◌≡◌, refl, sym, ap, ◌∙◌}
use mathlib.Core.List.{List, [], ◌∷◌, ◌++◌, append_assoc}
use Prim.Native.Nat.{ℕ, zero, suc, ◌+◌, ◌*◌, ◌/◌, ◌%◌, ◌-◌, ◌<◌, ◌≤◌}
use native.Mathlib.Omega.{arith}
use native.Mathlib.Numerals.{add-one}
use lib.ListN.{length, get_or, take, drop, set, length-append, length-drop, length-set}
use lib.Seq.{take-suc, length-take-le}
use Rattle.std.proofs.lemmas.List.{drop-set, take_all, take_more_set}
use Rattle.tool_text.specs.Digits.{glyph, digits, places, decimal, pair, hex}

pub length_digits : (k n : ℕ) → length (digits k n) ≡ k
unfolding digits
length_digits zero n = refl
length_digits (suc k) n = length-append (digits k (n / 10)) ((48 + n % 10) ∷ []) ∙ let e = length_digits k (n / 10) in omega arith

pub length_decimal : (n : ℕ) → length (decimal n) ≡ places n
unfolding decimal
length_decimal n = length_digits (places n) n

pub length_hex : (l : List ℕ) → length (hex l) ≡ 2 * length l
unfolding hex
length_hex [] = refl
length_hex (b ∷ bs) = let e = length_hex bs in omega arith

pub hex_append : (xs ys : List ℕ) → hex (xs ++ ys) ≡ hex xs ++ hex ys
unfolding hex
hex_append [] ys = refl
hex_append (x ∷ xs) ys = rw (hex_append xs ys)

pub hex_more : (l : List ℕ) (i : ℕ) → i < length l → hex (take (i + 1) l) ≡ hex (take i l) ++ pair (get_or l i 0)
unfolding hex
hex_more l i h = rw (add-one, take-suc l i 0, hex_append)

pub digits_more : (k n : ℕ) → digits k (n / 10) ++ ((48 + n % 10) ∷ []) ≡ digits (suc k) n
unfolding digits
digits_more k n = refl

-- the last digit is written first
pub digits_turn : (l : List ℕ) (i n d : ℕ) → 0 < i → i ≤ length l → d ≡ n % 10 → digits (i - 1) (n / 10) ++ drop (i - 1) (set l (i - 1) (48 + d)) ≡ digits i n ++ drop i l
digits_turn l zero n d h k e = absurd (omega arith)
digits_turn l (suc i) n d h k e =
    let z : suc i - 1 ≡ i = omega arith in
    rw (z, drop-set l i (48 + d) (omega arith), ← digits_more i n, append_assoc, e, add-one)

pub digits_end : (l : List ℕ) (i n : ℕ) → i ≤ 0 → l ≡ digits i n ++ drop i l
unfolding digits
digits_end l zero n h = refl
digits_end l (suc i) n h = absurd (omega arith)

-- a loop that writes bytes as digits, two for each
pub hex_start : (out s : List ℕ) → take (2 * 0) out ≡ hex (take 0 s)
unfolding hex
hex_start out s = refl

pub hex_turn : (out s : List ℕ) (i x y : ℕ) → i < length s → length out ≡ 2 * length s → x ≡ glyph (get_or s i 0 / 16) → y ≡ glyph (get_or s i 0 % 16)
    → take (2 * i) out ≡ hex (take i s) → take (2 * (i + 1)) (set (set out (2 * i) x) (2 * i + 1) y) ≡ hex (take (i + 1) s)
hex_turn out s i x y h n p q v =
    let e : 2 * (i + 1) ≡ (2 * i + 1) + 1 = omega arith in
    rw (e, take_more_set (set out (2 * i) x) (2 * i + 1) y (rw length-set (omega (arith, h, n))), take_more_set out (2 * i) x (omega (arith, h, n)), v, p, q, hex_more s i h, append_assoc)

pub hex_end : (out s : List ℕ) (i : ℕ) → length s ≤ i → length out ≡ 2 * length s → take (2 * i) out ≡ hex (take i s) → out ≡ hex s
hex_end out s i h n v = sym (take_all (2 * i) out (omega (arith, h, n))) ∙ v ∙ ap hex (take_all i s h)

-- bytes as digits behind a text
pub hex_text : (text l ys s : List ℕ) → l ≡ text → ys ≡ hex s → l ++ ys ≡ text ++ hex s
hex_text text l ys s e f = rw (e, f)

-- a number's digits behind a text
pub number_text : (text l ys : List ℕ) (n k : ℕ) → l ≡ text → ys ≡ digits k n → k ≡ places n → l ++ ys ≡ text ++ decimal n
unfolding decimal
number_text text l ys n k e f h = rw (e, f, h)

-- a part of a buffer is as long as it is cut
pub part_length : (l : List ℕ) (at k : ℕ) → at + k ≤ length l → length (take k (drop at l)) ≡ k
part_length l at k h = length-take-le k (drop at l) (omega (arith, length-drop at l))
