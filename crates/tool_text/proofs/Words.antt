-- Where a line's first blank stands, and how words are compared.
-- Assumes nothing.
use Rattle.std.proofs.Common.{◌≡◌, refl, sym, ap, ◌∙◌, Bool, true, false, cond, not, ◌&&◌, List, [], ◌∷◌, ℕ, suc, ◌+◌, ◌-◌, ◌≤◌, Some, None, length, take, drop, nat_eq, ◌==◌, position, arith, one-add, length-drop, drop_of_length-le}
use Rattle.std.specs.List.{position_or_len}
use Rattle.std.specs.Cmp.Lexicographic.{pointwise}
use Rattle.std.proofs.lemmas.Bool.{ltb-false}
use Rattle.std.proofs.lemmas.List.{take_all}
use Rattle.std.proofs.lemmas.Option.{none-some, cond_some}
use Rattle.tool_text.specs.Word.{word_in, rest_in, same}

-- the word before the first blank, and the rest behind it
word_before : (line : List ℕ) → take (position_or_len (λ x. x == 32) line) line ≡ word_in line
unfolding word_in
word_before [] = refl
word_before (x ∷ line) = go _ (x == 32) (word_before line)
  where
    go : (n : ℕ) (t : Bool) → take n line ≡ word_in line → take (cond (not t) (1 + n) 0) (x ∷ line) ≡ cond t [] (x ∷ word_in line)
    go n true h = refl
    go n false h = rw (one-add n) (ap (λ l. x ∷ l) h)

rest_behind : (line : List ℕ) → drop (position_or_len (λ x. x == 32) line + 1) line ≡ rest_in line
unfolding rest_in
rest_behind [] = refl
rest_behind (x ∷ line) = go _ (x == 32) (rest_behind line)
  where
    go : (n : ℕ) (t : Bool) → drop (n + 1) line ≡ rest_in line → drop (cond (not t) (1 + n) 0 + 1) (x ∷ line) ≡ cond t line (rest_in line)
    go n true h = refl
    go n false h = let e : 1 + n + 1 ≡ suc (n + 1) = omega arith in rw e h

no_place : (t : Bool) (x : ℕ) → cond t (Some x) None ≡ None → t ≡ false
no_place true x q = absurd (none-some x (sym q))
no_place false x q = refl

module _ (line : List ℕ) where
  module _ (at : ℕ) (e : position (λ x. x == 32) line ≡ Some at) where
    is_at : position_or_len (λ x. x == 32) line ≡ at
    is_at = (cond_some _ _ at e).1

    pub word_some : take at line ≡ word_in line
    word_some = ap (λ n. take n line) (sym is_at) ∙ word_before line

    pub rest_some : take (length line - (at + 1)) (drop (at + 1) line) ≡ rest_in line
    rest_some = take_all (length line - (at + 1)) (drop (at + 1) line) (omega (arith, length-drop (at + 1) line)) ∙ ap (λ n. drop (n + 1) line) (sym is_at) ∙ rest_behind line

  module _ (e : position (λ x. x == 32) line ≡ None) where
    is_past : length line ≤ position_or_len (λ x. x == 32) line
    is_past = ltb-false _ _ (no_place _ _ e)

    pub word_none : line ≡ word_in line
    word_none = sym (take_all _ line is_past) ∙ word_before line

    pub rest_none : [] ≡ rest_in line
    rest_none = sym (drop_of_length-le line {i = position_or_len (λ x. x == 32) line + 1} (omega (arith, is_past))) ∙ rest_behind line

-- slices are compared one by one
pub same_is : (a b : List ℕ) → pointwise nat_eq a b ≡ same a b
unfolding same
same_is [] [] = refl
same_is [] (y ∷ b) = refl
same_is (x ∷ a) [] = refl
same_is (x ∷ a) (y ∷ b) = go (nat_eq x y) (same_is a b)
  where
    go : (t : Bool) → pointwise nat_eq a b ≡ same a b → t && pointwise nat_eq a b ≡ cond t (same a b) false
    go true e = e
    go false e = refl
