-- The words of a line.
-- Assumes nothing.
use Rattle.std.specs.Prelude.{Bool, true, false, cond, List, [], ◌∷◌, ℕ, eqb}

-- the characters before the first blank
unfoldable pub word_in : List ℕ → List ℕ
word_in [] = []
word_in (b ∷ line) = cond (eqb b 32) [] (b ∷ word_in line)

-- those after it; nothing where there is no blank
unfoldable pub rest_in : List ℕ → List ℕ
rest_in [] = []
rest_in (b ∷ line) = cond (eqb b 32) line (rest_in line)

-- two lists are the same
unfoldable pub same : List ℕ → List ℕ → Bool
same [] [] = true
same [] (y ∷ ys) = false
same (x ∷ xs) [] = false
same (x ∷ xs) (y ∷ ys) = cond (eqb x y) (same xs ys) false
