-- Numbers and bytes as text.
-- Assumes nothing.
use Rattle.std.specs.Prelude.{cond, List, [], ◌∷◌, ◌++◌, ℕ, zero, suc, ◌+◌, ◌/◌, ◌%◌, ltb}

-- the character of a digit below 16: `0` to `9`, then `a` to `f`
unfoldable pub glyph : ℕ → ℕ
glyph d = cond (ltb d 10) (48 + d) (87 + d)

-- the last k decimal digits of a number
unfoldable pub digits : ℕ → ℕ → List ℕ
digits zero n = []
digits (suc k) n = digits k (n / 10) ++ ((48 + n % 10) ∷ [])

-- how many digits a number of 32 bits needs
unfoldable pub places : ℕ → ℕ
places n =
    cond (ltb n 10) 1
    (cond (ltb n 100) 2
    (cond (ltb n 1000) 3
    (cond (ltb n 10000) 4
    (cond (ltb n 100000) 5
    (cond (ltb n 1000000) 6
    (cond (ltb n 10000000) 7
    (cond (ltb n 100000000) 8
    (cond (ltb n 1000000000) 9 10))))))))

-- a number of 32 bits in decimal
unfoldable pub decimal : ℕ → List ℕ
decimal n = digits (places n) n

-- a byte in hex
abbrev pub pair : ℕ → List ℕ
pair b = glyph (b / 16) ∷ glyph (b % 16) ∷ []

-- bytes in hex
unfoldable pub hex : List ℕ → List ℕ
hex [] = []
hex (b ∷ bs) = pair b ++ hex bs
