-- Words as numbers and bytes.
-- Assumes nothing.
use Rattle.std.specs.Prelude.{Bool, true, false, cond, List, [], ◌∷◌, ℕ, ◌+◌, ◌-◌, ◌*◌, ◌/◌, length, get_or, ltb, eqb, Option, Some, None}

-- the value of a hex digit; 16 where it is none
unfoldable pub nibble_of : ℕ → ℕ
nibble_of b = cond (ltb b 48) 16 (cond (ltb b 58) (b - 48) (cond (ltb b 97) 16 (cond (ltb b 103) (b - 87) 16)))

-- the byte of two hex digits; 256 where one is none
unfoldable pub octet_of : ℕ → ℕ → ℕ
octet_of h l = cond (ltb 15 (nibble_of h)) 256 (cond (ltb 15 (nibble_of l)) 256 (nibble_of h * 16 + nibble_of l))

-- a word of hex digits, two for each byte
unfoldable pub is_hex : List ℕ → Bool
is_hex [] = true
is_hex (h ∷ []) = false
is_hex (h ∷ l ∷ w) = cond (ltb 255 (octet_of h l)) false (is_hex w)

-- its bytes
unfoldable pub unhex : List ℕ → List ℕ
unhex [] = []
unhex (h ∷ []) = []
unhex (h ∷ l ∷ w) = octet_of h l ∷ unhex w

unfoldable pub is_dash : List ℕ → Bool
is_dash w = cond (eqb (length w) 1) (eqb (get_or w 0 0) 45) false

-- how many bytes a word of hex digits says
unfoldable pub octets : List ℕ → Option ℕ
octets w = cond (is_hex w) (Some (length w / 2)) None

-- and a word of them, or `-`
unfoldable pub size_of : List ℕ → Option ℕ
size_of w = cond (is_dash w) (Some 0) (cond (eqb (length w) 0) None (octets w))
