-- Laws of specs/Parse.antt, and definitions that only code and proofs use.
-- Assumes nothing.
use Rattle.std.specs.Prelude.{cond, List, [], ◌∷◌, ℕ, ◌+◌, ◌-◌, ◌*◌, length, ltb, eqb, Option, Some, None}
use Rattle.tool_text.specs.Parse.{nibble_of, octet_of}

-- the value of a hex digit, and the byte of two
abbrev pub nibble_in : ℕ → Option ℕ
nibble_in b = cond (ltb 15 (nibble_of b)) None (Some (nibble_of b))

abbrev pub octet_in : ℕ → ℕ → Option ℕ
octet_in h l = cond (ltb 255 (octet_of h l)) None (Some (octet_of h l))

-- a number with one more decimal digit: none where the character is no digit or the number doesn't fit 32
-- bits
unfoldable pub add_digit : ℕ → ℕ → Option ℕ
add_digit n b =
    cond (ltb b 48) None
    (cond (ltb 57 b) None
    (cond (ltb 4294967295 (n * 10 + (b - 48))) None (Some (n * 10 + (b - 48)))))

abbrev pub on_number : Option ℕ → (ℕ → Option ℕ) → Option ℕ
on_number (Some n) f = f n
on_number None f = None

-- a number with more digits
unfoldable pub number_from : ℕ → List ℕ → Option ℕ
number_from n [] = Some n
number_from n (b ∷ bs) = on_number (add_digit n b) (λ m. number_from m bs)

-- a word as a decimal number: one digit at least, leading zeros are fine
unfoldable pub number_of : List ℕ → Option ℕ
number_of w = cond (eqb (length w) 0) None (number_from 0 w)
