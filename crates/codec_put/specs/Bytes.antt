-- Numbers, parameters and the message header as bytes.
-- Assumes nothing.
use Rattle.std.specs.Prelude.{◌≡◌, ℕ, ◌+◌, ◌-◌, ◌/◌, ◌%◌, List, [], ◌∷◌, ◌++◌, length, replicate}
use Rattle.std.proofs.lemmas.List.Edits.{sets}
use Rattle.codec_wire.specs.Walk.{Par, padded}

-- the bytes vs written over a list from a position on; all others stay
unfoldable pub overlay : List ℕ → ℕ → List ℕ → List ℕ
overlay l at vs = sets l at vs

-- a number of 16 bits (Rule 1.1)
abbrev pub bytes16 : ℕ → List ℕ
bytes16 n = n / 256 ∷ n % 256 ∷ []

-- a number of 32 bits
abbrev pub bytes32 : ℕ → List ℕ
bytes32 n = bytes16 (n / 65536) ++ bytes16 (n % 65536)

abbrev pub par : ℕ → List ℕ → Par
par t v = record { tag = t; body = v }

-- how many bytes a parameter takes whose value has n
abbrev pub par_size : ℕ → ℕ
par_size n = padded (4 + n)

-- a parameter as it is written (Rules 1.3, 1.4 and 3.1): the padding is zeros
unfoldable pub par_bytes : Par → List ℕ
par_bytes p =
    bytes16 p.tag
    ++ (bytes16 (4 + length p.body)
    ++ (p.body
    ++ replicate (par_size (length p.body) - (4 + length p.body)) 0))

-- parameters one after the other, in the list's order
unfoldable pub pars_bytes : List Par → List ℕ
pars_bytes [] = []
pars_bytes (p ∷ ps) = par_bytes p ++ pars_bytes ps

-- the header (Rule 1.2) as it is written: the spare byte is 0
abbrev pub head_bytes : ℕ → ℕ → ℕ → List ℕ
head_bytes c t n = 1 ∷ 0 ∷ c ∷ t ∷ bytes32 n

-- a parameter of the tag t and the value v is written over out at a position: the position after it, and the
-- whole buffer
pub record PutAt (out : List ℕ) (at t : ℕ) (v : List ℕ) (r : ℕ) (out' : List ℕ) : Type 0 where
  pub next : r ≡ at + par_size (length v)
  pub bytes : out' ≡ overlay out at (par_bytes (par t v))
