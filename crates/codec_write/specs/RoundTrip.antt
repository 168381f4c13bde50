-- The round trip: what reading gives of a written message, and writing of a read one.
-- Assumes nothing.
use Rattle.std.specs.Prelude.{◌≡◌, ℕ, ◌+◌, ◌<◌, ◌≤◌, Bool, true, false, cond, ◌&&◌, ◌||◌, List, [], ◌∷◌, length, get_or, take, ltb, leb, eqb}
use Rattle.laws.specs.Columns.{tabulate}
use Rattle.codec_wire.specs.Walk.{Par, walk, padded}
use Rattle.codec_read.specs.Verdict.{verdict}
use Rattle.codec_read.specs.Meaning.{meaning, reading_of}
use Rattle.codec_put.specs.Bytes.{overlay}
use Rattle.codec_write.specs.Encode.{encode, pars_in, whole, tags_of, lens_of, values_of}
use Rattle.codec_write.specs.Write.{Writes}
use Rattle.codec_write.specs.declared.Written.{Written}

-- a message s reads as the list ps (Rule 3.6): the walk finds ps and no fault, the verdict is 0, and the
-- meaning is that of ps
pub record ReadsBack (c t : ℕ) (ps : List Par) (s : List ℕ) : Type 0 where
  pub walked : walk s 8 ≡ record { pars = ps; code = 0 }
  pub accepted : verdict s ≡ 0
  pub means : reading_of s ≡ meaning c t ps

-- ---- a message with zeros where the reader does not look (Rule 3.7)

-- the position i is padding of one of the parameters ps, which stand one after the other from the position
-- `at` on: it lies behind the parameter's length and before its padded end
unfoldable pub is_padding : ℕ → List Par → ℕ → Bool
is_padding at [] i = false
is_padding at (p ∷ ps) i =
    (leb (at + (4 + length p.body)) i && ltb i (at + padded (4 + length p.body)))
    || is_padding (at + padded (4 + length p.body)) ps i

-- a message with the spare byte, its second, and the padding zeroed; every other byte as it was
unfoldable pub plain : List ℕ → List ℕ
plain s = tabulate (length s) (λ i. cond (eqb i 1 || is_padding 8 (walk s 8).pars i) 0 (get_or s i 0))

-- a list of bytes
pub record Bytes (s : List ℕ) : Type 0 where
  pub below : (i : ℕ) → i < length s → get_or s i 0 < 256

-- of a message s that was read: the encoding of its class, type and parameters is s with spare and padding
-- zeroed; the two have the same length, and the encoding is accepted too
pub record WritesBack (s : List ℕ) : Type 0 where
  pub same : encode (get_or s 2 0) (get_or s 3 0) (walk s 8).pars ≡ plain s
  pub same_length : length (encode (get_or s 2 0) (get_or s 3 0) (walk s 8).pars) ≡ length s
  pub accepted : verdict (encode (get_or s 2 0) (get_or s 3 0) (walk s 8).pars) ≡ 0

-- a write that gave a buffer the message s with spare and padding zeroed
pub record WrittenBack (s out : List ℕ) (r : Written) (out' : List ℕ) : Type 0 where
  pub code_is : r.code ≡ 0
  pub length_is : r.length ≡ length s
  pub bytes_are : out' ≡ overlay out 0 (plain s)

-- ---- the laws (proofs/RoundTrip.antt)

-- The walk over what was written gives the list, whatever class, type and list are.
abbrev pub WalkGivesList : Type 0
WalkGivesList = (c t : ℕ) (ps : List Par) → walk (encode c t ps) 8 ≡ record { pars = ps; code = 0 }

-- What a write that was not refused has put at the buffer's start reads as the list.
abbrev pub ReadingGivesList : Type 0
ReadingGivesList =
    (c t : ℕ) (ts ns vs out : List ℕ) (r : Written) (out' : List ℕ) → Writes c t ts ns vs out r out' → r.code ≡ 0
    → ReadsBack c t (pars_in ts ns vs) (take r.length out')

-- Every message that is accepted is written back (Rule 3.7).
abbrev pub WritingGivesBytes : Type 0
WritingGivesBytes = (s : List ℕ) → Bytes s → verdict s ≡ 0 → WritesBack s

-- The same of `write`: it is given the class and type of a message s that reads, a whole list of the
-- parameters that the walk over s finds, and a buffer that is not shorter than s.
abbrev pub WriteGivesBytes : Type 0
WriteGivesBytes =
    (s ts ns vs out : List ℕ) (r : Written) (out' : List ℕ) → Bytes s → verdict s ≡ 0 → whole ts ns vs ≡ true → pars_in ts ns vs ≡ (walk s 8).pars → length s ≤ length out
    → Writes (get_or s 2 0) (get_or s 3 0) ts ns vs out r out' → WrittenBack s out r out'

-- Every list of parameters can be lent (Rule 3.8).
abbrev pub EveryListLent : Type 0
EveryListLent =
    (ps : List Par) → (whole (tags_of ps) (lens_of ps) (values_of ps) ≡ true) × (pars_in (tags_of ps) (lens_of ps) (values_of ps) ≡ ps)
