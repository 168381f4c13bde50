-- What reading a message gives (Rule 2.18), and where its protocol data lies (Rule 1.7).
-- Assumes nothing.
use Rattle.std.specs.Prelude.{◌≡◌, ℕ, Option, Some, None, ◌+◌, ◌≤◌, true, cond, ◌||◌, List, [], ◌∷◌, length, get_or, take, drop, eqb}
use Rattle.laws.specs.Below.{one}
use Rattle.codec_wire.specs.Walk.{Par, padded, walk}
use Rattle.codec_parameter.specs.Table.{key}
use Rattle.codec_parameter.specs.Value.{limits_of}
use Rattle.codec_read.specs.Verdict.{has, number, is_retrieval_request, is_retrieval_confirm, verdict}
use Rattle.codec_read.specs.declared.Reading.{Reading}
use Rattle.codec_read.specs.declared.DataAt.{DataAt}
use Rattle.codec_read.specs.declared.Found.{Found}

-- a refused message: its number alone
abbrev pub unreadable : ℕ → Reading
unreadable n =
    record {
      code = n;
      class = 0;
      msgtype = 0;
      ids = 0;
      id = 0;
      mode = 0;
      identified = 0;
      aspid = 0;
      correlated = 0;
      correlation = 0;
      state = 0;
      retrieval = 0;
      sequenced = 0;
      sequence = 0;
    }

-- an accepted message of a class and type with these parameters: what events and hosts ask of it
unfoldable pub meaning : ℕ → ℕ → List Par → Reading
meaning c t ps =
    record {
      code = 0;
      class = c;
      msgtype = t;
      ids = one (has 0x1 ps || has 0x8 ps);
      id = number 0x1 ps;
      mode = number 0xb ps;
      identified = one (has 0x11 ps);
      aspid = number 0x11 ps;
      correlated = one (has 0x13 ps);
      correlation = number 0x13 ps;
      state = number 0x302 ps;
      retrieval = number 0x306 ps;
      sequenced = one (has 0x307 ps);
      sequence = number 0x307 ps;
    }

-- what a verdict hands back of a message
unfoldable pub outcome : ℕ → List ℕ → Reading
outcome n s = cond (eqb n 0) (meaning (get_or s 2 0) (get_or s 3 0) (walk s 8).pars) (unreadable n)

-- what reading a message gives
unfoldable pub reading_of : List ℕ → Reading
reading_of s = outcome (verdict s) s

-- The sequence number that reading gives: only a Retrieval Request and a Retrieval Confirm have one, within
-- its limits (Rules 2.16, 2.17); where none is given it is 0.
pub record SequenceNumber (r : Reading) : Type 0 where
  pub only : r.sequenced ≡ 1 → (is_retrieval_request r.class r.msgtype || is_retrieval_confirm r.class r.msgtype) ≡ true
  pub most : r.sequence ≤ (limits_of 0x307).high
  pub none : r.sequenced ≡ 0 → r.sequence ≡ 0

abbrev pub SequenceNumbers : Type 0
SequenceNumbers = (s : List ℕ) → SequenceNumber (reading_of s)

-- the value of the first parameter of a tag; nothing where there is none
unfoldable pub body_in : ℕ → List Par → List ℕ
body_in t [] = []
body_in t (p ∷ ps) = cond (eqb (key p.tag) (key t)) p.body (body_in t ps)

-- the first parameter that has one of two tags, if the first of all stands at a position: its tag, and where
-- its value lies
unfoldable pub found_in : ℕ → ℕ → ℕ → List Par → Option Found
found_in t u at [] = None
found_in t u at (p ∷ ps) =
    cond (eqb p.tag t || eqb p.tag u) (Some (record { tag = p.tag; start = at + 4; length = length p.body }))
    (found_in t u (at + padded (4 + length p.body)) ps)

-- a parameter that was found; zeros where there is none
abbrev pub or_zeros : Option Found → Found
or_zeros None = record { tag = 0; start = 0; length = 0 }
or_zeros (Some f) = f

abbrev pub place_of : Found → DataAt
place_of f = record { start = f.start; length = f.length }

-- the protocol data (Rule 1.7): its bytes, its tag, 0x300 or 0x301, and where the bytes lie in the message
unfoldable pub data_of : List ℕ → List ℕ
data_of s = body_in 0x300 (walk s 8).pars

unfoldable pub data_tag : List ℕ → ℕ
data_tag s = (or_zeros (found_in 0x300 0x301 8 (walk s 8).pars)).tag

unfoldable pub data_at : List ℕ → DataAt
data_at s = place_of (or_zeros (found_in 0x300 0x301 8 (walk s 8).pars))

-- bytes are those that lie in a message at a place
pub record LiesAt (s : List ℕ) (d : DataAt) (v : List ℕ) : Type 0 where
  pub bytes : v ≡ take d.length (drop d.start s)
  pub within : d.start + d.length ≤ length s

-- the two say the same
abbrev pub DataLies : Type 0
DataLies = (s : List ℕ) → LiesAt s (data_at s) (data_of s)
