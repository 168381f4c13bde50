-- What is known of the protocol data of a Data message that reads: so it can be held, and sent again.
-- Assumes nothing.
use Rattle.std.specs.Prelude.{◌≡◌, ℕ, ◌+◌, ◌≤◌, true, cond, ◌||◌, List, [], ◌∷◌, length, take, drop, eqb}
use Rattle.codec_wire.specs.Walk.{Par}
use Rattle.codec_parameter.specs.Table.{key}
use Rattle.codec_read.specs.Meaning.{data_of, data_tag, data_at}

-- the tag of the first parameter that counts as t; 0 where there is none
unfoldable pub tag_in : ℕ → List Par → ℕ
tag_in t [] = 0
tag_in t (p ∷ ps) = cond (eqb (key p.tag) (key t)) p.tag (tag_in t ps)

-- its tag, its length within the limits of Rule 2.15, and that it lies in the message, behind a tag and a
-- length field
pub record GoodUnit (s : List ℕ) : Type 0 where
  pub tagged : (eqb (data_tag s) 0x300 || eqb (data_tag s) 0x301) ≡ true
  pub least : 1 ≤ (data_at s).length
  pub most : (data_at s).length ≤ 273
  pub within : (data_at s).start + (data_at s).length ≤ length s
  pub bytes : take (data_at s).length (drop (data_at s).start s) ≡ data_of s
  pub same_length : length (data_of s) ≡ (data_at s).length
  pub behind : 4 ≤ (data_at s).start
