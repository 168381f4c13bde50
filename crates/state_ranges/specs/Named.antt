-- The identifiers that a message names: which is refused first, and which ASes own the known ones
-- (Rules 2.11, 5.16, 7.8).
-- Assumes nothing.
use Rattle.std.specs.Prelude.{ℕ, zero, suc, ◌+◌, ◌*◌, ◌-◌, ◌/◌, Bool, true, false, ◌&&◌, cond, not, List, eqb, ltb, length}
use Rattle.laws.specs.Below.{any_below, first_below}
use Rattle.laws.specs.Columns.{number_at, is_set}
use Rattle.codec_wire.specs.Number.{be}
use Rattle.state_tables.specs.Sound.{pair}
use Rattle.state_lookup.specs.Links.{index_of, known}

-- ---- one identifier

unfoldable pub owner_by_id : List ℕ → List ℕ → ℕ → ℕ → ℕ
owner_by_id iid owner links x = number_at owner (index_of iid links x)

-- it is unknown, or p is no member of its AS
unfoldable pub is_refused : List ℕ → List ℕ → List ℕ → ℕ → ℕ → ℕ → Bool
is_refused iid owner member links p x = not (known iid links x && is_set member (pair (owner_by_id iid owner links x) p))

-- it is known, and AS a owns it
unfoldable pub is_owned_by : List ℕ → List ℕ → ℕ → ℕ → ℕ → Bool
is_owned_by iid owner links a x = known iid links x && eqb (owner_by_id iid owner links x) a

-- ---- a range: from start to stop, both included

-- how many identifiers it names
abbrev pub span : ℕ → ℕ → ℕ
span start stop = stop + 1 - start

-- whether an identifier is refused, and which; else 0
pub record Refused : Type 0 where
  pub found : Bool
  pub id : ℕ

abbrev pub nothing : Refused
nothing = record { found = false; id = 0 }

abbrev pub refusing : ℕ → Refused
refusing x = record { found = true; id = x }

-- the first identifier from start to stop that is bad
unfoldable pub first_in : (ℕ → Bool) → ℕ → ℕ → Refused
first_in bad start stop =
    cond (ltb (first_below (λ i. bad (start + i)) (span start stop)) (span start stop))
    (refusing (start + first_below (λ i. bad (start + i)) (span start stop)))
    nothing

-- whether some identifier from start to stop is good
unfoldable pub some_in : (ℕ → Bool) → ℕ → ℕ → Bool
some_in good start stop = any_below (λ i. good (start + i)) (span start stop)

-- ---- the value of a parameter: identifiers of four bytes (0x1), or ranges of eight (0x8)

-- pairs says that the tag is 0x8. An identifier alone is a range of one.
abbrev pub width : Bool → ℕ
width pairs = cond pairs 8 4

unfoldable pub start_at : Bool → List ℕ → ℕ → ℕ
start_at pairs s i = be 4 s (width pairs * i)

unfoldable pub stop_at : Bool → List ℕ → ℕ → ℕ
stop_at pairs s i = be 4 s (width pairs * i + (width pairs - 4))

unfoldable pub entries : Bool → List ℕ → ℕ
entries pairs s = length s / width pairs

-- the first of n answers that refuses
unfoldable pub first_of : (ℕ → Refused) → ℕ → Refused
first_of f zero = nothing
first_of f (suc n) = cond (first_of f n).found (first_of f n) (f n)

-- the first refused identifier of an entry, and whether it names a good one
unfoldable pub refused_entry : (ℕ → Bool) → Bool → List ℕ → ℕ → Refused
refused_entry bad pairs s i = first_in bad (start_at pairs s i) (stop_at pairs s i)

unfoldable pub some_entry : (ℕ → Bool) → Bool → List ℕ → ℕ → Bool
some_entry good pairs s i = some_in good (start_at pairs s i) (stop_at pairs s i)

-- the same of the value, its entries in order
unfoldable pub refused_in : (ℕ → Bool) → Bool → List ℕ → Refused
refused_in bad pairs s = first_of (refused_entry bad pairs s) (entries pairs s)

unfoldable pub some_of : (ℕ → Bool) → Bool → List ℕ → Bool
some_of good pairs s = any_below (some_entry good pairs s) (entries pairs s)
