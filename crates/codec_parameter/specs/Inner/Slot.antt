-- The reader keeps what it has seen of each tag in a small table; a tag's index there is its slot.
-- Assumes nothing.
use Rattle.std.specs.Prelude.{ℕ, Option, Some, None, ◌+◌, ◌-◌, ◌*◌, ◌/◌, ◌%◌, ◌^◌, get_or, Bool, true, false, cond, ◌&&◌, List, [], ◌∷◌, ltb, eqb}
use Rattle.codec_parameter.specs.Table.{is_mandatory, Entry}
use Rattle.codec_parameter.specs.declared.Usage.{Usage}
use Rattle.codec_parameter.specs.declared.Usage.TheVariants.{Forbidden, Optional, Mandatory, Repeated}
use Rattle.codec_parameter.specs.declared.RowInfo.{RowInfo}

-- a slot for each tag that some message has; 0x300 and 0x301 share one. A tag that no message has is at 31.
unfoldable pub slot : ℕ → ℕ
slot t = cond (ltb t 20) t (cond (ltb t 0x300) 31 (cond (ltb 0x308 t) 31 (cond (eqb t 0x301) 20 (t - 748))))

-- the tag of a slot; that of 31 no message has
unfoldable pub tag_at : ℕ → ℕ
tag_at k = cond (ltb k 20) k (k + 748)

-- ---- a row of the table, packed: two bits for each slot say how its tag stands, and three slots, of five
-- bits each, are the mandatory ones

abbrev pub info : ℕ → ℕ → RowInfo
info u m = record { uses = u; musts = m }

unfoldable pub info_of : ℕ → RowInfo
info_of row =
    cond (eqb row 0) (info 0x203400c 12)
    (cond (eqb row 1) (info 0x40803010c 13)
    (cond (eqb row 2) (info 0x400000100 0)
    (cond (eqb row 3) (info 0x100 0)
    (cond (eqb row 4) (info 0x40000 0)
    (cond (eqb row 5) (info 0x43010c 0)
    (cond (eqb row 6) (info 0x3010c 0)
    (cond (eqb row 7) (info 0xa4000000008 641)
    (cond (eqb row 8) (info 0x8 1)
    (cond (eqb row 9) (info 0x200000000008 705)
    (cond (eqb row 10) (info 0x800000000008 737)
    (cond (eqb row 11) (info 0x60000000000008 833)
    (cond (eqb row 12) (info 0x260000000000008 29505)
    (cond (eqb row 13) (info 0xa0000000008 641)
    (cond (eqb row 14) (info 0x50000000008 1)
    (cond (eqb row 15) (info 0x6000000000008 769)
    (info 0x8000000008 609))))))))))))))))

-- the two bits of a slot
abbrev pub use_bits : ℕ → ℕ → ℕ
use_bits uses k = uses / 2 ^ (2 * k) % 4

-- the usage that they stand for
unfoldable pub usage_of : ℕ → Usage
usage_of n = cond (eqb n 0) Forbidden (cond (eqb n 2) Mandatory (cond (eqb n 3) Repeated Optional))

-- how the tag of a slot stands in the messages of a row
abbrev pub packed_use : ℕ → ℕ → Usage
packed_use uses k = usage_of (use_bits uses k)

-- each mandatory slot of a row is met
unfoldable pub all_met : List Entry → List Bool → Bool
all_met [] met = true
all_met (e ∷ es) met = cond (is_mandatory e.use_as) (get_or met (slot e.tag) false && all_met es met) (all_met es met)

-- a slot is met; 0 stands for no slot
abbrev pub asked : List Bool → ℕ → Bool
asked met k = cond (eqb k 0) true (get_or met k false)

-- each of three packed slots is met
unfoldable pub all_asked : ℕ → List Bool → Bool
all_asked m met = (asked met (m % 32) && asked met (m / 32 % 32)) && asked met (m / 1024 % 32)

-- the row of a type: four bits for each type are its place among the class's rows, 15 for none
unfoldable pub row_bits : ℕ → ℕ → ℕ → ℕ
row_bits rows base t = cond (ltb 15 t) 17 (cond (eqb (rows / 2 ^ (4 * t) % 16) 15) 17 (base + rows / 2 ^ (4 * t) % 16))

-- a row's index; 17 stands for no row
abbrev pub row_or_none : Option ℕ → ℕ
row_or_none None = 17
row_or_none (Some i) = i

-- the row at an index, if there is one
abbrev pub listed : ℕ → Option ℕ
listed i = cond (eqb i 17) None (Some i)
