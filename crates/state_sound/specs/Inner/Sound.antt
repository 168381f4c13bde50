-- The units held, asked column by column and row by row, and that this is what a sound state asks of them.
-- Assumes nothing.
use Rattle.std.specs.Prelude.{ℕ, ◌+◌, ◌*◌, ◌-◌, ◌/◌, ◌<◌, ◌≡◌, Bool, true, ◌||◌, ◌&&◌, cond, List, eqb, leb, ltb, length}
use Rattle.laws.specs.Below.{all_below, one}
use Rattle.laws.specs.Columns.{number_at, is_set}
use Rattle.state_tables.specs.declared.Units.{Units}
use Rattle.state_tables.specs.Sound.{is_link_of, is_sound}
use Rattle.state_tables.specs.State.{gateway_of, units_of}
use Rattle.state_sound.specs.declared.Held.{Held}

-- the state of the columns that it lends
abbrev pub is_sound_of : ℕ → ℕ → ℕ → ℕ → List ℕ → List ℕ → List ℕ → List ℕ → List ℕ → List ℕ → List ℕ → List ℕ → List ℕ → List ℕ
    → List ℕ → List ℕ → List ℕ → List ℕ → List ℕ → List ℕ → List ℕ → Bool
is_sound_of asps ases links spare aspid up member active mode waiting iid owner state highspeed wholelists count tag length marked id correlation =
    is_sound (gateway_of asps ases links spare aspid up member active mode waiting iid owner state highspeed wholelists (units_of count tag length marked id correlation))

-- the units of lent columns
abbrev pub units_in : Held → Units
units_in h = units_of h.count.now h.tag.now h.length.now h.marked.now h.id.now h.correlation.now

-- n places of three columns, or of two, are zero
abbrev pub narrow_at : List ℕ → List ℕ → List ℕ → ℕ → ℕ → Bool
narrow_at c d e from k = (eqb (number_at c (from + k)) 0 && eqb (number_at d (from + k)) 0) && eqb (number_at e (from + k)) 0

unfoldable pub narrow_blank : List ℕ → List ℕ → List ℕ → ℕ → ℕ → Bool
narrow_blank c d e from = all_below (narrow_at c d e from)

abbrev pub wide_at : List ℕ → List ℕ → ℕ → ℕ → Bool
wide_at c d from k = eqb (number_at c (from + k)) 0 && eqb (number_at d (from + k)) 0

unfoldable pub wide_blank : List ℕ → List ℕ → ℕ → ℕ → Bool
wide_blank c d from = all_below (wide_at c d from)

-- n places hold no unit
unfoldable pub blank_places : Units → ℕ → ℕ → Bool
blank_places u from n = narrow_blank u.tag u.length u.marked from n && wide_blank u.id u.correlation from n

-- no AS holds a unit
unfoldable pub none_counted : List ℕ → Bool
none_counted count = all_below (λ a. eqb (number_at count a) 0) 16

-- an AS holds 8 at most, and some only while it waits
abbrev pub count_at : List ℕ → List ℕ → ℕ → Bool
count_at count waiting a = leb (number_at count a) 8 && (eqb (number_at count a) 0 || is_set waiting a)

unfoldable pub counts_fit : List ℕ → List ℕ → Bool
counts_fit count waiting = all_below (count_at count waiting) 16

-- a unit but for its link
unfoldable pub data_fit : ℕ → ℕ → ℕ → ℕ → Bool
data_fit tag length marked correlation =
    ((eqb tag 0x300 || eqb tag 0x301) && (leb 5 length && leb length 277)) && (eqb marked 1 || (eqb marked 0 && eqb correlation 0))

abbrev pub fields_at : Units → ℕ → ℕ → Bool
fields_at u from k =
    data_fit (number_at u.tag (from + k)) (number_at u.length (from + k)) (number_at u.marked (from + k)) (number_at u.correlation (from + k))

unfoldable pub fields_fit : Units → ℕ → ℕ → Bool
fields_fit u from = all_below (fields_at u from)

-- the links of the first units of AS a
abbrev pub id_at : List ℕ → List ℕ → List ℕ → ℕ → ℕ → ℕ → Bool
id_at id iid owner links a k = is_link_of iid owner links a (number_at id (a * 8 + k))

unfoldable pub ids_fit : List ℕ → List ℕ → List ℕ → ℕ → ℕ → ℕ → Bool
ids_fit id iid owner links a = all_below (id_at id iid owner links a)

-- Place i of what is marked, where the units of AS a were looked through up to unit k for the identifier x.
abbrev pub marked_at : List ℕ → ℕ → ℕ → ℕ → List ℕ → ℕ → ℕ
marked_at id x a k old i = cond ((leb (a * 8) i && ltb i (a * 8 + k)) && eqb (number_at id i) x) 1 (number_at old i)

pub record Marked (id : List ℕ) (x a k : ℕ) (old new : List ℕ) : Type 0 where
  pub long : length new ≡ 128
  pub at : (i : ℕ) → i < 128 → number_at new i ≡ marked_at id x a k old i

-- marked are the units of which the link is one of the first so many, and of their own AS
pub record Seen (id iid owner : List ℕ) (links : ℕ) (seen : List ℕ) : Type 0 where
  pub long : length seen ≡ 128
  pub at : (i : ℕ) → i < 128 → number_at seen i ≡ one (is_link_of iid owner links (i / 8) (number_at id i))

unfoldable pub seen_fit : List ℕ → ℕ → ℕ → Bool
seen_fit seen a n = all_below (λ k. eqb (number_at seen (a * 8 + k)) 1) n

-- an AS that holds none has blank places
unfoldable pub empty_fit : Units → ℕ → ℕ → Bool
empty_fit u n a = cond (eqb n 0) (blank_places u (a * 8) 8) true

abbrev pub empty_at : Units → ℕ → Bool
empty_at u a = empty_fit u (number_at u.count a) a

unfoldable pub empties_fit : Units → Bool
empties_fit u = all_below (empty_at u) 16

-- one that holds n has n units, and blank places after them
unfoldable pub row_fit : Units → List ℕ → List ℕ → ℕ → ℕ → ℕ → Bool
row_fit u iid owner links n a =
    cond (eqb n 0) true
    (fields_fit u (a * 8) n && (ids_fit u.id iid owner links a n && blank_places u (a * 8 + n) (8 - n)))

-- the same, of the units marked
unfoldable pub row_seen : Units → List ℕ → ℕ → ℕ → Bool
row_seen u seen n a =
    cond (eqb n 0) true
    (fields_fit u (a * 8) n && (seen_fit seen a n && blank_places u (a * 8 + n) (8 - n)))

abbrev pub row_at : Units → List ℕ → List ℕ → ℕ → ℕ → Bool
row_at u iid owner links a = row_fit u iid owner links (number_at u.count a) a

unfoldable pub rows_fit : Units → List ℕ → List ℕ → ℕ → Bool
rows_fit u iid owner links = all_below (row_at u iid owner links) 16
