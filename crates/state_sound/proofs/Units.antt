-- That the tests of the units, column by column, are what a sound state asks of them.
-- Assumes nothing.
use Prim.Native.Nat.{ℕ, ◌+◌, ◌*◌, ◌-◌, ◌/◌, ◌<◌, ◌≤◌}
use mathlib.Core.Path.{◌≡◌, refl, ap, ◌∙◌, sym}
use mathlib.Core.Bool.{Bool, true, false, ◌||◌, ◌&&◌, cond}
use mathlib.Core.List.{List}
use native.Mathlib.Omega.{arith}
use native.Mathlib.Decide.{dec_lt, ℕ_discrete}
use lib.Dec.{eqb, leb, ltb}
use lib.ListN.{length, set, length-set, replicate, get_or-replicate}
use lib.Seq.{get_or-set_same, get_or-set_other}
use borrow.Author.Tests.{lt-ltb, le-ltb, lt-leb, le-leb, leb-true, eqb-true, eq-eqb, ne_eqb}
use Rattle.laws.specs.Below.{all_below, any_below, one}
use Rattle.laws.specs.Inner.Below.{all_at, all_of, any_none, any_more}
use Rattle.laws.specs.Inner.Every.{all_ext, all_two, and_left, and_right, and_both, same_truth}
use Rattle.laws.specs.Columns.{number_at, is_set}
use Rattle.state_tables.specs.declared.Gateway.{Gateway}
use Rattle.state_tables.specs.declared.Units.{Units}
use Rattle.state_tables.specs.Sound.{all_under, counts_in, sound_asps, sound_ases, sound_links, sound_columns, sound_tables, is_link_of, unit_at, blank_at, units_ok, sized, all_units, sound_units, is_sound}
use Rattle.state_tables.specs.Inner.Sound.{sound_tables_of}
use Rattle.state_tables.specs.Inner.Laws.{limits, links_parts}
use Rattle.state_tables.specs.Inner.Column.{column_all, under_wider}
use Rattle.state_sound.specs.Inner.Sound.{narrow_at, narrow_blank, wide_at, wide_blank, blank_places, none_counted, count_at, counts_fit, data_fit, fields_at, fields_fit, id_at, ids_fit, marked_at, Marked, Seen, seen_fit, empty_fit, empty_at, empties_fit, row_fit, row_seen, row_at, rows_fit}

-- ---- numbers below a count

-- one test of the numbers below n, and another of those from there on
all_split : (f g : ℕ → Bool) (n m : ℕ) → n ≤ m → all_below (λ k. cond (ltb k n) (f k) (g k)) m ≡ (all_below f n && all_below (λ k. g (n + k)) (m - n))
all_split f g n m b =
    same_truth (all_below (λ k. cond (ltb k n) (f k) (g k)) m) (all_below f n && all_below (λ k. g (n + k)) (m - n))
    (λ h.
    and_both (all_below f n) (all_below (λ k. g (n + k)) (m - n))
    (all_of f n (λ i q. rw (lt-ltb i n q) at (all_at (λ k. cond (ltb k n) (f k) (g k)) m h i (omega arith))))
    (all_of (λ k. g (n + k)) (m - n) (λ i q. rw (le-ltb (n + i) n (omega arith)) at (all_at (λ k. cond (ltb k n) (f k) (g k)) m h (n + i) (omega arith)))))
    (λ h. all_of (λ k. cond (ltb k n) (f k) (g k)) m (λ i q. go h i q (dec_lt i n)))
  where
    go : (all_below f n && all_below (λ k. g (n + k)) (m - n)) ≡ true → (i : ℕ) → i < m → Dec (i < n) → cond (ltb i n) (f i) (g i) ≡ true
    go h i q (yes l) = rw (lt-ltb i n l) (all_at f n (and_left (all_below f n) (all_below (λ k. g (n + k)) (m - n)) h) i l)
    go h i q (no l) =
        let e : n + (i - n) ≡ i = omega arith in
        rw (le-ltb i n (omega arith)) (rw e at (all_at (λ k. g (n + k)) (m - n) (and_right (all_below f n) (all_below (λ k. g (n + k)) (m - n)) h) (i - n) (omega arith)))

-- 16 rows of 8 are 128 places
all_rows : (f : ℕ → Bool) → all_below (λ a. all_below (λ k. f (a * 8 + k)) 8) 16 ≡ all_below (λ i. f (0 + i)) 128
all_rows f =
    same_truth (all_below (λ a. all_below (λ k. f (a * 8 + k)) 8) 16) (all_below (λ i. f (0 + i)) 128)
    (λ h.
    all_of (λ i. f (0 + i)) 128
    (λ i b.
    let e : i / 8 * 8 + (i - i / 8 * 8) ≡ 0 + i = omega arith in
    rw e at (all_at (λ k. f (i / 8 * 8 + k)) 8 (all_at (λ a. all_below (λ k. f (a * 8 + k)) 8) 16 h (i / 8) (omega arith)) (i - i / 8 * 8) (omega arith))))
    (λ h.
    all_of (λ a. all_below (λ k. f (a * 8 + k)) 8) 16
    (λ a b.
    all_of (λ k. f (a * 8 + k)) 8
    (λ k d.
    let e : 0 + (a * 8 + k) ≡ a * 8 + k = omega arith in
    rw e at (all_at (λ i. f (0 + i)) 128 h (a * 8 + k) (omega arith)))))

-- ---- the link of a unit

one_is : (u : Bool) → eqb (one u) 1 ≡ u
one_is true = refl
one_is false = refl

-- none is marked yet
pub seen_none : (id iid owner : List ℕ) → Seen id iid owner 0 (replicate 128 0)
unfolding is_link_of
seen_none id iid owner = record { long = refl; at = λ i b. get_or-replicate {A = ℕ} 128 i 0 0 b ∙ sym (ap one (any_none _)) }

-- and the units of a link's owner are, of which it is the link
pub seen_more : (id iid owner : List ℕ) (l : ℕ) {old new : List ℕ} → Seen id iid owner l old → Marked id (number_at iid l) (number_at owner l) 8 old new → Seen id iid owner (l + 1) new
unfolding is_link_of
seen_more id iid owner l {old} h m = record { long = m.long; at = λ i b. m.at i b ∙ rw (h.at i b, any_more) (turn i) }
  where
    here : ℕ → Bool
    here i = leb (number_at owner l * 8) i && ltb i (number_at owner l * 8 + 8)

    -- the places of an AS are its eight
    row_is : (i : ℕ) → here i ≡ eqb (number_at owner l) (i / 8)
    row_is i = go (ℕ_discrete (number_at owner l) (i / 8))
      where
        go : Dec (number_at owner l ≡ i / 8) → here i ≡ eqb (number_at owner l) (i / 8)
        go (yes z) = rw (eq-eqb (number_at owner l) (i / 8) z, le-leb (number_at owner l * 8) i (omega arith), lt-ltb i (number_at owner l * 8 + 8) (omega arith))
        go (no z) = rw (ne_eqb (number_at owner l) (i / 8) z) (out (dec_lt i (number_at owner l * 8)))
          where
            out : Dec (i < number_at owner l * 8) → here i ≡ false
            out (yes y) = rw (lt-leb (number_at owner l * 8) i y)
            out (no y) = rw (le-ltb i (number_at owner l * 8 + 8) (omega arith)) (none (leb (number_at owner l * 8) i))
              where
                none : (u : Bool) → (u && false) ≡ false
                none true = refl
                none false = refl

    same : (x y : ℕ) → eqb x y ≡ eqb y x
    same x y = go (ℕ_discrete x y)
      where
        go : Dec (x ≡ y) → eqb x y ≡ eqb y x
        go (yes z) = rw (eq-eqb x y z, eq-eqb y x (sym z))
        go (no z) = rw (ne_eqb x y z, ne_eqb y x (λ e. z (sym e)))

    joins : (u v w : Bool) → cond (v && w) 1 (one u) ≡ one (u || (w && v))
    joins true true true = refl
    joins true true false = refl
    joins true false true = refl
    joins true false false = refl
    joins false true true = refl
    joins false true false = refl
    joins false false true = refl
    joins false false false = refl

    turn : (i : ℕ)
        → cond (here i && eqb (number_at id i) (number_at iid l)) 1 (one (any_below (λ j. eqb (number_at iid j) (number_at id i) && eqb (number_at owner j) (i / 8)) l))
        ≡ one (any_below (λ j. eqb (number_at iid j) (number_at id i) && eqb (number_at owner j) (i / 8)) l || (eqb (number_at iid l) (number_at id i) && eqb (number_at owner l) (i / 8)))
    turn i =
        rw (row_is i, same (number_at id i) (number_at iid l))
        (joins (any_below (λ j. eqb (number_at iid j) (number_at id i) && eqb (number_at owner j) (i / 8)) l) (eqb (number_at owner l) (i / 8)) (eqb (number_at iid l) (number_at id i)))

-- so those of an AS are of its links
pub seen_fits : {id iid owner seen : List ℕ} {links : ℕ} → Seen id iid owner links seen → (a n : ℕ) → a < 16 → n ≤ 8 → seen_fit seen a n ≡ ids_fit id iid owner links a n
unfolding seen_fit ids_fit
seen_fits {id} {iid} {owner} {seen} {links} h a n b m =
    all_ext (λ k. eqb (number_at seen (a * 8 + k)) 1) (id_at id iid owner links a) n
    (λ k d.
    let e : (a * 8 + k) / 8 ≡ a = omega arith in
    rw (h.at (a * 8 + k) (omega arith), e) (one_is (is_link_of iid owner links a (number_at id (a * 8 + k)))))

pub row_seen_lem : (u : Units) (iid owner : List ℕ) (links : ℕ) {seen : List ℕ} → Seen u.id iid owner links seen → (n a : ℕ) → a < 16 → n ≤ 8
    → row_seen u seen n a ≡ row_fit u iid owner links n a
unfolding row_seen row_fit
row_seen_lem u iid owner links h n a b m = rw (seen_fits h a n b m)

-- ---- the units of an AS looked through

pub marked_none : (id : List ℕ) (x a : ℕ) (old : List ℕ) → length old ≡ 128 → Marked id x a 0 old old
marked_none id x a old e = record { long = e; at = λ i b. go i (dec_lt i (a * 8)) }
  where
    none : (u : Bool) → (u && false) ≡ false
    none true = refl
    none false = refl

    go : (i : ℕ) → Dec (i < a * 8) → number_at old i ≡ marked_at id x a 0 old i
    go i (yes z) = rw (lt-leb (a * 8) i z)
    go i (no z) = rw (le-ltb i (a * 8 + 0) (omega arith), none (leb (a * 8) i))

pub marked_more : (id : List ℕ) (x a k : ℕ) {old new : List ℕ} → Marked id x a k old new → a * 8 + k < 128 → (v : ℕ) → v ≡ cond (eqb (number_at id (a * 8 + k)) x) 1 (number_at new (a * 8 + k))
    → Marked id x a (k + 1) old (set new (a * 8 + k) v)
marked_more id x a k {old} {new} h b v e = record { long = length-set new (a * 8 + k) v ∙ h.long; at = λ i q. go i q (ℕ_discrete i (a * 8 + k)) }
  where
    none : (u : Bool) → (u && false) ≡ false
    none true = refl
    none false = refl

    before : number_at new (a * 8 + k) ≡ number_at old (a * 8 + k)
    before = h.at (a * 8 + k) b ∙ rw (le-ltb (a * 8 + k) (a * 8 + k) (omega arith), none (leb (a * 8) (a * 8 + k)))

    after : (i : ℕ) → (i ≡ a * 8 + k → ⊥) → ltb i (a * 8 + (k + 1)) ≡ ltb i (a * 8 + k)
    after i z = go (dec_lt i (a * 8 + k))
      where
        go : Dec (i < a * 8 + k) → ltb i (a * 8 + (k + 1)) ≡ ltb i (a * 8 + k)
        go (yes y) = rw (lt-ltb i (a * 8 + k) y, lt-ltb i (a * 8 + (k + 1)) (omega arith))
        go (no y) = rw (le-ltb i (a * 8 + k) (omega arith), le-ltb i (a * 8 + (k + 1)) (omega arith))

    go : (i : ℕ) → i < 128 → Dec (i ≡ a * 8 + k) → number_at (set new (a * 8 + k) v) i ≡ marked_at id x a (k + 1) old i
    go i q (yes z) = rw (z, get_or-set_same new (a * 8 + k) v 0 (omega (arith, h.long)), le-leb (a * 8) (a * 8 + k) (omega arith), lt-ltb (a * 8 + k) (a * 8 + (k + 1)) (omega arith)) (e ∙ rw before)
    go i q (no z) = get_or-set_other new (a * 8 + k) i v 0 z ∙ h.at i q ∙ rw (after i z)

-- ---- one AS, and all

module _ (u : Units) where
  abbrev blanks : ℕ → ℕ → Bool
  blanks = blank_places u

  blank_places_lem : (from n : ℕ) → all_below (λ k. blank_at u (from + k)) n ≡ blanks from n
  unfolding blank_places narrow_blank wide_blank blank_at
  blank_places_lem from n =
      all_ext (λ k. blank_at u (from + k)) (λ k. narrow_at u.tag u.length u.marked from k && wide_at u.id u.correlation from k) n
      (λ k b. regrouped (eqb (number_at u.tag (from + k)) 0 && eqb (number_at u.length (from + k)) 0) (eqb (number_at u.marked (from + k)) 0) (wide_at u.id u.correlation from k))
      ∙ all_two (narrow_at u.tag u.length u.marked from) (wide_at u.id u.correlation from) n
    where
      regrouped : (x y z : Bool) → (x && (y && z)) ≡ ((x && y) && z)
      regrouped true y z = refl
      regrouped false y z = refl

  module _ (waiting iid owner : List ℕ) (links : ℕ) where
    abbrev unit : ℕ → ℕ → Bool
    unit a k = unit_at u iid owner links a (a * 8 + k)

    unit_parts : (a n : ℕ) → all_below (unit a) n ≡ (fields_fit u (a * 8) n && ids_fit u.id iid owner links a n)
    unfolding unit_at fields_fit ids_fit data_fit
    unit_parts a n =
        all_ext (unit a) (λ k. fields_at u (a * 8) k && id_at u.id iid owner links a k) n
        (λ k b.
        regrouped
        ((eqb (number_at u.tag (a * 8 + k)) 0x300 || eqb (number_at u.tag (a * 8 + k)) 0x301) && (leb 5 (number_at u.length (a * 8 + k)) && leb (number_at u.length (a * 8 + k)) 277))
        (id_at u.id iid owner links a k)
        (eqb (number_at u.marked (a * 8 + k)) 1 || (eqb (number_at u.marked (a * 8 + k)) 0 && eqb (number_at u.correlation (a * 8 + k)) 0)))
        ∙ all_two (fields_at u (a * 8)) (id_at u.id iid owner links a) n
      where
        regrouped : (x y z : Bool) → (x && (y && z)) ≡ ((x && z) && y)
        regrouped true true true = refl
        regrouped true true false = refl
        regrouped true false true = refl
        regrouped true false false = refl
        regrouped false y z = refl

    abbrev place : ℕ → ℕ → ℕ → Bool
    place n a k = cond (ltb k n) (unit a k) (blank_at u (a * 8 + k))

    places_whole : (n a : ℕ) → n ≤ 8 → Dec (n ≡ 0) → all_below (place n a) 8 ≡ (row_fit u iid owner links n a && empty_fit u n a)
    unfolding row_fit empty_fit
    places_whole n a b (yes e) =
        rw (eq-eqb n 0 e)
        (all_ext (place n a) (λ k. blank_at u (a * 8 + k)) 8 (λ k d. rw (le-ltb k n (omega arith)))
        ∙ blank_places_lem (a * 8) 8)
    places_whole n a b (no e) =
        rw (ne_eqb n 0 e)
        (all_split (unit a) (λ k. blank_at u (a * 8 + k)) n 8 b
        ∙ rw (unit_parts a n, all_ext (λ k. blank_at u (a * 8 + (n + k))) (λ k. blank_at u (a * 8 + n + k)) (8 - n) (λ k d. let z : a * 8 + (n + k) ≡ a * 8 + n + k = omega arith in rw z), blank_places_lem (a * 8 + n) (8 - n))
        (regrouped (fields_fit u (a * 8) n) (ids_fit u.id iid owner links a n) (blanks (a * 8 + n) (8 - n))))
      where
        regrouped : (x y z : Bool) → ((x && y) && z) ≡ ((x && (y && z)) && true)
        regrouped true true true = refl
        regrouped true true false = refl
        regrouped true false z = refl
        regrouped false y z = refl

    abbrev row : ℕ → Bool
    row = row_at u iid owner links

    abbrev empty : ℕ → Bool
    empty = empty_at u

    as_whole : (a : ℕ) → units_ok u waiting iid owner links a ≡ (count_at u.count waiting a && (row a && empty a))
    unfolding units_ok
    as_whole a = go (count_at u.count waiting a) refl
      where
        go : (t : Bool) → count_at u.count waiting a ≡ t → (t && all_below (place (number_at u.count a) a) 8) ≡ (t && (row a && empty a))
        go true e = places_whole (number_at u.count a) a (leb-true (number_at u.count a) 8 (and_left (leb (number_at u.count a) 8) (eqb (number_at u.count a) 0 || is_set waiting a) e)) (ℕ_discrete (number_at u.count a) 0)
        go false e = refl

    -- all ASes, test by test
    units_whole : all_units u waiting iid owner links ≡ (counts_fit u.count waiting && (rows_fit u iid owner links && empties_fit u))
    unfolding all_units counts_fit rows_fit empties_fit
    units_whole =
        all_ext (units_ok u waiting iid owner links) (λ a. count_at u.count waiting a && (row a && empty a)) 16 (λ a b. as_whole a)
        ∙ all_two (count_at u.count waiting) (λ a. row a && empty a) 16
        ∙ ap (λ (t : Bool). all_below (count_at u.count waiting) 16 && t) (all_two row empty 16)

    pub counts_fail : counts_fit u.count waiting ≡ false → false ≡ all_units u waiting iid owner links
    counts_fail h = rw (units_whole, h)

    pub empties_fail : counts_fit u.count waiting ≡ true → empties_fit u ≡ false → false ≡ all_units u waiting iid owner links
    empties_fail h e = rw (units_whole, h, e) (none (rows_fit u iid owner links))
      where
        none : (t : Bool) → false ≡ (t && false)
        none true = refl
        none false = refl

    pub rows_said : (r : Bool) → counts_fit u.count waiting ≡ true → empties_fit u ≡ true → r ≡ rows_fit u iid owner links → r ≡ all_units u waiting iid owner links
    rows_said r h e q = rw (units_whole, h, e, ← q) (all r)
      where
        all : (t : Bool) → t ≡ (t && true)
        all true = refl
        all false = refl

    -- where no AS holds a unit, all places are blank
    pub units_none : none_counted u.count ≡ true → blanks 0 128 ≡ all_units u waiting iid owner links
    unfolding none_counted all_units row_fit empty_fit
    units_none h =
        sym (blank_places_lem 0 128)
        ∙ sym (all_rows (blank_at u))
        ∙ all_ext (λ a. all_below (λ k. blank_at u (a * 8 + k)) 8) (units_ok u waiting iid owner links) 16
        (λ a b.
        let z : number_at u.count a ≡ 0 = eqb-true (number_at u.count a) 0 (all_at (λ a. eqb (number_at u.count a) 0) 16 h a b) in
        blank_places_lem (a * 8) 8 ∙ sym (as_whole a ∙ rw z))

-- no count is above 8
pub counts_few : (count waiting : List ℕ) → counts_fit count waiting ≡ true → (a : ℕ) → a < 16 → number_at count a ≤ 8
unfolding counts_fit
counts_few count waiting h a b =
    leb-true (number_at count a) 8 (and_left (leb (number_at count a) 8) (eqb (number_at count a) 0 || is_set waiting a) (all_at (count_at count waiting) 16 h a b))

-- the links of sound tables
pub tables_links : (g : Gateway) → sound_tables g ≡ true → (g.links ≤ 128) × (all_under g.owner 16 g.links ≡ true)
unfolding sound_tables
tables_links g h =
    let c = counts_in g.asps g.ases g.links in
    let e = eqb g.spare 0 in
    let x = sound_asps g.aspid g.up g.asps in
    let y = sound_ases g.up g.member g.active g.mode g.waiting g.asps g.ases in
    let z = sound_links g.iid g.owner g.state g.ases g.links in
    let k = sound_columns g in
    let l = limits g.asps g.ases g.links (and_left c e (and_left (c && e) (x && (y && (z && k))) h)) in
    let p = links_parts g.iid g.owner g.state g.ases g.links (and_left z k (and_right y (z && k) (and_right x (y && (z && k)) (and_right (c && e) (x && (y && (z && k))) h)))) in
    (l.links, under_wider g.owner g.ases 16 g.links l.ases (column_all g.owner g.ases g.links 128 p.owned l.links))

-- the tables of a state, whatever units it holds
abbrev tables : Gateway → Bool
tables g = sound_tables_of g.asps g.ases g.links g.spare g.aspid g.up g.member g.active g.mode g.waiting g.iid g.owner g.state g.highspeed g.wholelists

tables_of_lem : (g : Gateway) → tables g ≡ sound_tables g
unfolding sound_tables sound_columns
tables_of_lem g = refl

-- the state: its tables, and where they are sound its units
pub tables_fail : (g : Gateway) → tables g ≡ false → false ≡ is_sound g
unfolding is_sound
tables_fail g h = rw (← tables_of_lem g, h)

pub units_said : (g : Gateway) (n : ℕ) (z r : Bool) → tables g ≡ true → n ≡ g.links → z ≡ sized g.held → r ≡ all_units g.held g.waiting g.iid g.owner n → (z && r) ≡ is_sound g
unfolding is_sound sound_units
units_said g n z r h e w q = rw (← tables_of_lem g, h, w, ← e, q)

-- columns that have their places
pub sized_is : (u : Units) → length u.count ≡ 16 → length u.tag ≡ 128 → length u.length ≡ 128 → length u.marked ≡ 128 → length u.id ≡ 128 → length u.correlation ≡ 128 → true ≡ sized u
unfolding sized
sized_is u a b c d e f = rw (a, b, c, d, e, f)
