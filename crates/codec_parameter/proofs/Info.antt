-- The packed rows are the table's: computed tests over the rows.
-- Assumes nothing.
use mathlib.Core.Path.{◌≡◌, refl, sym, ap, ◌∙◌}
use mathlib.Core.Bool.{Bool, true, false, cond, ◌&&◌, false≢true}
use mathlib.Core.List.{List, [], ◌∷◌}
use Prim.Native.Nat.{ℕ, ◌/◌, ◌%◌, ◌<◌}
use lib.ListN.{get_or}
use lib.Dec.{eqb}
use borrow.Author.Tests.{eqb-true}
use Rattle.laws.specs.Below.{all_below}
use Rattle.laws.specs.Inner.Below.{all_at, both_true}
use Rattle.codec_parameter.specs.Table.{is_mandatory, Entry, table, entries_in, use_in, usage}
use Rattle.codec_parameter.specs.declared.Usage.{Usage}
use Rattle.codec_parameter.specs.declared.Usage.TheVariants.{Forbidden, Optional, Mandatory, Repeated}
use Rattle.codec_parameter.specs.Inner.Slot.{slot, tag_at, info_of, use_bits, usage_of, packed_use, asked, all_asked, all_met}

-- ---- how tags stand

-- the number that a usage is packed as
number : Usage → ℕ
number Forbidden = 0
number Optional = 1
number Mandatory = 2
number Repeated = 3

number_is : (u : Usage) → usage_of (number u) ≡ u
unfolding usage_of number
number_is Forbidden = refl
number_is Optional = refl
number_is Mandatory = refl
number_is Repeated = refl

bits : ℕ → ℕ → Bool
bits row k = eqb (use_bits (info_of row).uses k) (number (usage row (tag_at k)))

all_bits : all_below (λ row. all_below (bits row) 32) 17 ≡ true
unfolding all_below bits number info_of usage use_in entries_in table tag_at
all_bits = refl

pub use_bits_lem : (row k : ℕ) → row < 17 → k < 32 → packed_use (info_of row).uses k ≡ usage row (tag_at k)
unfolding bits
use_bits_lem row k hr hk =
    ap usage_of (eqb-true _ _ (all_at (bits row) 32 (all_at (λ r. all_below (bits r) 32) 17 all_bits row hr) k hk)) ∙ number_is (usage row (tag_at k))

-- ---- the mandatory slots

-- the mandatory slots among the parameters of a row
slots : List Entry → List ℕ
slots [] = []
slots (e ∷ es) = cond (is_mandatory e.use_as) (slot e.tag ∷ slots es) (slots es)

-- each slot of a list is met
each : List ℕ → List Bool → Bool
each [] met = true
each (k ∷ ks) met = get_or met k false && each ks met

each_slots : (es : List Entry) (met : List Bool) → all_met es met ≡ each (slots es) met
unfolding all_met each slots
each_slots [] met = refl
each_slots (e ∷ es) met = go (is_mandatory e.use_as) (each_slots es met)
  where
    go : (b : Bool) → all_met es met ≡ each (slots es) met
        → cond b (get_or met (slot e.tag) false && all_met es met) (all_met es met) ≡ each (cond b (slot e.tag ∷ slots es) (slots es)) met
    go true ih = ap (λ (x : Bool). get_or met (slot e.tag) false && x) ih
    go false ih = ih

-- a slot in front, where it is one
abbrev front : ℕ → List ℕ → List ℕ
front k ks = cond (eqb k 0) ks (k ∷ ks)

each_front : (k : ℕ) (ks : List ℕ) (met : List Bool) → each (front k ks) met ≡ (asked met k && each ks met)
unfolding each
each_front k ks met = go (eqb k 0)
  where
    go : (b : Bool) → each (cond b ks (k ∷ ks)) met ≡ (cond b true (get_or met k false) && each ks met)
    go true = refl
    go false = refl

-- three packed slots
three : ℕ → List ℕ
three m = front (m % 32) (front (m / 32 % 32) (front (m / 1024 % 32) []))

same : List ℕ → List ℕ → Bool
same [] [] = true
same [] (y ∷ ys) = false
same (x ∷ xs) [] = false
same (x ∷ xs) (y ∷ ys) = eqb x y && same xs ys

same_is : (xs ys : List ℕ) → same xs ys ≡ true → xs ≡ ys
unfolding same
same_is [] [] h = refl
same_is [] (y ∷ ys) h = absurd (false≢true h)
same_is (x ∷ xs) [] h = absurd (false≢true h)
same_is (x ∷ xs) (y ∷ ys) h = let b = both_true (eqb x y) (same xs ys) h in rw (eqb-true x y b.0, same_is xs ys b.1)

right : ℕ → Bool
right row = same (slots (entries_in table row)) (three (info_of row).musts)

all_right : all_below right 17 ≡ true
unfolding all_below right same slots entries_in table three info_of slot
all_right = refl

and_true : (b : Bool) → (b && true) ≡ b
and_true true = refl
and_true false = refl

and_assoc : (a b c : Bool) → (a && (b && c)) ≡ ((a && b) && c)
and_assoc true b c = refl
and_assoc false b c = refl

-- each mandatory slot of a row is met exactly where the three are
pub musts_row : (row : ℕ) (met : List Bool) → row < 17 → all_asked (info_of row).musts met ≡ all_met (entries_in table row) met
unfolding right three each all_asked
musts_row row met h =
    let m = (info_of row).musts in
    let a = m % 32 in
    let b = m / 32 % 32 in
    let d = m / 1024 % 32 in
    sym
    (each_slots (entries_in table row) met
    ∙ ap (λ (ks : List ℕ). each ks met) (same_is (slots (entries_in table row)) (three m) (all_at right 17 all_right row h))
    ∙ each_front a (front b (front d [])) met
    ∙ ap (λ (x : Bool). asked met a && x) (each_front b (front d []) met ∙ ap (λ (x : Bool). asked met b && x) (each_front d [] met ∙ and_true (asked met d)))
    ∙ and_assoc (asked met a) (asked met b) (asked met d))
