-- Laws of specs/Sound.antt, and definitions that only code and proofs use.
-- Assumes nothing.
use Rattle.std.specs.Prelude.{◌≡◌, refl, ℕ, Bool, true, ◌&&◌, List, eqb, length}
use Rattle.std.proofs.Common.{eqb-true}
use Rattle.laws.specs.Inner.Every.{and_left, and_right}
use Rattle.laws.specs.Below.{all_below}
use Rattle.state_tables.specs.declared.Units.{Units}
use Rattle.state_tables.specs.State.{gateway_of}
use Rattle.state_tables.specs.Sound.{sound_tables, no_units, sized, units_ok, blank_at, all_units, sound_units}

-- the tables of the state of lent columns
abbrev pub sound_tables_of : ℕ → ℕ → ℕ → ℕ → List ℕ → List ℕ → List ℕ → List ℕ → List ℕ → List ℕ → List ℕ → List ℕ → List ℕ → List ℕ → List ℕ → Bool
sound_tables_of asps ases links spare aspid up member active mode waiting iid owner state highspeed wholelists =
    sound_tables (gateway_of asps ases links spare aspid up member active mode waiting iid owner state highspeed wholelists no_units)

-- a state that holds none is sound in that
pub no_units_sound : (waiting iid owner : List ℕ) (links : ℕ) → sound_units no_units waiting iid owner links ≡ true
unfolding sound_units all_units sized units_ok blank_at all_below
no_units_sound waiting iid owner links = refl

-- columns of the right lengths, as arrays have them
pub sized_yes : (u : Units) → length u.count ≡ 16 → length u.tag ≡ 128 → length u.length ≡ 128 → length u.marked ≡ 128 → length u.id ≡ 128 → length u.correlation ≡ 128 → sized u ≡ true
unfolding sized
sized_yes u a b c d e f = rw (a, b, c, d, e, f)

-- and what the test says of them
pub record Sized (u : Units) : Type 0 where
  pub count_16 : length u.count ≡ 16
  pub tag_128 : length u.tag ≡ 128
  pub length_128 : length u.length ≡ 128
  pub marked_128 : length u.marked ≡ 128
  pub id_128 : length u.id ≡ 128
  pub correlation_128 : length u.correlation ≡ 128

pub sized_is : (u : Units) → sized u ≡ true → Sized u
unfolding sized
sized_is u h =
    let a = eqb (length u.count) 16 in
    let b = eqb (length u.tag) 128 in
    let c = eqb (length u.length) 128 in
    let d = eqb (length u.marked) 128 in
    let e = eqb (length u.id) 128 in
    let f = eqb (length u.correlation) 128 in
    let l = and_left (a && (b && c)) (d && (e && f)) h in
    let r = and_right (a && (b && c)) (d && (e && f)) h in
    record {
      count_16 = eqb-true (length u.count) 16 (and_left a (b && c) l);
      tag_128 = eqb-true (length u.tag) 128 (and_left b c (and_right a (b && c) l));
      length_128 = eqb-true (length u.length) 128 (and_right b c (and_right a (b && c) l));
      marked_128 = eqb-true (length u.marked) 128 (and_left d (e && f) r);
      id_128 = eqb-true (length u.id) 128 (and_left e f (and_right d (e && f) r));
      correlation_128 = eqb-true (length u.correlation) 128 (and_right e f (and_right d (e && f) r));
    }
