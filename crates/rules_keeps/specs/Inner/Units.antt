-- The units held of a sound state, and that they stay so: as ASes let theirs go, and as a unit comes in.
-- Assumes nothing.
use Rattle.std.specs.Prelude.{ℕ, ◌+◌, ◌*◌, ◌/◌, ◌<◌, ◌≤◌, ◌≡◌, refl, Bool, false, ◌||◌, ◌&&◌, cond, not, List, leb, ltb}
use Rattle.std.proofs.Common.{◌∙◌, sym, arith, length-set, get_or-set_same, get_or-set_other}
use Rattle.std.proofs.Math.Bool.{true}
use Rattle.std.proofs.lemmas.Bool.{false≢true}
use Rattle.std.proofs.Math.Decide.{dec_lt, ℕ_discrete}
use Rattle.std.proofs.Math.Dec.{eqb}
use borrow.Author.Tests.{eq-eqb, ne_eqb, lt-ltb, le-ltb, leb-true, le-leb}
use Rattle.laws.specs.Below.{one}
use Rattle.laws.specs.Inner.Below.{all_at, all_of}
use Rattle.laws.specs.Columns.{flag_at, is_set, number_at}
use Rattle.laws.specs.Inner.Every.{and_left, and_right, and_both}
use Rattle.state_tables.specs.declared.Gateway.{Gateway}
use Rattle.state_tables.specs.declared.Units.{Units}
use Rattle.state_tables.specs.Sound.{unit_index, is_link_of, unit_at, blank_at, units_ok, sized, all_units, sound_units}
use Rattle.state_tables.specs.Inner.Sound.{Sized, sized_yes, sized_is}
use Rattle.rules_server.specs.declared.Change.{Change}
use Rattle.rules_server.specs.declared.Arrival.{Arrival}
use Rattle.rules_server.specs.Record.{record_of}
use Rattle.rules_server.specs.Change.{after}
use Rattle.rules_servers.specs.Changed.{cleared, lets_go, units_without, units_with, with_change}
use Rattle.rules_servers.specs.Inner.Records.{waiting_at_lem}
use Rattle.rules_servers.specs.Inner.Units.{length_cleared, cleared_at}

-- ---- an AS, in words and as tested

-- place k of AS a, which holds n units: a unit, or zeros
abbrev pub place_ok : Units → List ℕ → List ℕ → ℕ → ℕ → ℕ → ℕ → Bool
place_ok u iid owner links n a k = cond (ltb k n) (unit_at u iid owner links a (unit_index a k)) (blank_at u (unit_index a k))

pub record Held (u : Units) (waiting iid owner : List ℕ) (links a : ℕ) : Type 0 where
  pub few : number_at u.count a ≤ 8
  pub waits : (eqb (number_at u.count a) 0 || is_set waiting a) ≡ true
  pub places : (k : ℕ) → k < 8 → place_ok u iid owner links (number_at u.count a) a k ≡ true

module _ (u : Units) (waiting iid owner : List ℕ) (links : ℕ) where
  pub held : sound_units u waiting iid owner links ≡ true → (a : ℕ) → a < 16 → Held u waiting iid owner links a
  unfolding sound_units all_units units_ok
  held g a b =
      let h = and_right (sized u) (all_units u waiting iid owner links) g in
      let n = number_at u.count a in
      let w = eqb n 0 || is_set waiting a in
      let e = all_at (units_ok u waiting iid owner links) 16 h a b in
      let l = and_left (leb n 8 && w) _ e in
      record {
        few = leb-true n 8 (and_left (leb n 8) w l);
        waits = and_right (leb n 8) w l;
        places = all_at (place_ok u iid owner links n a) 8 (and_right (leb n 8 && w) _ e);
      }

  pub sizes : sound_units u waiting iid owner links ≡ true → Sized u
  unfolding sound_units
  sizes h = sized_is u (and_left (sized u) (all_units u waiting iid owner links) h)

  pub all_held : Sized u → ((a : ℕ) → a < 16 → Held u waiting iid owner links a) → sound_units u waiting iid owner links ≡ true
  unfolding sound_units all_units units_ok
  all_held z h =
      and_both (sized u) _ (sized_yes u z.count_16 z.tag_128 z.length_128 z.marked_128 z.id_128 z.correlation_128)
      (all_of (units_ok u waiting iid owner links) 16
      (λ a b.
      let n = number_at u.count a in
      and_both (leb n 8 && (eqb n 0 || is_set waiting a)) _
      (and_both (leb n 8) (eqb n 0 || is_set waiting a) (le-leb n 8 (h a b).few) (h a b).waits)
      (all_of (place_ok u iid owner links n a) 8 (h a b).places)))

-- ---- places that stay

-- what two tables hold at an index
pub record Alike (u v : Units) (i : ℕ) : Type 0 where
  pub tag : number_at v.tag i ≡ number_at u.tag i
  pub length : number_at v.length i ≡ number_at u.length i
  pub marked : number_at v.marked i ≡ number_at u.marked i
  pub id : number_at v.id i ≡ number_at u.id i
  pub correlation : number_at v.correlation i ≡ number_at u.correlation i

place_kept : {u v : Units} (iid owner : List ℕ) (links n a k : ℕ) → Alike u v (unit_index a k) → place_ok u iid owner links n a k ≡ true → place_ok v iid owner links n a k ≡ true
unfolding unit_at blank_at
place_kept iid owner links n a k s h = rw (s.tag, s.length, s.marked, s.id, s.correlation) h

-- an AS whose count and places stay, and which waits still if it has units
held_kept : {u v : Units} {waiting w iid owner : List ℕ} {links a : ℕ} → Held u waiting iid owner links a → number_at v.count a ≡ number_at u.count a → ((k : ℕ) → k < 8 → Alike u v (unit_index a k)) → (eqb (number_at u.count a) 0 || is_set w a) ≡ true → Held v w iid owner links a
held_kept {u} {v} {waiting} {w} {iid} {owner} {links} {a} h e s t =
    record {
      few = rw e h.few;
      waits = rw e t;
      places = λ k b. rw e (place_kept iid owner links (number_at u.count a) a k (s k b) (h.places k b));
    }

-- ---- units let go

-- the AS of a place
as_of_lem : (a k : ℕ) → k < 8 → (a * 8 + k) / 8 ≡ a
as_of_lem a k b = omega arith

module _ (go : ℕ → Bool) (u : Units) (a : ℕ) where
  at_place : (c : List ℕ) (k : ℕ) → k < 8 → number_at (cleared (λ i. go (i / 8)) c) (unit_index a k) ≡ cond (go a) 0 (number_at c (unit_index a k))
  at_place c k b = cleared_at (λ i. go (i / 8)) c (unit_index a k) ∙ rw (as_of_lem a k b)

  stays : go a ≡ false → (k : ℕ) → k < 8 → Alike u (units_without go u) (unit_index a k)
  stays e k b =
      record {
        tag = at_place u.tag k b ∙ rw e;
        length = at_place u.length k b ∙ rw e;
        marked = at_place u.marked k b ∙ rw e;
        id = at_place u.id k b ∙ rw e;
        correlation = at_place u.correlation k b ∙ rw e;
      }

  gone : go a ≡ true → (k : ℕ) → k < 8 → blank_at (units_without go u) (unit_index a k) ≡ true
  unfolding blank_at
  gone e k b =
      rw (at_place u.tag k b, at_place u.length k b, at_place u.marked k b, at_place u.id k b, at_place u.correlation k b, e)

-- an AS with units that lets none go waits still, if it waited
waits_on : (has named new : Bool) (x : ℕ) → has ≡ true → (has && (named && not new)) ≡ false → eqb x 1 ≡ true → eqb (cond named (one new) x) 1 ≡ true
waits_on has true true x e h w = refl
waits_on has true false x e h w = absurd (false≢true (sym h ∙ rw e))
waits_on has false new x e h w = w

module _ (g : Gateway) (k : Change) (named : List Bool) where
  go : ℕ → Bool
  go = lets_go k named (record_of g) g.held.count

  still : (a : ℕ) → a < 16 → go a ≡ false → (eqb (number_at g.held.count a) 0 || is_set g.waiting a) ≡ true → (eqb (number_at g.held.count a) 0 || is_set (with_change g k named).waiting a) ≡ true
  unfolding go lets_go
  still a b e h = pick (ℕ_discrete (number_at g.held.count a) 0)
    where
      pick : Dec (number_at g.held.count a ≡ 0) → (eqb (number_at g.held.count a) 0 || is_set (with_change g k named).waiting a) ≡ true
      pick (yes z) = rw (eq-eqb (number_at g.held.count a) 0 z)
      pick (no z) =
          let was : is_set g.waiting a ≡ true = rw (ne_eqb (number_at g.held.count a) 0 z) at h in
          rw (ne_eqb (number_at g.held.count a) 0 z, waiting_at_lem g k named a b)
          (waits_on (ltb 0 (number_at g.held.count a)) (flag_at named a) (after k (record_of g a)).waiting (number_at g.waiting a) (lt-ltb 0 (number_at g.held.count a) (omega arith)) e was)

  held_after : (a : ℕ) → a < 16 → Held g.held g.waiting g.iid g.owner g.links a → Held (units_without go g.held) (with_change g k named).waiting g.iid g.owner g.links a
  held_after a b h = pick (go a) refl
    where
      pick : (t : Bool) → go a ≡ t → Held (units_without go g.held) (with_change g k named).waiting g.iid g.owner g.links a
      pick true e =
          let z : number_at (cleared go g.held.count) a ≡ 0 = cleared_at go g.held.count a ∙ rw e in
          record {
            few = rw z (omega arith);
            waits = rw z;
            places = λ k l. rw (z, le-ltb k 0 (omega arith)) (gone go g.held a e k l);
          }
      pick false e = held_kept h (cleared_at go g.held.count a ∙ rw e) (stays go g.held a e) (still a b e h.waits)

  -- a change keeps the units sound
  pub units_changed : sound_units g.held g.waiting g.iid g.owner g.links ≡ true → sound_units (units_without (lets_go k named (record_of g) g.held.count) g.held) (with_change g k named).waiting g.iid g.owner g.links ≡ true
  unfolding go
  units_changed h =
      let z = sizes g.held g.waiting g.iid g.owner g.links h in
      all_held (units_without go g.held) (with_change g k named).waiting g.iid g.owner g.links
      (record {
        count_16 = length_cleared go g.held.count ∙ z.count_16;
        tag_128 = length_cleared (λ i. go (i / 8)) g.held.tag ∙ z.tag_128;
        length_128 = length_cleared (λ i. go (i / 8)) g.held.length ∙ z.length_128;
        marked_128 = length_cleared (λ i. go (i / 8)) g.held.marked ∙ z.marked_128;
        id_128 = length_cleared (λ i. go (i / 8)) g.held.id ∙ z.id_128;
        correlation_128 = length_cleared (λ i. go (i / 8)) g.held.correlation ∙ z.correlation_128;
      })
      (λ a b. held_after a b (held g.held g.waiting g.iid g.owner g.links h a b))

-- ---- a unit that comes in

-- what makes an arrival a unit of AS a (Rule 5.21)
pub record UnitOf (iid owner : List ℕ) (links a : ℕ) (x : Arrival) : Type 0 where
  pub tagged : (eqb x.tag 0x300 || eqb x.tag 0x301) ≡ true
  pub least : 5 ≤ x.length
  pub most : x.length ≤ 277
  pub known : is_link_of iid owner links a x.id ≡ true
  pub marks : (eqb x.marked 1 || (eqb x.marked 0 && eqb x.correlation 0)) ≡ true

-- v is u with x behind the units of AS a, place by place
pub record Joined (u : Units) (a : ℕ) (x : Arrival) (v : Units) : Type 0 where
  pub more : number_at v.count a ≡ number_at u.count a + 1
  pub others : (b : ℕ) → b < 16 → (b ≡ a → ⊥) → number_at v.count b ≡ number_at u.count b
  pub tag : number_at v.tag (unit_index a (number_at u.count a)) ≡ x.tag
  pub length : number_at v.length (unit_index a (number_at u.count a)) ≡ x.length
  pub marked : number_at v.marked (unit_index a (number_at u.count a)) ≡ x.marked
  pub id : number_at v.id (unit_index a (number_at u.count a)) ≡ x.id
  pub correlation : number_at v.correlation (unit_index a (number_at u.count a)) ≡ x.correlation
  pub rest : (i : ℕ) → i < 128 → (i ≡ unit_index a (number_at u.count a) → ⊥) → Alike u v i

module _ (u v : Units) (waiting iid owner : List ℕ) (links a : ℕ) (x : Arrival) (b : a < 16) (w : is_set waiting a ≡ true) (room : number_at u.count a < 8) (good : UnitOf iid owner links a x) (j : Joined u a x v) where
  unit_new : unit_at v iid owner links a (unit_index a (number_at u.count a)) ≡ true
  unfolding unit_at
  unit_new =
      rw (j.tag, j.length, j.marked, j.id, j.correlation)
      (and_both _ _ (and_both _ _ good.tagged (and_both _ _ (le-leb 5 x.length good.least) (le-leb x.length 277 good.most))) (and_both _ _ good.known good.marks))

  place_after : Held u waiting iid owner links a → (k : ℕ) → k < 8 → place_ok v iid owner links (number_at u.count a + 1) a k ≡ true
  place_after h k l = pick (ℕ_discrete k (number_at u.count a)) (dec_lt k (number_at u.count a)) (h.places k l)
    where
      same : (k ≡ number_at u.count a → ⊥) → Alike u v (unit_index a k)
      same z = j.rest (unit_index a k) (omega arith) (λ e. z (omega arith))

      pick : Dec (k ≡ number_at u.count a) → Dec (k < number_at u.count a) → place_ok u iid owner links (number_at u.count a) a k ≡ true → place_ok v iid owner links (number_at u.count a + 1) a k ≡ true
      pick (yes z) d p = rw (z, lt-ltb (number_at u.count a) (number_at u.count a + 1) (omega arith)) unit_new
      pick (no z) (yes y) p =
          place_kept iid owner links (number_at u.count a + 1) a k (same z)
          (rw (lt-ltb k (number_at u.count a + 1) (omega arith)) (rw (lt-ltb k (number_at u.count a) y) at p))
      pick (no z) (no y) p =
          place_kept iid owner links (number_at u.count a + 1) a k (same z)
          (rw (le-ltb k (number_at u.count a + 1) (omega arith)) (rw (le-ltb k (number_at u.count a) (omega arith)) at p))

  held_more : (c : ℕ) → c < 16 → Dec (c ≡ a) → Held u waiting iid owner links c → Held v waiting iid owner links c
  held_more c l (yes z) h = rw z (record { few = rw j.more (omega arith); waits = rw (j.more, ne_eqb (number_at u.count a + 1) 0 (λ e. omega arith)) w; places = λ k l. rw j.more (place_after (rw z at h) k l) })
  held_more c l (no z) h = held_kept h (j.others c l z) (λ k q. j.rest (unit_index c k) (omega arith) (λ e. z (omega arith))) h.waits

  pub units_joined : Sized v → sound_units u waiting iid owner links ≡ true → sound_units v waiting iid owner links ≡ true
  units_joined z h = all_held v waiting iid owner links z (λ c l. held_more c l (ℕ_discrete c a) (held u waiting iid owner links h c l))

-- with columns that have their places the new unit is there
pub joined_with : (u : Units) (a : ℕ) (x : Arrival) → Sized u → a < 16 → number_at u.count a < 8 → Joined u a x (units_with u a x)
joined_with u a x s b room =
    let i : ℕ = unit_index a (number_at u.count a) in
    record {
      more = get_or-set_same u.count a (number_at u.count a + 1) 0 (omega (arith, s.count_16));
      others = λ c l z. get_or-set_other u.count a c (number_at u.count a + 1) 0 z;
      tag = get_or-set_same u.tag i x.tag 0 (omega (arith, s.tag_128));
      length = get_or-set_same u.length i x.length 0 (omega (arith, s.length_128));
      marked = get_or-set_same u.marked i x.marked 0 (omega (arith, s.marked_128));
      id = get_or-set_same u.id i x.id 0 (omega (arith, s.id_128));
      correlation = get_or-set_same u.correlation i x.correlation 0 (omega (arith, s.correlation_128));
      rest = λ k l z.
          record {
            tag = get_or-set_other u.tag i k x.tag 0 z;
            length = get_or-set_other u.length i k x.length 0 z;
            marked = get_or-set_other u.marked i k x.marked 0 z;
            id = get_or-set_other u.id i k x.id 0 z;
            correlation = get_or-set_other u.correlation i k x.correlation 0 z;
          };
    }

pub sized_with : (u : Units) (a : ℕ) (x : Arrival) → Sized u → Sized (units_with u a x)
sized_with u a x s =
    let i : ℕ = unit_index a (number_at u.count a) in
    record {
      count_16 = length-set u.count a (number_at u.count a + 1) ∙ s.count_16;
      tag_128 = length-set u.tag i x.tag ∙ s.tag_128;
      length_128 = length-set u.length i x.length ∙ s.length_128;
      marked_128 = length-set u.marked i x.marked ∙ s.marked_128;
      id_128 = length-set u.id i x.id ∙ s.id_128;
      correlation_128 = length-set u.correlation i x.correlation ∙ s.correlation_128;
    }
