-- Laws of specs/Laws.antt, and definitions that only code and proofs use.
-- Assumes nothing.
use Rattle.std.specs.Prelude.{ℕ, zero, suc, ◌+◌, ◌-◌, ◌<◌, ◌≤◌, ◌≡◌, refl, Bool, ◌&&◌, List, eqb, leb, ltb}
use Rattle.std.proofs.Common.{sym, arith, ltb-true, leb-true, eqb-true}
use Rattle.std.proofs.Math.Bool.{true, false}
use Rattle.laws.specs.Inner.Below.{all_at}
use Rattle.laws.specs.Columns.{number_at, is_set}
use Rattle.laws.specs.Inner.Every.{and_left, and_right}
use Rattle.state_tables.specs.declared.Gateway.{Gateway}
use Rattle.state_tables.specs.Sound.{pair, counts_in, blank_from, flag_if, sound_column, sound_asps, member_at, active_at, sound_row, active_in, mode_at, waiting_at, override_at, sound_as, sound_ases, ascends, sound_links, sound_kinds, sound_lists, sound_columns, sound_tables, sound_units, is_sound, zeros}
use Rattle.state_tables.specs.Inner.Column.{column_under}
use Rattle.state_tables.specs.Laws.{Limits}

pub limits : (n m k : ℕ) → counts_in n m k ≡ true → Limits n m k
unfolding counts_in
limits n m k h =
    let l = and_left ((leb 1 n && leb n 16) && (leb 1 m && leb m 16)) (leb k 128) h in
    let u = and_left (leb 1 n && leb n 16) (leb 1 m && leb m 16) l in
    let v = and_right (leb 1 n && leb n 16) (leb 1 m && leb m 16) l in
    record {
      some_asps = leb-true 1 n (and_left (leb 1 n) (leb n 16) u);
      asps = leb-true n 16 (and_right (leb 1 n) (leb n 16) u);
      some_ases = leb-true 1 m (and_left (leb 1 m) (leb m 16) v);
      ases = leb-true m 16 (and_right (leb 1 m) (leb m 16) v);
      links = leb-true k 128 (and_right ((leb 1 n && leb n 16) && (leb 1 m && leb m 16)) (leb k 128) h);
    }

-- the conditions table by table
pub record Parts (g : Gateway) : Type 0 where
  pub counts : Limits g.asps g.ases g.links
  pub counted : (counts_in g.asps g.ases g.links && eqb g.spare 0) ≡ true
  pub in_asps : sound_asps g.aspid g.up g.asps ≡ true
  pub in_ases : sound_ases g.up g.member g.active g.mode g.waiting g.asps g.ases ≡ true
  pub in_links : sound_links g.iid g.owner g.state g.ases g.links ≡ true
  pub in_columns : sound_columns g ≡ true
  pub in_units : sound_units g.held g.waiting g.iid g.owner g.links ≡ true

module _ (g : Gateway) where
  abbrev counts_of : Bool
  counts_of = counts_in g.asps g.ases g.links

  abbrev spare_of : Bool
  spare_of = eqb g.spare 0

  abbrev asps_of : Bool
  asps_of = sound_asps g.aspid g.up g.asps

  abbrev ases_of : Bool
  ases_of = sound_ases g.up g.member g.active g.mode g.waiting g.asps g.ases

  abbrev links_of : Bool
  links_of = sound_links g.iid g.owner g.state g.ases g.links

  abbrev columns_of : Bool
  columns_of = sound_columns g

  abbrev units_in : Bool
  units_in = sound_units g.held g.waiting g.iid g.owner g.links

  pub parts : is_sound g ≡ true → Parts g
  unfolding is_sound sound_tables
  parts i =
      let h = and_left (sound_tables g) units_in i in
      let c = and_left (counts_of && spare_of) (asps_of && (ases_of && (links_of && columns_of))) h in
      let r = and_right (counts_of && spare_of) (asps_of && (ases_of && (links_of && columns_of))) h in
      let s = and_right asps_of (ases_of && (links_of && columns_of)) r in
      let l = and_right ases_of (links_of && columns_of) s in
      record {
        counts = limits g.asps g.ases g.links (and_left counts_of spare_of c);
        counted = c;
        in_asps = and_left asps_of (ases_of && (links_of && columns_of)) r;
        in_ases = and_left ases_of (links_of && columns_of) s;
        in_links = and_left links_of columns_of l;
        in_columns = and_right links_of columns_of l;
        in_units = and_right (sound_tables g) units_in i;
      }

  -- the same together
  pub whole : (counts_of && spare_of) ≡ true → asps_of ≡ true → ases_of ≡ true → links_of ≡ true → columns_of ≡ true → units_in ≡ true → is_sound g ≡ true
  unfolding is_sound sound_tables
  whole p q r s k t = rw (p, q, r, s, k, t)

  -- groups that were tested for counts within the tables
  pub joined : (c e x y z k : Bool) → c ≡ counts_of → e ≡ spare_of → (g.asps ≤ 16 → x ≡ asps_of) → (g.ases ≤ 16 → y ≡ ases_of) → (g.links ≤ 128 → z ≡ links_of) → k ≡ (sound_kinds g.highspeed g.links && sound_lists g.wholelists g.asps) → ((c && e) && (x && (y && (z && k)))) ≡ sound_tables g
  unfolding sound_tables sound_columns
  joined true e x y z k h s p q r t =
      let l = limits g.asps g.ases g.links (sym h) in
      rw (← h, s, p l.asps, q l.ases, r l.links, t)
  joined false e x y z k h s p q r t = rw (← h)

-- identifiers strictly ascending, from each to the next and so from any to any later
pub ascends_next : (c : List ℕ) (n : ℕ) → ascends c n ≡ true → (l : ℕ) → l + 1 < n → number_at c l < number_at c (l + 1)
unfolding ascends
ascends_next c n h l b = ltb-true (number_at c l) (number_at c (l + 1)) (all_at (λ l. ltb (number_at c l) (number_at c (l + 1))) (n - 1) h l (omega arith))

pub ascends_far : (c : List ℕ) (n : ℕ) → ascends c n ≡ true → (i k : ℕ) → i + suc k < n → number_at c i < number_at c (i + suc k)
ascends_far c n h i zero b =
    let e : i + suc zero ≡ i + 1 = omega arith in
    rw e (ascends_next c n h i (omega arith))
ascends_far c n h i (suc k) b =
    let e : i + suc (suc k) ≡ i + suc k + 1 = omega arith in
    rw e (omega (arith, ascends_far c n h i k (omega arith), ascends_next c n h (i + suc k) (omega arith)))

pub ascends_any : (c : List ℕ) (n : ℕ) → ascends c n ≡ true → (i j : ℕ) → i < j → j < n → number_at c i < number_at c j
ascends_any c n h i j p q =
    let e : i + suc (j - suc i) ≡ j = omega arith in
    rw e at (ascends_far c n h i (j - suc i) (omega arith))

-- the links, condition by condition
pub record Links (iid owner state : List ℕ) (ases links : ℕ) : Type 0 where
  pub order : ascends iid links ≡ true
  pub blank_ids : blank_from iid links 128 ≡ true
  pub owned : sound_column owner ases links 128 ≡ true
  pub known : sound_column state 4 links 128 ≡ true

pub links_parts : (iid owner state : List ℕ) (ases links : ℕ) → sound_links iid owner state ases links ≡ true → Links iid owner state ases links
unfolding sound_links
links_parts iid owner state ases links h =
    let a = ascends iid links in
    let b = blank_from iid links 128 in
    let x = sound_column owner ases links 128 in
    let y = sound_column state 4 links 128 in
    let l = and_left (a && b) (x && y) h in
    let r = and_right (a && b) (x && y) h in
    record { order = and_left a b l; blank_ids = and_right a b l; owned = and_left x y r; known = and_right x y r }

-- one AS, condition by condition
pub record Server (up member active mode waiting : List ℕ) (asps ases a : ℕ) : Type 0 where
  pub row : sound_row up member active asps ases a ≡ true
  pub traffic : mode_at (number_at mode a) (ltb a ases) ≡ true
  pub idle : waiting_at (number_at waiting a) (active_in active a) (ltb a ases) ≡ true
  pub alone : override_at (number_at mode a) (active_in active a) ≡ true

pub as_parts : (up member active mode waiting : List ℕ) (asps ases a : ℕ) → sound_as up member active mode waiting asps ases a ≡ true → Server up member active mode waiting asps ases a
unfolding sound_as
as_parts up member active mode waiting asps ases a h =
    let r = sound_row up member active asps ases a in
    let m = mode_at (number_at mode a) (ltb a ases) in
    let w = waiting_at (number_at waiting a) (active_in active a) (ltb a ases) in
    let o = override_at (number_at mode a) (active_in active a) in
    let s = and_right r ((m && w) && o) h in
    record {
      row = and_left r ((m && w) && o) h;
      traffic = and_left m w (and_left (m && w) o s);
      idle = and_right m w (and_left (m && w) o s);
      alone = and_right (m && w) o s;
    }

pub server : (g : Gateway) → is_sound g ≡ true → (a : ℕ) → a < 16 → Server g.up g.member g.active g.mode g.waiting g.asps g.ases a
unfolding sound_ases
server g h a b =
    as_parts g.up g.member g.active g.mode g.waiting g.asps g.ases a
    (all_at (sound_as g.up g.member g.active g.mode g.waiting g.asps g.ases) 16 (parts g h).in_ases a b)

-- ---- the facts by name

pub counts_within : (g : Gateway) → is_sound g ≡ true → Limits g.asps g.ases g.links
counts_within g h = (parts g h).counts

pub identifiers_ascend : (g : Gateway) → is_sound g ≡ true → (i j : ℕ) → i < j → j < g.links → number_at g.iid i < number_at g.iid j
identifiers_ascend g h =
    ascends_any g.iid g.links (links_parts g.iid g.owner g.state g.ases g.links (parts g h).in_links).order

pub owner_within : (g : Gateway) → is_sound g ≡ true → (l : ℕ) → l < g.links → number_at g.owner l < g.ases
owner_within g h l b =
    column_under g.owner g.ases g.links 128 (links_parts g.iid g.owner g.state g.ases g.links (parts g h).in_links).owned l (omega (arith, (counts_within g h).links)) b

-- a flag that is set is allowed to be
pub flag_set : (x : ℕ) (b : Bool) → flag_if x b ≡ true → eqb x 1 ≡ true → b ≡ true
flag_set x b h e = let z : x ≡ 1 = eqb-true x 1 e in last (rw z at h)
  where
    last : flag_if 1 b ≡ true → b ≡ true
    last g = g

pub active_is_member : (g : Gateway) → is_sound g ≡ true → (a q : ℕ) → a < 16 → q < 16 → is_set g.active (pair a q) ≡ true → (is_set g.member (pair a q) ≡ true) × (is_set g.up q ≡ true)
unfolding sound_row active_at
active_is_member g h a q b d e =
    let m = member_at g.member g.asps g.ases a q in
    let x = active_at g.up g.member g.active a q in
    let p = all_at (λ q. member_at g.member g.asps g.ases a q && active_at g.up g.member g.active a q) 16 (server g h a b).row q d in
    let f = flag_set (number_at g.active (pair a q)) (is_set g.member (pair a q) && is_set g.up q) (and_right m x p) e in
    (and_left (is_set g.member (pair a q)) (is_set g.up q) f, and_right (is_set g.member (pair a q)) (is_set g.up q) f)

pub member_within : (g : Gateway) → is_sound g ≡ true → (a q : ℕ) → a < 16 → q < 16 → is_set g.member (pair a q) ≡ true → (q < g.asps) × (a < g.ases)
unfolding sound_row member_at
member_within g h a q b d e =
    let m = member_at g.member g.asps g.ases a q in
    let x = active_at g.up g.member g.active a q in
    let p = all_at (λ q. member_at g.member g.asps g.ases a q && active_at g.up g.member g.active a q) 16 (server g h a b).row q d in
    let f = flag_set (number_at g.member (pair a q)) (ltb q g.asps && ltb a g.ases) (and_left m x p) e in
    (ltb-true q g.asps (and_left (ltb q g.asps) (ltb a g.ases) f), ltb-true a g.ases (and_right (ltb q g.asps) (ltb a g.ases) f))

-- the state of zeros that a refused plan hands back is not sound
pub zeros_not_sound : is_sound zeros ≡ false
unfolding is_sound sound_tables counts_in zeros
zeros_not_sound = refl
