-- Where an event takes a unit in (Rule 7.24): it is Data of the link side, for an AS of the plan that waits
-- and has room.
-- Assumes nothing.
use Rattle.std.specs.Prelude.{ℕ, zero, suc, ◌<◌, ◌≤◌, ◌-◌, ◌≡◌, refl, Bool, true, false, ◌||◌, ◌&&◌, cond, List, eqb, ltb}
use Rattle.std.proofs.Common.{subst, arith, ltb-true, eqb-true, eq-eqb}
use Rattle.laws.specs.Inner.Below.{any_in}
use Rattle.laws.specs.Inner.Every.{and_left, and_right, and_both}
use Rattle.laws.specs.Inner.Choice.{by_cond}
use Rattle.laws.specs.Columns.{is_set, number_at}
use Rattle.codec_read.specs.Verdict.{verdict}
use Rattle.codec_read.specs.Meaning.{reading_of}
use Rattle.codec_read.specs.Inner.GoodUnit.{GoodUnit}
use Rattle.codec_read.proofs.GoodUnit.{good_unit, correlation_marked}
use Rattle.rules_action.specs.declared.Action.{Action}
use Rattle.state_tables.specs.Sound.{is_sound, is_link_of}
use Rattle.state_tables.specs.Inner.Laws.{counts_within, owner_within}
use Rattle.state_tables.specs.declared.Gateway.{Gateway}
use Rattle.state_lookup.specs.Links.{index_of, known}
use Rattle.state_lookup.specs.Inner.Links.{index_is}
use Rattle.rules_server.specs.declared.Arrival.{Arrival}
use Rattle.rules_server.specs.Record.{some, record_from, record_of, state_in}
use Rattle.rules_event.specs.Event.{EventKind, link_message, Event}
use Rattle.rules_event.specs.Identifiers.{is_known, link_of, owner_at}
use Rattle.rules_event.specs.Effect.{Effect, send, set_link, change_in, take_in}
use Rattle.rules_event.specs.Link.{is_pending, arrival, hold_effect, link_message_on, link_message_effect}
use Rattle.rules_event.specs.Rules.{effect_of, from_link, in_plan, refusal}
use Rattle.rules_event.specs.Inner.Accepted.{accepted}
use Rattle.rules_event.specs.Inner.Shapes.{Shapes, effect_by}

-- ---- a message of the link side

-- what it has where it is not refused with 102; that its link can have its sequence number is left out, for
-- nobody asks
pub record Planned (g : Gateway) (s : List ℕ) : Type 0 where
  pub reads : verdict s ≡ 0
  pub class_6 : (reading_of s).class ≡ 6
  pub known : is_known g (reading_of s).id ≡ true

pub planned : (g : Gateway) (s : List ℕ) → in_plan g (link_message s) ≡ true → Planned g s
planned g s i =
    let r = reading_of s in
    let c = and_right (eqb (verdict s) 0) _ i in
    record {
      reads = eqb-true (verdict s) 0 (and_left (eqb (verdict s) 0) _ i);
      class_6 = eqb-true r.class 6 (and_left (eqb r.class 6) _ c);
      known = and_left (is_known g r.id) _ (and_right (from_link r.msgtype) _ (and_right (eqb r.class 6) _ c));
    }

-- what the unit is, and for whom
pub record Takes (g : Gateway) (s : List ℕ) (a : ℕ) (x : Arrival) : Type 0 where
  pub owner : a ≡ owner_at g (link_of g (reading_of s).id)
  pub unit : x ≡ arrival s (reading_of s)
  pub is_data_lem : (reading_of s).msgtype ≡ 1
  pub pending : is_pending g a ≡ true
  pub room : number_at g.held.count a < 8

-- A message of the link side is taken in so, or its effect is actions alone: what holds of both holds of its
-- effect.
pub link_cases : (g : Gateway) (s : List ℕ) (F : Effect → Type 0) → ((os : List Action) → F (send os)) → ((a : ℕ) (x : Arrival) → Takes g s a x → F (take_in a x)) → F (link_message_effect g s (reading_of s))
unfolding link_message_effect link_message_on hold_effect
link_cases g s F say take =
    let a = owner_at g (link_of g (reading_of s).id) in
    let m = eqb (reading_of s).msgtype 1 in
    by_cond (m && is_pending g a) F
    (λ t. by_cond (ltb (number_at g.held.count a) 8) F
    (λ u.
    take a (arrival s (reading_of s))
    (record {
      owner = refl;
      unit = refl;
      is_data_lem = eqb-true (reading_of s).msgtype 1 (and_left m (is_pending g a) t);
      pending = and_right m (is_pending g a) t;
      room = ltb-true (number_at g.held.count a) 8 u;
    }))
    (λ _. say _))
    (λ _. say _)

-- ---- the laws

-- pending is waiting
pub pending_waits : (g : Gateway) (a : ℕ) → is_pending g a ≡ true → is_set g.waiting a ≡ true
unfolding is_pending state_in record_from
pending_waits g a h = go (some (record_of g a).acts) (is_set g.waiting a) (some (record_of g a).ups) (eqb-true (state_in (record_of g a)) 4 h)
  where
    go : (u v w : Bool) → ◌≡◌ {A = ℕ} (cond u 3 (cond v 4 (cond w 2 0))) 4 → v ≡ true
    go true v w e = let z : ⊥ = omega (arith, e) in absurd z
    go false true w e = refl
    go false false true e = let z : ⊥ = omega (arith, e) in absurd z
    go false false false e = let z : ⊥ = omega (arith, e) in absurd z

-- an effect that takes a unit in is that of a message of the link side
pub record TakenFrom (g : Gateway) (k : EventKind) (a : ℕ) (x : Arrival) : Type 0 where
  pub from : List ℕ
  pub kind : k ≡ link_message from
  pub takes : Takes g from a x

abbrev TakenBy : Gateway → EventKind → Effect → Type 0
TakenBy g k (send os) = Unit {0}
TakenBy g k (set_link l v os) = Unit {0}
TakenBy g k (change_in os c named) = Unit {0}
TakenBy g k (take_in a x) = TakenFrom g k a x

others : (g : Gateway) (k : EventKind) → Shapes (TakenBy g k)
others g k =
    record {
      say_none = tt;
      say_one = λ x e. tt;
      say_two = λ x y u e d. tt;
      turn_one = λ l n x e. tt;
      turn_all = λ l n who c s v e. tt;
      change_one = λ x c named e f o. tt;
      change_two = λ x y u c named e d f o. tt;
    }

pub taken_from : (g : Gateway) (k : EventKind) (a : ℕ) (x : Arrival) → is_sound g ≡ true → in_plan g k ≡ true → effect_of g k ≡ take_in a x → TakenFrom g k a x
taken_from g k a x ok i d =
    subst (TakenBy g k) d
    (effect_by (others g k) g k ok i (λ c named f. tt) (λ s e. link_cases g s (TakenBy g k) (λ os. tt) (λ c y t. record { from = s; kind = e; takes = t })))

-- a message of the link side that the plan knows, in a sound state: it reads, and its unit is one of an AS of
-- the plan, with its link and its bytes
pub record TakenIn (g : Gateway) (s : List ℕ) (a : ℕ) (x : Arrival) : Type 0 where
  pub takes : Takes g s a x
  pub reads : verdict s ≡ 0
  pub class_6 : (reading_of s).class ≡ 6
  pub is_known_lem : is_known g (reading_of s).id ≡ true
  pub link_below : link_of g (reading_of s).id < g.links
  pub as_below : a < g.ases
  pub as_16 : a < 16
  pub waits : is_set g.waiting a ≡ true
  pub of_link : is_link_of g.iid g.owner g.links a x.id ≡ true
  pub good : GoodUnit s
  pub most : x.length - 4 ≤ 273
  -- the unit, as a sound state asks for it (Rule 5.21)
  pub tagged : (eqb x.tag 0x300 || eqb x.tag 0x301) ≡ true
  pub least : 5 ≤ x.length
  pub longest : x.length ≤ 277
  pub marks : (eqb x.marked 1 || (eqb x.marked 0 && eqb x.correlation 0)) ≡ true

-- a mark is 0 or 1, and without one there is no correlation id
marked : (m n : ℕ) → m ≤ 1 → (m ≡ 0 → n ≡ 0) → (eqb m 1 || (eqb m 0 && eqb n 0)) ≡ true
marked zero n b h = eq-eqb n 0 (h refl)
marked (suc zero) n b h = refl
marked (suc (suc m)) n b h = let z : ⊥ = omega arith in absurd z

pub taken_in : (g : Gateway) (s : List ℕ) (a : ℕ) (x : Arrival) → is_sound g ≡ true → in_plan g (link_message s) ≡ true → Takes g s a x → TakenIn g s a x
unfolding is_known link_of known arrival is_link_of
taken_in g s a x ok i t =
    let r = reading_of s in
    let l = index_of g.iid g.links r.id in
    let y = planned g s i in
    let b : l < g.links = ltb-true l g.links y.known in
    let o : a < g.ases = rw t.owner (owner_within g ok l b) in
    let u = good_unit s y.reads y.class_6 t.is_data_lem in
    let k = correlation_marked s in
    record {
      takes = t;
      reads = y.reads;
      class_6 = y.class_6;
      is_known_lem = y.known;
      link_below = b;
      as_below = o;
      as_16 = omega (arith, (counts_within g ok).ases);
      waits = pending_waits g a t.pending;
      of_link =
          rw (t.unit, t.owner)
          (any_in (λ m. eqb (number_at g.iid m) r.id && eqb (number_at g.owner m) (number_at g.owner l)) g.links l b
          (and_both _ _ (eq-eqb (number_at g.iid l) r.id (index_is g.iid g.links r.id b)) (eq-eqb (number_at g.owner l) (number_at g.owner l) refl)));
      good = u;
      most = rw t.unit (omega (arith, u.most));
      tagged = rw t.unit u.tagged;
      least = rw t.unit (omega (arith, u.least));
      longest = rw t.unit (omega (arith, u.most));
      marks = rw t.unit (marked r.correlated r.correlation k.0 k.1);
    }

-- an accepted event that takes a unit in
pub record TakeIn (g : Gateway) (k : EventKind) (a : ℕ) (x : Arrival) : Type 0 where
  pub from : List ℕ
  pub kind : k ≡ link_message from
  pub taken : TakenIn g from a x

pub take_in_lem : (g : Gateway) (e : Event) (a : ℕ) (x : Arrival) → refusal g e ≡ 0 → effect_of g e.kind ≡ take_in a x → TakeIn g e.kind a x
take_in_lem g e a x h d =
    let z = accepted (is_sound g) (in_plan g e.kind) e.lent h in
    let t = taken_from g e.kind a x z.sound_yes z.known_yes d in
    record { from = t.from; kind = t.kind; taken = taken_in g t.from a x z.sound_yes (subst (λ (k : EventKind). in_plan g k ≡ true) t.kind z.known_yes) t.takes }
