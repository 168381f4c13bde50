-- Every event is local: it reads the plan, its own controller's up flag, and the records, link states and
-- units of the ASes that it reaches, and writes only those.
-- Assumes nothing.
use mathlib.Core.Path.{◌≡◌, refl, sym, ap, ◌∙◌}
use mathlib.Core.Bool.{Bool, true, false, ◌&&◌, ◌||◌, cond}
use mathlib.Core.List.{List, [], ◌++◌}
use Prim.Native.Nat.{ℕ, ◌+◌, ◌*◌, ◌/◌, ◌%◌, ◌<◌}
use native.Mathlib.Omega.{arith}
use lib.Dec.{eqb, ltb}
use lib.ListN.{length, set, drop, length-set}
use lib.Seq.{ext_get_or, get_or-set_other}
use borrow.Author.Tests.{ltb-true, lt-ltb, eqb-true}
use Rattle.laws.specs.Below.{any_below, one}
use Rattle.laws.specs.Inner.Below.{any_at, any_in}
use Rattle.laws.specs.Inner.Every.{and_left, and_right, and_both, or_case, clash, false_of}
use Rattle.laws.specs.Inner.Choice.{by_cond}
use Rattle.laws.specs.Columns.{flag_at, number_at}
use Rattle.state_tables.specs.Sound.{pair, unit_index, is_sound}
use Rattle.state_tables.specs.Inner.Laws.{parts, counts_within}
use Rattle.state_tables.specs.declared.Gateway.{Gateway}
use Rattle.state_tables.specs.declared.Units.{Units}
use Rattle.rules_action.specs.declared.Action.{Action}
use Rattle.rules_server.specs.declared.Change.{Change}
use Rattle.rules_server.specs.Change.{after}
use Rattle.rules_servers.specs.Changed.{with_change}
use Rattle.rules_servers.specs.Inner.Records.{moves, active_new, active_kept, waiting_new, waiting_kept, up_kept}
use Rattle.rules_keeps.specs.Inner.Units.{sizes as unit-sizes}
use Rattle.rules_event.specs.Event.{Event}
use Rattle.rules_event.specs.Identifiers.{owner_at, is_member}
use Rattle.rules_event.specs.Effect.{Effect, send, set_link, change_in, take_in, actions_of, state_after}
use Rattle.rules_event.specs.Rules.{effect_of, in_plan, refusal_of, refusal}
use Rattle.rules_event.specs.Reach.{kind_reach, reach, from_controller}
use Rattle.rules_event.specs.Entry.{actions, next}
use Rattle.rules_event.specs.Inner.Accepted.{accepted}
use Rattle.rules_history.specs.History.{Plan, plan_of}
use Rattle.rules_history.specs.Inner.Local.{Agree, Apart}
use Rattle.rules_history.proofs.Bits.{or_left, or_right, set_same, ext_front, cond_yes, cond_no}
use Rattle.rules_history.proofs.Units.{Column, counts, tags, lengths, marks, ids, correlations, column, as_of, place_of, value_of, as_place, change_unit, change_long, goes_not, same_goes, with_is, with_long}
use Rattle.rules_history.proofs.Servers.{dyn, same_actions, same_up, remakes_up, up_length, up_drop, change_up, change_state, active_length, active_drop, waiting_length, waiting_drop}
use Rattle.rules_history.proofs.Within.{In, Within, Reaches, within}
use Rattle.rules_history.proofs.Keeps.{keeps}
use Rattle.rules_history.proofs.Alike.{Alike, in_plan_lem, reach_plan, record_alike, effect_alike}

-- ---- the keys of a state

-- the state with this plan, and with these columns, which events change
abbrev from_plan : Plan → List ℕ → List ℕ → List ℕ → List ℕ → Units → Gateway
from_plan p up active waiting state held =
    record {
      asps = p.asps;
      ases = p.ases;
      links = p.links;
      spare = p.spare;
      aspid = p.aspid;
      up = up;
      member = p.member;
      active = active;
      mode = p.mode;
      waiting = waiting;
      iid = p.iid;
      owner = p.owner;
      state = state;
      highspeed = p.highspeed;
      wholelists = p.wholelists;
      held = held;
    }

pub data Key : Type 0 where
  plan sizes sound : Key
  long : Column → Key
  line : ℕ → Key
  unit : Column → ℕ → Key
  up : (q : ℕ) → q < 16 → Key
  act : (a q : ℕ) → a < 16 → q < 16 → Key
  wait : (a : ℕ) → a < 16 → Key

abbrev pub Val : Key → Type 0
Val plan = Plan
Val sizes = ℕ
Val sound = Bool
Val (long c) = ℕ
Val (line l) = ℕ
Val (unit c i) = ℕ
Val (up q b) = ℕ
Val (act a q b c) = ℕ
Val (wait a b) = ℕ

abbrev pub get : Gateway → (k : Key) → Val k
get g plan = plan_of g
get g sizes = length g.state
get g sound = is_sound g
get g (long c) = length (column c g.held)
get g (line l) = number_at g.state l
get g (unit c i) = number_at (column c g.held) i
get g (up q b) = number_at g.up q
get g (act a q b c) = number_at g.active (pair a q)
get g (wait a b) = number_at g.waiting a

-- the tables of up flags, of activity and of waiting marks may come with other lengths than 16, 256 and 16: a
-- change brings them to these
pub record Shape : Type 0 where
  pub ups : ℕ
  pub after_ups : List ℕ
  pub rows : ℕ
  pub after_rows : List ℕ
  pub marks : ℕ
  pub after_marks : List ℕ

abbrev pub shape : Gateway → Shape
shape g =
    record {
      ups = length g.up;
      after_ups = drop 16 g.up;
      rows = length g.active;
      after_rows = drop 256 g.active;
      marks = length g.waiting;
      after_marks = drop 16 g.waiting;
    }

-- u: the table of up flags is made anew, v: the two others are
pub record Remade : Type 0 where
  pub u : Bool
  pub v : Bool

abbrev pub reshape : Remade → Shape → Shape
reshape m s =
    record {
      ups = cond m.u 16 s.ups;
      after_ups = cond m.u [] s.after_ups;
      rows = cond m.v 256 s.rows;
      after_rows = cond m.v [] s.after_rows;
      marks = cond m.v 16 s.marks;
      after_marks = cond m.v [] s.after_marks;
    }

-- accepted
abbrev pub live : Gateway → Event → Bool
live g e = eqb (refusal g e) 0

-- whom an event sets up or down, and what it makes anew
abbrev pub moves_in : Effect → ℕ → Bool
moves_in (send os) q = false
moves_in (set_link l v os) q = false
moves_in (change_in os k named) q = moves k q
moves_in (take_in a x) q = false

abbrev pub remakes : Effect → Remade
remakes (send os) = record { u = false; v = false }
remakes (set_link l v os) = record { u = false; v = false }
remakes (change_in os k named) = record { u = remakes_up k; v = true }
remakes (take_in a x) = record { u = false; v = false }

abbrev pub shapes : Gateway → Event → Remade
shapes g e = cond (live g e) (remakes (effect_of g e.kind)) (record { u = false; v = false })

abbrev pub reads : Gateway → Event → Key → Bool
reads g e plan = true
reads g e sizes = true
reads g e sound = true
reads g e (long c) = true
reads g e (line l) = reach g e (owner_at g l)
reads g e (unit c i) = reach g e (as_of c i)
reads g e (up q b) = from_controller e.kind q || any_below (λ a. reach g e a && is_member g a q) 16
reads g e (act a q b c) = reach g e a
reads g e (wait a b) = reach g e a

abbrev pub writes : Gateway → Event → Key → Bool
writes g e plan = false
writes g e sizes = false
writes g e sound = false
writes g e (long c) = false
writes g e (line l) = ltb l g.links && reach g e (owner_at g l)
writes g e (unit c i) = reach g e (as_of c i)
writes g e (up q b) = live g e && moves_in (effect_of g e.kind) q
writes g e (act a q b c) = reach g e a
writes g e (wait a b) = reach g e a

-- ---- a state is what it holds at its keys, with its shape

pub ext : (g h : Gateway) → ((k : Key) → get g k ≡ get h k) → shape g ≡ shape h → g ≡ h
ext g h e s =
    λ j. from_plan (e plan j) (ups j) (acts j) (waits j) (lines j)
    (record { count = units counts j; tag = units tags j; length = units lengths j; marked = units marks j; id = units ids j; correlation = units correlations j })
  where
    ups : g.up ≡ h.up
    ups = ext_front 16 g.up h.up (λ i b. e (up i b)) (λ j. (s j).ups) (λ j. (s j).after_ups)

    lines : g.state ≡ h.state
    lines = ext_get_or 0 g.state h.state (e sizes) (λ i b. e (line i))

    units : (c : Column) → column c g.held ≡ column c h.held
    units c = ext_get_or 0 (column c g.held) (column c h.held) (e (long c)) (λ i b. e (unit c i))

    acts : g.active ≡ h.active
    acts =
        ext_front 256 g.active h.active
        (λ i b. let z : i / 16 * 16 + i % 16 ≡ i = omega arith in rw z at (e (act (i / 16) (i % 16) (omega arith) (omega arith))))
        (λ j. (s j).rows) (λ j. (s j).after_rows)

    waits : g.waiting ≡ h.waiting
    waits = ext_front 16 g.waiting h.waiting (λ i b. e (wait i b)) (λ j. (s j).marks) (λ j. (s j).after_marks)

-- ---- accepted events

module _ (g : Gateway) (e : Event) where
  pub live_sound : live g e ≡ true → is_sound g ≡ true
  live_sound l = (accepted (is_sound g) (in_plan g e.kind) e.lent (eqb-true (refusal g e) 0 l)).sound_yes

  pub live_plan : live g e ≡ true → in_plan g e.kind ≡ true
  live_plan l = (accepted (is_sound g) (in_plan g e.kind) e.lent (eqb-true (refusal g e) 0 l)).known_yes

  pub next_live : live g e ≡ true → next g e ≡ state_after g (effect_of g e.kind)
  unfolding next
  next_live l = cond_yes _ _ l

  pub next_dead : live g e ≡ false → next g e ≡ g
  unfolding next
  next_dead l = cond_no _ _ l

  -- a fact of the state that the rules give and of the one given, and so of the next
  pub by_live : (F : Gateway → Type 0) → (live g e ≡ true → F (state_after g (effect_of g e.kind))) → (live g e ≡ false → F g) → F (next g e)
  unfolding next
  by_live F m d = by_cond (live g e) F m d

  reach_is : (a : ℕ) → reach g e a ≡ (live g e && Reaches g e.kind a)
  unfolding reach
  reach_is a = refl

  pub reach_of : (a : ℕ) → live g e ≡ true → Reaches g e.kind a ≡ true → reach g e a ≡ true
  reach_of a l r = reach_is a ∙ and_both (live g e) (Reaches g e.kind a) l r

  pub reach_live : (a : ℕ) → reach g e a ≡ true → live g e ≡ true
  reach_live a r = and_left (live g e) (Reaches g e.kind a) (sym (reach_is a) ∙ r)

  pub reach_in : (a : ℕ) → reach g e a ≡ true → Reaches g e.kind a ≡ true
  reach_in a r = and_right (live g e) (Reaches g e.kind a) (sym (reach_is a) ∙ r)

  pub reach_16 : (a : ℕ) → reach g e a ≡ true → a < 16
  reach_16 a r =
      omega (arith, (counts_within g (live_sound (reach_live a r))).ases, ltb-true a g.ases (and_left (ltb a g.ases) (kind_reach g e.kind a) (reach_in a r)))

writes_live : (b : Gateway) (e : Event) (k : Key) → writes b e k ≡ true → live b e ≡ true
writes_live b e plan v = clash false refl v
writes_live b e sizes v = clash false refl v
writes_live b e sound v = clash false refl v
writes_live b e (long c) v = clash false refl v
writes_live b e (line i) v = reach_live b e (owner_at b i) (and_right (ltb i b.links) _ v)
writes_live b e (up q c) v = and_left (live b e) _ v
writes_live b e (act a q c d) v = reach_live b e a v
writes_live b e (wait a c) v = reach_live b e a v
writes_live b e (unit c i) v = reach_live b e (as_of c i) v

-- whom an effect sets up or down: its own controller, all of whose ASes it reaches
moves_own : (g : Gateway) (R own : ℕ → Bool) (d : Effect) → Within g R own d → (q : ℕ) → moves_in d q ≡ true → own q ≡ true
moves_own g R own (send os) w q m = clash false refl m
moves_own g R own (set_link l v os) w q m = clash false refl m
moves_own g R own (change_in os k named) w q m = w.mine q m
moves_own g R own (take_in a x) w q m = clash false refl m

moves_whole : (g : Gateway) (R own : ℕ → Bool) (d : Effect) → Within g R own d → (q a : ℕ) → a < 16 → moves_in d q ≡ true → is_member g a q ≡ true → R a ≡ true
moves_whole g R own (send os) w q a b m i = clash false refl m
moves_whole g R own (set_link l v os) w q a b m i = clash false refl m
moves_whole g R own (change_in os k named) w q a b m i = w.reached a b (w.whole q a m b ∙ i)
moves_whole g R own (take_in c x) w q a b m i = clash false refl m

-- the counts of a sound state have their sixteen places
count_16 : (g : Gateway) → is_sound g ≡ true → length g.held.count ≡ 16
count_16 g ok = (unit-sizes g.held g.waiting g.iid g.owner g.links (parts g ok).in_units).count_16

-- ---- what an effect leaves

module _ (g : Gateway) where
  state_plan : (d : Effect) → plan_of (state_after g d) ≡ plan_of g
  unfolding with_change
  state_plan (send os) = refl
  state_plan (set_link l v os) = refl
  state_plan (change_in os k named) = refl
  state_plan (take_in a x) = refl

  state_sizes : (d : Effect) → length (state_after g d).state ≡ length g.state
  state_sizes (send os) = refl
  state_sizes (set_link l v os) = length-set g.state l v
  state_sizes (change_in os k named) = ap length (change_state g k named)
  state_sizes (take_in a x) = refl

  state_long : (c : Column) (d : Effect) → length (column c (state_after g d).held) ≡ length (column c g.held)
  state_long c (send os) = refl
  state_long c (set_link l v os) = refl
  state_long c (change_in os k named) = change_long g k named c
  state_long c (take_in a x) = with_long c g.held a x

  state_shape : (d : Effect) → shape (state_after g d) ≡ reshape (remakes d) (shape g)
  state_shape (send os) = refl
  state_shape (set_link l v os) = refl
  state_shape (change_in os k named) = λ j. record {
    ups = (ap length (change_up g k named) ∙ up_length k g.up) j;
    after_ups = (ap (drop 16) (change_up g k named) ∙ up_drop k g.up) j;
    rows = active_length g k named j;
    after_rows = active_drop g k named j;
    marks = waiting_length g k named j;
    after_marks = waiting_drop g k named j;
  }
  state_shape (take_in a x) = refl

  kept_up : (d : Effect) (q : ℕ) → q < 16 → moves_in d q ≡ false → number_at (state_after g d).up q ≡ number_at g.up q
  kept_up (send os) q b n = refl
  kept_up (set_link l v os) q b n = refl
  kept_up (change_in os k named) q b n = ap (λ (c : List ℕ). number_at c q) (change_up g k named) ∙ up_kept k g.up q b n
  kept_up (take_in a x) q b n = refl

module _ (g : Gateway) (R own : ℕ → Bool) where
  -- an AS out of reach is not named
  unnamed : {k : Change} {named : List Bool} → In g R own k named → (a : ℕ) → a < 16 → R a ≡ false → flag_at named a ≡ false
  unnamed {k} {named} w a b r = false_of (flag_at named a) (λ e. clash (R a) r (w.reached a b e))

  kept_act : (d : Effect) → Within g R own d → (a q : ℕ) → a < 16 → q < 16 → R a ≡ false → number_at (state_after g d).active (pair a q) ≡ number_at g.active (pair a q)
  kept_act (send os) w a q b c r = refl
  kept_act (set_link l v os) w a q b c r = refl
  kept_act (change_in os k named) w a q b c r = active_kept g k named a q b c (unnamed w a b r)
  kept_act (take_in h x) w a q b c r = refl

  kept_wait : (d : Effect) → Within g R own d → (a : ℕ) → a < 16 → R a ≡ false → number_at (state_after g d).waiting a ≡ number_at g.waiting a
  kept_wait (send os) w a b r = refl
  kept_wait (set_link l v os) w a b r = refl
  kept_wait (change_in os k named) w a b r = waiting_kept g k named a b (unnamed w a b r)
  kept_wait (take_in h x) w a b r = refl

  kept_line : (d : Effect) → Within g R own d → (l : ℕ) → (ltb l g.links && R (owner_at g l)) ≡ false → number_at (state_after g d).state l ≡ number_at g.state l
  kept_line (send os) w l r = refl
  kept_line (set_link m v os) w l r = get_or-set_other g.state m l v 0 (λ z. clash (ltb l g.links && R (owner_at g l)) r (rw z (and_both (ltb m g.links) (R (owner_at g m)) (lt-ltb m g.links w.0) w.1)))
  kept_line (change_in os k named) w l r = ap (λ (c : List ℕ). number_at c l) (change_state g k named)
  kept_line (take_in h x) w l r = refl

  kept_unit : length g.held.count ≡ 16 → (d : Effect) → Within g R own d → (c : Column) (i : ℕ) → R (as_of c i) ≡ false → number_at (column c (state_after g d).held) i ≡ number_at (column c g.held) i
  kept_unit e (send os) w c i r = refl
  kept_unit e (set_link l v os) w c i r = refl
  kept_unit e (change_in os k named) w c i r =
      change_unit g k named c i ∙ cond_no 0 (number_at (column c g.held) i) (goes_not g k named e (as_of c i) (λ b. unnamed w (as_of c i) b r))
  kept_unit e (take_in a x) w c i r =
      let n = number_at g.held.count a in
      ap (λ (l : List ℕ). number_at l i) (with_is c g.held a x)
      ∙ get_or-set_other (column c g.held) (place_of c a n) i (value_of c n x) 0
      (λ z. clash (R (as_of c i)) r (ap (λ (k : ℕ). R (as_of c k)) z ∙ ap R (as_place c a n w.room) ∙ w.reached))

-- ---- the same effect in states that are alike

module _ (g : Gateway) (R own : ℕ → Bool) (g' : Gateway) (k : Alike g R own g') where
  said : (d : Effect) → Within g R own d → actions_of (dyn g g') d ≡ actions_of g d
  said (send os) v = refl
  said (set_link l n os) v = refl
  said (change_in os h named) v =
      ap (λ (x : List Action). os ++ x)
      (same_actions (dyn g g') g h named (λ a b e. record_alike g R own g' k a b (v.reached a b e)) (λ a b e. k.units counts a (v.reached a b e))
      (λ a j b c e. k.units ids (unit_index a j) (ap R (as_place ids a j c) ∙ v.reached a b e)))
  said (take_in a x) v = refl

  alike_up : (d : Effect) (q : ℕ) → q < 16 → number_at g'.up q ≡ number_at g.up q → number_at (state_after (dyn g g') d).up q ≡ number_at (state_after g d).up q
  alike_up (send os) q b z = z
  alike_up (set_link l n os) q b z = z
  alike_up (change_in os h named) q b z =
      ap (λ (x : List ℕ). number_at x q) (change_up (dyn g g') h named) ∙ same_up h g'.up g.up q b z ∙ sym (ap (λ (x : List ℕ). number_at x q) (change_up g h named))
  alike_up (take_in a x) q b z = z

  alike_act : (d : Effect) (a q : ℕ) → a < 16 → q < 16 → R a ≡ true → number_at (state_after (dyn g g') d).active (pair a q) ≡ number_at (state_after g d).active (pair a q)
  alike_act (send os) a q b d r = k.acts a q b d r
  alike_act (set_link l n os) a q b d r = k.acts a q b d r
  alike_act (change_in os h named) a q b d r = go (flag_at named a) refl
    where
      go : (t : Bool) → flag_at named a ≡ t → number_at (with_change (dyn g g') h named).active (pair a q) ≡ number_at (with_change g h named).active (pair a q)
      go true e =
          active_new (dyn g g') h named a q b d e ∙ (λ j. one (flag_at (after h (record_alike g R own g' k a b r j)).acts q))
          ∙ sym (active_new g h named a q b d e)
      go false e = active_kept (dyn g g') h named a q b d e ∙ k.acts a q b d r ∙ sym (active_kept g h named a q b d e)
  alike_act (take_in h x) a q b d r = k.acts a q b d r

  alike_wait : (d : Effect) (a : ℕ) → a < 16 → R a ≡ true → number_at (state_after (dyn g g') d).waiting a ≡ number_at (state_after g d).waiting a
  alike_wait (send os) a b r = k.waits a b r
  alike_wait (set_link l n os) a b r = k.waits a b r
  alike_wait (change_in os h named) a b r = go (flag_at named a) refl
    where
      go : (t : Bool) → flag_at named a ≡ t → number_at (with_change (dyn g g') h named).waiting a ≡ number_at (with_change g h named).waiting a
      go true e =
          waiting_new (dyn g g') h named a b e ∙ (λ j. one (after h (record_alike g R own g' k a b r j)).waiting)
          ∙ sym (waiting_new g h named a b e)
      go false e = waiting_kept (dyn g g') h named a b e ∙ k.waits a b r ∙ sym (waiting_kept g h named a b e)
  alike_wait (take_in h x) a b r = k.waits a b r

  alike_line : length g'.state ≡ length g.state → (d : Effect) (l : ℕ) → R (owner_at g l) ≡ true → number_at (state_after (dyn g g') d).state l ≡ number_at (state_after g d).state l
  alike_line e (send os) l r = k.lines l r
  alike_line e (set_link m n os) l r = set_same g'.state g.state m l n e (k.lines l r)
  alike_line e (change_in os h named) l r =
      ap (λ (x : List ℕ). number_at x l) (change_state (dyn g g') h named) ∙ k.lines l r ∙ sym (ap (λ (x : List ℕ). number_at x l) (change_state g h named))
  alike_line e (take_in a x) l r = k.lines l r

  alike_unit : (c : Column) → length (column c g'.held) ≡ length (column c g.held) → (d : Effect) → Within g R own d → (i : ℕ) → as_of c i < 16 → R (as_of c i) ≡ true
      → number_at (column c (state_after (dyn g g') d).held) i ≡ number_at (column c (state_after g d).held) i
  alike_unit c e (send os) w i b r = k.units c i r
  alike_unit c e (set_link l n os) w i b r = k.units c i r
  alike_unit c e (change_in os h named) w i b r =
      change_unit (dyn g g') h named c i
      ∙ (λ j. cond (same_goes (dyn g g') g h named (as_of c i) (k.units counts (as_of c i) r) (record_alike g R own g' k (as_of c i) b r) j) 0 (k.units c i r j))
      ∙ sym (change_unit g h named c i)
  alike_unit c e (take_in a x) w i b r =
      ap (λ (l : List ℕ). number_at l i) (with_is c g'.held a x)
      ∙ ap (λ (n : ℕ). number_at (set (column c g'.held) (place_of c a n) (value_of c n x)) i) (k.units counts a w.reached)
      ∙ set_same (column c g'.held) (column c g.held) (place_of c a (number_at g.held.count a)) i (value_of c (number_at g.held.count a) x) e (k.units c i r)
      ∙ sym (ap (λ (l : List ℕ). number_at l i) (with_is c g.held a x))

-- ---- two states with one plan, both sound or neither: what is refused and what is reached is the same

module _ (b b' : Gateway) (P : plan_of b' ≡ plan_of b) where
  -- b' is b with other contents
  to : b' ≡ dyn b b'
  to = λ j. from_plan (P j) b'.up b'.active b'.waiting b'.state b'.held

  module _ (S : is_sound b' ≡ is_sound b) (e : Event) where
    plan_in : in_plan b' e.kind ≡ in_plan b e.kind
    plan_in = ap (λ (x : Gateway). in_plan x e.kind) to ∙ in_plan_lem b b' e.kind

    plan_refusal : refusal b' e ≡ refusal b e
    plan_refusal = λ j. refusal_of (S j) (plan_in j) e.lent

    plan_reaches : (a : ℕ) → Reaches b' e.kind a ≡ Reaches b e.kind a
    plan_reaches a =
        ap (λ (x : Gateway). Reaches x e.kind a) to ∙ ap (λ (t : Bool). ltb a b.ases && t) (reach_plan b b' e.kind a)

    pub plan_reach : (a : ℕ) → reach b' e a ≡ reach b e a
    unfolding reach
    plan_reach a = λ j. eqb (plan_refusal j) 0 && plan_reaches a j

-- ---- two states that agree on what e reads

module _ (b b' : Gateway) (e : Event) (h : Agree get reads writes b b' e) where
  is_dyn : b' ≡ dyn b b'
  is_dyn = to b b' (h plan refl)

  pub same_refusal : refusal b' e ≡ refusal b e
  same_refusal = plan_refusal b b' (h plan refl) (h sound refl) e

  pub same_live : live b' e ≡ live b e
  same_live = λ j. eqb (same_refusal j) 0

  pub same_reach : (a : ℕ) → reach b' e a ≡ reach b e a
  same_reach = plan_reach b b' (h plan refl) (h sound refl) e

  module _ (l : live b e ≡ true) where
    alike : Alike b (Reaches b e.kind) (from_controller e.kind) b'
    alike =
        record {
          mine = λ q d f. h (up q d) (or_left _ f);
          ups = λ a q d f r m.
              h (up q f) (or_right (from_controller e.kind q) (any_in (λ a. reach b e a && is_member b a q) 16 a d (and_both (reach b e a) (is_member b a q) (reach_of b e a l r) m)));
          acts = λ a q d f r. h (act a q d f) (reach_of b e a l r);
          waits = λ a d r. h (wait a d) (reach_of b e a l r);
          lines = λ k r. h (line k) (reach_of b e (owner_at b k) l r);
          units = λ c i r. h (unit c i) (reach_of b e (as_of c i) l r);
        }

    ok : is_sound b ≡ true
    ok = live_sound b e l

    ok' : is_sound (dyn b b') ≡ true
    ok' = sym (ap (λ (x : Gateway). is_sound x) is_dyn) ∙ h sound refl ∙ ok

    pub same_effect : effect_of b' e.kind ≡ effect_of b e.kind
    same_effect =
        ap (λ (x : Gateway). effect_of x e.kind) is_dyn
        ∙ effect_alike b b' ok ok' e.kind (live_plan b e l) alike

    pub in_reach : Within b (Reaches b e.kind) (from_controller e.kind) (effect_of b e.kind)
    in_reach = within b ok e.kind (live_plan b e l)

    same_said : actions_of b' (effect_of b' e.kind) ≡ actions_of b (effect_of b e.kind)
    same_said =
        (λ j. actions_of (is_dyn j) (same_effect j))
        ∙ said b (Reaches b e.kind) (from_controller e.kind) b' alike (effect_of b e.kind) in_reach

    same_state : (k : Key) → writes b e k ≡ true → get (state_after b' (effect_of b' e.kind)) k ≡ get (state_after b (effect_of b e.kind)) k
    same_state k v = (λ j. get (state_after (is_dyn j) (same_effect j)) k) ∙ go k v
      where
        R : ℕ → Bool
        R = Reaches b e.kind

        own : ℕ → Bool
        own = from_controller e.kind

        d : Effect
        d = effect_of b e.kind

        go : (k : Key) → writes b e k ≡ true → get (state_after (dyn b b') (effect_of b e.kind)) k ≡ get (state_after b (effect_of b e.kind)) k
        go plan v = clash false refl v
        go sizes v = clash false refl v
        go sound v = clash false refl v
        go (long c) v = clash false refl v
        go (line i) v = alike_line b R own b' alike (h sizes refl) d i (reach_in b e (owner_at b i) (and_right (ltb i b.links) _ v))
        go (up q c) v =
            alike_up b R own b' alike d q c
            (alike.mine q c (moves_own b R own d in_reach q (and_right (live b e) (moves_in d q) v)))
        go (act a q c f) v = alike_act b R own b' alike d a q c f (reach_in b e a v)
        go (wait a c) v = alike_wait b R own b' alike d a c (reach_in b e a v)
        go (unit c i) v = alike_unit b R own b' alike c (h (long c) refl) d in_reach i (reach_16 b e (as_of c i) v) (reach_in b e (as_of c i) v)

  by_test : {A : Type 0} {x y : A} → (live b e ≡ true → x ≡ y) → (live b e ≡ false → x ≡ y) → x ≡ y
  by_test {x = x} {y} f g = go (live b e) refl
    where
      go : (t : Bool) → live b e ≡ t → x ≡ y
      go true l = f l
      go false l = g l

  pub same_actions_all : actions b' e ≡ actions b e
  unfolding actions
  same_actions_all =
      by_test (λ l. cond_yes _ _ (same_live ∙ l) ∙ same_said l ∙ sym (cond_yes _ _ l)) (λ l. cond_no _ _ (same_live ∙ l) ∙ sym (cond_no _ _ l))

  pub same_writes : (k : Key) → writes b' e k ≡ writes b e k
  same_writes plan = refl
  same_writes sizes = refl
  same_writes sound = refl
  same_writes (up q c) =
      by_test (λ l j. same_live j && moves_in (same_effect l j) q)
      (λ l. ap (λ (t : Bool). t && moves_in (effect_of b' e.kind) q) (same_live ∙ l) ∙ sym (ap (λ (t : Bool). t && moves_in (effect_of b e.kind) q) l))
  same_writes (line i) =
      ap (λ (p : Plan). ltb i p.links && reach b' e (number_at p.owner i)) (h plan refl) ∙ ap (λ (t : Bool). ltb i b.links && t) (same_reach (owner_at b i))
  same_writes (act a q c d) = same_reach a
  same_writes (wait a c) = same_reach a
  same_writes (long c) = refl
  same_writes (unit c i) = same_reach (as_of c i)

  pub same_shapes : shapes b' e ≡ shapes b e
  same_shapes =
      by_test (λ l j. cond (same_live j) (remakes (same_effect l j)) (record { u = false; v = false }))
      (λ l. cond_no _ _ (same_live ∙ l) ∙ sym (cond_no _ _ l))

  pub same_next : (k : Key) → writes b e k ≡ true → get (next b' e) k ≡ get (next b e) k
  same_next k v =
      let l = writes_live b e k v in
      ap (λ (x : Gateway). get x k) (next_live b' e (same_live ∙ l)) ∙ same_state l k v ∙ sym (ap (λ (x : Gateway). get x k) (next_live b e l))

-- ---- all of it: every event is local

writes_mine : (b : Gateway) (e : Event) (q : ℕ) → (live b e && moves_in (effect_of b e.kind) q) ≡ true → from_controller e.kind q ≡ true
writes_mine b e q v =
    let l = and_left (live b e) (moves_in (effect_of b e.kind) q) v in
    moves_own b (Reaches b e.kind) (from_controller e.kind) (effect_of b e.kind) (within b (live_sound b e l) e.kind (live_plan b e l)) q (and_right (live b e) (moves_in (effect_of b e.kind) q) v)

pub covers : (b : Gateway) (e : Event) (k : Key) → writes b e k ≡ true → reads b e k ≡ true
covers b e plan v = refl
covers b e sizes v = refl
covers b e sound v = refl
covers b e (up q c) v = or_left _ (writes_mine b e q v)
covers b e (line i) v = and_right (ltb i b.links) _ v
covers b e (act a q c d) v = v
covers b e (wait a c) v = v
covers b e (long c) v = refl
covers b e (unit c i) v = v

-- an up flag of another ASP
pub not_mine : (b : Gateway) (e : Event) (q : ℕ) (c : q < 16) → from_controller e.kind q ≡ false → writes b e (up q c) ≡ false
not_mine b e q c n = false_of (writes b e (up q c)) (λ v. clash (from_controller e.kind q) n (writes_mine b e q v))

-- an up flag of a member of an AS out of reach: who sets q up or down reaches all ASes of q
pub not_reached : (b : Gateway) (e : Event) (a q : ℕ) → a < 16 → (c : q < 16) → reach b e a ≡ false → is_member b a q ≡ true → writes b e (up q c) ≡ false
not_reached b e a q d c n m =
    false_of (writes b e (up q c))
    (λ v.
    let l = and_left (live b e) (moves_in (effect_of b e.kind) q) v in
    let w = within b (live_sound b e l) e.kind (live_plan b e l) in
    clash (reach b e a) n
    (reach_of b e a l (moves_whole b (Reaches b e.kind) (from_controller e.kind) (effect_of b e.kind) w q a d (and_right (live b e) (moves_in (effect_of b e.kind) q) v) m)))

pub reshaped : (b : Gateway) (e : Event) → shape (next b e) ≡ reshape (shapes b e) (shape b)
reshaped b e =
    by_live b e (λ (x : Gateway). shape x ≡ reshape (shapes b e) (shape b))
    (λ l. state_shape b (effect_of b e.kind) ∙ ap (λ (m : Remade). reshape m (shape b)) (sym (cond_yes _ _ l)))
    (λ l. ap (λ (m : Remade). reshape m (shape b)) (sym (cond_no _ _ l)))

cond_trade : {A : Type 0} (u v : Bool) (x y : A) → cond u x (cond v x y) ≡ cond v x (cond u x y)
cond_trade true true x y = refl
cond_trade true false x y = refl
cond_trade false true x y = refl
cond_trade false false x y = refl

pub reshape_trade : (m n : Remade) (s : Shape) → reshape m (reshape n s) ≡ reshape n (reshape m s)
reshape_trade m n s = λ j. record {
  ups = cond_trade m.u n.u 16 s.ups j;
  after_ups = cond_trade m.u n.u [] s.after_ups j;
  rows = cond_trade m.v n.v 256 s.rows j;
  after_rows = cond_trade m.v n.v [] s.after_rows j;
  marks = cond_trade m.v n.v 16 s.marks j;
  after_marks = cond_trade m.v n.v [] s.after_marks j;
}

pub untouched : (b : Gateway) (e : Event) (k : Key) → writes b e k ≡ false → get (next b e) k ≡ get b k
untouched b e plan v = by_live b e (λ (x : Gateway). plan_of x ≡ plan_of b) (λ l. state_plan b (effect_of b e.kind)) (λ l. refl)
untouched b e sizes v = by_live b e (λ (x : Gateway). get x sizes ≡ get b sizes) (λ l. state_sizes b (effect_of b e.kind)) (λ l. refl)
untouched b e sound v = go (is_sound b) refl
  where
    go : (t : Bool) → is_sound b ≡ t → is_sound (next b e) ≡ is_sound b
    go true s = keeps b e s ∙ sym s
    go false s = ap (λ (x : Gateway). is_sound x) (next_dead b e (false_of (live b e) (λ l. clash (is_sound b) s (live_sound b e l))))
untouched b e (up q c) v =
    by_live b e (λ (x : Gateway). number_at x.up q ≡ number_at b.up q)
    (λ l. kept_up b (effect_of b e.kind) q c (ap (λ (t : Bool). t && moves_in (effect_of b e.kind) q) (sym l) ∙ v)) (λ l. refl)
untouched b e (line i) v =
    by_live b e (λ (x : Gateway). number_at x.state i ≡ number_at b.state i)
    (λ l. kept_line b (Reaches b e.kind) (from_controller e.kind) (effect_of b e.kind) (within b (live_sound b e l) e.kind (live_plan b e l)) i
    (false_of (ltb i b.links && Reaches b e.kind (owner_at b i)) (λ r. clash (writes b e (line i)) v (and_both (ltb i b.links) (reach b e (owner_at b i)) (and_left (ltb i b.links) _ r) (reach_of b e (owner_at b i) l (and_right (ltb i b.links) _ r)))))) (λ l. refl)
untouched b e (act a q c d) v =
    by_live b e (λ (x : Gateway). number_at x.active (pair a q) ≡ number_at b.active (pair a q))
    (λ l. kept_act b (Reaches b e.kind) (from_controller e.kind) (effect_of b e.kind) (within b (live_sound b e l) e.kind (live_plan b e l)) a q c d
    (false_of (Reaches b e.kind a) (λ r. clash (reach b e a) v (reach_of b e a l r)))) (λ l. refl)
untouched b e (wait a c) v =
    by_live b e (λ (x : Gateway). number_at x.waiting a ≡ number_at b.waiting a)
    (λ l. kept_wait b (Reaches b e.kind) (from_controller e.kind) (effect_of b e.kind) (within b (live_sound b e l) e.kind (live_plan b e l)) a c
    (false_of (Reaches b e.kind a) (λ r. clash (reach b e a) v (reach_of b e a l r)))) (λ l. refl)
untouched b e (long c) v = by_live b e (λ (x : Gateway). get x (long c) ≡ get b (long c)) (λ l. state_long b c (effect_of b e.kind)) (λ l. refl)
untouched b e (unit c i) v =
    by_live b e (λ (x : Gateway). get x (unit c i) ≡ get b (unit c i))
    (λ l. kept_unit b (Reaches b e.kind) (from_controller e.kind) (count_16 b (live_sound b e l)) (effect_of b e.kind) (within b (live_sound b e l) e.kind (live_plan b e l)) c i
    (false_of (Reaches b e.kind (as_of c i)) (λ r. clash (reach b e (as_of c i)) v (reach_of b e (as_of c i) l r)))) (λ l. refl)

-- what an event reaches does not change along a history: it may be read off the first state
pub reach_next : (b : Gateway) (e f : Event) (a : ℕ) → reach (next b e) f a ≡ reach b f a
reach_next b e f a = plan_reach b (next b e) (untouched b e plan refl) (untouched b e sound refl) f a

-- ---- the condition for a trade (Rule 10.4)

-- where they are not both of one controller, and no AS is reached by both
pub apart : (b : Gateway) (e f : Event) → ((q : ℕ) → from_controller e.kind q ≡ true → from_controller f.kind q ≡ true → ⊥) → ((a : ℕ) → reach b e a ≡ true → reach b f a ≡ true → ⊥) → Apart get reads writes b e f
apart b e f controllers servers plan v r = clash false refl v
apart b e f controllers servers sizes v r = clash false refl v
apart b e f controllers servers sound v r = clash false refl v
apart b e f controllers servers (up q c) v r =
    or_case (from_controller f.kind q) _ r (λ o. controllers q (moves_own b (Reaches b e.kind) (from_controller e.kind) (effect_of b e.kind) w q m) o) (λ s. go (any_at (λ a. reach b f a && is_member b a q) 16 s))
  where
    l : live b e ≡ true
    l = and_left (live b e) (moves_in (effect_of b e.kind) q) v

    m : moves_in (effect_of b e.kind) q ≡ true
    m = and_right (live b e) (moves_in (effect_of b e.kind) q) v

    w : Within b (Reaches b e.kind) (from_controller e.kind) (effect_of b e.kind)
    w = within b (live_sound b e l) e.kind (live_plan b e l)

    -- who sets q up or down reaches all ASes of q
    go : (a : ℕ) × (a < 16) × ((reach b f a && is_member b a q) ≡ true) → ⊥
    go t =
        servers t.0
        (reach_of b e t.0 l (moves_whole b (Reaches b e.kind) (from_controller e.kind) (effect_of b e.kind) w q t.0 t.1 m (and_right (reach b f t.0) (is_member b t.0 q) t.2)))
        (and_left (reach b f t.0) (is_member b t.0 q) t.2)
apart b e f controllers servers (line i) v r = servers (owner_at b i) (and_right (ltb i b.links) _ v) r
apart b e f controllers servers (act a q c i) v r = servers a v r
apart b e f controllers servers (wait a c) v r = servers a v r
apart b e f controllers servers (long c) v r = clash false refl v
apart b e f controllers servers (unit c i) v r = servers (as_of c i) v r
