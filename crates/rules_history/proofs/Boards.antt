-- The same of the state with its hold: an event writes the part of the hold of the AS that takes a unit in,
-- and no other. So two events that are free to trade places commute.
-- Assumes nothing.
use mathlib.Core.Path.{◌≡◌, refl, sym, ap, ◌∙◌}
use mathlib.Core.Bool.{Bool, true, false}
use mathlib.Core.List.{List}
use Prim.Native.Nat.{ℕ, ◌+◌, ◌-◌, ◌/◌, ◌<◌, ◌≤◌}
use native.Mathlib.Omega.{arith}
use lib.ListN.{length, take, drop, length-take}
use lib.Seq.{ext_get_or}
use Rattle.laws.specs.Inner.Every.{clash, false_of}
use Rattle.laws.specs.Inner.Choice.{by_cond}
use Rattle.laws.specs.Columns.{number_at}
use Rattle.codec_put.specs.Bytes.{overlay}
use Rattle.state_tables.specs.declared.Gateway.{Gateway}
use Rattle.rules_action.specs.Words.{words_of}
use Rattle.rules_server.specs.declared.Arrival.{Arrival}
use Rattle.rules_event.specs.Event.{Event, message_of}
use Rattle.rules_event.specs.Effect.{Effect, send, set_link, change_in, take_in, hold_at, hold_after}
use Rattle.rules_event.specs.Rules.{effect_of}
use Rattle.rules_event.specs.Reach.{reach, from_controller}
use Rattle.rules_event.specs.Entry.{next_hold}
use Rattle.rules_event.specs.Calls.{Board, next_board, rules_answer}
use Rattle.rules_event.proofs.Calls.{hold_next}
use Rattle.rules_history.specs.Inner.Trade.{Commute}
use Rattle.rules_history.specs.Inner.Local.{Local, Agree, Apart, commutes}
use Rattle.rules_history.specs.History.{Independent}
use Rattle.rules_history.proofs.Bits.{over_same, over_other, cond_yes, cond_no}
use Rattle.rules_history.proofs.Units.{counts}
use Rattle.rules_history.proofs.Within.{Into, Within, Reaches, within}
use Rattle.rules_history.proofs.Frame as frame
use Rattle.rules_history.proofs.Frame.{Key, Val, Shape, Remade, reshape, live, live_sound, live_plan, reach_of, reach_live, unit}

-- ---- the keys of a state with its hold

pub data Place : Type 0 where
  gate : Key → Place
  room : Place
  byte : ℕ → Place

abbrev pub Held : Place → Type 0
Held (gate k) = Val k
Held room = ℕ
Held (byte j) = ℕ

abbrev pub get : Board → (k : Place) → Held k
get b (gate k) = frame.get b.gateway k
get b room = length b.hold
get b (byte j) = number_at b.hold j

abbrev pub shape : Board → Shape
shape b = frame.shape b.gateway

abbrev pub shapes : Board → Event → Remade
shapes b e = frame.shapes b.gateway e

-- the AS of a byte of the hold
abbrev pub part_of : ℕ → ℕ
part_of j = j / 2184

abbrev pub reads : Board → Event → Place → Bool
reads b e (gate k) = frame.reads b.gateway e k
reads b e room = true
reads b e (byte j) = reach b.gateway e (part_of j)

abbrev pub writes : Board → Event → Place → Bool
writes b e (gate k) = frame.writes b.gateway e k
writes b e room = false
writes b e (byte j) = reach b.gateway e (part_of j)

ext : (b c : Board) → ((k : Place) → get b k ≡ get c k) → shape b ≡ shape c → b ≡ c
ext b c e s = λ j. record {
  gateway = frame.ext b.gateway c.gateway (λ k. e (gate k)) s j;
  hold = ext_get_or 0 b.hold c.hold (e room) (λ i l. e (byte i)) j;
}

-- ---- the hold after an event

module _ (g : Gateway) (e : Event) (h : List ℕ) where
  pub hold_live : live g e ≡ true → next_hold g e h ≡ hold_after g (message_of e.kind) (effect_of g e.kind) h
  unfolding next_hold
  hold_live l = cond_yes _ _ l

  pub hold_dead : live g e ≡ false → next_hold g e h ≡ h
  unfolding next_hold
  hold_dead l = cond_no _ _ l

  by_hold : (F : List ℕ → Type 0) → (live g e ≡ true → F (hold_after g (message_of e.kind) (effect_of g e.kind) h)) → (live g e ≡ false → F h) → F (next_hold g e h)
  unfolding next_hold
  by_hold F m d = by_cond (live g e) F m d

-- a unit lies in its AS's part
in_part : (g : Gateway) (R : ℕ → Bool) (a : ℕ) (x : Arrival) (s : List ℕ) (j : ℕ) → Into g R a x
    → hold_at a (number_at g.held.count a) ≤ j → j < hold_at a (number_at g.held.count a) + length (take (x.length - 4) (drop x.start s)) → part_of j ≡ a
in_part g R a x s j w lo hi =
    let z : length (take (x.length - 4) (drop x.start s)) ≤ 273 = rw (length-take (x.length - 4) (drop x.start s)) (omega (arith, w.most)) in
    let n = w.room in
    omega arith

kept_byte : (g : Gateway) (R own : ℕ → Bool) (s : List ℕ) (d : Effect) (h : List ℕ) → Within g R own d → (j : ℕ) → R (part_of j) ≡ false → number_at (hold_after g s d h) j ≡ number_at h j
kept_byte g R own s (send os) h w j r = refl
kept_byte g R own s (set_link l v os) h w j r = refl
kept_byte g R own s (change_in os k named) h w j r = refl
kept_byte g R own s (take_in a x) h w j r =
    over_other (take (x.length - 4) (drop x.start s)) h (hold_at a (number_at g.held.count a)) j
    (λ lo hi. clash (R (part_of j)) r (ap R (in_part g R a x s j w lo hi) ∙ w.reached))

-- what is laid over it is the same where the AS has as many units
alike_byte : (g' g : Gateway) (R own : ℕ → Bool) (s : List ℕ) (d : Effect) (h' h : List ℕ) → Within g R own d → ((a : ℕ) → R a ≡ true → number_at g'.held.count a ≡ number_at g.held.count a)
    → length h' ≡ length h → (j : ℕ) → number_at h' j ≡ number_at h j → number_at (hold_after g' s d h') j ≡ number_at (hold_after g s d h) j
alike_byte g' g R own s (send os) h' h w n e j z = z
alike_byte g' g R own s (set_link l v os) h' h w n e j z = z
alike_byte g' g R own s (change_in os k named) h' h w n e j z = z
alike_byte g' g R own s (take_in a x) h' h w n e j z =
    ap (λ (m : ℕ). number_at (overlay h' (hold_at a m) (take (x.length - 4) (drop x.start s))) j) (n a w.reached)
    ∙ over_same (take (x.length - 4) (drop x.start s)) h' h (hold_at a (number_at g.held.count a)) j e z

-- ---- two boards that agree on what e reads

module _ (b b' : Board) (e : Event) (h : Agree get reads writes b b' e) where
  inner : Agree frame.get frame.reads frame.writes b.gateway b'.gateway e
  inner k r = h (gate k) r

  same_out : rules_answer b' e ≡ rules_answer b e
  same_out =
      let os = frame.same_actions_all b.gateway b'.gateway e inner in
      λ j. record { refusal = frame.same_refusal b.gateway b'.gateway e inner j; count = length (os j); words = words_of (os j) }

  same_writes : (k : Place) → writes b' e k ≡ writes b e k
  same_writes (gate k) = frame.same_writes b.gateway b'.gateway e inner k
  same_writes room = refl
  same_writes (byte j) = frame.same_reach b.gateway b'.gateway e inner (part_of j)

  same_byte : (j : ℕ) → reach b.gateway e (part_of j) ≡ true → number_at (next_hold b'.gateway e b'.hold) j ≡ number_at (next_hold b.gateway e b.hold) j
  same_byte j v =
      let g = b.gateway in
      let g' = b'.gateway in
      let l = reach_live g e (part_of j) v in
      ap (λ (x : List ℕ). number_at x j) (hold_live g' e b'.hold (frame.same_live g g' e inner ∙ l))
      ∙ ap (λ (d : Effect). number_at (hold_after g' (message_of e.kind) d b'.hold) j) (frame.same_effect g g' e inner l)
      ∙ alike_byte g' g (Reaches g e.kind) (from_controller e.kind) (message_of e.kind) (effect_of g e.kind) b'.hold b.hold (frame.in_reach g g' e inner l)
      (λ a r. inner (unit counts a) (reach_of g e a l r)) (h room refl) j (h (byte j) v)
      ∙ sym (ap (λ (x : List ℕ). number_at x j) (hold_live g e b.hold l))

  same_next : (k : Place) → writes b e k ≡ true → get (next_board b' e) k ≡ get (next_board b e) k
  same_next (gate k) v = frame.same_next b.gateway b'.gateway e inner k v
  same_next room v = clash false refl v
  same_next (byte j) v = same_byte j v

  same_shapes : shapes b' e ≡ shapes b e
  same_shapes = frame.same_shapes b.gateway b'.gateway e inner

-- ---- all of it

covers : (b : Board) (e : Event) (k : Place) → writes b e k ≡ true → reads b e k ≡ true
covers b e (gate k) v = frame.covers b.gateway e k v
covers b e room v = refl
covers b e (byte j) v = v

pub untouched : (b : Board) (e : Event) (k : Place) → writes b e k ≡ false → get (next_board b e) k ≡ get b k
untouched b e (gate k) v = frame.untouched b.gateway e k v
untouched b e room v = hold_next b.gateway e b.hold
untouched b e (byte j) v =
    by_hold b.gateway e b.hold (λ (x : List ℕ). number_at x j ≡ number_at b.hold j)
    (λ l.
    let g = b.gateway in
    kept_byte g (Reaches g e.kind) (from_controller e.kind) (message_of e.kind) (effect_of g e.kind) b.hold (within g (live_sound g e l) e.kind (live_plan g e l)) j
    (false_of (Reaches g e.kind (part_of j)) (λ r. clash (reach g e (part_of j)) v (reach_of g e (part_of j) l r)))) (λ l. refl)

pub local : Local get shape reads writes shapes reshape rules_answer next_board
local =
    record {
      ext = ext;
      covers = covers;
      untouched = untouched;
      same_out = same_out;
      same_writes = same_writes;
      same_next = same_next;
      same_shapes = same_shapes;
      reshaped = λ b e. frame.reshaped b.gateway e;
      reshape_trade = frame.reshape_trade;
    }

-- ---- the condition for a trade (Rule 10.4)

apart : (b : Board) (e f : Event) → Independent b e f → Apart get reads writes b e f
apart b e f d (gate k) v r = frame.apart b.gateway e f d.controllers d.servers k v r
apart b e f d room v r = clash false refl v
apart b e f d (byte j) v r = d.servers (part_of j) v r

flip : (b : Board) (e f : Event) → Independent b e f → Independent b f e
flip b e f d = record { controllers = λ q p r. d.controllers q r p; servers = λ a p r. d.servers a r p }

pub free_commute : (b : Board) (e f : Event) → Independent b e f → Commute rules_answer next_board b e f
free_commute b e f d =
    commutes get shape reads writes shapes reshape rules_answer next_board local b e f (apart b e f d) (apart b f e (flip b e f d))
