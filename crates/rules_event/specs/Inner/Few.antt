-- Every event has at most 386 actions: two replies, and in each of sixteen ASes eight units and sixteen
-- Notifies.
-- Assumes nothing.
use Rattle.std.specs.Prelude.{ℕ, ◌+◌, ◌*◌, ◌≤◌, ◌≡◌, refl, Bool, true, false, cond, ◌&&◌, List, [], ◌∷◌, eqb, ltb, length}
use Rattle.std.proofs.Common.{arith, length-append, eqb-true}
use Rattle.laws.specs.Columns.{number_at}
use Rattle.codec_read.specs.Meaning.{reading_of}
use Rattle.rules_action.specs.declared.Action.{Action}
use Rattle.rules_action.specs.Inner.Words.{to_all_short}
use Rattle.state_tables.specs.Sound.{most_held, is_sound}
use Rattle.state_tables.specs.declared.Gateway.{Gateway}
use Rattle.rules_server.specs.Inner.Change.{fits}
use Rattle.rules_servers.specs.Inner.Changed.{all_actions_short}
use Rattle.rules_event.specs.Event.{EventKind, link_message, Event}
use Rattle.rules_event.specs.Effect.{Effect, send, set_link, change_in, take_in, actions_of}
use Rattle.rules_event.specs.Link.{to_recipients, recipients_at, is_pending, arrival, hold_effect, link_message_on, link_message_effect}
use Rattle.rules_event.specs.Identifiers.{link_of, owner_at}
use Rattle.rules_event.specs.Records.{link_at}
use Rattle.rules_event.specs.Rules.{effect_of, in_plan, refusal}
use Rattle.rules_event.specs.Entry.{actions}
use Rattle.rules_event.specs.Inner.Accepted.{accepted}
use Rattle.rules_event.specs.Inner.Shapes.{Shapes, effect_by}

-- at most two replies before a change in ASes, at most 16 actions where there is none
unfoldable pub Short : Effect → Type 0
Short (send os) = length os ≤ 16
Short (set_link l v os) = length os ≤ 16
Short (change_in os k named) = (length os ≤ 2) × (fits k ≡ true)
Short (take_in a x) = Unit {0}

short_few : (g : Gateway) (d : Effect) → Short d → length (actions_of g d) ≤ 386
unfolding Short
short_few g (send os) h = omega (arith, h)
short_few g (set_link l v os) h = omega (arith, h)
short_few g (take_in a x) h = omega arith
short_few g (change_in os k named) h = rw length-append (omega (arith, h.0, all_actions_short g k named h.1))

-- ---- the effects, case by case

-- a second action under a condition
two : (x y : Action) (u : Bool) → length (x ∷ cond u (y ∷ []) []) ≤ 2
two x y true = omega arith
two x y false = omega arith

shapes : Shapes Short
unfolding Short
shapes =
    record {
      say_none = omega arith;
      say_one = λ x e. omega arith;
      say_two = λ x y u e d. omega (arith, two x y u);
      turn_one = λ l n x e. omega arith;
      turn_all = λ l n who k s v e. to_all_short who k s v;
      change_one = λ x k named e f o. (omega arith, f);
      change_two = λ x y u k named e d f o. (two x y u, f);
    }

-- what the link side sends is held, turned away, or passed on
link_short : (g : Gateway) (s : List ℕ) → Short (effect_of g (link_message s))
unfolding Short link_message_effect link_message_on hold_effect to_recipients
link_short g s = go (eqb (reading_of s).msgtype 1 && is_pending g (owner_at g l)) (ltb (number_at g.held.count (owner_at g l)) most_held)
  where
    l : ℕ
    l = link_of g (reading_of s).id

    go : (u v : Bool) → Short (cond u (cond v (take_in (owner_at g l) (arrival s (reading_of s))) (send [])) (send (to_recipients (recipients_at g l) (link_at g l) ((reading_of s).class * 256 + (reading_of s).msgtype))))
    go true true = tt
    go true false = omega arith
    go false v = to_all_short (recipients_at g l) ((reading_of s).class * 256 + (reading_of s).msgtype) (number_at g.iid l) 0

effect_short : (g : Gateway) (k : EventKind) → is_sound g ≡ true → in_plan g k ≡ true → Short (effect_of g k)
unfolding Short
effect_short g k c i = effect_by shapes g k c i (λ c named f. (omega arith, f)) (λ s e. link_short g s)

-- ---- the law

pub few_actions : (g : Gateway) (e : Event) → length (actions g e) ≤ 386
unfolding actions
few_actions g e = go (eqb (refusal g e) 0) refl
  where
    go : (u : Bool) → eqb (refusal g e) 0 ≡ u → length (cond u (actions_of g (effect_of g e.kind)) []) ≤ 386
    go true h =
        let t = accepted (is_sound g) (in_plan g e.kind) e.lent (eqb-true (refusal g e) 0 h) in
        short_few g (effect_of g e.kind) (effect_short g e.kind t.sound_yes t.known_yes)
    go false h = omega arith

-- the same of a count of them
pub few_count : (g : Gateway) (e : Event) {n : ℕ} → n ≡ length (actions g e) → n ≤ 386
few_count g e h = omega (arith, h, few_actions g e)
