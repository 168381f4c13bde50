-- The effects of every event but a message of the link side, case by case: what holds of each shape of effect
-- holds of them all.
-- Assumes nothing.
use Rattle.std.specs.Prelude.{ℕ, ◌<◌, ◌≡◌, Bool, false, cond, ◌&&◌, List, [], ◌∷◌, eqb}
use Rattle.std.proofs.Math.Path.{refl}
use Rattle.std.proofs.Math.Bool.{true}
use Rattle.std.proofs.Common.{arith}
use borrow.Author.Tests.{lt-ltb, ltb-true}
use Rattle.laws.specs.Inner.Choice.{by_cond}
use Rattle.codec_wire.specs.Walk.{Par}
use Rattle.codec_read.specs.declared.Reading.{Reading}
use Rattle.rules_action.specs.declared.Action.{Action}
use Rattle.rules_action.specs.Types.{user_data, asp_active_ack, asp_inactive_ack, release_confirm, release_indication}
use Rattle.rules_action.specs.Words.{action, link_side, to_all}
use Rattle.state_tables.specs.Inner.Laws.{counts_within}
use Rattle.state_tables.specs.Sound.{is_sound}
use Rattle.state_tables.specs.declared.Gateway.{Gateway}
use Rattle.rules_server.specs.declared.Change.{Change}
use Rattle.rules_server.specs.declared.Change.TheVariants.{AspUp, AspDown, Deactivate, Activate, Recover}
use Rattle.rules_server.specs.Inner.Change.{fits}
use Rattle.rules_event.specs.Event.{EventKind, message, lost, recovery, link_up, link_down, link_message}
use Rattle.rules_event.specs.Effect.{Effect, send, set_link, change_in}
use Rattle.rules_event.specs.Asp.{up_effect, down_effect, lost_effect, active_effect, inactive_effect, part_effect, traffic_effect}
use Rattle.rules_event.specs.Link.{establish, release, data_effect, link_effect, class_six_on, class_six_effect, to_recipients, link_up_on, link_up_effect, link_down_on, link_down_effect}
use Rattle.rules_event.specs.Rules.{read_effect, message_effect, effect_of, in_plan}
use Rattle.rules_event.specs.Sent.{is_data}

-- a change that ends a recovery time
abbrev pub is_over : Change → Bool
is_over (AspUp p) = false
is_over (AspDown p) = false
is_over (Deactivate p) = false
is_over (Activate p) = false
is_over Recover = true

-- Q holds of each shape. No action of its own is Data to an ASP, and who becomes active is an ASP. A change
-- with replies is that of a message.
pub record Shapes (Q : Effect → Type 0) : Type 0 where
  pub say_none : Q (send [])
  pub say_one : (x : Action) → is_data x ≡ false → Q (send (x ∷ []))
  -- a second one under a condition
  pub say_two : (x y : Action) (u : Bool) → is_data x ≡ false → is_data y ≡ false → Q (send (x ∷ cond u (y ∷ []) []))
  pub turn_one : (l n : ℕ) (x : Action) → is_data x ≡ false → Q (set_link l n (x ∷ []))
  pub turn_all : (l n : ℕ) (who : List Bool) (k s v : ℕ) → eqb k user_data ≡ false → Q (set_link l n (to_all who k s v))
  pub change_one : (x : Action) (k : Change) (named : List Bool) → is_data x ≡ false → fits k ≡ true → is_over k ≡ false → Q (change_in (x ∷ []) k named)
  pub change_two : (x y : Action) (u : Bool) (k : Change) (named : List Bool) → is_data x ≡ false → is_data y ≡ false → fits k ≡ true → is_over k ≡ false → Q (change_in (x ∷ cond u (y ∷ []) []) k named)

-- ---- no Data to an ASP

plain : (q k s v : ℕ) → eqb k user_data ≡ false → is_data (action q k s v) ≡ false
unfolding is_data
plain q k s v e = rw e

to_link : (k s v : ℕ) → is_data (action link_side k s v) ≡ false
unfolding is_data
to_link k s v = go (eqb k user_data)
  where
    go : (u : Bool) → (u && false) ≡ false
    go true = refl
    go false = refl

-- a link goes down by either of two types
by_type : (u : Bool) → eqb (cond u release_confirm release_indication) user_data ≡ false
by_type true = refl
by_type false = refl

-- ---- the effects

module _ {Q : Effect → Type 0} (f : Shapes Q) where
  by_test : (u : Bool) (x y : Effect) → Q x → Q y → Q (cond u x y)
  by_test u x y a b = by_cond u Q (λ _. a) (λ _. b)

  -- each as `search` takes it
  none : Q (send [])
  none = f.say_none

  one : (x : Action) → is_data x ≡ false → Q (send (x ∷ []))
  one = f.say_one

  two : (x y : Action) (u : Bool) → is_data x ≡ false → is_data y ≡ false → Q (send (x ∷ cond u (y ∷ []) []))
  two = f.say_two

  ruleset shapes = (by_test, none, one, two, plain, to_link, refl)

  module _ (g : Gateway) (p : ℕ) (b : p < 16) where
    -- what is done where nothing is told beside the Ack, and where one action is
    traffic : (r : Reading) (ps : List Par) (act : List Action → List Bool → Effect) → ((named : List Bool) → Q (act [] named)) → ((x : Action) (named : List Bool) → is_data x ≡ false → Q (act (x ∷ []) named)) → Q (traffic_effect g p r ps act)
    unfolding traffic_effect part_effect
    traffic r ps act h k = search (shapes, h, k) depth 16

    on : fits (Activate p) ≡ true
    on = lt-ltb p 16 b

    active : (mode : ℕ) (named : List Bool) → Q (active_effect g p mode [] named)
    unfolding active_effect
    active mode named = search (shapes, f.change_one, on) depth 8

    active_part : (mode : ℕ) (x : Action) (named : List Bool) → is_data x ≡ false → Q (active_effect g p mode (x ∷ []) named)
    unfolding active_effect
    active_part mode x named e = let part = f.change_two (action p asp_active_ack 0 0) x true (Activate p) named (plain p asp_active_ack 0 0 refl) e on refl in search (shapes, part) depth 8

    inactive : (named : List Bool) → Q (inactive_effect p [] named)
    unfolding inactive_effect
    inactive named = search (shapes, f.change_one) depth 8

    inactive_part : (x : Action) (named : List Bool) → is_data x ≡ false → Q (inactive_effect p (x ∷ []) named)
    unfolding inactive_effect
    inactive_part x named e = f.change_two (action p asp_inactive_ack 0 0) x true (Deactivate p) named (plain p asp_inactive_ack 0 0 refl) e refl refl

    up : (r : Reading) → Q (up_effect g p r)
    unfolding up_effect
    up r = search (shapes, f.change_two) depth 8

    down : Q (down_effect g p)
    unfolding down_effect
    down = search (shapes, f.change_one) depth 8

    six : (r : Reading) → Q (class_six_effect g p r)
    unfolding class_six_effect class_six_on link_effect establish release data_effect
    six r = search (shapes, f.turn_one) depth 16

    read : (s : List ℕ) (r : Reading) → Q (read_effect g p s r)
    unfolding read_effect
    read s r = search (shapes, up, down, traffic, active, active_part, inactive, inactive_part, six) depth 16

    pub of_message : (s : List ℕ) → Q (message_effect g p s)
    unfolding message_effect
    of_message s = search (shapes, read) depth 8

  pub of_up : (g : Gateway) (l : ℕ) → Q (link_up_effect g l)
  unfolding link_up_effect link_up_on to_recipients
  of_up g l = search (shapes, f.turn_all) depth 8

  pub of_down : (g : Gateway) (l : ℕ) → Q (link_down_effect g l)
  unfolding link_down_effect link_down_on to_recipients
  of_down g l = search (shapes, f.turn_all, by_type) depth 8

  -- with the changes that have no replies, and what the link side sends
  pub effect_by : (g : Gateway) (k : EventKind) → is_sound g ≡ true → in_plan g k ≡ true
      → ((c : Change) (named : List Bool) → fits c ≡ true → Q (change_in [] c named))
      → ((s : List ℕ) → k ≡ link_message s → Q (effect_of g (link_message s)))
      → Q (effect_of g k)
  unfolding lost_effect
  effect_by g (message p s) c i h j = of_message g p (omega (arith, (counts_within g c).asps, ltb-true p g.asps i)) s
  effect_by g (lost p) c i h j = h (AspDown p) _ refl
  effect_by g (recovery a) c i h j = h Recover _ refl
  effect_by g (link_up l) c i h j = of_up g l
  effect_by g (link_down l) c i h j = of_down g l
  effect_by g (link_message s) c i h j = j s refl
