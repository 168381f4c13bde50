-- Every event is a step (proofs/Step.antt).
-- Assumes nothing.
use mathlib.Core.Path.{◌≡◌, refl, sym, ◌∙◌}
use mathlib.Core.Bool.{Bool, true, false, cond, not, ◌&&◌}
use mathlib.Core.List.{List, [], ◌∷◌}
use Prim.Native.Nat.{ℕ, ◌+◌, ◌<◌}
use native.Mathlib.Omega.{arith}
use native.Mathlib.Decide.{ℕ_discrete}
use lib.Seq.{get_or-set_other}
use lib.Dec.{eqb, ltb}
use borrow.Author.Tests.{eq-eqb, ne_eqb, eqb-true, ltb-true}
use Rattle.laws.specs.Inner.Every.{and_right, same_truth, clash}
use Rattle.laws.specs.Inner.Choice.{by_cond}
use Rattle.laws.specs.Columns.{flag_at, tabulate}
use Rattle.laws.specs.Inner.Columns.{get_d_tabulate}
use Rattle.codec_read.specs.Meaning.{reading_of}
use Rattle.state_tables.specs.Sound.{is_sound}
use Rattle.state_tables.specs.Inner.Laws.{parts, counts_within, owner_within}
use Rattle.state_tables.specs.Inner.Sound.{Sized}
use Rattle.state_tables.specs.declared.Gateway.{Gateway}
use Rattle.rules_action.specs.declared.Action.{Action}
use Rattle.rules_action.specs.Types.{user_data}
use Rattle.rules_action.specs.Words.{link_side, action, to_each, to_all}
use Rattle.rules_server.specs.declared.Arrival.{Arrival}
use Rattle.rules_server.specs.declared.Change.{Change}
use Rattle.rules_server.specs.declared.Change.TheVariants.{AspDown, Recover}
use Rattle.rules_server.specs.Inner.Change.{fits}
use Rattle.rules_servers.specs.Changed.{with_unit}
use Rattle.rules_keeps.specs.Inner.Units.{joined_with, sizes}
use Rattle.rules_keeps.proofs.Next.{known_below, next_sound}
use Rattle.rules_event.specs.Event.{EventKind, message, lost, recovery, link_up, link_down, link_message, Event}
use Rattle.rules_event.specs.Identifiers.{is_known, link_of, owner_at}
use Rattle.rules_event.specs.Reach.{owns_id}
use Rattle.rules_event.specs.Effect.{Effect, send, set_link, change_in, actions_of, state_after}
use Rattle.rules_event.specs.Asp.{lost_effect}
use Rattle.rules_event.specs.Link.{is_pending, arrival, hold_effect, link_message_on, link_message_effect}
use Rattle.rules_event.specs.Rules.{effect_of, in_plan, refusal}
use Rattle.rules_event.specs.Entry.{actions, next}
use Rattle.rules_event.specs.Inner.Accepted.{accepted}
use Rattle.rules_event.specs.Inner.TakeIn.{planned}
use Rattle.rules_conserve.specs.Conserve.{is_arrival, is_recovery, holds}
use Rattle.rules_event.specs.Sent.{is_passed, is_data}
use Rattle.rules_event.specs.Inner.Shapes.{Shapes, is_over, of_message, of_up, of_down}
use Rattle.rules_conserve.proofs.Count.{sum_none, data_in, data_concat, and_yes, and_no, zero_either}
use Rattle.rules_conserve.proofs.Step.{Step, still, joins, changed}

module _ (g : Gateway) (a : ℕ) where
  -- ---- lists of actions without Data to an ASP

  none : data_in g a [] ≡ 0
  unfolding data_in
  none = refl

  other : (x : Action) (os : List Action) → is_data x ≡ false → data_in g a os ≡ 0 → data_in g a (x ∷ os) ≡ 0
  unfolding data_in is_data
  other x os e n = rw (go (eqb x.to link_side) (eqb x.classtype user_data) e) (omega (arith, n))
    where
      go : (u v : Bool) → (v && not u) ≡ false → (not u && (v && owns_id g x.subject a)) ≡ false
      go true v h = refl
      go false true h = clash true h refl
      go false false h = refl

  may : (t : Bool) (os : List Action) → data_in g a os ≡ 0 → data_in g a (cond t os []) ≡ 0
  may true os n = n
  may false os n = none

  others : (who : List Bool) (k s v : ℕ) → eqb k user_data ≡ false → data_in g a (to_all who k s v) ≡ 0
  unfolding to_all to_each is_data
  others who k s v e =
      data_concat g a (to_each who k s v) 16
      ∙ sum_none (λ q. data_in g a (to_each who k s v q)) 16 (λ q b. may (flag_at who q) (action q k s v ∷ []) (other (action q k s v) [] (rw e) none))

  -- ---- effects in which nothing comes in for AS a, and no recovery time ends

  module _ (ok : is_sound g ≡ true) (b : a < 16) where
    unfoldable Fair : Effect → Type 0
    Fair d = is_sound (state_after g d) ≡ true → Step g a false false (data_in g a (actions_of g d)) (state_after g d)

    said : (os : List Action) → data_in g a os ≡ 0 → Fair (send os)
    unfolding Fair
    said os n s = rw n (still g ok a b refl refl)

    turned : (l v : ℕ) (os : List Action) → data_in g a os ≡ 0 → Fair (set_link l v os)
    unfolding Fair is_pending
    turned l v os n s = rw n (still g ok a b refl refl)

    altered : (k : Change) (named : List Bool) (os : List Action) → fits k ≡ true → is_over k ≡ false → data_in g a os ≡ 0 → Fair (change_in os k named)
    unfolding Fair
    altered k named os f o n s = rw o at (changed g ok a b k named f os n s)

    second : (x y : Action) (u : Bool) → is_data x ≡ false → is_data y ≡ false → data_in g a (x ∷ cond u (y ∷ []) []) ≡ 0
    second x y u e d = other x _ e (may u (y ∷ []) (other y [] d none))

    fair : Shapes Fair
    fair =
        record {
          say_none = said [] none;
          say_one = λ x e. said _ (other x [] e none);
          say_two = λ x y u e d. said _ (second x y u e d);
          turn_one = λ l v x e. turned l v _ (other x [] e none);
          turn_all = λ l v who k s w e. turned l v _ (others who k s w e);
          change_one = λ x k named e f o. altered k named _ f o (other x [] e none);
          change_two = λ x y u k named e d f o. altered k named _ f o (second x y u e d);
        }

    -- ---- a message of the link side

    -- x is a unit of AS o, which has less than 8
    taken : (o : ℕ) (x : Arrival) → o < 16 → ltb (holds g o) 8 ≡ true → Dec (o ≡ a) → is_pending g o ≡ true → Step g a (eqb o a) false 0 (with_unit g o x)
    unfolding is_pending
    taken o x l c (yes z) w = rw (eq-eqb o a z) (joins g ok a b (rw z at w) (rw (← z) ((joined_with g.held o x s l (ltb-true (holds g o) 8 c)).more ∙ rw c)))
      where
        s : Sized g.held
        s = sizes g.held g.waiting g.iid g.owner g.links (parts g ok).in_units
    taken o x l c (no z) w = rw (ne_eqb o a z) (still g ok a b refl (get_or-set_other g.held.count o a (holds g o + 1) 0 (λ y. z (sym y))))

    -- a ninth
    full : (o : ℕ) → ltb (holds g o) 8 ≡ false → Dec (o ≡ a) → is_pending g o ≡ true → Step g a (eqb o a) false 0 g
    full o c (yes z) w = rw (eq-eqb o a z) (joins g ok a b (rw z at w) (let e : ltb (holds g a) 8 ≡ false = rw z at c in rw e (omega arith)))
    full o c (no z) w = rw (ne_eqb o a z) (still g ok a b refl refl)

    -- Data for an AS that is pending joins its units, or is the ninth; all else leaves them
    linked : (s : List ℕ) → in_plan g (link_message s) ≡ true → Step g a (is_arrival g (link_message s) a) false 0 (state_after g (link_message_effect g s (reading_of s)))
    unfolding link_message_effect link_message_on hold_effect owns_id
    linked s i =
        rw (k, own (eqb o a) refl)
        (by_cond (eqb (reading_of s).msgtype 1 && is_pending g o) (λ (d : Effect). Step g a ((eqb (reading_of s).msgtype 1 && is_pending g o) && eqb o a) false 0 (state_after g d))
        (λ t.
        let w = and_right (eqb (reading_of s).msgtype 1) _ t in
        rw t
        (by_cond (ltb (holds g o) 8) (λ (d : Effect). Step g a (eqb o a) false 0 (state_after g d))
        (λ c. taken o (arrival s (reading_of s)) (omega (arith, (counts_within g ok).ases, owner_within g ok (link_of g (reading_of s).id) (known_below g ok (reading_of s).id k))) c (ℕ_discrete o a) w)
        (λ c. full o c (ℕ_discrete o a) w)))
        (λ t. rw t (still g ok a b refl refl)))
      where
        k : is_known g (reading_of s).id ≡ true
        k = (planned g s i).known

        o : ℕ
        o = owner_at g (link_of g (reading_of s).id)

        own : (t : Bool) → eqb o a ≡ t → (eqb (reading_of s).msgtype 1 && (t && is_pending g a)) ≡ ((eqb (reading_of s).msgtype 1 && is_pending g o) && t)
        own true e = rw (eqb-true o a e, and_yes)
        own false e = rw (and_no (eqb (reading_of s).msgtype 1), and_no (eqb (reading_of s).msgtype 1 && is_pending g o))

    -- ---- every event

    -- who is named as a recovery time is over
    over : (c : ℕ) → eqb c a ≡ flag_at (tabulate 16 (λ d. eqb d c)) a
    over c = same_truth (eqb c a) (eqb a c) (λ e. eq-eqb a c (sym (eqb-true c a e))) (λ e. eq-eqb c a (sym (eqb-true a c e))) ∙ sym (get_d_tabulate 16 (λ d. eqb d c) a false b)

    of_kind : (k : EventKind) → in_plan g k ≡ true → is_sound (state_after g (effect_of g k)) ≡ true
        → Step g a (is_arrival g k a) (is_recovery k a) (cond (is_passed k) 0 (data_in g a (actions_of g (effect_of g k)))) (state_after g (effect_of g k))
    unfolding Fair lost_effect
    of_kind (message p s) i = of_message fair g p (omega (arith, (counts_within g ok).asps, ltb-true p g.asps i)) s
    of_kind (lost p) i = changed g ok a b (AspDown p) _ refl [] none
    of_kind (recovery c) i = rw (over c) (λ s. changed g ok a b Recover (tabulate 16 (λ d. eqb d c)) refl [] none s)
    of_kind (link_up l) i = of_up fair g l
    of_kind (link_down l) i = of_down fair g l
    of_kind (link_message s) i = λ _. linked s i

    pub event_step : (e : Event)
        → Step g a (eqb (refusal g e) 0 && is_arrival g e.kind a) (eqb (refusal g e) 0 && is_recovery e.kind a) (cond (is_passed e.kind) 0 (data_in g a (actions g e))) (next g e)
    unfolding actions next
    event_step e = go (eqb (refusal g e) 0) refl (next_sound g ok e)
      where
        go : (t : Bool) → eqb (refusal g e) 0 ≡ t → is_sound (cond t (state_after g (effect_of g e.kind)) g) ≡ true
            → Step g a (t && is_arrival g e.kind a) (t && is_recovery e.kind a) (cond (is_passed e.kind) 0 (data_in g a (cond t (actions_of g (effect_of g e.kind)) []))) (cond t (state_after g (effect_of g e.kind)) g)
        go true h s = of_kind e.kind (accepted (is_sound g) (in_plan g e.kind) e.lent (eqb-true (refusal g e) 0 h)).known_yes s
        go false h s = rw (none, ← zero_either (is_passed e.kind)) (still g ok a b refl refl)
