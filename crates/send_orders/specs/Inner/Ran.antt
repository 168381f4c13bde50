-- The event that was run, and what the entries promise in each case.
-- Assumes nothing.
use Rattle.std.specs.Prelude.{ℕ, ◌*◌, ◌<◌, ◌≤◌, ◌≡◌, true, not, List, ◌++◌, eqb, get_or}
use Rattle.std.proofs.Math.Path.{refl, ap}
use Rattle.std.proofs.Common.{sym, ◌∙◌, arith}
use Rattle.std.proofs.Math.ListN.{length, drop}
use borrow.Author.Tests.{eq-eqb, lt-ltb, not-true}
use Rattle.laws.specs.Inner.Every.{and_left, and_right}
use Rattle.laws.specs.Columns.{number_at}
use Rattle.state_tables.specs.Sound.{is_sound}
use Rattle.state_tables.specs.declared.Gateway.{Gateway}
use Rattle.rules_action.specs.Words.{words_of}
use Rattle.rules_event.specs.Event.{EventKind, lending}
use Rattle.rules_event.specs.Rules.{in_plan, effect_of, refusal, refusal_of, least_room}
use Rattle.rules_event.specs.Effect.{state_after}
use Rattle.rules_event.specs.Entry.{Runs, actions, next}
use Rattle.rules_event.specs.Inner.Accepted.{accepted}
use Rattle.rules_event.specs.declared.Outcome.{Outcome}
use Rattle.event_asked.specs.Happened.{happened, event_of}
use Rattle.rules_action.specs.declared.Action.{Action}
use Rattle.send_message.specs.Inner.Stands.{Lends}
use Rattle.send_message.specs.Inner.Kinds.{kinds}
use Rattle.rules_event.specs.Sent.{actions_on, action_at, is_data, is_passed, unit_for}
use Rattle.rules_units.specs.Inner.Counted.{gone, data_before}
use Rattle.rules_units.proofs.Releases.{counted}
use Rattle.send_message.specs.Send.{part_at}
use Rattle.send_unit.specs.Inner.Words.{action_in, said, action_in_lem, data_in, data_in_lem}
use Rattle.send_unit.specs.Inner.Units.{gone_list, gone_at_lem}
use Rattle.send_unit.specs.Inner.Made.{held_of, held_said, Long}
use Rattle.send_orders.specs.Inner.Part.{part_from, said_part}
use Rattle.send_orders.specs.Inner.There.{unit_long, part_there}

-- an event that was run with a list of 1,544 words and was not refused: how many actions, the words, and the
-- state after it
pub record Ran (g : Gateway) (h : List ℕ) (k : EventKind) (count : ℕ) (ws : List ℕ) (after : Gateway) : Type 0 where
  pub sound : is_sound g ≡ true
  pub planned : in_plan g k ≡ true
  pub whole : length h ≡ 34944
  pub count_is : count ≡ length (actions_on g k)
  pub few : count ≤ 386
  pub rest : List ℕ
  pub words_are : ws ≡ words_of (actions_on g k) ++ rest
  pub state : after ≡ state_after g (effect_of g k)

module _ (g : Gateway) (h : List ℕ) (k : EventKind) {room : ℕ} {lent left part part' : List ℕ} {r : Outcome} (long : room ≡ least_room) (m : Runs g (event_of k room (length h)) lent left part part' r) where
  pub no_101 : r.refusal ≡ refusal_of (is_sound g) (in_plan g k) (lending least_room (length h))
  no_101 = (m.meets h refl).refused ∙ ap (λ (n : ℕ). refusal_of (is_sound g) (in_plan g k) (lending n (length h))) long

  pub ran : r.refusal ≡ 0 → Ran g h k r.count left r.gateway
  unfolding actions next
  ran z =
      let q = m.meets h refl in
      let a = accepted (is_sound g) (in_plan g k) (lending room (length h)) (sym q.refused ∙ z) in
      let y = eq-eqb (refusal g (event_of k room (length h))) 0 (sym q.refused ∙ z) in
      let e : actions g (event_of k room (length h)) ≡ actions_on g k = rw y in
      record {
        sound = a.sound_yes;
        planned = a.known_yes;
        whole = a.whole;
        count_is = q.count ∙ ap length e;
        few = q.few;
        rest = drop (4 * length (actions g (event_of k room (length h)))) lent;
        words_are = q.words ∙ ap (λ x. words_of x ++ drop (4 * length (actions g (event_of k room (length h)))) lent) e;
        state = q.state ∙ rw y;
      }

module _ {g : Gateway} {h : List ℕ} {k : EventKind} {count : ℕ} {ws : List ℕ} {after : Gateway} (t : Ran g h k count ws after) (j : ℕ) (there : j < count) where
  pub below : j < length (actions_on g k)
  below = omega (arith, there, t.count_is)

  pub action_is : action_in ws j ≡ said (action_at (actions_on g k) j)
  action_is = ap (λ (x : List ℕ). action_in x j) t.words_are ∙ action_in_lem (actions_on g k) t.rest j below

  pub data_is : data_in ws j ≡ data_before (actions_on g k) j
  data_is = ap (λ (x : List ℕ). data_in x j) t.words_are ∙ data_in_lem (actions_on g k) t.rest j (omega (arith, below))

  -- of the list of units gone, the one at the number of Data before the action
  pub unit_is : held_of (is_passed k) (action_at (actions_on g k) j) ≡ true → number_at (gone_list g.held.count after.held.count) (data_in ws j) ≡ unit_for g k j
  unit_is e =
      let o = action_at (actions_on g k) j in
      gone_at_lem g after (data_in ws j) ∙ (λ y. get_or (gone g (t.state y)) (data_is y) 0)
      ∙ counted g k j t.sound t.planned (not-true _ (and_right (is_data o) (not (is_passed k)) e)) (lt-ltb j (length (actions_on g k)) below) (and_left (is_data o) (not (is_passed k)) e)

-- what the code writes for the action at a place is what the rules say: it has the number of links, the
-- message lent for it, whether it is passed on, and the unit that is sent, if one is
pub part_called : (g : Gateway) (h : List ℕ) (kind i : ℕ) (s : List ℕ) {count : ℕ} {ws : List ℕ} {after : Gateway} → Ran g h (happened kind i s) count ws after → (j : ℕ) → j < count → (x : List ℕ)
    → {m : ℕ} {o : Action} {u : ℕ} → m ≡ g.links → Lends g (happened kind i s) x (action_at (actions_on g (happened kind i s)) j) → o ≡ action_in ws j
    → (held_of (eqb kind 5) o ≡ true → u ≡ number_at (gone_list g.held.count after.held.count) (data_in ws j)) → part_from g h m x (eqb kind 5) u o ≡ part_at g h (happened kind i s) j
part_called g h kind i s t j there x {m} {o} {u} em lends eo eu =
    let k = happened kind i s in
    let b = kinds kind i s in
    let e = eo ∙ action_is t j there in
    (λ y. part_from g h (em y) x (sym b.1 y) u (e y))
    ∙ said_part g h g.links x (is_passed k) u (action_at (actions_on g k) j)
    ∙ part_there g h k j t.sound t.planned (below t j there) x u lends (λ z. eu ((λ y. held_of (sym b.1 y) (e y)) ∙ held_said (is_passed k) (action_at (actions_on g k) j) ∙ z) ∙ unit_is t j there z)

-- that unit has the length of a unit
pub long_called : (g : Gateway) (h : List ℕ) (kind i : ℕ) (s : List ℕ) {count : ℕ} {ws : List ℕ} {after : Gateway} → Ran g h (happened kind i s) count ws after → (j : ℕ) → j < count
    → {o : Action} {u : ℕ} → o ≡ action_in ws j → (held_of (eqb kind 5) o ≡ true → u ≡ number_at (gone_list g.held.count after.held.count) (data_in ws j)) → held_of (eqb kind 5) o ≡ true → Long (number_at g.held.length u)
long_called g h kind i s t j there eo eu e =
    let k = happened kind i s in
    let z : held_of (is_passed k) (action_at (actions_on g k) j) ≡ true = sym (held_said (is_passed k) (action_at (actions_on g k) j)) ∙ (λ y. held_of ((kinds kind i s).1 y) (sym (eo ∙ action_is t j there) y)) ∙ e in
    let q = eu e ∙ unit_is t j there z in
    rw q (unit_long g h k j t.sound t.planned (below t j there) z)
