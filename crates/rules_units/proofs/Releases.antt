-- The theorem of specs/Releases.antt.
-- Assumes nothing.
use mathlib.Core.Path.{◌≡◌, refl, ap, subst}
use mathlib.Core.Bool.{Bool, true, false}
use mathlib.Core.List.{List, ◌++◌}
use Prim.Native.Nat.{ℕ, ◌<◌}
use native.Mathlib.Nat.{not-suc-le-zero}
use lib.Dec.{ltb}
use lib.ListN.{length, get_or}
use borrow.Author.Tests.{ltb-true}
use Rattle.laws.specs.Inner.Every.{clash}
use Rattle.state_tables.specs.Sound.{is_sound}
use Rattle.state_tables.specs.declared.Gateway.{Gateway}
use Rattle.rules_action.specs.declared.Action.{Action}
use Rattle.rules_server.specs.declared.Change.{Change}
use Rattle.rules_server.specs.declared.Change.TheVariants.{AspUp, AspDown, Deactivate, Activate, Recover}
use Rattle.rules_server.specs.Inner.Change.{fits}
use Rattle.rules_server.specs.Units.{let_out}
use Rattle.rules_servers.specs.Changed.{with_change, all_actions}
use Rattle.rules_event.specs.Event.{EventKind}
use Rattle.rules_event.specs.Effect.{Effect, send, set_link, change_in, take_in, actions_of, state_after}
use Rattle.rules_event.specs.Rules.{effect_of, in_plan}
use Rattle.rules_event.specs.Sent.{actions_on, action_at, is_data, is_passed, unit_for}
use Rattle.rules_event.specs.Inner.Shapes.{effect_by}
use Rattle.rules_units.specs.Releases.{EveryUnit}
use Rattle.rules_units.specs.Inner.Counted.{gone, data_before}
use Rattle.rules_units.proofs.Tags.{done, tagged_at, untagged, tagged_append}
use Rattle.rules_units.proofs.Units.{UnitOf, Quiet, quiet_change, units_gone}
use Rattle.rules_units.proofs.Effects.{Own, own}

-- the Data at a place of os, where the event leads to the state c
abbrev Sent : Gateway → Gateway → List Action → Type 0
Sent g c os = (n : ℕ) → n < length os → is_data (action_at os n) ≡ true → UnitOf g (action_at os n) (get_or (gone g c) (data_before os n) 0)

quiet_sent : (g c : Gateway) (os : List Action) → Quiet g os → Sent g c os
quiet_sent g c os h n b d = absurd (untagged h n b d)

change_sent : (g : Gateway) (os : List Action) (k : Change) (named : List Bool) → Quiet g os → fits k ≡ true → Sent g (with_change g k named) (os ++ all_actions g k named)
unfolding let_out
change_sent g os (AspUp p) named h f = quiet_sent g _ _ (tagged_append h (quiet_change g (AspUp p) named (λ n id a. refl)))
change_sent g os (AspDown p) named h f = quiet_sent g _ _ (tagged_append h (quiet_change g (AspDown p) named (λ n id a. refl)))
change_sent g os (Deactivate p) named h f = quiet_sent g _ _ (tagged_append h (quiet_change g (Deactivate p) named (λ n id a. refl)))
change_sent g os (Activate p) named h f = tagged_at (tagged_append h (units_gone g p named (ltb-true p 16 f)))
change_sent g os Recover named h f = quiet_sent g _ _ (tagged_append h (quiet_change g Recover named (λ n id a. refl)))

sent : (g : Gateway) (d : Effect) → Own g d → Sent g (state_after g d) (actions_of g d)
unfolding Own
sent g (send os) h = quiet_sent g g os h
sent g (set_link l v os) h = quiet_sent g _ os h
sent g (change_in os k named) h = change_sent g os k named h.0 h.1
sent g (take_in a x) h = λ n b d. absurd (not-suc-le-zero b)

-- an event of its own: what the link side sends is passed on
event_own : (g : Gateway) (k : EventKind) → is_sound g ≡ true → in_plan g k ≡ true → is_passed k ≡ false → Own g (effect_of g k)
unfolding Own
event_own g k ok i u = effect_by (own g) g k ok i (λ c named f. (done, f)) (λ s e. clash (is_passed k) u (ap is_passed e))

module _ (g : Gateway) (k : EventKind) (n : ℕ) (ok : is_sound g ≡ true) (i : in_plan g k ≡ true) (u : is_passed k ≡ false) (b : ltb n (length (actions_on g k)) ≡ true) (d : is_data (action_at (actions_on g k) n) ≡ true) where
  counted_unit : UnitOf g (action_at (actions_on g k) n) (get_or (gone g (state_after g (effect_of g k))) (data_before (actions_on g k) n) 0)
  counted_unit = sent g (effect_of g k) (event_own g k ok i u) n (ltb-true n (length (actions_on g k)) b) d

  -- the unit that is found by counting is the action's
  pub counted : get_or (gone g (state_after g (effect_of g k))) (data_before (actions_on g k) n) 0 ≡ unit_for g k n
  counted = counted_unit.same

  unit_is : UnitOf g (action_at (actions_on g k) n) (unit_for g k n)
  unit_is = subst (UnitOf g (action_at (actions_on g k) n)) counted counted_unit

pub every_unit : EveryUnit
every_unit g k n ok i u b d =
    let x = unit_is g k n ok i u b d in
    record { place = x.place; held = x.held; link = x.link }
