-- Every event leaves a sound state sound.
-- Assumes nothing.
use mathlib.Core.Path.{◌≡◌, sym, ◌∙◌}
use mathlib.Core.Bool.{Bool, true, false, cond, not, ◌&&◌, ◌||◌}
use mathlib.Core.List.{List, []}
use Prim.Native.Nat.{ℕ, ◌<◌}
use native.Mathlib.Omega.{arith}
use lib.Dec.{eqb}
use borrow.Author.Tests.{eqb-true, ltb-true, not-false}
use Rattle.laws.specs.Inner.Every.{and_left, and_right}
use Rattle.laws.specs.Inner.Choice.{by_cond}
use Rattle.laws.specs.Columns.{flag_at, number_at, is_set}
use Rattle.laws.specs.Inner.Columns.{get_d_tabulate}
use Rattle.codec_wire.specs.Walk.{Par, walk}
use Rattle.codec_read.specs.declared.Reading.{Reading}
use Rattle.rules_action.specs.declared.Action.{Action}
use Rattle.state_tables.specs.Sound.{pair, is_sound}
use Rattle.state_tables.specs.declared.Gateway.{Gateway}
use Rattle.state_lookup.specs.Links.{index_of, known}
use Rattle.rules_server.specs.declared.Arrival.{Arrival}
use Rattle.rules_server.specs.declared.Change.TheVariants.{AspUp, AspDown, Activate, Recover}
use Rattle.rules_server.specs.Record.{some}
use Rattle.rules_servers.specs.Inner.Records.{column_at}
use Rattle.rules_event.specs.Event.{EventKind, message, lost, recovery, link_up, link_down, link_message, Event}
use Rattle.state_ranges.specs.Named.{is_owned_by}
use Rattle.rules_event.specs.Identifiers.{first_refused, names_some, owns_good, owners_good, is_known, link_of, owner_at, is_member}
use Rattle.rules_event.specs.Effect.{Effect, send, set_link, change_in, take_in, state_after}
use Rattle.rules_event.specs.Asp.{ases_of, up_effect, down_effect, lost_effect, active_effect, inactive_effect, part_effect, traffic_effect}
use Rattle.rules_event.specs.Link.{starting, in_service, idle, establish, release, data_effect, can_have, link_effect, class_six_on, class_six_effect, link_up_on, link_up_effect, link_down_on, link_down_effect}
use Rattle.rules_event.specs.Records.{link_at}
use Rattle.rules_event.specs.declared.Link.{Link}
use Rattle.rules_event.specs.Rules.{read_effect, message_effect, effect_of, in_plan, refusal}
use Rattle.rules_event.specs.Entry.{next}
use Rattle.rules_event.specs.Inner.Accepted.{accepted}
use Rattle.rules_event.specs.Inner.TakeIn.{Takes, link_cases, taken_in}
use Rattle.rules_keeps.specs.Inner.Keeps.{keeps_link, keeps_unit}
use Rattle.rules_keeps.proofs.Keeps.{keeps_up, keeps_down, keeps_deactivate, keeps_activate, keeps_recover}

module _ (g : Gateway) (ok : is_sound g ≡ true) where
  unfoldable Keeps : Effect → Type 0
  Keeps d = is_sound (state_after g d) ≡ true

  either : (t : Bool) (x y : Effect) → Keeps x → Keeps y → Keeps (cond t x y)
  either t x y h k = by_cond t Keeps (λ _. h) (λ _. k)

  said : (os : List Action) → Keeps (send os)
  unfolding Keeps
  said os = ok

  turned : (l v : ℕ) (os : List Action) → l < g.links → v < 4 → Keeps (set_link l v os)
  unfolding Keeps
  turned l v os b c = keeps_link g l v ok b c

  fell : (p : ℕ) (os : List Action) → Keeps (change_in os (AspDown p) (ases_of g p))
  unfolding Keeps
  fell p os = keeps_down g ok p

  recovered : (os : List Action) (named : List Bool) → Keeps (change_in os Recover named)
  unfolding Keeps
  recovered os named = keeps_recover g ok named

  pub known_below : (x : ℕ) → is_known g x ≡ true → link_of g x < g.links
  unfolding is_known link_of known
  known_below x h = ltb-true (index_of g.iid g.links x) g.links h

  -- ---- a message of ASP p

  module _ (p : ℕ) (b : p < g.asps) where
    ups : (os : List Action) → Keeps (change_in os (AspUp p) (ases_of g p))
    unfolding Keeps
    ups os = keeps_up g ok p b

    up : (r : Reading) → Keeps (up_effect g p r)
    unfolding up_effect
    up r = search (either, said, ups) depth 6

    acts : (os : List Action) (named : List Bool) → is_set g.up p ≡ true → ((a : ℕ) → a < 16 → flag_at named a ≡ true → is_member g a p ≡ true) → Keeps (change_in os (Activate p) named)
    unfolding Keeps
    acts os named u m = keeps_activate g ok p named b u m

    active : (mode : ℕ) (told : List Action) (named : List Bool) → is_set g.up p ≡ true → ((a : ℕ) → a < 16 → flag_at named a ≡ true → is_member g a p ≡ true) → Keeps (active_effect g p mode told named)
    unfolding active_effect
    active mode told named u m = search (either, said, acts) depth 6

    inactive : (told : List Action) (named : List Bool) → Keeps (inactive_effect p told named)
    unfolding inactive_effect Keeps
    inactive told named = keeps_deactivate g ok p named

    -- p is in every AS that owns a good identifier
    good_mine : (ps : List Par) (a : ℕ) → a < 16 → flag_at (owners_good g p ps) a ≡ true → is_member g a p ≡ true
    unfolding owners_good owns_good
    good_mine ps a c e = and_right (names_some (is_owned_by g.iid g.owner g.links a) ps) (is_member g a p) (sym (get_d_tabulate 16 (owns_good g p ps) a false c) ∙ e)

    -- Active and Inactive: in the ASes that own good identifiers, or in all of p
    traffic : (r : Reading) (ps : List Par) (act : List Action → List Bool → Effect)
        → (is_set g.up p ≡ true → (told : List Action) (named : List Bool) → ((a : ℕ) → a < 16 → flag_at named a ≡ true → is_member g a p ≡ true) → Keeps (act told named))
        → Keeps (traffic_effect g p r ps act)
    unfolding traffic_effect part_effect
    traffic r ps act h =
        by_cond (not (is_set g.up p)) Keeps (λ _. said _)
        (λ u. by_cond (eqb r.ids 1) Keeps
        (λ _. by_cond (first_refused g p ps).found Keeps
        (λ _. by_cond (is_set g.wholelists p || not (some (owners_good g p ps))) Keeps (λ _. said _) (λ _. h (not-false (is_set g.up p) u) _ (owners_good g p ps) (good_mine ps)))
        (λ _. h (not-false (is_set g.up p) u) [] (owners_good g p ps) (good_mine ps)))
        (λ _. by_cond (some (ases_of g p)) Keeps
        (λ _. h (not-false (is_set g.up p) u) [] (ases_of g p) (λ a c e. sym (column_at g.member p a c) ∙ e))
        (λ _. said _)))

    link : (x l : ℕ) (k : Link) (r : Reading) → l < g.links → Keeps (link_effect p x l k r)
    unfolding link_effect establish release data_effect
    link x l k r c = search (either, said, starts, stops) depth 16
      where
        starts : (os : List Action) → Keeps (set_link l 1 os)
        starts os = turned l 1 os c (omega arith)

        stops : (os : List Action) → Keeps (set_link l 3 os)
        stops os = turned l 3 os c (omega arith)

    six : (r : Reading) → Keeps (class_six_effect g p r)
    unfolding class_six_effect class_six_on
    six r =
        by_cond (not (is_set g.up p)) Keeps (λ _. said _)
        (λ _. by_cond (not (is_known g r.id && is_member g (owner_at g (link_of g r.id)) p)) Keeps (λ _. said _)
        (λ k. by_cond (not (is_set g.active (pair (owner_at g (link_of g r.id)) p))) Keeps (λ _. said _)
        (λ _. by_cond (not (can_have (link_at g (link_of g r.id)) r.sequence)) Keeps (λ _. said _)
        (λ _. link r.id (link_of g r.id) _ r (known_below r.id (and_left (is_known g r.id) _ (not-false (is_known g r.id && is_member g (owner_at g (link_of g r.id)) p) k)))))))

    down : Keeps (down_effect g p)
    unfolding down_effect
    down = fell p _

    read : (s : List ℕ) (r : Reading) → Keeps (read_effect g p s r)
    unfolding read_effect
    read s r = search (either, said, up, down, six, on, off) depth 16
      where
        on : Keeps (traffic_effect g p r (walk s 8).pars (active_effect g p r.mode))
        on = traffic r (walk s 8).pars (active_effect g p r.mode) (λ u told named m. active r.mode told named u m)

        off : Keeps (traffic_effect g p r (walk s 8).pars (inactive_effect p))
        off = traffic r (walk s 8).pars (inactive_effect p) (λ u told named m. inactive told named)

    of_asp : (s : List ℕ) → Keeps (message_effect g p s)
    unfolding message_effect
    of_asp s = search (either, said, read) depth 6

  -- ---- a message of the link side

  taken : (s : List ℕ) → in_plan g (link_message s) ≡ true → (a : ℕ) (x : Arrival) → Takes g s a x → Keeps (take_in a x)
  unfolding Keeps
  taken s i a x h =
      let t = taken_in g s a x ok i h in
      keeps_unit g a x ok t.as_16 t.waits h.room
      (record { tagged = t.tagged; least = t.least; most = t.longest; known = t.of_link; marks = t.marks })

  -- ---- every kind

  kept : (k : EventKind) → in_plan g k ≡ true → Keeps (effect_of g k)
  unfolding lost_effect link_up_effect link_up_on link_down_effect link_down_on
  kept (message p s) i = of_asp p (ltb-true p g.asps i) s
  kept (lost p) i = fell p []
  kept (recovery a) i = recovered [] _
  kept (link_up l) i = by_cond (eqb (number_at g.state l) starting) Keeps (λ _. turned l in_service _ (ltb-true l g.links i) (omega arith)) (λ _. said _)
  kept (link_down l) i = by_cond (eqb (number_at g.state l) idle) Keeps (λ _. said _) (λ _. turned l idle _ (ltb-true l g.links i) (omega arith))
  kept (link_message s) i = link_cases g s Keeps said (taken s i)

  pub next_sound : (e : Event) → is_sound (next g e) ≡ true
  unfolding next Keeps
  next_sound e =
      by_cond (eqb (refusal g e) 0) (λ (x : Gateway). is_sound x ≡ true)
      (λ t. kept e.kind (accepted (is_sound g) (in_plan g e.kind) e.lent (eqb-true (refusal g e) 0 t)).known_yes)
      (λ _. ok)
