use mathlib.Core.Path.{◌≡◌, sym, ap, ◌∙◌}
use mathlib.Core.List.{List}
use mathlib.Core.Bool.{Bool, true, not}
use Prim.Native.Nat.{ℕ}
use lib.Dec.{eqb}
use Rattle.laws.specs.Below.{any_below}
use Rattle.laws.specs.Columns.{flag_at, number_at}
use borrow.Author.Tests.{eq-eqb}
use Rattle.rules_server.specs.Record.{some}
use Rattle.state_sets.specs.Inner.Members.{members}
use Rattle.state_ranges.specs.Inner.Names.{as_found}
use Rattle.event_decision.specs.Inner.Decides.{decisions}
use Rattle.rules_event.specs.Asp.{traffic_effect}
use Rattle.rules_event.specs.Records.{asp_at}
use Rattle.rules_event.specs.declared.Asp.{Asp}
use Rattle.state_tables.specs.declared.Gateway.{Gateway}
use Rattle.event_traffic.specs.Inner.Aims.{nothing_done, takes_whole, aims_on, aimed_fails, aimed_acts}
use Rattle.event_traffic.proofs.traffic_work.Goals as goal

-- the fields that the code asks are those of every state that has p so
up_on : (g : Gateway) (p : ℕ) {s : Asp} → asp_at g p ≡ s → s.up ≡ 1 → eqb (number_at g.up p) 1 ≡ true
up_on g p e h = eq-eqb _ 1 (ap (λ (x : Asp). x.up) e ∙ h)

whole-on : (ids found none : Bool) (g : Gateway) (p : ℕ) {s : Asp} → asp_at g p ≡ s → nothing_done ids found (takes_whole g p) none ≡ nothing_done ids found (eqb s.wholelists 1) none
whole-on ids found none g p e = ap (λ (x : Asp). nothing_done ids found (eqb x.wholelists 1) none) e

-- the test, in the rule's words
tested : {b m n : Bool} (ids found whole : Bool) (set : List Bool) → b ≡ nothing_done ids m whole n → m ≡ found → n ≡ not (any_below (flag_at set) 16) → b ≡ nothing_done ids found whole (not (some set))
unfolding some
tested ids found whole set e g f = rw (g, f) at e

pub returns-then-a-ne1 : goal.returns-then-a-ne1
unfolding traffic_effect
returns-then-a-ne1 c = record { on = λ g h. rw (ap (λ (x : Asp). x.up) h.asp_is) (search decisions depth 9) }

pub returns-then-does_nothing : goal.returns-then-does_nothing
returns-then-does_nothing c =
    record { on = λ g h. aimed_fails g _ _ _ _ _ (up_on g _ h.asp_is c.if-a-ne1.false) (aims_on g _ _ h c.aim-e.ensures) (whole-on _ _ _ g _ h.asp_is ∙ sym (tested _ _ _ (members c.aim-e.result.set) c.does_nothing.ensures (c.is_some-found.ensures ∙ sym (as_found _)) c.is_empty.ensures) ∙ c.if-does_nothing.true) c.fails.ensures }

pub returns : goal.returns
returns c =
    record { on = λ g h. aimed_acts g _ _ _ _ _ (up_on g _ h.asp_is c.if-a-ne1.false) (aims_on g _ _ h c.aim-e.ensures) (whole-on _ _ _ g _ h.asp_is ∙ sym (tested _ _ _ (members c.aim-e.result.set) c.does_nothing.ensures (c.is_some-found.ensures ∙ sym (as_found _)) c.is_empty.ensures) ∙ c.if-does_nothing.false) (c.act_in.ensures.on g h.mode_is) }
