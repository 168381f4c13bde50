-- An event that has actions leaves the hold: so the bytes may be written behind it.
-- Assumes nothing.
use Rattle.std.specs.Prelude.{ℕ, ◌<◌, ◌≡◌, refl, Bool, true, false, cond, List, [], eqb, length}
use Rattle.std.proofs.Common.{◌∙◌, arith}
use Rattle.state_tables.specs.declared.Gateway.{Gateway}
use Rattle.rules_event.specs.Event.{EventKind, message_of}
use Rattle.rules_event.specs.Effect.{Effect, send, set_link, change_in, take_in, actions_of, hold_after}
use Rattle.rules_event.specs.Rules.{effect_of, refusal}
use Rattle.rules_event.specs.Entry.{Runs, actions, next_hold}
use Rattle.rules_event.specs.declared.Outcome.{Outcome}
use Rattle.event_asked.specs.Happened.{event_of}

stays : (g : Gateway) (s : List ℕ) (d : Effect) (h : List ℕ) → 0 < length (actions_of g d) → hold_after g s d h ≡ h
stays g s (send os) h l = refl
stays g s (set_link n v os) h l = refl
stays g s (change_in os k named) h l = refl
stays g s (take_in a x) h l = let n : ⊥ = omega (arith, l) in absurd n

either : (b : Bool) {x h : List ℕ} → x ≡ h → cond b x h ≡ h
either true e = e
either false e = refl

pub hold_same : (g : Gateway) (k : EventKind) {room : ℕ} {lent left part part' : List ℕ} {r : Outcome} → Runs g (event_of k room (length part)) lent left part part' r → 0 < r.count → part' ≡ part
unfolding actions next_hold
hold_same g k {room} {lent} {left} {part} m l =
    m.bytes ∙ either (eqb (length part) (length part)) (go (eqb (refusal g (event_of k room (length part))) 0) (omega (arith, l, (m.meets part refl).count)))
  where
    go : (b : Bool) → 0 < length (cond b (actions_of g (effect_of g k)) []) → cond b (hold_after g (message_of k) (effect_of g k) part) part ≡ part
    go true l = stays g (message_of k) (effect_of g k) part l
    go false l = refl
