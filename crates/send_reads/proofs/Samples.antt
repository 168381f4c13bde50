-- The Ack that message M gets (Rules 11.2, 11.4), as bytes: what goes out, and that the law speaks of it.
-- Assumes nothing.
use mathlib.Core.Path.{◌≡◌, refl, ap, ◌∙◌, subst}
use mathlib.Core.Bool.{Bool, true, false, cond}
use mathlib.Core.List.{List, [], ◌∷◌}
use Prim.Native.Nat.{ℕ}
use native.Mathlib.Omega.{arith}
use lib.Dec.{eqb}
use lib.ListN.{length}
use borrow.Author.Tests.{eqb-true}
use Rattle.codec_wire.specs.Number.{be}
use Rattle.codec_wire.specs.Walk.{step_at, walk_f, walk}
use Rattle.codec_read.specs.Samples.{active}
use Rattle.codec_put.specs.Bytes.{par_bytes, pars_bytes}
use Rattle.codec_write.specs.Encode.{size_of, encode}
use Rattle.codec_select.specs.Only.{only}
use Rattle.rules_action.specs.declared.Action.{Action}
use Rattle.rules_action.specs.Words.{action}
use Rattle.rules_event.specs.Event.{message}
use Rattle.rules_event.specs.Effect.{hold_bytes}
use Rattle.rules_event.specs.Identifiers.{first_refused}
use Rattle.rules_event.specs.Rules.{in_plan, refusal}
use Rattle.rules_event.specs.Sent.{actions_on, action_at, is_sent, unit_for}
use Rattle.rules_event.specs.Inner.Accepted.{accepted}
use Rattle.rules_event.specs.Entry.{actions}
use Rattle.rules_event.specs.Event.{lending}
use Rattle.rules_event.specs.Rules.{least_room}
use Rattle.rules_event.specs.Samples.{sample_event, m, g₁}
use Rattle.rules_event.proofs.Samples.{samples}
use Rattle.send_message.specs.Message.{traffic_ack_pars, reply_pars, sent_bytes}
use Rattle.send_message.specs.Send.{message_at}
use Rattle.state_tables.specs.Sound.{is_sound}
use Rattle.send_reads.specs.Readable.{Reads}
use Rattle.send_reads.proofs.Begins.{is_part, ack_tells}
use Rattle.send_reads.proofs.Readable.{every_reads}
use Rattle.send_message.specs.Inner.Stands.{is_traffic_ack}

-- its actions are an Active Ack and a Notify, so it is not refused
record Acts : Type 0 where
  accepted_is : eqb (refusal g₁ (sample_event (message 0 m))) 0 ≡ true
  actions_are : actions_on g₁ (message 0 m) ≡ action 0 1027 0 0 ∷ action 0 1 0 65539 ∷ []

acts : Acts
unfolding actions
acts = go (eqb (refusal g₁ (sample_event (message 0 m))) 0) refl samples.takes_over
  where
    go : (u : Bool) → eqb (refusal g₁ (sample_event (message 0 m))) 0 ≡ u → cond u (actions_on g₁ (message 0 m)) [] ≡ action 0 1027 0 0 ∷ action 0 1 0 65539 ∷ [] → Acts
    go true h e = record { accepted_is = h; actions_are = e }
    go false h e = let z : ◌≡◌ {A = ℕ} 0 1 = cc in absurd (omega arith)

-- none of its identifiers is refused
none_refused : (first_refused g₁ 0 (walk m 8).pars).found ≡ false
unfolding is_part action_at
none_refused =
    ack_tells g₁ 0 m 0 (rw acts.actions_are (omega arith)) (ap (λ (l : List Action). is_traffic_ack (action_at l 0).classtype) acts.actions_are) ∙ ap is_part acts.actions_are

-- the Ack repeats mode and range, whatever is held
ack : (h : List ℕ) → message_at g₁ h (message 0 m) 0
    ≡ 1 ∷ 0 ∷ 4 ∷ 3 ∷ 0 ∷ 0 ∷ 0 ∷ 0x1c ∷ 0 ∷ 0xb ∷ 0 ∷ 8 ∷ 0 ∷ 0 ∷ 0 ∷ 1 ∷ 0 ∷ 8 ∷ 0 ∷ 0xc ∷ 0 ∷ 0 ∷ 0 ∷ 0x64 ∷ 0 ∷ 0 ∷ 0 ∷ 0x73 ∷ []
unfolding message_at action_at sent_bytes reply_pars traffic_ack_pars only encode size_of pars_bytes par_bytes walk walk_f step_at be m active
ack h = ap (λ (os : List Action). sent_bytes g₁ h (message 0 m) (unit_for g₁ (message 0 m) 0) (action_at os 0)) acts.actions_are ∙ rw none_refused

-- and reads: the law's premises are met
ack_reads : (h : List ℕ) → length h ≡ hold_bytes → Reads g₁ h (message 0 m) (unit_for g₁ (message 0 m) 0) (action 0 1027 0 0) (message_at g₁ h (message 0 m) 0)
unfolding message_at action_at is_sent
ack_reads h e =
    let t = accepted (is_sound g₁) (in_plan g₁ (message 0 m)) (lending least_room hold_bytes) (eqb-true _ _ acts.accepted_is) in
    let r =
    every_reads g₁ h (message 0 m) 0 t.sound_yes e t.known_yes (ap (λ (os : List Action). is_sent os 0) acts.actions_are) in
    subst (λ (o : Action). Reads g₁ h (message 0 m) (unit_for g₁ (message 0 m) 0) o (message_at g₁ h (message 0 m) 0)) (ap (λ (os : List Action). action_at os 0) acts.actions_are) r
