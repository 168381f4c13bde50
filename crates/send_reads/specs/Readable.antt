-- Every action to an ASP goes out as a message that a peer reads (Rule 8.17).
-- Assumes nothing.
use Rattle.std.specs.Prelude.{◌≡◌, ℕ, ◌/◌, ◌%◌, ◌≤◌, true, List, length, take}
use Rattle.codec_read.specs.Verdict.{most}
use Rattle.codec_write.specs.RoundTrip.{ReadsBack}
use Rattle.codec_write.specs.declared.Written.{Written}
use Rattle.state_tables.specs.Sound.{is_sound}
use Rattle.state_tables.specs.declared.Gateway.{Gateway}
use Rattle.rules_action.specs.declared.Action.{Action}
use Rattle.rules_event.specs.Event.{EventKind}
use Rattle.rules_event.specs.Rules.{in_plan}
use Rattle.rules_event.specs.Effect.{hold_bytes}
use Rattle.rules_event.specs.Sent.{actions_on, action_at, is_sent, unit_for}
use Rattle.send_message.specs.Message.{sent_pars}
use Rattle.send_message.specs.Send.{message_at, Sends}

-- the message of an action reads: no verdict but 0, the action's class and type, exactly the parameters that
-- it is said to have; and it is no longer than a message may be
pub record Reads (g : Gateway) (h : List ℕ) (k : EventKind) (i : ℕ) (o : Action) (s : List ℕ) : Type 0 where
  pub back : ReadsBack (o.classtype / 256) (o.classtype % 256) (sent_pars g h k i o) s
  pub small : length s ≤ most

-- of every sound state with its hold, every event that its plan allows and every place of an action to an ASP
abbrev pub EveryReads : Type 0
EveryReads =
    (g : Gateway) (h : List ℕ) (k : EventKind) (n : ℕ) → is_sound g ≡ true → length h ≡ hold_bytes → in_plan g k ≡ true → is_sent (actions_on g k) n ≡ true
    → Reads g h k (unit_for g k n) (action_at (actions_on g k) n) (message_at g h k n)

-- so what a call has put into the buffer reads, unless it was refused
abbrev pub SentReads : Type 0
SentReads =
    (g : Gateway) (h : List ℕ) (k : EventKind) (n : ℕ) (out : List ℕ) (r : Written) (out' : List ℕ) → Sends g h k n out r out' → r.code ≡ 0
    → Reads g h k (unit_for g k n) (action_at (actions_on g k) n) (take r.length out')
