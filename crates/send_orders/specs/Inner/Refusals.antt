-- What is handed back of a refusal and of what was written; and that the refusals of the event come first, in
-- both forms.
-- Assumes nothing.
use Rattle.std.specs.Prelude.{ℕ, ◌≡◌, Bool, true, false, cond, not, eqb, Result, Ok, Err}
use Rattle.codec_write.specs.declared.Written.{Written}
use Rattle.send_message.specs.declared.Batch.{Batch}
use Rattle.send_message.specs.declared.Handled.{Handled}
use Rattle.send_orders.specs.declared.Reached.{Reached}
use Rattle.send_orders.specs.declared.Refusal.{Refusal}
use Rattle.send_orders.specs.declared.Refusal.TheVariants.{Event, ShortBuffer, NoSuchAction}
use Rattle.std.proofs.Common.{eq-eqb}
use Rattle.laws.specs.Choice.{◌or_else◌, ◌if◌}
use Rattle.rules_event.specs.Event.{lending}
use Rattle.rules_event.specs.Effect.{hold_bytes}
use Rattle.rules_event.specs.Rules.{refusal_of, least_room}

abbrev pub number : Refusal → ℕ
number (Event n) = n
number ShortBuffer = 103
number NoSuchAction = 104

-- where no action went in, the buffer is short
unfoldable pub some_reached : Reached → Result Reached Refusal
some_reached r = cond (eqb r.count 0) (Err ShortBuffer) (Ok r)

abbrev pub batch_of : Result Reached Refusal → Batch
batch_of (Ok r) = record { code = 0; count = r.count; length = r.length }
batch_of (Err e) = record { code = number e; count = 0; length = 0 }

-- of one action: where nothing was written for it, it goes to the link side
unfoldable pub sent_of : Batch → Result ℕ Refusal
sent_of b = cond (eqb b.code 0) (cond (eqb b.length 0) (Err NoSuchAction) (Ok b.length)) (Err (Event b.code))

abbrev pub written_of : Result ℕ Refusal → Written
written_of (Ok n) = record { code = 0; length = n }
written_of (Err e) = record { code = number e; length = 0 }

abbrev pub handled_of : Result Reached Refusal → Handled
handled_of (Ok r) = record { refusal = 0; count = r.count; length = r.length }
handled_of (Err e) = record { refusal = number e; count = 0; length = 0 }

-- 101 cannot come up where the list has the words that an event asks for: what is refused is refused for 105,
-- 102 or 106, which both forms give too
pub refused_first : (sound known : Bool) (hold rest r : ℕ) → r ≡ refusal_of sound known (lending least_room hold) → ¬ (r ≡ 0)
    → r ≡ 105 if not sound or_else 102 if not known or_else 106 if not (eqb hold hold_bytes) or_else rest
unfolding refusal_of
refused_first sound known hold rest r = go sound known (eqb hold hold_bytes)
  where
    go : (u v w : Bool) → r ≡ 105 if not u or_else 102 if not v or_else 106 if not w or_else 0 → ¬ (r ≡ 0) → r ≡ 105 if not u or_else 102 if not v or_else 106 if not w or_else rest
    go true true true e h = absurd (h e)
    go true true false e h = e
    go true false w e h = e
    go false v w e h = e

-- and where the event is not refused, the rest decides
pub accepted_rest : (sound known : Bool) (hold rest : ℕ) → sound ≡ true → known ≡ true → hold ≡ 34944
    → (105 if not sound or_else 102 if not known or_else 106 if not (eqb hold hold_bytes) or_else rest) ≡ rest
accepted_rest sound known hold rest s k w = rw (s, k, eq-eqb hold 34944 w)
