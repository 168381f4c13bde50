-- What the one call promises that runs an event on the state where it lies and writes the messages of all its
-- actions (Rule 8.20).
-- Assumes nothing.
use Rattle.std.specs.Prelude.{◌≡◌, ℕ, ◌*◌, cond, not, List, ◌++◌, length, drop, ltb, eqb}
use Rattle.laws.specs.Choice.{◌or_else◌, ◌if◌}
use Rattle.codec_put.specs.Bytes.{overlay}
use Rattle.rules_action.specs.Words.{words_of}
use Rattle.state_tables.specs.Sound.{is_sound}
use Rattle.state_tables.specs.declared.Gateway.{Gateway}
use Rattle.rules_event.specs.Event.{EventKind, message_of}
use Rattle.rules_event.specs.Effect.{state_after, hold_after, hold_bytes}
use Rattle.rules_event.specs.Rules.{effect_of, in_plan}
use Rattle.rules_event.specs.Sent.{actions_on}
use Rattle.send_message.specs.Send.{parts, part_lengths}
use Rattle.send_message.specs.declared.Handled.{Handled}

-- the bytes that a buffer for them must have: 2,048 for each of 386 actions. No event gives more (crate
-- send_reads, `fits_room`).
abbrev pub room_bytes : ℕ
room_bytes = 386 * 2048

-- the refusals in turn, for a hold and a buffer of so many bytes
unfoldable pub handle_code : Gateway → EventKind → ℕ → ℕ → ℕ
handle_code g k size room =
    105 if not (is_sound g)
    or_else 102 if not (in_plan g k)
    or_else 106 if not (eqb size hold_bytes)
    or_else 103 if ltb room room_bytes

-- The promise, of the state g, the hold, the list of words, the list of lengths and the buffer before, and
-- (with a prime) after. A refused call has no actions, so all of these stay; else the state and the hold are
-- those after the event, and there are all actions as words, and the messages of all of them.
pub record Handles (g : Gateway) (k : EventKind) (hold words lens out : List ℕ) (r : Handled) (g' : Gateway) (hold' words' lens' out' : List ℕ) : Type 0 where
  pub refused : r.refusal ≡ handle_code g k (length hold) (length out)
  pub count : r.count ≡ cond (eqb r.refusal 0) (length (actions_on g k)) 0
  pub state : g' ≡ cond (eqb r.refusal 0) (state_after g (effect_of g k)) g
  pub bytes : hold' ≡ cond (eqb r.refusal 0) (hold_after g (message_of k) (effect_of g k) hold) hold
  pub said : words' ≡ cond (eqb r.refusal 0) (words_of (actions_on g k) ++ drop (4 * r.count) words) words
  pub lengths : lens' ≡ overlay lens 0 (part_lengths g hold k 0 r.count)
  pub messages : out' ≡ overlay out 0 (parts g hold k 0 r.count)
  pub length : r.length ≡ length (parts g hold k 0 r.count)
