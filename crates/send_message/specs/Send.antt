-- What the entries promise that write actions as bytes: one action (Rule 8.15), and as many as go into a
-- buffer (Rule 8.16).
-- Assumes nothing.
use Rattle.std.specs.Prelude.{◌≡◌, ℕ, ◌+◌, Bool, cond, not, ◌||◌, List, [], length, ltb, leb, eqb}
use Rattle.laws.specs.Choice.{◌or_else◌, ◌if◌}
use Rattle.laws.specs.Below.{concat_below, first_below}
use Rattle.laws.specs.Columns.{tabulate}
use Rattle.codec_put.specs.Bytes.{overlay}
use Rattle.codec_write.specs.declared.Written.{Written}
use Rattle.state_tables.specs.Sound.{is_sound}
use Rattle.state_tables.specs.declared.Gateway.{Gateway}
use Rattle.rules_event.specs.Event.{EventKind}
use Rattle.rules_event.specs.Effect.{hold_bytes}
use Rattle.rules_event.specs.Rules.{in_plan}
use Rattle.rules_event.specs.Sent.{actions_on, action_at, is_sent, unit_for}
use Rattle.send_message.specs.Message.{sent_bytes}
use Rattle.send_message.specs.declared.Batch.{Batch}

-- the message of the action at a place; h is the hold
unfoldable pub message_at : Gateway → List ℕ → EventKind → ℕ → List ℕ
message_at g h k n = sent_bytes g h k (unit_for g k n) (action_at (actions_on g k) n)

-- ---- one action (Rule 8.15)

-- the refusals in turn, for a buffer of so many bytes
unfoldable pub send_code : Gateway → List ℕ → EventKind → ℕ → ℕ → ℕ
send_code g h k n room =
    105 if not (is_sound g)
    or_else 102 if not (in_plan g k)
    or_else 106 if not (eqb (length h) hold_bytes)
    or_else 104 if not (is_sent (actions_on g k) n)
    or_else 103 if ltb room (length (message_at g h k n))

-- the promise, of the buffer before and after
pub record Sends (g : Gateway) (h : List ℕ) (k : EventKind) (n : ℕ) (out : List ℕ) (r : Written) (out' : List ℕ) : Type 0 where
  pub code_is : r.code ≡ send_code g h k n (length out)
  pub length_is : r.length ≡ cond (eqb r.code 0) (length (message_at g h k n)) 0
  pub bytes_are : out' ≡ cond (eqb r.code 0) (overlay out 0 (message_at g h k n)) out

-- ---- as many as go in, from a place on (Rule 8.16)

-- what the action at a place adds: its message, and nothing where it goes to the link side
unfoldable pub part_at : Gateway → List ℕ → EventKind → ℕ → List ℕ
part_at g h k n = cond (is_sent (actions_on g k) n) (message_at g h k n) []

-- those of m actions from place n on, one behind the other, and the length of each
unfoldable pub parts : Gateway → List ℕ → EventKind → ℕ → ℕ → List ℕ
parts g h k n m = concat_below (λ j. part_at g h k (n + j)) m

unfoldable pub part_lengths : Gateway → List ℕ → EventKind → ℕ → ℕ → List ℕ
part_lengths g h k n m = tabulate m (λ j. length (part_at g h k (n + j)))

-- there is no further action behind m of them, or no further length in a list of `slots`, or its message does
-- not go into a buffer of `room` bytes
unfoldable pub ends_at : Gateway → List ℕ → EventKind → ℕ → ℕ → ℕ → ℕ → Bool
ends_at g h k n slots room m = leb (length (actions_on g k)) (n + m) || (leb slots m || ltb room (length (parts g h k n (m + 1))))

-- how many go in
unfoldable pub fitting : Gateway → List ℕ → EventKind → ℕ → ℕ → ℕ → ℕ
fitting g h k n slots room = first_below (ends_at g h k n slots room) (length (actions_on g k))

-- the refusals in turn: 103 where not one goes in
unfoldable pub batch_code : Gateway → List ℕ → EventKind → ℕ → ℕ → ℕ → ℕ
batch_code g h k n slots room =
    105 if not (is_sound g)
    or_else 102 if not (in_plan g k)
    or_else 106 if not (eqb (length h) hold_bytes)
    or_else 104 if leb (length (actions_on g k)) n
    or_else 103 if eqb (fitting g h k n slots room) 0

-- the promise, of the list of lengths and the buffer before and after; a refused call sends none, so all of
-- both stays
pub record SendsMany (g : Gateway) (h : List ℕ) (k : EventKind) (n : ℕ) (lens out : List ℕ) (r : Batch) (lens' out' : List ℕ) : Type 0 where
  pub code_is : r.code ≡ batch_code g h k n (length lens) (length out)
  pub count_is : r.count ≡ cond (eqb r.code 0) (fitting g h k n (length lens) (length out)) 0
  pub length_is : r.length ≡ length (parts g h k n r.count)
  pub lens_are : lens' ≡ overlay lens 0 (part_lengths g h k n r.count)
  pub bytes_are : out' ≡ overlay out 0 (parts g h k n r.count)
