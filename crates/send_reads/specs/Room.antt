-- All messages of an event go into the room that the one call asks for (Rule 8.20).
-- Assumes nothing.
use Rattle.std.specs.Prelude.{◌≡◌, ℕ, ◌≤◌, true, List, length}
use Rattle.state_tables.specs.Sound.{is_sound}
use Rattle.state_tables.specs.declared.Gateway.{Gateway}
use Rattle.rules_event.specs.Event.{EventKind}
use Rattle.rules_event.specs.Rules.{in_plan}
use Rattle.rules_event.specs.Sent.{actions_on}
use Rattle.send_message.specs.Send.{parts}
use Rattle.send_message.specs.Handle.{room_bytes}

abbrev pub FitsRoom : Type 0
FitsRoom =
    (g : Gateway) (h : List ℕ) (k : EventKind) → is_sound g ≡ true → in_plan g k ≡ true → length (parts g h k 0 (length (actions_on g k))) ≤ room_bytes
