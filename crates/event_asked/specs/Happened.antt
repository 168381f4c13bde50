-- Which event a call says: by the number of its kind, an index and a message.
-- Assumes nothing.
use Rattle.std.specs.Prelude.{ℕ, cond, List, eqb, length}
use Rattle.rules_event.specs.Event.{EventKind, message, lost, recovery, link_up, link_down, link_message, lending, Event}

-- the numbers of the six kinds
abbrev pub message_kind : ℕ
message_kind = 0

abbrev pub lost_kind : ℕ
lost_kind = 1

abbrev pub recovery_kind : ℕ
recovery_kind = 2

abbrev pub link_up_kind : ℕ
link_up_kind = 3

abbrev pub link_down_kind : ℕ
link_down_kind = 4

abbrev pub link_message_kind : ℕ
link_message_kind = 5

-- the event of the kind k; any other number is that of an ASP that no plan has, which is refused
abbrev pub happened : ℕ → ℕ → List ℕ → EventKind
happened k i s =
    cond (eqb k message_kind) (message i s)
    (cond (eqb k lost_kind) (lost i)
    (cond (eqb k recovery_kind) (recovery i)
    (cond (eqb k link_up_kind) (link_up i)
    (cond (eqb k link_down_kind) (link_down i)
    (cond (eqb k link_message_kind) (link_message s)
    (lost 65536))))))

-- an event of a kind, with the lengths of its list and of its hold
abbrev pub event_of : EventKind → ℕ → ℕ → Event
event_of k room hold = record { kind = k; lent = lending room hold }

-- the same of the lent list and hold
abbrev pub event : EventKind → List ℕ → List ℕ → Event
event k ws hold = event_of k (length ws) (length hold)
