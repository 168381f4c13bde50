-- The six kinds of event, and what is lent along with one (Rule 6.1).
-- Assumes nothing.
use Rattle.std.specs.Prelude.{ℕ, List, [], ◌∷◌}

-- an ASP with its message, an ASP, an AS, a link, a link, the message: each by its number
pub data EventKind : Type 0 where
  message : ℕ → List ℕ → EventKind
  lost : ℕ → EventKind
  recovery : ℕ → EventKind
  link_up : ℕ → EventKind
  link_down : ℕ → EventKind
  link_message : List ℕ → EventKind

-- its message; none where it has none
abbrev pub message_of : EventKind → List ℕ
message_of (message p s) = s
message_of (lost p) = []
message_of (recovery a) = []
message_of (link_up l) = []
message_of (link_down l) = []
message_of (link_message s) = s

-- What is lent along with an event, by its length: the list in words, the hold in bytes.
pub record Lent : Type 0 where
  pub room : ℕ
  pub hold : ℕ

abbrev pub lending : ℕ → ℕ → Lent
lending room hold = record { room = room; hold = hold }

-- An event takes its message and the lengths of what it is lent along when it trades places (Rule 10.4).
pub record Event : Type 0 where
  pub kind : EventKind
  pub lent : Lent

-- the message of a class and type that has no parameters: 8 bytes
abbrev pub bare : ℕ → ℕ → List ℕ
bare class msgtype = 1 ∷ 0 ∷ class ∷ msgtype ∷ 0 ∷ 0 ∷ 0 ∷ 8 ∷ []
