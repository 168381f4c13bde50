-- Which event (Rule 6.1) a script's event line says.
-- Assumes nothing.
use Rattle.std.specs.Prelude.{ℕ, List}
use Rattle.tool_event_line.specs.declared.EventKind.{EventKind as Name}
use Rattle.tool_event_line.specs.declared.EventKind.TheVariants.{Message, Lost, Recovery, LinkUp, LinkDown, LinkMessage}
use Rattle.rules_event.specs.Event.{EventKind, message, lost, recovery, link_up, link_down, link_message}

-- `msg`, `lost`, `recovery`, `up`, `down`, `linkmsg`, with the line's index and message
abbrev pub said : Name → ℕ → List ℕ → EventKind
said Message i msg = message i msg
said Lost i msg = lost i
said Recovery i msg = recovery i
said LinkUp i msg = link_up i
said LinkDown i msg = link_down i
said LinkMessage i msg = link_message msg
