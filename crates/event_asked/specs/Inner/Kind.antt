-- The kinds of event, as the code has them, and their numbers.
-- Assumes nothing.
use Rattle.std.specs.Prelude.{ℕ, ◌≡◌, refl, cond, List, eqb, Option, Some, None}
use Rattle.std.proofs.Common.{arith}
use Rattle.rules_event.specs.Event.{EventKind, message, lost, recovery, link_up, link_down, link_message}
use Rattle.event_asked.specs.declared.EventKind.{EventKind as Kind}
use Rattle.event_asked.specs.declared.EventKind.TheVariants.{Message, Lost, Recovery, LinkUp, LinkDown, LinkMessage}
use Rattle.event_asked.specs.Happened.{message_kind, lost_kind, recovery_kind, link_up_kind, link_down_kind, link_message_kind, happened}

abbrev pub number_of : Kind → ℕ
number_of Message = message_kind
number_of Lost = lost_kind
number_of Recovery = recovery_kind
number_of LinkUp = link_up_kind
number_of LinkDown = link_down_kind
number_of LinkMessage = link_message_kind

unfoldable pub kind_of : ℕ → Option Kind
kind_of n =
    cond (eqb n message_kind) (Some Message)
    (cond (eqb n lost_kind) (Some Lost)
    (cond (eqb n recovery_kind) (Some Recovery)
    (cond (eqb n link_up_kind) (Some LinkUp)
    (cond (eqb n link_down_kind) (Some LinkDown)
    (cond (eqb n link_message_kind) (Some LinkMessage) None)))))

-- the event of a kind, with the index and the message that it has
abbrev pub said : Kind → ℕ → List ℕ → EventKind
said Message i s = message i s
said Lost i s = lost i
said Recovery i s = recovery i
said LinkUp i s = link_up i
said LinkDown i s = link_down i
said LinkMessage i s = link_message s

-- the event of a number is that of its kind
pub happened_some : (n i : ℕ) (s : List ℕ) {k : Kind} → kind_of n ≡ Some k → said k i s ≡ happened n i s
unfolding kind_of
happened_some n i s = grind arith

pub happened_none : (n i : ℕ) (s : List ℕ) → kind_of n ≡ None → lost 65536 ≡ happened n i s
unfolding kind_of
happened_none n i s = grind arith

pub happened_number : (k : Kind) (i : ℕ) (s : List ℕ) → happened (number_of k) i s ≡ said k i s
happened_number Message i s = refl
happened_number Lost i s = refl
happened_number Recovery i s = refl
happened_number LinkUp i s = refl
happened_number LinkDown i s = refl
happened_number LinkMessage i s = refl
