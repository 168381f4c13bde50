-- What each event does (Rules 7.1 to 7.26), and which are refused (Rules 6.3 to 6.6).
-- Assumes nothing.
use Rattle.std.specs.Prelude.{ℕ, ◌+◌, ◌*◌, Bool, cond, not, ◌&&◌, ◌||◌, List, [], length, get_or, ltb, leb, eqb}
use Rattle.laws.specs.Choice.{◌or_else◌, ◌if◌}
use Rattle.laws.specs.Columns.{tabulate}
use Rattle.codec_wire.specs.Walk.{walk}
use Rattle.codec_read.specs.Verdict.{verdict}
use Rattle.codec_read.specs.Meaning.{reading_of}
use Rattle.codec_read.specs.declared.Reading.{Reading}
use Rattle.state_tables.specs.Sound.{is_sound}
use Rattle.state_tables.specs.declared.Gateway.{Gateway}
use Rattle.rules_action.specs.Types.{asp_up, asp_down, beat, beat_ack, asp_active, asp_inactive}
use Rattle.rules_server.specs.declared.Change.TheVariants.{Recover}
use Rattle.rules_event.specs.Event.{EventKind, message, lost, recovery, link_up, link_down, link_message, Lent, Event}
use Rattle.rules_event.specs.Identifiers.{is_known, link_of}
use Rattle.rules_event.specs.Records.{link_at}
use Rattle.rules_event.specs.Effect.{Effect, send, change_in, hold_bytes, one_action, error}
use Rattle.rules_event.specs.Asp.{up_effect, down_effect, lost_effect, active_effect, inactive_effect, traffic_effect}
use Rattle.rules_event.specs.Link.{can_have, class_six_effect, link_up_effect, link_down_effect, link_message_effect}

-- ---- a message of ASP p

-- Rule 7.2: an Error from p, whether it reads or not, is not answered
unfoldable pub is_error : List ℕ → Bool
is_error s = leb 4 (length s) && (eqb (get_or s 2 0) 0 && eqb (get_or s 3 0) 0)

-- the class and type of a message, as one number
abbrev pub class_type_of : Reading → ℕ
class_type_of r = r.class * 256 + r.msgtype

-- the types of class 6 that an ASP may send (Rule 7.14)
unfoldable pub from_asp : ℕ → Bool
from_asp k = eqb k 1 || eqb k 2 || eqb k 4 || eqb k 7 || eqb k 10 || eqb k 15

-- a readable message, by class and type: Up, Down, Beat, Beat Ack, Active, Inactive, class 6; any other is
-- Error 6 (Rules 7.4 to 7.23)
unfoldable pub read_effect : Gateway → ℕ → List ℕ → Reading → Effect
read_effect g p s r =
    cond (eqb (class_type_of r) asp_up) (up_effect g p r)
    (cond (eqb (class_type_of r) asp_down) (down_effect g p)
    (cond (eqb (class_type_of r) beat) (send (one_action p beat_ack 0 0))
    (cond (eqb (class_type_of r) beat_ack) (send [])
    (cond (eqb (class_type_of r) asp_active) (traffic_effect g p r (walk s 8).pars (active_effect g p r.mode))
    (cond (eqb (class_type_of r) asp_inactive) (traffic_effect g p r (walk s 8).pars (inactive_effect p))
    (cond (eqb r.class 6 && from_asp r.msgtype) (class_six_effect g p r)
    (send (error p 6))))))))

-- Rule 7.3: a message that the reader refuses is answered by an Error with the reader's number
unfoldable pub message_effect : Gateway → ℕ → List ℕ → Effect
message_effect g p s =
    cond (is_error s) (send [])
    (cond (eqb (verdict s) 0) (read_effect g p s (reading_of s))
    (send (error p (verdict s))))

-- ---- every kind

abbrev pub effect_of : Gateway → EventKind → Effect
effect_of g (message p s) = message_effect g p s
effect_of g (lost p) = lost_effect g p
-- Rule 7.13
effect_of g (recovery a) = change_in [] Recover (tabulate 16 (λ c. eqb c a))
effect_of g (link_up l) = link_up_effect g l
effect_of g (link_down l) = link_down_effect g l
effect_of g (link_message s) = link_message_effect g s (reading_of s)

-- ---- refusals

-- the types of class 6 that the link side may send (Rule 6.5)
unfoldable pub from_link : ℕ → Bool
from_link k = eqb k 1 || eqb k 8 || eqb k 9 || (leb 11 k && leb k 14)

-- what is not refused with 102: an ASP, AS or link of the plan; a message of the link side that reads, of
-- such a type, of a known identifier, and with no sequence number that its link cannot have (Rule 6.5)
abbrev pub in_plan : Gateway → EventKind → Bool
in_plan g (message p s) = ltb p g.asps
in_plan g (lost p) = ltb p g.asps
in_plan g (recovery a) = ltb a g.ases
in_plan g (link_up l) = ltb l g.links
in_plan g (link_down l) = ltb l g.links
in_plan g (link_message s) =
    eqb (verdict s) 0
    && (eqb (reading_of s).class 6 && (from_link (reading_of s).msgtype
    && (is_known g (reading_of s).id && can_have (link_at g (link_of g (reading_of s).id)) (reading_of s).sequence)))

-- the words that an event asks for, or it is refused with 101 (Rule 6.6)
abbrev pub least_room : ℕ
least_room = 1544

-- the first that applies (Rule 6.3)
unfoldable pub refusal_of : Bool → Bool → Lent → ℕ
refusal_of sound known lent =
    105 if not sound or_else 102 if not known or_else 106 if not (eqb lent.hold hold_bytes) or_else 101 if ltb lent.room least_room

abbrev pub refusal : Gateway → Event → ℕ
refusal g e = refusal_of (is_sound g) (in_plan g e.kind) e.lent
