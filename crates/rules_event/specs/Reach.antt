-- Reach: the ASes that an event may look into and change (Rules 9.1 to 9.3).
-- Assumes nothing.
use Rattle.std.specs.Prelude.{ℕ, Bool, false, cond, not, ◌&&◌, ◌||◌, List, ltb, eqb}
use Rattle.codec_wire.specs.Walk.{walk}
use Rattle.codec_read.specs.Verdict.{verdict}
use Rattle.codec_read.specs.Meaning.{reading_of}
use Rattle.codec_read.specs.declared.Reading.{Reading}
use Rattle.state_tables.specs.declared.Gateway.{Gateway}
use Rattle.rules_action.specs.Types.{asp_up, asp_down, asp_active, asp_inactive}
use Rattle.rules_event.specs.Event.{EventKind, message, lost, recovery, link_up, link_down, link_message, Event}
use Rattle.rules_event.specs.Identifiers.{owns_good, is_known, link_of, owner_at, is_member}
use Rattle.rules_event.specs.Rules.{is_error, class_type_of, refusal}

-- the owner of a known identifier
unfoldable pub owns_id : Gateway → ℕ → ℕ → Bool
owns_id g x a = is_known g x && eqb (owner_at g (link_of g x)) a

-- Rule 9.2, of a message that reads: all ASes of p, the owners of the good identifiers named, the owner of
-- the one identifier, or none
unfoldable pub read_reach : Gateway → ℕ → List ℕ → Reading → ℕ → Bool
read_reach g p s r a =
    cond (eqb (class_type_of r) asp_up || eqb (class_type_of r) asp_down) (is_member g a p)
    (cond (eqb (class_type_of r) asp_active || eqb (class_type_of r) asp_inactive) (cond (eqb r.ids 1) (owns_good g p (walk s 8).pars a) (is_member g a p))
    (cond (eqb r.class 6) (owns_id g r.id a) false))

-- a message that does not read, or an Error, reaches none
unfoldable pub message_reach : Gateway → ℕ → List ℕ → ℕ → Bool
message_reach g p s a = cond (is_error s || not (eqb (verdict s) 0)) false (read_reach g p s (reading_of s) a)

-- the other kinds (Rule 9.3)
abbrev pub kind_reach : Gateway → EventKind → ℕ → Bool
kind_reach g (message p s) a = message_reach g p s a
kind_reach g (lost p) a = is_member g a p
kind_reach g (recovery c) a = eqb c a
kind_reach g (link_up l) a = eqb (owner_at g l) a
kind_reach g (link_down l) a = eqb (owner_at g l) a
kind_reach g (link_message s) a = owns_id g (reading_of s).id a

-- a refused event reaches none, and no event an AS beyond the plan (Rule 9.1)
unfoldable pub reach : Gateway → Event → ℕ → Bool
reach g e a = eqb (refusal g e) 0 && (ltb a g.ases && kind_reach g e.kind a)

-- the ASP whose event it is: a message and the loss of its association; the other kinds are nobody's
-- (Rule 10.1)
abbrev pub from_controller : EventKind → ℕ → Bool
from_controller (message p s) q = eqb p q
from_controller (lost p) q = eqb p q
from_controller (recovery a) q = false
from_controller (link_up l) q = false
from_controller (link_down l) q = false
from_controller (link_message s) q = false
