-- Nothing but a unit that comes in writes the hold (Rule 5.22).
-- Assumes nothing.
use mathlib.Core.Path.{refl, sym}
use mathlib.Core.Bool.{false≢true}
use Rattle.rules_event.specs.Effect.{send, set_link, change_in, take_in, HoldStays}

pub hold_stays : HoldStays
hold_stays g s (send os) h e = refl
hold_stays g s (set_link l v os) h e = refl
hold_stays g s (change_in os k named) h e = refl
hold_stays g s (take_in a x) h e = absurd (false≢true (sym e))
