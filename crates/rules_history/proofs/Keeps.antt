-- Every event leaves a sound state sound.
-- Assumes nothing.
use mathlib.Core.Path.{◌≡◌, ap}
use mathlib.Core.Bool.{Bool, true, false}
use Rattle.state_tables.specs.Sound.{is_sound}
use Rattle.state_tables.specs.declared.Gateway.{Gateway}
use Rattle.rules_keeps.proofs.Next.{next_sound}
use Rattle.rules_event.specs.Event.{Event}
use Rattle.rules_event.specs.Rules.{in_plan, refusal_of, refusal}
use Rattle.rules_event.specs.Entry.{next}

pub keeps : (g : Gateway) (e : Event) → is_sound g ≡ true → is_sound (next g e) ≡ true
keeps g e ok = next_sound g ok e

-- an unsound state refuses every event (Rule 6.4): and so it stays, since a refused event changes nothing
pub refused_unsound : (g : Gateway) (e : Event) → is_sound g ≡ false → refusal g e ≡ 105
unfolding refusal_of
refused_unsound g e n = ap (λ (t : Bool). refusal_of t (in_plan g e.kind) e.lent) n
