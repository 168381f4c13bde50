use mathlib.Core.Path.{◌≡◌, refl}
use mathlib.Core.Bool.{Bool, true, false, ◌&&◌, ◌||◌, not, cond}
use Rattle.state_tables.specs.Sound.{mode_at}
use Rattle.state_tables.proofs.mode_ok.Goals as goal

-- `state_tables::mode_ok`: by cases of the flag. Assumes nothing.
by_flag : (b u v : Bool) → ((b && u) || (not b && v)) ≡ cond b u v
by_flag true true v = refl
by_flag true false v = refl
by_flag false u v = refl

pub returns : goal.returns
unfolding mode_at
returns c = by_flag c.args.inside _ _
