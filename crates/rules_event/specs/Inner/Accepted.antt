-- What follows where an event is refused, and where it is not.
-- Assumes nothing.
use Rattle.std.specs.Prelude.{ℕ, ◌≤◌, ◌≡◌, refl, Bool, true, false, not, eqb, ltb}
use Rattle.std.proofs.Common.{arith, eqb-true, ltb-false}
use Rattle.laws.specs.Choice.{◌or_else◌, ◌if◌}
use Rattle.rules_event.specs.Event.{Lent}
use Rattle.rules_event.specs.Effect.{hold_bytes}
use Rattle.rules_event.specs.Rules.{refusal_of, least_room}

-- an event that is not refused
pub record Accepted (sound known : Bool) (lent : Lent) : Type 0 where
  pub sound_yes : sound ≡ true
  pub known_yes : known ≡ true
  pub whole : lent.hold ≡ 34944
  pub enough : 1544 ≤ lent.room

pub accepted : (sound known : Bool) (lent : Lent) → refusal_of sound known lent ≡ 0 → Accepted sound known lent
unfolding refusal_of
accepted sound known lent = go sound known (eqb lent.hold hold_bytes) (ltb lent.room least_room) refl refl
  where
    go : (u v x w : Bool) → eqb lent.hold hold_bytes ≡ x → ltb lent.room least_room ≡ w → ◌≡◌ {A = ℕ} (105 if not u or_else 102 if not v or_else 106 if not x or_else 101 if w) 0 → Accepted u v lent
    go true true true true f e h = let z : ⊥ = omega arith in absurd z
    go true true true false f e h = record { sound_yes = refl; known_yes = refl; whole = eqb-true lent.hold hold_bytes f; enough = ltb-false lent.room least_room e }
    go true true false w f e h = let z : ⊥ = omega arith in absurd z
    go true false x w f e h = let z : ⊥ = omega arith in absurd z
    go false v x w f e h = let z : ⊥ = omega arith in absurd z

-- 105 comes before the others
pub unsound : (sound known : Bool) (lent : Lent) → sound ≡ false → 105 ≡ refusal_of sound known lent
unfolding refusal_of
unsound sound known lent e = rw e
