-- The numbers of refusals (Rules 6.3 to 6.6).
-- Assumes nothing.
use Rattle.std.specs.Prelude.{ℕ, ◌≡◌, Result, Ok, Err}
use Rattle.std.proofs.Common.{arith}
use Rattle.event_asked.specs.declared.EventRefusal.{EventRefusal}
use Rattle.event_asked.specs.declared.EventRefusal.TheVariants.{NotSound, NotInPlan, HoldLength, ShortList}

abbrev pub refusal_number : EventRefusal → ℕ
refusal_number NotSound = 105
refusal_number NotInPlan = 102
refusal_number HoldLength = 106
refusal_number ShortList = 101

-- 0 where there is none
abbrev pub refusal_code : Result (Unit {0}) EventRefusal → ℕ
refusal_code (Ok u) = 0
refusal_code (Err r) = refusal_number r

-- a refusal is not 0
pub refusal_some : (r : EventRefusal) → refusal_number r ≡ 0 → ⊥
refusal_some NotSound h = omega (arith, h)
refusal_some NotInPlan h = omega (arith, h)
refusal_some HoldLength h = omega (arith, h)
refusal_some ShortList h = omega (arith, h)
