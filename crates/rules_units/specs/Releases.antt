-- Each Data to an ASP that an event gives by itself sends one unit held, in the sequence of the units
-- (Rules 7.25, 8.3).
-- Assumes nothing.
use Rattle.std.specs.Prelude.{◌≡◌, true, false, ℕ, ◌/◌, ◌%◌, ◌<◌, ltb, length}
use Rattle.laws.specs.Columns.{number_at}
use Rattle.state_tables.specs.Sound.{is_sound}
use Rattle.state_tables.specs.declared.Gateway.{Gateway}
use Rattle.rules_event.specs.Event.{EventKind}
use Rattle.rules_event.specs.Rules.{in_plan}
use Rattle.rules_event.specs.Sent.{actions_on, action_at, is_data, unit_for, is_passed}

-- the action at place n sends that unit: it is held, and of the link that the action names
pub record SendsUnit (g : Gateway) (k : EventKind) (n : ℕ) : Type 0 where
  pub place : unit_for g k n < 128
  pub held : unit_for g k n % 8 < number_at g.held.count (unit_for g k n / 8)
  pub link : number_at g.held.id (unit_for g k n) ≡ (action_at (actions_on g k) n).subject

-- of every sound state, every event that its plan allows and is not of the link side, and every place of a
-- Data to an ASP
abbrev pub EveryUnit : Type 0
EveryUnit =
    (g : Gateway) (k : EventKind) (n : ℕ) → is_sound g ≡ true → in_plan g k ≡ true → is_passed k ≡ false → ltb n (length (actions_on g k)) ≡ true → is_data (action_at (actions_on g k) n) ≡ true
    → SendsUnit g k n
