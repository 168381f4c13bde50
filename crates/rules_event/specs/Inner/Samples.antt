-- Laws of specs/Samples.antt, and definitions that only code and proofs use.
-- Assumes nothing.
use Rattle.std.specs.Prelude.{◌≡◌, true, false}
use Rattle.laws.specs.Columns.{number_at}
use Rattle.state_tables.specs.declared.Gateway.{Gateway}
use Rattle.rules_event.specs.Event.{Event}
use Rattle.rules_event.specs.Reach.{reach}

-- of two ASes an event reaches the first, and another the second
pub record ReachApart (g : Gateway) (e f : Event) : Type 0 where
  pub ases : g.ases ≡ 2
  -- the first sixteen links are the first's, the last one the second's
  pub links : (g.links ≡ 17) × (number_at g.owner 15 ≡ 0) × (number_at g.owner 16 ≡ 1)
  pub first : (reach g e 0 ≡ true) × (reach g e 1 ≡ false)
  pub second : (reach g f 0 ≡ false) × (reach g f 1 ≡ true)
