-- A set of ASes as a flag for each.
-- Assumes nothing.
use Rattle.std.specs.Prelude.{Bool, List}
use Rattle.state_sets.specs.declared.AsSet.{AsSet}
use Rattle.state_sets.specs.Inner.Bits.{flags_of}

abbrev pub members : AsSet → List Bool
members s = flags_of s.bits
