-- Laws of specs/Shown.antt, and definitions that only code and proofs use.
-- Assumes nothing.
use Rattle.std.specs.Prelude.{ℕ, List}
use Rattle.codec_wire.specs.Walk.{Par}

abbrev pub par : ℕ → List ℕ → Par
par t v = record { tag = t; body = v }
