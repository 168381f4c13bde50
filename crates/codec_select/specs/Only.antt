-- Some of a message's parameters.
-- Assumes nothing.
use Rattle.std.specs.Prelude.{ℕ, Bool, cond, List, [], ◌∷◌}
use Rattle.codec_wire.specs.Walk.{Par}

-- those whose tag passes a test, in the order in which they came
unfoldable pub only : (ℕ → Bool) → List Par → List Par
only f [] = []
only f (p ∷ ps) = cond (f p.tag) (p ∷ only f ps) (only f ps)
