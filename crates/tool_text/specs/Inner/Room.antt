-- The room for an answer.
-- Assumes nothing.
use Rattle.std.specs.Prelude.{List, ℕ, ◌+◌, ◌≤◌, length}

-- a text has room for one answer more
abbrev pub Room : List ℕ → Type 0
Room text = length text + 17000 ≤ 65536

-- and no answer is longer
abbrev pub Within : List ℕ → List ℕ → Type 0
Within before after = length after ≤ length before + 17000
