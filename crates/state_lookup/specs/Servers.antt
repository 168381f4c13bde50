-- What is asked of an AS: its state, and the recipients of a message of one of its links.
-- Assumes nothing.
use Rattle.std.specs.Prelude.{ℕ, ◌%◌, Bool, ◌||◌, ◌&&◌, not, List, eqb}
use Rattle.laws.specs.Below.{count_below}
use Rattle.laws.specs.Columns.{is_set}
use Rattle.state_tables.specs.Sound.{pair, active_in}

-- the active members of AS a whose place is before q
unfoldable pub before : List ℕ → ℕ → ℕ → ℕ
before active a q = count_below (λ r. is_set active (pair a r)) q

-- Rule 5.15: the active members, and in load-share (mode 2) only the one that the number x chooses among
-- them; x is the link's identifier.
unfoldable pub receives : List ℕ → ℕ → ℕ → ℕ → ℕ → Bool
receives active mode a x q =
    is_set active (pair a q) && (not (eqb mode 2) || eqb (before active a q) (x % active_in active a))
