-- The links by identifier (Rule 5.16).
-- Assumes nothing.
use Rattle.std.specs.Prelude.{ℕ, Bool, List, eqb, ltb}
use Rattle.laws.specs.Below.{first_below}
use Rattle.laws.specs.Columns.{number_at}

-- the index of the link with identifier x, and the number of links where there is none
unfoldable pub index_of : List ℕ → ℕ → ℕ → ℕ
index_of iid links x = first_below (λ l. eqb (number_at iid l) x) links

-- whether x is in the plan
unfoldable pub known : List ℕ → ℕ → ℕ → Bool
known iid links x = ltb (index_of iid links x) links
