-- Columns, which are lists of numbers or of flags: what stands at a place, and a list by what stands at each
-- place.
-- Assumes nothing.
use Rattle.std.specs.Prelude.{ℕ, zero, suc, Bool, false, List, [], ◌∷◌, eqb, get_or}

abbrev pub flag_at : List Bool → ℕ → Bool
flag_at l i = get_or l i false

module _ {A : Type 0} where
  -- f 0, f 1, .. below n
  unfoldable pub tabulate : ℕ → (ℕ → A) → List A
  tabulate zero f = []
  tabulate (suc n) f = f zero ∷ tabulate n (λ i. f (suc i))

-- a flag of a column: 1 is set
abbrev pub is_set : List ℕ → ℕ → Bool
is_set c i = eqb (get_or c i 0) 1

abbrev pub number_at : List ℕ → ℕ → ℕ
number_at c i = get_or c i 0
