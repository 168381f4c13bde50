-- Of the code's tests of columns: what each says together.
-- Assumes nothing.
use Prim.Native.Nat.{ℕ}
use mathlib.Core.Path.{◌≡◌, refl, ◌∙◌}
use mathlib.Core.Bool.{Bool, true, false, ◌||◌, ◌&&◌}
use mathlib.Core.List.{List}
use lib.Dec.{eqb, ltb}
use Rattle.laws.specs.Below.{all_below}
use Rattle.laws.specs.Inner.Every.{all_ext, all_two}
use Rattle.laws.specs.Columns.{number_at}
use Rattle.state_tables.specs.Sound.{blank_from}

-- the places from n on, of two columns
pub both_blank_is : (c d : List ℕ) (n end : ℕ) → all_below (λ i. ltb i n || (eqb (number_at c i) 0 && eqb (number_at d i) 0)) end ≡ (blank_from c n end && blank_from d n end)
unfolding blank_from
both_blank_is c d n end =
    all_ext _ (λ i. (ltb i n || eqb (number_at c i) 0) && (ltb i n || eqb (number_at d i) 0)) end (λ i l. apart (ltb i n) (eqb (number_at c i) 0) (eqb (number_at d i) 0))
    ∙ all_two (λ i. ltb i n || eqb (number_at c i) 0) (λ i. ltb i n || eqb (number_at d i) 0) end
  where
    apart : (u x y : Bool) → (u || (x && y)) ≡ ((u || x) && (u || y))
    apart true x y = refl
    apart false x y = refl
