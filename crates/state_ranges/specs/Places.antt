-- The places of the ascending table of links that lie inside a range, and what they say of its identifiers
-- (Rule 2.11).
-- Assumes nothing.
use Rattle.std.specs.Prelude.{ℕ, ◌+◌, ◌-◌, ◌≡◌, Bool, true, false, ◌&&◌, cond, List, eqb, leb, ltb}
use Rattle.laws.specs.Below.{any_below, all_below, first_below, last_below}
use Rattle.laws.specs.Columns.{number_at}
use Rattle.state_tables.specs.Sound.{is_sound}
use Rattle.state_tables.specs.declared.Gateway.{Gateway}
use Rattle.state_lookup.specs.Links.{known}
use Rattle.state_ranges.specs.Named.{span}

-- x is one of the numbers from first to last, both included
abbrev pub is_from : ℕ → ℕ → ℕ → Bool
is_from first last x = leb first x && leb x last

-- the identifier at place l is one of those from start to stop
unfoldable pub is_inside : List ℕ → ℕ → ℕ → ℕ → Bool
is_inside iid start stop l = is_from start stop (number_at iid l)

-- the first and the last place inside the range, and the number of links where there is none
unfoldable pub first_place : List ℕ → ℕ → ℕ → ℕ → ℕ
first_place iid links start stop = first_below (is_inside iid start stop) links

unfoldable pub last_place : List ℕ → ℕ → ℕ → ℕ → ℕ
last_place iid links start stop = last_below (is_inside iid start stop) links

-- how many places there are from the first to the last
unfoldable pub places_in : List ℕ → ℕ → ℕ → ℕ → ℕ
places_in iid links start stop =
    cond (ltb (first_place iid links start stop) links)
    (last_place iid links start stop + 1 - first_place iid links start stop)
    0

-- x stands at one of them
unfoldable pub stands_in : List ℕ → ℕ → ℕ → ℕ → ℕ → Bool
stands_in iid links start stop x =
    any_below (λ l. is_from (first_place iid links start stop) (last_place iid links start stop) l && eqb (number_at iid l) x) links

-- every identifier from start to stop is known
unfoldable pub all_known : List ℕ → ℕ → ℕ → ℕ → Bool
all_known iid links start stop = all_below (λ i. known iid links (start + i)) (span start stop)

-- What is known of a range stands at the places between its first and its last one, these two included, and
-- nowhere else; without a place inside nothing of it is known; and the whole range is known just where its
-- places are as many as its identifiers.
pub record RangeWalk (iid : List ℕ) (links start stop : ℕ) : Type 0 where
  pub exactly : (x : ℕ) → (is_from start stop x && known iid links x) ≡ stands_in iid links start stop x
  pub none : first_place iid links start stop ≡ links → (x : ℕ) → (is_from start stop x && known iid links x) ≡ false
  pub whole : all_known iid links start stop ≡ eqb (places_in iid links start stop) (span start stop)

-- so for every range on a sound state
abbrev pub RangeWalks : Type 0
RangeWalks = (g : Gateway) → is_sound g ≡ true → (start stop : ℕ) → RangeWalk g.iid g.links start stop
