-- The index of a link, if an identifier has one.
-- Assumes nothing.
use Rattle.std.specs.Prelude.{ℕ, ◌<◌, ◌≤◌, ◌≡◌, refl, List, Option, Some, None}
use Rattle.std.specs.Option.{unwrap_or, is_some}
use Rattle.std.proofs.Common.{arith, sym, lt-ltb, le-ltb}
use Rattle.state_lookup.specs.Links.{index_of, known}

-- the link with identifier x, and none where its index is the number of links
abbrev pub IndexIs : List ℕ → ℕ → ℕ → Option ℕ → Type 0
IndexIs iid links x (Some l) = (l ≡ index_of iid links x) × (l < links)
IndexIs iid links x None = links ≡ index_of iid links x

-- so it is the index, with the number of links in the place of none
pub index_or : (iid : List ℕ) (links x : ℕ) (r : Option ℕ) → IndexIs iid links x r → unwrap_or r links ≡ index_of iid links x
index_or iid links x (Some l) h = h.0
index_or iid links x None h = h

-- a place of the column, also with 0 in the place of none
pub index_small : (iid : List ℕ) (links x : ℕ) → links ≤ 128 → (r : Option ℕ) → IndexIs iid links x r → unwrap_or r 0 < 128
index_small iid links x few (Some l) h = omega (arith, h.1)
index_small iid links x few None h = omega arith

-- and there is one just where x is known
pub index_known : (iid : List ℕ) (links x : ℕ) (r : Option ℕ) → IndexIs iid links x r → is_some r ≡ known iid links x
unfolding known
index_known iid links x (Some l) h = rw (sym h.0) (sym (lt-ltb l links h.1))
index_known iid links x None h = rw (sym h) (sym (le-ltb links links (omega arith)))
