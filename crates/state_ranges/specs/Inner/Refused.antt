-- The identifiers of a range that are refused, one place after the other.
-- Assumes nothing.
use Rattle.std.specs.Prelude.{ℕ, ◌+◌, ◌-◌, ◌<◌, ◌≤◌, ◌≡◌, refl, Bool, true, false, ◌||◌, ◌&&◌, cond, List, eqb, ltb}
use Rattle.std.proofs.Common.{◌∙◌}
use Rattle.std.proofs.Math.Path.{sym, fun_ext}
use Rattle.std.proofs.Math.Bool.{not}
use Rattle.std.proofs.lemmas.Bool.{false≢true}
use native.Mathlib.Omega.{arith}
use Rattle.std.proofs.Math.Decide.{dec_lt, ℕ_discrete}
use borrow.Author.Tests.{eq-eqb, ne_eqb, lt-ltb, le-ltb}
use Rattle.laws.specs.Below.{first_below}
use Rattle.laws.specs.Inner.Below.{first_none, first_more, first_at}
use Rattle.laws.specs.Columns.{flag_at, number_at, is_set}
use Rattle.laws.specs.Inner.Rank.{first_not}
use Rattle.state_tables.specs.Sound.{pair}
use Rattle.state_lookup.specs.Links.{index_of, known}
use Rattle.state_lookup.specs.Inner.Links.{rank, index_here, index_not}
use Rattle.state_ranges.specs.Named.{owner_by_id, is_refused, span, nothing, refusing, first_in}
use Rattle.state_lookup.specs.Inner.Table.{Table}
use Rattle.state_ranges.specs.Inner.Laws.{owner_small}

-- x is unknown, or the flag of its AS is not set in mine
unfoldable pub refused_by : List ℕ → List ℕ → ℕ → List Bool → ℕ → Bool
refused_by iid owner links mine x = not (known iid links x && flag_at mine (owner_by_id iid owner links x))

-- where the flags are those of p's ASes, this is the rule's
pub refused_by_lem : (iid owner member : List ℕ) (links p : ℕ) (mine : List Bool) → Table iid owner links → ((a : ℕ) → a < 16 → flag_at mine a ≡ is_set member (pair a p)) → refused_by iid owner links mine ≡ is_refused iid owner member links p
unfolding refused_by is_refused known owner_by_id
refused_by_lem iid owner member links p mine t h = fun_ext at
  where
    go : (x : ℕ) → Dec (index_of iid links x < links) → refused_by iid owner links mine x ≡ is_refused iid owner member links p x
    go x (yes b) = rw (h (number_at owner (index_of iid links x)) (owner_small iid owner links t (index_of iid links x) b))
    go x (no b) = rw (le-ltb (index_of iid links x) links (omega arith))

    at : (x : ℕ) → refused_by iid owner links mine x ≡ is_refused iid owner member links p x
    at x = go x (dec_lt (index_of iid links x) links)

-- ---- one identifier: l is the rank of x

module _ (iid owner : List ℕ) (links : ℕ) (t : Table iid owner links) (mine : List Bool) (l x : ℕ) (e : l ≡ rank iid links x) where
  -- the link at l decides whether x is refused
  pub refused_here : l < links → (not (eqb (number_at iid l) x) || not (flag_at mine (number_at owner l))) ≡ refused_by iid owner links mine x
  unfolding refused_by owner_by_id known
  refused_here b = go (ℕ_discrete (number_at iid l) x)
    where
      go : Dec (number_at iid l ≡ x) → (not (eqb (number_at iid l) x) || not (flag_at mine (number_at owner l))) ≡ not (ltb (index_of iid links x) links && flag_at mine (number_at owner (index_of iid links x)))
      go (yes z) =
          let i : index_of iid links x ≡ l = index_here iid links t.order x (rw e at b) (rw e at z) ∙ sym e in
          rw (eq-eqb (number_at iid l) x z, i, lt-ltb l links b)
      go (no z) =
          let i : index_of iid links x ≡ links = index_not iid links t.order x (λ c w. z (rw (sym e) at w)) in
          rw (ne_eqb (number_at iid l) x z, i, le-ltb links links (omega arith))

  -- past the last link nothing is known
  pub refused_past : links ≤ l → refused_by iid owner links mine x ≡ true
  unfolding refused_by known
  refused_past b =
      let i : index_of iid links x ≡ links = index_not iid links t.order x (λ c w. omega arith) in
      rw (i, le-ltb links links (omega arith))

  module _ (f : refused_by iid owner links mine x ≡ false) where
    -- one that is not refused stands at l
    pub within : l < links
    within = go (dec_lt l links)
      where
        go : Dec (l < links) → l < links
        go (yes b) = b
        go (no b) = absurd (false≢true (sym f ∙ refused_past (omega arith)))

    pub stands : number_at iid l ≡ x
    stands = go (ℕ_discrete (number_at iid l) x)
      where
        go : Dec (number_at iid l ≡ x) → number_at iid l ≡ x
        go (yes z) = z
        go (no z) =
            let w : true ≡ refused_by iid owner links mine x = rw (ne_eqb (number_at iid l) x z) at (refused_here within) in
            absurd (false≢true (sym f ∙ sym w))

-- a known one whose AS is in mine is not refused
pub good_known : (iid owner : List ℕ) (links : ℕ) (mine : List Bool) (x : ℕ) → known iid links x ≡ true → flag_at mine (owner_by_id iid owner links x) ≡ true → refused_by iid owner links mine x ≡ false
unfolding refused_by
good_known iid owner links mine x k f = rw (k, f)

-- ---- what the walk has found

-- nothing bad from start up to x
pub record Good (bad : ℕ → Bool) (start x : ℕ) : Type 0 where
  pub none : first_below (λ i. bad (start + i)) (x - start) ≡ x - start

module _ (bad : ℕ → Bool) (start x : ℕ) (b : start ≤ x) (h : Good bad start x) where
  pub good_more : bad x ≡ false → Good bad start (x + 1)
  good_more e =
      let z : x + 1 - start ≡ x - start + 1 = omega arith in
      let w : start + (x - start) ≡ x = omega arith in
      record { none = rw z (first_more (λ i. bad (start + i)) (x - start) h.none (rw w e)) }

  pub refuses_at : (stop : ℕ) → x ≤ stop → bad x ≡ true → refusing x ≡ first_in bad start stop
  unfolding first_in
  refuses_at stop c e =
      let w : start + (x - start) ≡ x = omega arith in
      let f : first_below (λ i. bad (start + i)) (span start stop) ≡ x - start = first_at (λ i. bad (start + i)) (x - start) (span start stop) h.none (rw w e) (omega arith) in
      rw (f, lt-ltb (x - start) (span start stop) (omega arith), w)

pub good_none : (bad : ℕ → Bool) (start : ℕ) → Good bad start start
good_none bad start = let z : start - start ≡ 0 = omega arith in record { none = rw z (first_none (λ i. bad (start + i))) }

-- stop is included: nothing is refused once stop itself is good
pub none_refused : (bad : ℕ → Bool) (start x stop : ℕ) → x ≡ stop → Good bad start (x + 1) → nothing ≡ first_in bad start stop
unfolding first_in
none_refused bad start x stop e h =
    let f : first_below (λ i. bad (start + i)) (span start stop) ≡ span start stop = rw e at h.none in
    rw (f, le-ltb (span start stop) (span start stop) (omega arith))

-- a range that ends before it starts names nothing
pub empty_range : (bad : ℕ → Bool) (start stop : ℕ) → stop < start → nothing ≡ first_in bad start stop
unfolding first_in
empty_range bad start stop h = let z : stop + 1 - start ≡ 0 = omega arith in rw (z, first_none (λ i. bad (start + i)))

-- nothing is refused where each is good
pub all_good : (bad : ℕ → Bool) (start stop : ℕ) → ((x : ℕ) → start ≤ x → x ≤ stop → bad x ≡ false) → nothing ≡ first_in bad start stop
unfolding first_in
all_good bad start stop h =
    let f : first_below (λ i. bad (start + i)) (span start stop) ≡ span start stop = first_not (λ i. bad (start + i)) (span start stop) (λ i q. h (start + i) (omega arith) (omega arith)) in
    rw (f, le-ltb (span start stop) (span start stop) (omega arith))

-- what finds nothing is the answer that refuses nothing
pub not_found : (bad : ℕ → Bool) (start stop : ℕ) → (first_in bad start stop).found ≡ false → first_in bad start stop ≡ nothing
unfolding first_in
not_found bad start stop = go (ltb (first_below (λ i. bad (start + i)) (span start stop)) (span start stop))
  where
    go : (u : Bool) → (cond u (refusing (start + first_below (λ i. bad (start + i)) (span start stop))) nothing).found ≡ false → cond u (refusing (start + first_below (λ i. bad (start + i)) (span start stop))) nothing ≡ nothing
    go true e = absurd (false≢true (sym e))
    go false e = refl
