-- What the places of one range say: its owners, and that none of it is refused.
-- Assumes nothing.
use Rattle.std.specs.Prelude.{ℕ, ◌+◌, ◌-◌, ◌<◌, ◌≤◌, ◌≡◌, refl, Bool, ◌||◌, not, eqb, leb, length}
use Rattle.std.proofs.Math.Path.{ap}
use Rattle.std.proofs.Common.{◌∙◌, sym, arith, eq-eqb, le-leb}
use Rattle.std.proofs.Math.Bool.{true, false, false≢true}
use mathlib.Core.List.{List}
use Rattle.laws.specs.Below.{any_below, all_below}
use Rattle.laws.specs.Inner.Below.{any_none, any_in, all_at}
use Rattle.laws.specs.Columns.{flag_at, number_at, tabulate}
use Rattle.laws.specs.Inner.Columns.{is_tabulate, tabulate_ext, get_d_tabulate}
use Rattle.laws.specs.Inner.Every.{and_both}
use Rattle.state_lookup.specs.Links.{index_of, known}
use Rattle.state_lookup.specs.Inner.Links.{rank, rank_most}
use Rattle.state_ranges.specs.Named.{owner_by_id, is_owned_by, nothing, first_in, some_in}
use Rattle.state_lookup.specs.Inner.Table.{Table}
use Rattle.state_ranges.specs.Inner.Laws.{owner_small}
use Rattle.state_ranges.specs.Inner.Refused.{refused_by, good_known, all_good}
use Rattle.state_ranges.specs.Inner.Owners.{owns_from, or_right}
use Rattle.state_ranges.proofs.Places.{whole_known, index_between, owned_between}

or_none : (u : Bool) → u ≡ (u || false)
or_none true = refl
or_none false = refl

-- one that ends before it starts has no owners
pub no_owners : (good : ℕ → ℕ → Bool) (start stop : ℕ) (old : List Bool) → length old ≡ 16 → stop < start → old ≡ tabulate 16 (λ a. flag_at old a || some_in (good a) start stop)
unfolding some_in
no_owners good start stop old n h =
    let z : stop + 1 - start ≡ 0 = omega arith in
    is_tabulate false old 16 (λ a. flag_at old a || any_below (λ i. good a (start + i)) (stop + 1 - start)) n (λ a b. rw (z, any_none (λ i. good a (start + i))) (or_none (flag_at old a)))

module _ (iid owner : List ℕ) (links : ℕ) (t : Table iid owner links) (start stop first past : ℕ) (f : first ≡ rank iid links start) (p : past ≡ rank iid links (stop + 1)) (old r : List Bool)
    (e : r ≡ tabulate 16 (λ a. flag_at old a || any_below (owns_from owner first a) past)) where
  -- the owners between are those of the known identifiers
  pub owners_range : r ≡ tabulate 16 (λ a. flag_at old a || some_in (is_owned_by iid owner links a) start stop)
  owners_range =
      e
      ∙ tabulate_ext false 16 (λ a. flag_at old a || any_below (owns_from owner first a) past) (λ a. flag_at old a || some_in (is_owned_by iid owner links a) start stop)
      (λ a b. rw (f, p) (ap (λ (u : Bool). flag_at old a || u) (sym (owned_between iid links t.order start stop owner a))))

  -- the owner of a known one is among them
  among : (x : ℕ) → start ≤ x → x ≤ stop → known iid links x ≡ true → flag_at r (number_at owner (index_of iid links x)) ≡ true
  unfolding owns_from
  among x q s k =
      let l = index_of iid links x in
      let i = index_between iid links t.order start stop x q s k in
      let o : number_at owner l < 16 = owner_small iid owner links t l (omega (arith, i.1, rank_most iid links t.order (stop + 1))) in
      ap (λ (z : List Bool). flag_at z (number_at owner l)) e
      ∙ get_d_tabulate 16 (λ a. flag_at old a || any_below (owns_from owner first a) past) (number_at owner l) false o
      ∙ or_right (flag_at old (number_at owner l)) (any_below (owns_from owner first (number_at owner l)) past)
      (any_in (owns_from owner first (number_at owner l)) past l (omega (arith, i.1))
      (and_both (leb first l) (eqb (number_at owner l) (number_at owner l)) (le-leb first l (omega (arith, i.0))) (eq-eqb (number_at owner l) (number_at owner l) refl)))

  -- as many places as identifiers, and all owners in mine: none is refused
  pub range_good : (mine : List Bool) → start ≤ stop → past - first ≡ stop - start + 1 → all_below (λ a. not (flag_at r a) || flag_at mine a) 16 ≡ true → nothing ≡ first_in (refused_by iid owner links mine) start stop
  unfolding owner_by_id
  range_good mine b n w = all_good (refused_by iid owner links mine) start stop one
    where
      implied : (u v : Bool) → (not u || v) ≡ true → u ≡ true → v ≡ true
      implied true v h q = h
      implied false v h q = absurd (let z : ⊥ = false≢true q in z)

      one : (x : ℕ) → start ≤ x → x ≤ stop → refused_by iid owner links mine x ≡ false
      one x q s =
          let k = whole_known iid links t.order start stop (omega (arith, f, p)) x q s in
          let i = index_between iid links t.order start stop x q s k in
          let o : number_at owner (index_of iid links x) < 16 = owner_small iid owner links t (index_of iid links x) (omega (arith, i.1, rank_most iid links t.order (stop + 1))) in
          good_known iid owner links mine x k (implied _ _ (all_at (λ a. not (flag_at r a) || flag_at mine a) 16 w (number_at owner (index_of iid links x)) o) (among x q s k))
