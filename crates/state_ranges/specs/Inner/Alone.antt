-- An identifier alone is a range of one.
-- Assumes nothing.
use Rattle.std.specs.Prelude.{ℕ, ◌+◌, ◌-◌, ◌<◌, ◌≡◌, refl, Bool, true, ◌||◌, ◌&&◌, not, List, eqb, ltb, length, set}
use Rattle.std.specs.Bool.{then_some}
use Rattle.std.proofs.Common.{◌∙◌, sym, arith, length-set, get_or-set_same, get_or-set_other}
use Rattle.std.proofs.Math.Bool.{false}
use Rattle.std.proofs.Math.Decide.{ℕ_discrete}
use borrow.Author.Tests.{eq-eqb, ne_eqb, lt-ltb, le-ltb, ltb-true, eqb-true}
use Rattle.laws.specs.Below.{any_below}
use Rattle.laws.specs.Columns.{flag_at, number_at, tabulate}
use Rattle.laws.specs.Inner.Columns.{is_tabulate}
use Rattle.laws.specs.Inner.Every.{and_left, and_right, clash}
use Rattle.state_lookup.specs.Links.{index_of, known}
use Rattle.state_lookup.specs.Inner.Links.{rank, index_own, index_not}
use Rattle.state_ranges.specs.Named.{owner_by_id, is_owned_by, nothing, refusing, first_in, some_in}
use Rattle.state_lookup.specs.Inner.Table.{Table}
use Rattle.state_ranges.specs.Inner.Names.{as_refused}
use Rattle.state_ranges.specs.Inner.Refused.{refused_by, refused_here, good_none, good_more, refuses_at, none_refused}

or_none : (u : Bool) → u ≡ (u || false)
or_none true = refl
or_none false = refl

or_true : (u : Bool) → true ≡ (u || true)
or_true true = refl
or_true false = refl

pub alone_refused : (bad : ℕ → Bool) (x : ℕ) → bad x ≡ true → refusing x ≡ first_in bad x x
alone_refused bad x e = refuses_at bad x x (omega arith) (good_none bad x) x (omega arith) e

pub alone_good : (bad : ℕ → Bool) (x : ℕ) → bad x ≡ false → nothing ≡ first_in bad x x
alone_good bad x e = none_refused bad x x x refl (good_more bad x x (omega arith) (good_none bad x) e)

alone_some : (good : ℕ → Bool) (x : ℕ) → some_in good x x ≡ good x
unfolding some_in any_below
alone_some good x =
    let z : x + 1 - x ≡ 1 = omega arith in
    let y : x + 0 ≡ x = omega arith in
    rw (z, y)

-- where it stands at l, it adds the flag of the owner o
pub alone_marked : (iid owner : List ℕ) (links : ℕ) → Table iid owner links → (l x o : ℕ) → l < links → number_at iid l ≡ x → o ≡ number_at owner l → (r : List Bool) → length r ≡ 16 → set r o true ≡ tabulate 16 (λ a. flag_at r a || some_in (is_owned_by iid owner links a) x x)
unfolding is_owned_by owner_by_id known
alone_marked iid owner links t l x o b z k r n =
    is_tabulate false (set r o true) 16 (λ a. flag_at r a || some_in (is_owned_by iid owner links a) x x) (length-set r o true ∙ n)
    (λ a c. rw (alone_some (is_owned_by iid owner links a) x, owned a) (go a c (ℕ_discrete a o)))
  where
    owned : (a : ℕ) → is_owned_by iid owner links a x ≡ eqb o a
    owned a = let i : index_of iid links x ≡ l = rw z at (index_own iid links t.order l b) in rw (i, lt-ltb l links b, k)

    go : (a : ℕ) → a < 16 → Dec (a ≡ o) → flag_at (set r o true) a ≡ (flag_at r a || eqb o a)
    go a c (yes e) = rw (e, eq-eqb o o refl) (get_or-set_same r o true false (omega (arith, n)) ∙ or_true (flag_at r o))
    go a c (no e) = get_or-set_other r o a true false e ∙ rw (ne_eqb o a (λ w. e (sym w))) (or_none (flag_at r a))

-- where it stands nowhere, it is refused and adds none
module _ (iid owner : List ℕ) (links : ℕ) (t : Table iid owner links) (l x : ℕ) (e : l ≡ rank iid links x) (n : (ltb l links && eqb (number_at iid l) x) ≡ false) where
  nowhere : index_of iid links x ≡ links
  nowhere = index_not iid links t.order x (λ b z. out (rw (sym e) at b) (rw (sym e) at z))
    where
      out : l < links → number_at iid l ≡ x → ⊥
      out b z = clash (ltb l links && eqb (number_at iid l) x) n (rw (lt-ltb l links b, eq-eqb (number_at iid l) x z))

  pub absent_refused : (mine : List Bool) → refusing x ≡ first_in (refused_by iid owner links mine) x x
  unfolding refused_by known
  absent_refused mine = alone_refused (refused_by iid owner links mine) x (rw (nowhere, le-ltb links links (omega arith)))

  pub absent_none : (r : List Bool) → length r ≡ 16 → r ≡ tabulate 16 (λ a. flag_at r a || some_in (is_owned_by iid owner links a) x x)
  unfolding is_owned_by known
  absent_none r k =
      is_tabulate false r 16 (λ a. flag_at r a || some_in (is_owned_by iid owner links a) x x) k
      (λ a c. rw (alone_some (is_owned_by iid owner links a) x, nowhere, le-ltb links links (omega arith)) (or_none (flag_at r a)))

-- where it stands at l, its AS decides
module _ (iid owner : List ℕ) (links : ℕ) (t : Table iid owner links) (mine : List Bool) (l x : ℕ) (e : l ≡ rank iid links x) (b : l < links) (z : number_at iid l ≡ x) where
  by_owner : refused_by iid owner links mine x ≡ not (flag_at mine (number_at owner l))
  by_owner = sym (refused_here iid owner links t mine l x e b) ∙ rw (eq-eqb (number_at iid l) x z)

  pub present_good : flag_at mine (number_at owner l) ≡ true → nothing ≡ first_in (refused_by iid owner links mine) x x
  present_good f = alone_good (refused_by iid owner links mine) x (by_owner ∙ rw f)

  pub present_refused : flag_at mine (number_at owner l) ≡ false → refusing x ≡ first_in (refused_by iid owner links mine) x x
  present_refused f = alone_refused (refused_by iid owner links mine) x (by_owner ∙ rw f)

  -- both, as code has it: v says whether mine has its AS
  pub present_refusal : (v : Bool) → v ≡ flag_at mine (number_at owner l) → as_refused (then_some (not v) x) ≡ first_in (refused_by iid owner links mine) x x
  present_refusal true f = present_good (sym f)
  present_refusal false f = present_refused (sym f)

-- it stands there by a test
pub stands_at : (iid : List ℕ) (links l x : ℕ) → (ltb l links && eqb (number_at iid l) x) ≡ true → (l < links) × (number_at iid l ≡ x)
stands_at iid links l x h = (ltb-true l links (and_left (ltb l links) (eqb (number_at iid l) x) h), eqb-true (number_at iid l) x (and_right (ltb l links) (eqb (number_at iid l) x) h))
