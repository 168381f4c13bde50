-- An identifier of which a table says where it stands: what it names.
-- Assumes nothing.
use Rattle.std.specs.Prelude.{ℕ, ◌%◌, ◌<◌, ◌≡◌, refl, Bool, false, cond, not, ◌||◌, ◌&&◌, List, Option, ltb, length, set}
use Rattle.std.specs.Bool.{then_some}
use Rattle.std.specs.Option.{option_or}
use Rattle.std.proofs.Common.{ap, ◌∙◌, arith}
use Rattle.std.proofs.Math.Bool.{true}
use Rattle.std.proofs.Math.Dec.{eqb}
use borrow.Author.Tests.{ltb-true, eqb-true}
use Rattle.laws.specs.Columns.{flag_at, number_at, tabulate}
use Rattle.laws.specs.Inner.Every.{and_left, and_right, false_of}
use Rattle.state_lookup.specs.Links.{index_of}
use Rattle.state_lookup.specs.Inner.Links.{rank, index_here, index_is}
use Rattle.state_lookup.specs.Inner.Index.{IndexIs}
use Rattle.state_sets.specs.Inner.Members.{members}
use Rattle.state_ranges.specs.declared.Named.{Named}
use Rattle.state_ranges.specs.Named.{is_owned_by, first_in, some_in}
use Rattle.state_lookup.specs.Inner.Table.{Table}
use Rattle.state_ranges.specs.Inner.Laws.{owner_small}
use Rattle.state_ranges.specs.Inner.Refused.{refused_by}
use Rattle.state_ranges.specs.Inner.Ranks.{rank_here}
use Rattle.state_ranges.specs.Inner.Alone.{alone_marked, absent_refused, absent_none, present_refusal}
use Rattle.state_ranges.specs.Inner.Names.{earlier, as_refused, as_or, Names}

module _ (iid owner : List ℕ) (links : ℕ) (t : Table iid owner links) (mine : List Bool) (x : ℕ) where
  -- what is not known stands nowhere
  nowhere : links ≡ index_of iid links x → (ltb (rank iid links x) links && eqb (number_at iid (rank iid links x)) x) ≡ false
  nowhere n = false_of (ltb (rank iid links x) links && eqb (number_at iid (rank iid links x)) x) out
    where
      out : (ltb (rank iid links x) links && eqb (number_at iid (rank iid links x)) x) ≡ true → ⊥
      out h =
          let b : rank iid links x < links = ltb-true (rank iid links x) links (and_left (ltb (rank iid links x) links) (eqb (number_at iid (rank iid links x)) x) h) in
          let z : number_at iid (rank iid links x) ≡ x = eqb-true (number_at iid (rank iid links x)) x (and_right (ltb (rank iid links x) links) (eqb (number_at iid (rank iid links x)) x) h) in
          let i = index_here iid links t.order x b z in
          omega arith

  -- what x names: a is the owner at its place
  module _ (old : Option ℕ) (flags : List Bool) (n : length flags ≡ 16) (a : ℕ) (r : Named) where
    pub found_names : (known : Bool) (l : ℕ) → IndexIs iid links x (then_some known l) → a ≡ number_at owner l % 16 → r.refused ≡ option_or old (then_some (not (known && flag_at mine a)) x)
        → members r.set ≡ cond known (set flags a true) flags
        → Names r (earlier (as_refused old) (first_in (refused_by iid owner links mine) x x)) (tabulate 16 (λ a. flag_at flags a || some_in (is_owned_by iid owner links a) x x))
    found_names true l h o p q =
        let z : number_at iid l ≡ x = rw h.0 (index_is iid links x (rw h.0 at h.1)) in
        let own : a ≡ number_at owner l = omega (arith, o, owner_small iid owner links t l h.1) in
        record {
          refused = ap as_refused p ∙ as_or old _ ∙ ap (earlier (as_refused old)) (present_refusal iid owner links t mine l x (rank_here iid links t.order x l h.1 z) h.1 z (flag_at mine a) (ap (flag_at mine) own));
          set = q ∙ alone_marked iid owner links t l x a h.1 z own flags n;
        }
    found_names false l h o p q =
        record {
          refused = ap as_refused p ∙ as_or old _ ∙ ap (earlier (as_refused old)) (absent_refused iid owner links t (rank iid links x) x refl (nowhere h) mine);
          set = q ∙ absent_none iid owner links t (rank iid links x) x refl (nowhere h) flags n;
        }
