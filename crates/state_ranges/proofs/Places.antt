-- The places inside a range are those from the rank of its start up to the rank past its stop; the theorem of
-- specs/Places.antt follows from the ascending order.
-- Assumes nothing.
use Prim.Native.Nat.{ℕ, zero, suc, ◌+◌, ◌-◌, ◌<◌, ◌≤◌}
use Rattle.std.specs.Prelude.{◌≡◌, Bool, false, ◌&&◌, List, leb, ltb}
use Rattle.std.proofs.Math.Path.{refl}
use Rattle.std.proofs.Common.{◌∙◌, sym}
use Rattle.std.proofs.Math.Bool.{true, cond}
use native.Mathlib.Omega.{arith}
use Rattle.std.proofs.Math.Nat.{add-zero}
use Rattle.std.proofs.Math.Decide.{dec_lt}
use Rattle.std.proofs.Math.Dec.{eqb}
use borrow.Author.Tests.{eq-eqb, lt-ltb, le-ltb, le-leb, ltb-true, leb-true, eqb-true}
use Rattle.laws.specs.Below.{any_below, count_below, one}
use Rattle.laws.specs.Inner.Below.{any_at, any_in, all_at, first_at, count_none}
use Rattle.laws.specs.Columns.{number_at}
use Rattle.laws.specs.Inner.Every.{and_left, and_right, and_both, same_truth, false_of, clash}
use Rattle.laws.specs.Inner.Rank.{first_not, last_at, all_by_count}
use Rattle.state_tables.specs.Sound.{ascends}
use Rattle.state_tables.specs.Inner.Laws.{parts, links_parts}
use Rattle.state_lookup.specs.Links.{index_of, known}
use Rattle.state_lookup.specs.Inner.Links.{rank, rank_most, rank_below, rank_from, index_own, index_is}
use Rattle.state_ranges.specs.Named.{owner_by_id, is_owned_by, span, some_in}
use Rattle.state_ranges.specs.Places.{is_from, is_inside, first_place, last_place, places_in, stands_in, all_known, RangeWalk, RangeWalks}
use Rattle.state_ranges.specs.Inner.Owners.{owns_from}
use Rattle.state_ranges.specs.Inner.Ranks.{rank_here, rank_next, rank_same}

-- ---- numbers of a range

from_true : (first last x : ℕ) → first ≤ x → x ≤ last → is_from first last x ≡ true
from_true first last x p q = and_both (leb first x) (leb x last) (le-leb first x p) (le-leb x last q)

from_first : (first last x : ℕ) → is_from first last x ≡ true → first ≤ x
from_first first last x e = leb-true first x (and_left (leb first x) (leb x last) e)

from_last : (first last x : ℕ) → is_from first last x ≡ true → x ≤ last
from_last first last x e = leb-true x last (and_right (leb first x) (leb x last) e)

-- ---- ranks, one identifier after the other

module _ (iid : List ℕ) (links : ℕ) (h : ascends iid links ≡ true) where
  pub rank_up : (x y : ℕ) → x ≤ y → rank iid links x ≤ rank iid links y
  rank_up x y b = go (dec_lt (rank iid links y) (rank iid links x))
    where
      go : Dec (rank iid links y < rank iid links x) → rank iid links x ≤ rank iid links y
      go (no p) = omega arith
      go (yes p) =
          let m = rank_most iid links h x in
          let w : ⊥ = omega (arith, rank_below iid links h x (rank iid links y) (omega (arith, m)) p, rank_from iid links h y (rank iid links y) (omega (arith, m)) (omega arith)) in
          absurd w

  -- what stands at a place is known
  known_at : (l : ℕ) → l < links → known iid links (number_at iid l) ≡ true
  unfolding known
  known_at l b = rw (index_own iid links h l b) (lt-ltb l links b)

  -- and what is known stands at its index
  known_index : (x : ℕ) → known iid links x ≡ true → index_of iid links x < links
  unfolding known
  known_index x e = ltb-true (index_of iid links x) links e

  -- a known identifier, and only such a one, is one more than were below it
  rank_known : (x : ℕ) → known iid links x ≡ true → rank iid links (x + 1) ≡ rank iid links x + 1
  rank_known x e =
      let l = index_of iid links x in
      let b : l < links = known_index x e in
      let z : number_at iid l ≡ x = index_is iid links x b in
      omega (arith, rank_here iid links h x l b z, rank_next iid links h x l b z)

  rank_unknown : (x : ℕ) → known iid links x ≡ false → rank iid links (x + 1) ≡ rank iid links x
  rank_unknown x e = sym (rank_same iid links h x (rank iid links x) refl (λ b z. clash (known iid links x) e (rw z at (known_at (rank iid links x) b))))

  -- so a rank counts the known identifiers passed
  rank_count : (start n : ℕ) → rank iid links (start + n) ≡ rank iid links start + count_below (λ i. known iid links (start + i)) n
  unfolding count_below
  rank_count start zero = rw (add-zero start, add-zero (rank iid links start))
  rank_count start (suc n) = go (known iid links (start + n)) refl (rank_count start n)
    where
      next : start + suc n ≡ start + n + 1
      next = omega arith

      go : (u : Bool) → known iid links (start + n) ≡ u → rank iid links (start + n) ≡ rank iid links start + count_below (λ i. known iid links (start + i)) n → rank iid links (start + suc n) ≡ rank iid links start + (count_below (λ i. known iid links (start + i)) n + one (known iid links (start + n)))
      go true e g = rw (next, e) (rank_known (start + n) e ∙ omega (arith, g))
      go false e g = rw (next, e) (rank_unknown (start + n) e ∙ omega (arith, g))

-- ---- the places inside a range

module _ (iid : List ℕ) (links : ℕ) (h : ascends iid links ≡ true) (start stop : ℕ) where
  abbrev first : ℕ
  first = rank iid links start

  abbrev past : ℕ
  past = rank iid links (stop + 1)

  past_most : past ≤ links
  past_most = rank_most iid links h (stop + 1)

  -- whose identifier is inside: those from first on, before past
  inside_at : (l : ℕ) → l < links → first ≤ l → l < past → is_inside iid start stop l ≡ true
  unfolding is_inside
  inside_at l b p q =
      from_true start stop (number_at iid l) (rank_from iid links h start l b p) (omega (arith, rank_below iid links h (stop + 1) l b q))

  inside_first : (l : ℕ) → l < links → is_inside iid start stop l ≡ true → first ≤ l
  unfolding is_inside
  inside_first l b e = go (dec_lt l first)
    where
      go : Dec (l < first) → first ≤ l
      go (no p) = omega arith
      go (yes p) = let w : ⊥ = omega (arith, rank_below iid links h start l b p, from_first start stop (number_at iid l) e) in absurd w

  inside_past : (l : ℕ) → l < links → is_inside iid start stop l ≡ true → l < past
  unfolding is_inside
  inside_past l b e = go (dec_lt l past)
    where
      go : Dec (l < past) → l < past
      go (yes p) = p
      go (no p) = let w : ⊥ = omega (arith, rank_from iid links h (stop + 1) l b (omega arith), from_last start stop (number_at iid l) e) in absurd w

  outside : (l : ℕ) → l < links → (first ≤ l → l < past → ⊥) → is_inside iid start stop l ≡ false
  outside l b g = false_of (is_inside iid start stop l) (λ e. g (inside_first l b e) (inside_past l b e))

  pub first_place_lem : rank iid links start < rank iid links (stop + 1) → first_place iid links start stop ≡ rank iid links start
  unfolding first_place
  first_place_lem b =
      let m = past_most in
      first_at (is_inside iid start stop) first links
      (first_not (is_inside iid start stop) first (λ i q. outside i (omega arith) (λ p r. omega arith)))
      (inside_at first (omega arith) (omega arith) b) (omega arith)

  pub last_place_lem : rank iid links start < rank iid links (stop + 1) → last_place iid links start stop + 1 ≡ rank iid links (stop + 1)
  unfolding last_place
  last_place_lem b =
      let m = past_most in
      let e : last_place iid links start stop ≡ past - 1 = last_at (is_inside iid start stop) links (past - 1) (omega arith) (inside_at (past - 1) (omega arith) (omega arith) (omega arith)) (λ i p q. outside i q (λ r s. omega arith)) in
      omega (arith, e)

  pub no_place : rank iid links (stop + 1) ≤ rank iid links start → first_place iid links start stop ≡ links
  unfolding first_place
  no_place b = first_not (is_inside iid start stop) links (λ i q. outside i q (λ r s. omega arith))

  pub places_are : places_in iid links start stop ≡ rank iid links (stop + 1) - rank iid links start
  unfolding places_in
  places_are = go (dec_lt first past)
    where
      go : Dec (first < past) → cond (ltb (first_place iid links start stop) links) (last_place iid links start stop + 1 - first_place iid links start stop) 0 ≡ past - first
      go (yes b) = let m = past_most in rw (first_place_lem b, last_place_lem b, lt-ltb first links (omega arith))
      go (no b) = rw (no_place (omega arith), le-ltb links links (omega arith)) (omega arith)

  -- ---- the theorem

  -- a place inside is one from the first to the last
  stands_at : (l : ℕ) → first ≤ l → l < past → stands_in iid links start stop (number_at iid l) ≡ true
  unfolding stands_in
  stands_at l p q =
      let m = past_most in
      let b : first < past = omega arith in
      any_in (λ i. is_from (first_place iid links start stop) (last_place iid links start stop) i && eqb (number_at iid i) (number_at iid l)) links l (omega arith)
      (and_both (is_from (first_place iid links start stop) (last_place iid links start stop) l) (eqb (number_at iid l) (number_at iid l))
      (from_true (first_place iid links start stop) (last_place iid links start stop) l (omega (arith, first_place_lem b)) (omega (arith, last_place_lem b)))
      (eq-eqb (number_at iid l) (number_at iid l) refl))

  -- and such a one is inside
  stands_place : (x : ℕ) → stands_in iid links start stop x ≡ true → (l : ℕ) × (l < links) × (first ≤ l) × (l < past) × (number_at iid l ≡ x)
  unfolding stands_in
  stands_place x e =
      let t = any_at (λ l. is_from (first_place iid links start stop) (last_place iid links start stop) l && eqb (number_at iid l) x) links e in
      go t.0 t.1 t.2 (dec_lt first past)
    where
      go : (l : ℕ) → l < links → (is_from (first_place iid links start stop) (last_place iid links start stop) l && eqb (number_at iid l) x) ≡ true → Dec (first < past) → (l : ℕ) × (l < links) × (first ≤ l) × (l < past) × (number_at iid l ≡ x)
      go l b r (yes d) =
          let f = and_left (is_from (first_place iid links start stop) (last_place iid links start stop) l) (eqb (number_at iid l) x) r in
          (l, b, omega (arith, first_place_lem d, from_first (first_place iid links start stop) (last_place iid links start stop) l f), omega (arith, last_place_lem d, from_last (first_place iid links start stop) (last_place iid links start stop) l f), eqb-true (number_at iid l) x (and_right (is_from (first_place iid links start stop) (last_place iid links start stop) l) (eqb (number_at iid l) x) r))
      go l b r (no d) =
          let f = and_left (is_from (first_place iid links start stop) (last_place iid links start stop) l) (eqb (number_at iid l) x) r in
          let w : ⊥ = omega (arith, no_place (omega arith), from_first (first_place iid links start stop) (last_place iid links start stop) l f) in
          absurd w

  -- a known identifier of the range stands at such a place
  between : (x : ℕ) → (is_from start stop x && known iid links x) ≡ true → (first ≤ index_of iid links x) × (index_of iid links x < past) × (number_at iid (index_of iid links x) ≡ x)
  unfolding is_inside
  between x e =
      let b = known_index iid links h x (and_right (is_from start stop x) (known iid links x) e) in
      let z = index_is iid links x b in
      let i : is_inside iid start stop (index_of iid links x) ≡ true = rw z (and_left (is_from start stop x) (known iid links x) e) in
      (inside_first (index_of iid links x) b i, inside_past (index_of iid links x) b i, z)

  places_count : past - first ≡ count_below (λ i. known iid links (start + i)) (span start stop)
  places_count = go (dec_lt (stop + 1) start)
    where
      go : Dec (stop + 1 < start) → past - first ≡ count_below (λ i. known iid links (start + i)) (span start stop)
      go (yes b) =
          let z : stop + 1 - start ≡ 0 = omega arith in
          rw (z, count_none (λ i. known iid links (start + i))) (omega (arith, rank_up iid links h (stop + 1) start (omega arith)))
      go (no b) =
          let z : start + (stop + 1 - start) ≡ stop + 1 = omega arith in
          omega (arith, rw z at (rank_count iid links h start (stop + 1 - start)))

  pub walk_holds : RangeWalk iid links start stop
  unfolding all_known
  walk_holds =
      record {
        exactly = λ x. same_truth (is_from start stop x && known iid links x) (stands_in iid links start stop x) (to x) (from x);
        none = λ e x. false_of (is_from start stop x && known iid links x) (nowhere e x (dec_lt first past));
        whole = all_by_count (λ i. known iid links (start + i)) (span start stop) ∙ rw (places_are, places_count);
      }
    where
      to : (x : ℕ) → (is_from start stop x && known iid links x) ≡ true → stands_in iid links start stop x ≡ true
      to x e = let t = between x e in rw t.2 at (stands_at (index_of iid links x) t.0 t.1)

      from : (x : ℕ) → stands_in iid links start stop x ≡ true → (is_from start stop x && known iid links x) ≡ true
      from x e =
          let t = stands_place x e in
          rw t.4 at (and_both (is_from start stop (number_at iid t.0)) (known iid links (number_at iid t.0)) (from_true start stop (number_at iid t.0) (rank_from iid links h start t.0 t.1 t.2) (omega (arith, rank_below iid links h (stop + 1) t.0 t.1 t.3))) (known_at iid links h t.0 t.1))

      nowhere : first_place iid links start stop ≡ links → (x : ℕ) → Dec (first < past) → (is_from start stop x && known iid links x) ≡ true → ⊥
      nowhere e x (yes b) r = omega (arith, e, first_place_lem b, past_most)
      nowhere e x (no b) r = let t = between x r in omega (arith, t.0, t.1)

  -- ---- what the code's proofs go by, from the theorem

  -- as many places as identifiers: all are known
  pub whole_known : rank iid links (stop + 1) - rank iid links start ≡ span start stop → (x : ℕ) → start ≤ x → x ≤ stop → known iid links x ≡ true
  unfolding all_known
  whole_known e x p q =
      let z : start + (x - start) ≡ x = omega arith in
      let w : all_known iid links start stop ≡ true = walk_holds.whole ∙ eq-eqb (places_in iid links start stop) (span start stop) (places_are ∙ e) in
      rw z at (all_at (λ i. known iid links (start + i)) (span start stop) w (x - start) (omega arith))

  -- a known one stands between
  pub index_between : (x : ℕ) → start ≤ x → x ≤ stop → known iid links x ≡ true → (rank iid links start ≤ index_of iid links x) × (index_of iid links x < rank iid links (stop + 1))
  index_between x p q e =
      let t = stands_place x (sym (walk_holds.exactly x) ∙ and_both (is_from start stop x) (known iid links x) (from_true start stop x p q) e) in
      let i : index_of iid links x ≡ t.0 = rw t.4 at (index_own iid links h t.0 t.1) in
      (omega (arith, t.2), omega (arith, t.3))

  -- so the owners of the known ones are those of the places between
  pub owned_between : (owner : List ℕ) (a : ℕ) → some_in (is_owned_by iid owner links a) start stop ≡ any_below (owns_from owner (rank iid links start) a) (rank iid links (stop + 1))
  unfolding some_in is_owned_by owner_by_id owns_from
  owned_between owner a =
      same_truth (any_below (λ i. is_owned_by iid owner links a (start + i)) (span start stop)) (any_below (owns_from owner first a) past)
      (λ e. let y = any_at (λ i. is_owned_by iid owner links a (start + i)) (span start stop) e in to y.0 y.1 y.2)
      (λ e. let y = any_at (owns_from owner first a) past e in from y.0 y.1 y.2)
    where
      to : (i : ℕ) → i < span start stop → (known iid links (start + i) && eqb (number_at owner (index_of iid links (start + i))) a) ≡ true → any_below (owns_from owner first a) past ≡ true
      to i b e =
          let l = index_of iid links (start + i) in
          let t = index_between (start + i) (omega arith) (omega arith) (and_left (known iid links (start + i)) (eqb (number_at owner l) a) e) in
          any_in (owns_from owner first a) past l t.1
          (and_both (leb first l) (eqb (number_at owner l) a) (le-leb first l t.0) (and_right (known iid links (start + i)) (eqb (number_at owner l) a) e))

      from : (l : ℕ) → l < past → (leb first l && eqb (number_at owner l) a) ≡ true → any_below (λ i. is_owned_by iid owner links a (start + i)) (span start stop) ≡ true
      from l b e =
          let m = past_most in
          let x = number_at iid l in
          let p : first ≤ l = leb-true first l (and_left (leb first l) (eqb (number_at owner l) a) e) in
          let r : (is_from start stop x && known iid links x) ≡ true = walk_holds.exactly x ∙ stands_at l p b in
          let f = and_left (is_from start stop x) (known iid links x) r in
          let c : start ≤ x = from_first start stop x f in
          let d : x ≤ stop = from_last start stop x f in
          let z : start + (x - start) ≡ x = omega arith in
          let i : index_of iid links x ≡ l = index_own iid links h l (omega arith) in
          any_in (λ i. is_owned_by iid owner links a (start + i)) (span start stop) (x - start) (omega arith)
          (rw z (and_both (known iid links x) (eqb (number_at owner (index_of iid links x)) a) (and_right (is_from start stop x) (known iid links x) r) (rw i (and_right (leb first l) (eqb (number_at owner l) a) e))))

-- ---- on a sound state

pub range_walk : RangeWalks
range_walk g h =
    walk_holds g.iid g.links (links_parts g.iid g.owner g.state g.ases g.links (parts g h).in_links).order
