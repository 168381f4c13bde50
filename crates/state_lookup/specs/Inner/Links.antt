-- Laws of specs/Links.antt, and definitions that only code and proofs use.
-- Assumes nothing.
use Prim.Native.Nat.{ℕ, ◌+◌, ◌-◌, ◌*◌, ◌/◌, ◌<◌, ◌≤◌}
use Rattle.std.specs.Prelude.{◌≡◌, refl, true, false, ◌&&◌, min, List}
use Rattle.std.proofs.Math.Nat.{min-eq_left, min-eq_right}
use Rattle.std.proofs.Common.{ap, ◌∙◌, arith}
use Rattle.std.proofs.Math.Path.{sym}
use Rattle.std.proofs.Math.Bool.{Bool}
use Rattle.std.proofs.Math.Decide.{dec_lt, ℕ_discrete}
use Rattle.std.proofs.Math.Dec.{eqb, ltb}
use borrow.Author.Tests.{eq-eqb, ne_eqb, lt-ltb, le-ltb, ltb-true, ltb-false, eqb-true}
use Rattle.laws.specs.Below.{first_below, count_below}
use Rattle.laws.specs.Inner.Below.{first_at, count_small}
use Rattle.laws.specs.Columns.{number_at}
use Rattle.laws.specs.Inner.Rank.{count_prefix, count_all, count_split, count_rest, first_not, first_hit}
use Rattle.laws.specs.Inner.Every.{count_not, and_left, and_right, clash}
use Rattle.state_tables.specs.Sound.{ascends}
use Rattle.state_tables.specs.Inner.Laws.{ascends_any}
use Rattle.state_lookup.specs.Links.{index_of}

-- how many identifiers are below x: where x stands among them, or would
unfoldable pub rank : List ℕ → ℕ → ℕ → ℕ
rank iid links x = count_below (λ l. ltb (number_at iid l) x) links

-- ---- laws, by the ascending order

module _ (iid : List ℕ) (links : ℕ) (h : ascends iid links ≡ true) (x : ℕ) where
  pub rank_most : rank iid links x ≤ links
  unfolding rank
  rank_most = count_small (λ l. ltb (number_at iid l) x) links

  rank_at : (l : ℕ) → l < links → ltb (number_at iid l) x ≡ ltb l (rank iid links x)
  unfolding rank
  rank_at = count_prefix (λ l. ltb (number_at iid l) x) links (λ i j p q e. lt-ltb (number_at iid i) x (omega (arith, ascends_any iid links h i j p q, ltb-true (number_at iid j) x e)))

  -- those before the rank are below x, the others not
  pub rank_below : (l : ℕ) → l < links → l < rank iid links x → number_at iid l < x
  rank_below l b c = ltb-true (number_at iid l) x (rank_at l b ∙ lt-ltb l (rank iid links x) c)

  pub rank_from : (l : ℕ) → l < links → rank iid links x ≤ l → x ≤ number_at iid l
  rank_from l b c = ltb-false (number_at iid l) x (rank_at l b ∙ le-ltb l (rank iid links x) c)

  -- x stands at its rank, or nowhere
  pub index_here : rank iid links x < links → number_at iid (rank iid links x) ≡ x → index_of iid links x ≡ rank iid links x
  unfolding index_of
  index_here b e =
      first_at (λ l. eqb (number_at iid l) x) (rank iid links x) links
      (first_not (λ l. eqb (number_at iid l) x) (rank iid links x) (λ i q. ne_eqb (number_at iid i) x (λ z. omega (arith, rank_below i (omega arith) q))))
      (eq-eqb (number_at iid (rank iid links x)) x e) b

  pub index_not : (rank iid links x < links → number_at iid (rank iid links x) ≡ x → ⊥) → index_of iid links x ≡ links
  unfolding index_of
  index_not g = first_not (λ l. eqb (number_at iid l) x) links (λ i q. ne_eqb (number_at iid i) x (go i q (dec_lt i (rank iid links x)) (ℕ_discrete i (rank iid links x))))
    where
      go : (i : ℕ) → i < links → Dec (i < rank iid links x) → Dec (i ≡ rank iid links x) → number_at iid i ≡ x → ⊥
      go i q (yes l) d z = omega (arith, rank_below i q l)
      go i q (no l) (yes d) z = g (omega arith) (ap (number_at iid) (sym d) ∙ z)
      go i q (no l) (no d) z = omega (arith, rank_from (rank iid links x) (omega arith) (omega arith), ascends_any iid links h (rank iid links x) i (omega arith) q)

  -- the same of a number that is the rank, by the test
  pub index_stands : (l : ℕ) → l ≡ rank iid links x → (ltb l links && eqb (number_at iid l) x) ≡ true → (l ≡ index_of iid links x) × (l < links)
  index_stands l e h =
      let b : l < links = ltb-true l links (and_left (ltb l links) (eqb (number_at iid l) x) h) in
      let z : number_at iid l ≡ x = eqb-true (number_at iid l) x (and_right (ltb l links) (eqb (number_at iid l) x) h) in
      (e ∙ sym (index_here (rw e at b) (rw e at z)), b)

  pub index_stands_not : (l : ℕ) → l ≡ rank iid links x → (ltb l links && eqb (number_at iid l) x) ≡ false → links ≡ index_of iid links x
  index_stands_not l e h = sym (index_not (λ b z. out (rw (sym e) at b) (rw (sym e) at z)))
    where
      out : l < links → number_at iid l ≡ x → ⊥
      out b z = clash (ltb l links && eqb (number_at iid l) x) h (rw (lt-ltb l links b, eq-eqb (number_at iid l) x z))

-- ---- the search: of every eighth identifier k are below x, so the rank lies in the last eighth of these

module _ (iid : List ℕ) (links : ℕ) (h : ascends iid links ≡ true) (x k : ℕ) (e : k ≡ count_below (λ i. ltb (number_at iid (8 * i)) x) ((links + 7) / 8)) where
  pub eighths_most : k ≤ (links + 7) / 8
  eighths_most = rw e (count_small (λ i. ltb (number_at iid (8 * i)) x) ((links + 7) / 8))

  eighth_at : (i : ℕ) → 8 * i < links → ltb (number_at iid (8 * i)) x ≡ ltb i k
  eighth_at i b =
      rw e
      (count_prefix (λ i. ltb (number_at iid (8 * i)) x) ((links + 7) / 8)
      (λ i j p q z. lt-ltb (number_at iid (8 * i)) x (omega (arith, ascends_any iid links h (8 * i) (8 * j) (omega arith) (omega arith), ltb-true (number_at iid (8 * j)) x z)))
      i (omega arith))

  -- none is: none at all
  pub eighths_none : k ≡ 0 → 0 ≡ rank iid links x
  unfolding rank
  eighths_none z = sym (count_not (λ l. ltb (number_at iid l) x) links (λ l b. le-ltb (number_at iid l) x (go l b (ℕ_discrete l 0))))
    where
      first : 0 < links → x ≤ number_at iid 0
      first b = ltb-false (number_at iid 0) x (eighth_at 0 (omega arith) ∙ le-ltb 0 k (omega arith))

      go : (l : ℕ) → l < links → Dec (l ≡ 0) → x ≤ number_at iid l
      go l b (yes w) = rw w (first (omega arith))
      go l b (no w) = omega (arith, first (omega arith), ascends_any iid links h 0 l (omega arith) b)

  -- else those before the last such eighth, and as many as are below x in it
  pub eighths_some : (first n r : ℕ) → (k ≡ 0 → ⊥) → first ≡ 8 * k - 8 → n ≡ min (links - first) 8 → r ≡ count_below (λ j. ltb (number_at iid (first + j)) x) n → first + r ≡ rank iid links x
  unfolding rank
  eighths_some first n r z f m c = rw c (go (dec_lt 8 (links - first)))
    where
      is_below : ℕ → Bool
      is_below l = ltb (number_at iid l) x

      inside : first < links
      inside = omega (arith, eighths_most)

      start : number_at iid first < x
      start =
          let w : 8 * (k - 1) ≡ first = omega arith in
          let b : 8 * (k - 1) < links = omega (arith, inside) in
          rw w at (ltb-true (number_at iid (8 * (k - 1))) x (eighth_at (k - 1) b ∙ lt-ltb (k - 1) k (omega arith)))

      before : count_below is_below first ≡ first
      before = count_all is_below first (λ i q. lt-ltb (number_at iid i) x (omega (arith, start, ascends_any iid links h i first q inside)))

      within : (past : ℕ) → first + n ≡ past → first + count_below (λ j. is_below (first + j)) n ≡ count_below is_below past
      within past w = rw (sym w) (sym (rw before at (count_split is_below first n)))

      after : 8 < links - first → (l : ℕ) → first + 8 ≤ l → l < links → Dec (l ≡ first + 8) → is_below l ≡ false
      after b l p q (yes w) =
          let v : 8 * k ≡ l = omega arith in
          rw v at (eighth_at k (omega arith) ∙ le-ltb k k (omega arith))
      after b l p q (no w) =
          let v : 8 * k ≡ first + 8 = omega arith in
          let y : x ≤ number_at iid (first + 8) = rw v at (ltb-false (number_at iid (8 * k)) x (eighth_at k (omega arith) ∙ le-ltb k k (omega arith))) in
          le-ltb (number_at iid l) x (omega (arith, y, ascends_any iid links h (first + 8) l (omega arith) q))

      go : Dec (8 < links - first) → first + count_below (λ j. is_below (first + j)) n ≡ count_below is_below links
      go (yes b) =
          let w : n ≡ 8 = m ∙ min-eq_right (omega arith) in
          within (first + 8) (rw w) ∙ sym (count_rest is_below (first + 8) links (omega arith) (λ l p q. after b l p q (ℕ_discrete l (first + 8))))
      go (no b) =
          let w : n ≡ links - first = m ∙ min-eq_left (omega arith) in
          within links (omega (arith, inside))

-- the identifier of a link is known, at that link
pub index_own : (iid : List ℕ) (links : ℕ) → ascends iid links ≡ true → (l : ℕ) → l < links → index_of iid links (number_at iid l) ≡ l
unfolding index_of
index_own iid links h l b =
    first_at (λ k. eqb (number_at iid k) (number_at iid l)) l links
    (first_not (λ k. eqb (number_at iid k) (number_at iid l)) l (λ i q. ne_eqb (number_at iid i) (number_at iid l) (λ z. omega (arith, ascends_any iid links h i l q b))))
    (eq-eqb (number_at iid l) (number_at iid l) refl) b

-- what stands at an identifier's index is that identifier
pub index_is : (iid : List ℕ) (links x : ℕ) → index_of iid links x < links → number_at iid (index_of iid links x) ≡ x
unfolding index_of
index_is iid links x h =
    eqb-true (number_at iid (first_below (λ l. eqb (number_at iid l) x) links)) x (first_hit (λ l. eqb (number_at iid l) x) links h)
