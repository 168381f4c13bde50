-- Ranks, from one identifier to the next.
-- Assumes nothing.
use Rattle.std.specs.Prelude.{ℕ, ◌+◌, ◌-◌, ◌<◌, ◌≤◌, ◌≡◌, true, false, ◌&&◌, List, eqb, leb, ltb}
use Rattle.std.proofs.Common.{arith, eq-eqb, lt-ltb, ltb-true, leb-true, eqb-true}
use Rattle.std.proofs.Math.Decide.{dec_lt}
use Rattle.laws.specs.Columns.{number_at}
use Rattle.laws.specs.Inner.Every.{and_left, and_right, and_both, clash}
use Rattle.state_tables.specs.Sound.{ascends}
use Rattle.state_tables.specs.Inner.Laws.{ascends_any}
use Rattle.state_lookup.specs.Inner.Links.{rank, rank_most, rank_below, rank_from}

module _ (iid : List ℕ) (links : ℕ) (h : ascends iid links ≡ true) (x : ℕ) where
  -- the place where x stands is its rank
  pub rank_here : (l : ℕ) → l < links → number_at iid l ≡ x → l ≡ rank iid links x
  rank_here l b z = go (dec_lt l (rank iid links x)) (dec_lt (rank iid links x) l)
    where
      go : Dec (l < rank iid links x) → Dec (rank iid links x < l) → l ≡ rank iid links x
      go (yes q) d = let w : ⊥ = omega (arith, rank_below iid links h x l b q) in absurd w
      go (no q) (yes d) =
          let w : ⊥ = omega (arith, rank_from iid links h x (rank iid links x) (omega arith) (omega arith), ascends_any iid links h (rank iid links x) l d b) in
          absurd w
      go (no q) (no d) = omega arith

  -- the next identifier has the next rank
  pub rank_next : (l : ℕ) → l < links → number_at iid l ≡ x → l + 1 ≡ rank iid links (x + 1)
  rank_next l b z = go (dec_lt l (rank iid links (x + 1))) (dec_lt (l + 1) (rank iid links (x + 1)))
    where
      go : Dec (l < rank iid links (x + 1)) → Dec (l + 1 < rank iid links (x + 1)) → l + 1 ≡ rank iid links (x + 1)
      go (no p) q = let w : ⊥ = omega (arith, rank_from iid links h (x + 1) l b (omega arith)) in absurd w
      go (yes p) (yes q) =
          let m = rank_most iid links h (x + 1) in
          let w : ⊥ = omega (arith, m, rank_below iid links h (x + 1) (l + 1) (omega arith) q, ascends_any iid links h l (l + 1) (omega arith) (omega arith)) in
          absurd w
      go (yes p) (no q) = omega arith

  -- and the same one where x stands nowhere
  pub rank_same : (l : ℕ) → l ≡ rank iid links x → (l < links → number_at iid l ≡ x → ⊥) → l ≡ rank iid links (x + 1)
  rank_same l e n = go (dec_lt l (rank iid links (x + 1))) (dec_lt (rank iid links (x + 1)) l)
    where
      go : Dec (l < rank iid links (x + 1)) → Dec (rank iid links (x + 1) < l) → l ≡ rank iid links (x + 1)
      go (yes p) d =
          let b : l < links = omega (arith, rank_most iid links h (x + 1)) in
          absurd (n b (omega (arith, rank_below iid links h (x + 1) l b p, rank_from iid links h x l b (omega arith))))
      go (no p) (yes d) =
          let r = rank iid links (x + 1) in
          let b : r < links = omega (arith, rank_most iid links h x) in
          let w : ⊥ = omega (arith, rank_below iid links h x r b (omega arith), rank_from iid links h (x + 1) r b (omega arith)) in
          absurd w
      go (no p) (no d) = omega arith

  -- by the test
  pub rank_at : (l : ℕ) → (ltb l links && eqb (number_at iid l) x) ≡ true → (l ≡ rank iid links x) × (l ≤ links)
  rank_at l e =
      let b : l < links = ltb-true l links (and_left (ltb l links) (eqb (number_at iid l) x) e) in
      (rank_here l b (eqb-true (number_at iid l) x (and_right (ltb l links) (eqb (number_at iid l) x) e)), omega arith)

  -- as many as are not above x
  pub past_at : (l : ℕ) → (ltb l links && eqb (number_at iid l) x) ≡ true → (l + 1 ≡ rank iid links (x + 1)) × (l + 1 ≤ links)
  past_at l e =
      let b : l < links = ltb-true l links (and_left (ltb l links) (eqb (number_at iid l) x) e) in
      (rank_next l b (eqb-true (number_at iid l) x (and_right (ltb l links) (eqb (number_at iid l) x) e)), omega arith)

  pub past_not : (l : ℕ) → l ≡ rank iid links x → (ltb l links && eqb (number_at iid l) x) ≡ false → l ≡ rank iid links (x + 1)
  past_not l e n = rank_same l e (λ b z. clash (ltb l links && eqb (number_at iid l) x) n (and_both (ltb l links) (eqb (number_at iid l) x) (lt-ltb l links b) (eq-eqb (number_at iid l) x z)))

  -- all of them, where the last is below x
  pub rank_end : 0 < links → number_at iid (links - 1) < x → links ≡ rank iid links x
  rank_end some low = go (dec_lt (rank iid links x) links)
    where
      last : (l : ℕ) → l < links → number_at iid l ≤ number_at iid (links - 1)
      last l b = at (dec_lt l (links - 1))
        where
          at : Dec (l < links - 1) → number_at iid l ≤ number_at iid (links - 1)
          at (yes q) = let w = ascends_any iid links h l (links - 1) q (omega arith) in omega arith
          at (no q) = let z : l ≡ links - 1 = omega arith in rw z (omega arith)

      go : Dec (rank iid links x < links) → links ≡ rank iid links x
      go (yes q) =
          let r = rank iid links x in
          let w : ⊥ = omega (arith, rank_from iid links h x r q (omega arith), last r q, low) in
          absurd w
      go (no q) = omega (arith, rank_most iid links h x)

-- the same, where the last is not above x
pub past_all : (iid : List ℕ) (links : ℕ) → ascends iid links ≡ true → (x : ℕ) → (ltb 0 links && leb (number_at iid (links - 1)) x) ≡ true → (links ≡ rank iid links (x + 1)) × (links ≤ links)
past_all iid links h x e =
    let some = ltb-true 0 links (and_left (ltb 0 links) (leb (number_at iid (links - 1)) x) e) in
    let low = leb-true (number_at iid (links - 1)) x (and_right (ltb 0 links) (leb (number_at iid (links - 1)) x) e) in
    (rank_end iid links h (x + 1) some (omega arith), omega arith)
