-- The table of links by identifier: what stands at a spot, and what is found by it.
-- Assumes nothing.
use Rattle.std.specs.Bool.{then_some}
use Rattle.std.specs.Prelude.{ℕ, ◌+◌, ◌-◌, ◌*◌, ◌/◌, ◌%◌, ◌<◌, ◌≤◌, ◌≡◌, true, cond, not, ◌&&◌, List, Option, length, set, replicate}
use Rattle.std.proofs.Common.{ap, ◌∙◌, length-set, get_or-set_same, get_or-set_other}
use Rattle.std.proofs.Math.Path.{sym}
use native.Mathlib.Omega.{arith}
use Rattle.std.proofs.Math.Decide.{ℕ_discrete}
use Rattle.std.proofs.Math.Dec.{eqb}
use Rattle.std.proofs.lemmas.List.{length-replicate, get_or-replicate}
use borrow.Author.Tests.{eq-eqb, ne_eqb}
use Rattle.laws.specs.Columns.{number_at}
use Rattle.laws.specs.Inner.Rank.{first_not}
use Rattle.state_tables.specs.Sound.{ascends}
use Rattle.state_lookup.specs.Links.{index_of}
use Rattle.state_lookup.specs.Inner.Links.{index_own}
use Rattle.state_lookup.specs.Inner.Index.{IndexIs}

-- the spot of an identifier
unfoldable pub slot_of : ℕ → ℕ
slot_of x = x * 2654435761 % 4294967296 / 4194304

-- of the first n links each stands at its spot, or several do; and nothing stands there but these
pub record Spots (t iid : List ℕ) (n : ℕ) : Type 0 where
  pub long : length t ≡ 1024
  pub stands : (l : ℕ) → l < n → (number_at t (slot_of (number_at iid l)) ≡ 255 → ⊥) → number_at t (slot_of (number_at iid l)) ≡ l + 1
  pub within : (h : ℕ) → h < 1024 → (number_at t h ≡ 255 → ⊥) → number_at t h ≤ n

pub slot_small : (x : ℕ) → slot_of x < 1024
unfolding slot_of
slot_small x = omega arith

-- ---- the table

pub spots_none : (iid : List ℕ) → Spots (replicate 1024 0) iid 0
spots_none iid = record { long = length-replicate {A = ℕ} 1024 0; stands = λ l b n. let w : ⊥ = omega arith in absurd w; within = λ h b n. omega (arith, get_or-replicate {A = ℕ} 1024 h 0 0 b) }

-- one link more: h is its spot, v what stands there then
module _ {t iid : List ℕ} {n : ℕ} (s : Spots t iid n) (h v : ℕ) (e : h ≡ slot_of (number_at iid n)) (b : h < 1024) (f : v ≡ cond (eqb (number_at t h) 0) (n + 1) 255) where
  here : number_at (set t h v) h ≡ v
  here = get_or-set_same t h v 0 (let l = s.long in omega arith)

  other : (k : ℕ) → (k ≡ h → ⊥) → number_at (set t h v) k ≡ number_at t k
  other k c = get_or-set_other t h k v 0 c

  -- where nothing stood, the new link does; else several do
  v_is : (v ≡ 255 → ⊥) → (number_at t h ≡ 0) × (v ≡ n + 1)
  v_is c = go (ℕ_discrete (number_at t h) 0)
    where
      go : Dec (number_at t h ≡ 0) → (number_at t h ≡ 0) × (v ≡ n + 1)
      go (yes z) = (z, f ∙ rw (eq-eqb (number_at t h) 0 z))
      go (no z) = absurd (c (f ∙ rw (ne_eqb (number_at t h) 0 z)))

  pub spots_more : Spots (set t h v) iid (n + 1)
  spots_more = record { long = length-set t h v ∙ s.long; stands = λ l c q. at l c q (ℕ_discrete l n) (ℕ_discrete (slot_of (number_at iid l)) h); within = λ k j q. in_table k j q (ℕ_discrete k h) }
    where
      at : (l : ℕ) → l < n + 1 → (number_at (set t h v) (slot_of (number_at iid l)) ≡ 255 → ⊥) → Dec (l ≡ n) → Dec (slot_of (number_at iid l) ≡ h) → number_at (set t h v) (slot_of (number_at iid l)) ≡ l + 1
      at l c q d (yes z) = go d
        where
          now : number_at (set t h v) (slot_of (number_at iid l)) ≡ v
          now = ap (number_at (set t h v)) z ∙ here

          free : (number_at t h ≡ 0) × (v ≡ n + 1)
          free = v_is (λ y. q (now ∙ y))

          -- where a link stood, several do
          taken : l < n → ⊥
          taken b = let u : number_at t (slot_of (number_at iid l)) ≡ 0 = ap (number_at t) z ∙ free.0 in omega (arith, u, s.stands l b (λ y. omega (arith, u, y)))

          go : Dec (l ≡ n) → number_at (set t h v) (slot_of (number_at iid l)) ≡ l + 1
          go (yes d) = now ∙ free.1 ∙ ap (λ (i : ℕ). i + 1) (sym d)
          go (no d) = absurd (taken (omega arith))
      at l c q (yes d) (no z) = absurd (z (ap (λ (i : ℕ). slot_of (number_at iid i)) d ∙ sym e))
      at l c q (no d) (no z) = other _ z ∙ s.stands l (omega arith) (λ y. q (other _ z ∙ y))

      in_table : (k : ℕ) → k < 1024 → (number_at (set t h v) k ≡ 255 → ⊥) → Dec (k ≡ h) → number_at (set t h v) k ≤ n + 1
      in_table k j q (yes z) = let e : number_at (set t h v) k ≡ v = ap (number_at (set t h v)) z ∙ here in omega (arith, e, (v_is (λ y. q (e ∙ y))).1)
      in_table k j q (no z) = omega (arith, other k z, s.within k j (λ y. q (other k z ∙ y)))

-- all links stand there
pub spots_end : {t iid : List ℕ} {k n : ℕ} → Spots t iid k → n ≤ k → k ≤ n → Spots t iid n
spots_end {k = k} {n = n} s p q = let e : k ≡ n = omega arith in rw e at s

-- ---- what it finds

module _ {t iid : List ℕ} {links : ℕ} (s : Spots t iid links) (up : ascends iid links ≡ true) (x m : ℕ) (e : m ≡ number_at t (slot_of x)) (one : m ≡ 255 → ⊥) where
  -- a link with x stands at the spot
  only : (i : ℕ) → i < links → number_at iid i ≡ x → m ≡ i + 1
  only i b z = let w : m ≡ number_at t (slot_of (number_at iid i)) = e ∙ ap (λ (y : ℕ). number_at t (slot_of y)) (sym z) in w ∙ s.stands i b (λ y. one (w ∙ y))

  pub spot_within : (l : ℕ) → l ≡ cond (eqb m 0) 0 (m - 1) → links ≤ 128 → l < 128
  spot_within l w few = go (ℕ_discrete m 0)
    where
      go : Dec (m ≡ 0) → l < 128
      go (yes z) = let v : l ≡ 0 = w ∙ rw (eq-eqb m 0 z) in omega arith
      go (no z) = let v : l ≡ m - 1 = w ∙ rw (ne_eqb m 0 z) in omega (arith, e, s.within (slot_of x) (slot_small x) (λ y. one (e ∙ y)))

  absent : ((i : ℕ) → i < links → number_at iid i ≡ x → ⊥) → index_of iid links x ≡ links
  unfolding index_of
  absent g = first_not (λ l. eqb (number_at iid l) x) links (λ i q. ne_eqb (number_at iid i) x (g i q))

  -- x stands there just where the test says so
  pub spot_finds : (l : ℕ) → l ≡ cond (eqb m 0) 0 (m - 1) → (r : Option ℕ) → r ≡ then_some (not (eqb m 0) && eqb (number_at iid l) x) l → IndexIs iid links x r
  spot_finds l w r k = rw k (go (ℕ_discrete m 0) (ℕ_discrete (number_at iid l) x))
    where
      here : (m ≡ 0 → ⊥) → l < links
      here z = let v : l ≡ m - 1 = w ∙ rw (ne_eqb m 0 z) in omega (arith, e, s.within (slot_of x) (slot_small x) (λ y. one (e ∙ y)))

      go : Dec (m ≡ 0) → Dec (number_at iid l ≡ x) → IndexIs iid links x (then_some (not (eqb m 0) && eqb (number_at iid l) x) l)
      go (yes z) d = rw (eq-eqb m 0 z) (sym (absent (λ i b y. omega (arith, only i b y))))
      go (no z) (yes y) =
          let b : l < links = here z in
          rw (ne_eqb m 0 z, eq-eqb (number_at iid l) x y) (sym (rw y at (index_own iid links up l b)), b)
      go (no z) (no y) =
          let v : l ≡ m - 1 = w ∙ rw (ne_eqb m 0 z) in
          rw (ne_eqb m 0 z, ne_eqb (number_at iid l) x y)
          (sym (absent (λ i b q. y (let j : l ≡ i = omega (arith, only i b q) in ap (number_at iid) j ∙ q))))
