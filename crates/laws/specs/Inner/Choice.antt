-- Laws of specs/Choice.antt, and definitions that only code and proofs use.
-- Assumes nothing.
use Rattle.std.specs.Prelude.{◌≡◌, refl, Bool, true, false, cond, ℕ, zero, suc, ◌<◌, ◌≤◌, ltb, leb, eqb}
use Rattle.std.specs.Bool.{beq}
use Rattle.std.proofs.lemmas.Bool.{false≢true, lt-leb}
use Rattle.std.proofs.Common.{le-ltb, lt-ltb, le-leb, eq-eqb, ne_eqb}
use Rattle.laws.specs.Choice.{◌or_else◌}

module _ {X : Type 0} (x y : X) {z : X} where
  pub at_yes : (b : Bool) → b ≡ true → z ≡ x → z ≡ cond b x y
  at_yes b e q = rw e q

  pub at_no : (b : Bool) → b ≡ false → z ≡ y → z ≡ cond b x y
  at_no b e q = rw e q

  pub at_lt : (a b : ℕ) → a < b → z ≡ x → z ≡ cond (ltb a b) x y
  at_lt a b h q = rw (lt-ltb a b h) q

  pub at_ge : (a b : ℕ) → b ≤ a → z ≡ y → z ≡ cond (ltb a b) x y
  at_ge a b h q = rw (le-ltb a b h) q

  pub at_le : (a b : ℕ) → a ≤ b → z ≡ x → z ≡ cond (leb a b) x y
  at_le a b h q = rw (le-leb a b h) q

  pub at_gt : (a b : ℕ) → b < a → z ≡ y → z ≡ cond (leb a b) x y
  at_gt a b h q = rw (lt-leb a b h) q

  pub at_eq : (a b : ℕ) → a ≡ b → z ≡ x → z ≡ cond (eqb a b) x y
  at_eq a b h q = rw (eq-eqb a b h) q

  pub at_ne : (a b : ℕ) → (a ≡ b → ⊥) → z ≡ y → z ≡ cond (eqb a b) x y
  at_ne a b h q = rw (ne_eqb a b h) q

pub ruleset choices = (at_lt, at_ge, at_eq, at_ne, at_le, at_gt, at_yes, at_no)

-- what holds of a choice, from what its test says
pub by_cond : {A : Type 0} (t : Bool) (F : A → Type 0) {x y : A} → (t ≡ true → F x) → (t ≡ false → F y) → F (cond t x y)
by_cond true F hx hy = hx refl
by_cond false F hx hy = hy refl

pub or_not : (c v : ℕ) → (c ≡ 0 → ⊥) → c or_else v ≡ c
or_not zero v ne = absurd (ne refl)
or_not (suc c) v ne = refl

pub or_none : (a v r : ℕ) → a ≡ 0 → r ≡ v → r ≡ a or_else v
or_none a v r e q = rw e q

-- a test for equal flags tells that they are
pub beq_true : (a b : Bool) → beq a b ≡ true → a ≡ b
beq_true true true h = refl
beq_true true false h = absurd (false≢true h)
beq_true false true h = absurd (false≢true h)
beq_true false false h = refl
