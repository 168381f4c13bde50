-- Of several checks, the number of the first that applies.
-- Assumes nothing.
use Rattle.std.specs.Prelude.{Bool, cond, ℕ, zero, suc}

-- Numbers of checks: 0 where a check does not apply. The first that applies decides.
abbrev pub ◌or_else◌ : ℕ → ℕ → ℕ
zero or_else v = v
(suc c) or_else v = suc c

infixr 25 ◌or_else◌
-- the number n where b holds
abbrev pub ◌if◌ : ℕ → Bool → ℕ
n if b = cond b n 0

infix 26 ◌if◌
