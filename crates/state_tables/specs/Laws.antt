-- What a sound state gives, each fact once.
-- Assumes nothing.
use Rattle.std.specs.Prelude.{ℕ, ◌≤◌}

-- the counts are within the tables
pub record Limits (n m k : ℕ) : Type 0 where
  pub some_asps : 1 ≤ n
  pub asps : n ≤ 16
  pub some_ases : 1 ≤ m
  pub ases : m ≤ 16
  pub links : k ≤ 128
