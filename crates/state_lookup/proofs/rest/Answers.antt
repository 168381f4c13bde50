use native.Mathlib.Nat.{mod-zero}
use Prim.Native.Nat.{ℕ, ◌%◌}
use mathlib.Core.Path.{sym, ap, ◌∙◌}
use Rattle.state_lookup.proofs.rest.Goals as goal

-- `state_lookup::rest`: by the divisor. Assumes nothing.
pub returns-then-k-eq0 : goal.returns-then-k-eq0
returns-then-k-eq0 c = sym (ap (λ (k : ℕ). c.args.x % k) c.if-k-eq0.true ∙ mod-zero _)
