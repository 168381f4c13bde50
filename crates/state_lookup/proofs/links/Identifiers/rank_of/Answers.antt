use Prim.Native.Nat.{◌-◌, ◌*◌}
use mathlib.Core.Path.{refl}
use native.Mathlib.Omega.{arith}
use borrow.Author.Rules.{rules}
use Rattle.std.proofs.Math.Nat.{min-le_left}
use Rattle.state_lookup.specs.Inner.Links.{rank_most, eighths_most, eighths_none, eighths_some}
use Rattle.state_lookup.proofs.links.Identifiers.rank_of.Goals as goal

-- the eighth in which x would stand, and the place in it
pub returns-then-k-eq0 : goal.returns-then-k-eq0
returns-then-k-eq0 c = (eighths_none _ _ c.args.self.order _ _ c.eighths_below-k.ensures c.if-k-eq0.true, search rules)

pub overflow_mul-first : goal.overflow_mul-first
overflow_mul-first c = omega (arith, c.args.self.few, eighths_most _ _ c.args.self.order _ _ c.eighths_below-k.ensures)

pub overflow_sub-self : goal.overflow_sub-self
overflow_sub-self c = omega (arith, eighths_most _ _ c.args.self.order _ _ c.eighths_below-k.ensures)

pub below_from-requires : goal.below_from-requires
below_from-requires c =
    omega (arith, c.args.self.few, eighths_most _ _ c.args.self.order _ _ c.eighths_below-k.ensures, c.min.ensures, min-le_left (c.args.self.count - (8 * c.eighths_below-k.result - 8)) 8)

pub overflow_add-result : goal.overflow_add-result
overflow_add-result c =
    let t = c.args.self in
    omega (arith, t.few, eighths_some _ _ t.order _ _ c.eighths_below-k.ensures _ _ _ c.if-k-eq0.false refl c.min.ensures c.below_from.ensures, rank_most _ _ t.order c.args.x)

pub returns : goal.returns
returns c =
    let t = c.args.self in
    let e = eighths_some _ _ t.order _ _ c.eighths_below-k.ensures _ _ _ c.if-k-eq0.false refl c.min.ensures c.below_from.ensures in
    (e, omega (arith, e, rank_most _ _ t.order c.args.x))
