use mathlib.Core.Path.{sym, ◌∙◌}
use native.Mathlib.Omega.{arith}
use Rattle.send_orders.specs.Inner.Part.{side_size, asp_size}
use Rattle.send_orders.proofs.part_size.Goals as goal

pub returns-then-o-eq-LINK_SIDE : goal.returns-then-o-eq-LINK_SIDE
returns-then-o-eq-LINK_SIDE c = side_size _ _ _ _ _ _ c.if-o-eq-LINK_SIDE.true

pub size_of-requires : goal.size_of-requires
size_of-requires c = let a = c.args in let p = c.requires in (omega (arith, p.0), rw c.form_of-form.ensures (omega (arith, p.1, asp_size a.owners.iid.now a.owners.owner.now a.owners.links a.msg.now a.body.now a.x c.if-o-eq-LINK_SIDE.false)))

pub returns : goal.returns
returns c = c.size_of.ensures ∙ rw c.form_of-form.ensures (sym (asp_size _ _ _ _ _ _ c.if-o-eq-LINK_SIDE.false))
