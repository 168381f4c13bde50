use mathlib.Core.Path.{refl, ap}
use native.Mathlib.Omega.{arith}
use Rattle.laws.specs.Columns.{number_at}
use Rattle.state_index.specs.Inner.Spots.{spot_within, spot_finds}
use Rattle.state_index.proofs.find.Goals as goal

-- `state_index::find`: by the spot, and where several stand there by the search. Assumes nothing.
pub offset_bounds-ids-l : goal.offset_bounds-ids-l
offset_bounds-ids-l c =
    let within = spot_within c.requires c.args.ids.order _ _ (ap (number_at c.args.table.now) c.slot_of.ensures.0) c.if-t.false _ (rw c.from.ensures at c.before-l.ensures) c.args.ids.few in
    omega arith

-- the place is one of the column's
pub bounds-ids-l : goal.bounds-ids-l
bounds-ids-l c = spot_within c.requires c.args.ids.order _ _ (ap (number_at c.args.table.now) c.slot_of.ensures.0) c.if-t.false _ (rw c.from.ensures at c.before-l.ensures) c.args.ids.few

pub returns : goal.returns
returns c =
    let w = rw c.from.ensures at c.before-l.ensures in
    let e = ap (number_at c.args.table.now) c.slot_of.ensures.0 in
    (spot_finds c.requires c.args.ids.order _ _ e c.if-t.false _ w _ refl, spot_within c.requires c.args.ids.order _ _ e c.if-t.false _ w c.args.ids.few)
