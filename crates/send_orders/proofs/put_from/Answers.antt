use mathlib.Core.Path.{ap}
use mathlib.Core.Bool.{Bool, ◌&&◌}
use lib.Dec.{eqb}
use borrow.Author.Rules.{rules}
use Rattle.state_tables.specs.Inner.Laws.{counts_within}
use Rattle.state_ranges.specs.Inner.Laws.{table}
use Rattle.send_orders.specs.Inner.Parts.{good_ready, good_within, lends_good}
use Rattle.send_orders.specs.Inner.Many.{ready, ended_called}
use Rattle.send_orders.proofs.put_from.Goals as goal

pub invariant_of-ids : goal.invariant_of-ids
invariant_of-ids c = let t = table _ c.requires.3.sound in record { few = rw c.from.ensures t.few; order = rw c.from.ensures t.order }

pub invariant_of-links : goal.invariant_of-links
invariant_of-links c = record { owned = rw c.from.ensures (table _ c.requires.3.sound).owned }

pub invariant_of-owners : goal.invariant_of-owners
invariant_of-owners c = record { few = rw c.from.ensures (counts_within _ c.requires.3.sound).links }

pub good_if-good-requires : goal.good_if-good-requires
good_if-good-requires c =
    let t = c.args.t in
    (search rules, λ e. let q = good_ready _ _ t.kind t.index c.args.msg.now c.requires.3 c.from.ensures (ap (λ (b : Bool). eqb t.kind 0 && b) c.in_part.ensures) e in (q.0, q.2))

pub repeated-requires : goal.repeated-requires
repeated-requires c =
    let t = c.args.t in
    good_within _ _ t.kind t.index c.args.msg.now c.requires.3 c.from.ensures (ap (λ (b : Bool). eqb t.kind 0 && b) c.in_part.ensures) _ c.good_if-good.result c.good_if-good.ensures

pub put_many-requires : goal.put_many-requires
put_many-requires c =
    let t = c.args.t in
    let r = c.requires.3 in
    ready _ _ t.kind t.index c.args.msg.now r c.repeated.result.now c.from.ensures
    (lends_good _ _ t.kind t.index c.args.msg.now r c.from.ensures (ap (λ (b : Bool). eqb t.kind 0 && b) c.in_part.ensures) _ c.repeated.result.now c.good_if-good.result c.good_if-good.ensures c.repeated.ensures)
    c.gone-list.ensures t.place c.requires.0

pub returns-clause-few : goal.returns-clause-few
returns-clause-few c = c.put_many.ensures.few

pub returns-clause-wrote : goal.returns-clause-wrote
returns-clause-wrote c = λ g after r.
    let t = c.args.t in
    ended_called _ _ t.kind t.index c.args.msg.now r c.repeated.result.now c.from.ensures
    (lends_good _ _ t.kind t.index c.args.msg.now r c.from.ensures (ap (λ (b : Bool). eqb t.kind 0 && b) c.in_part.ensures) _ c.repeated.result.now c.good_if-good.result c.good_if-good.ensures c.repeated.ensures)
    c.gone-list.ensures t.place c.args.lens.now c.args.out.now c.put_many.ensures.ended
