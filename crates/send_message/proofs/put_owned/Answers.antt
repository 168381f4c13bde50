use native.Mathlib.Omega.{arith}
use mathlib.Core.Path.{◌≡◌, refl, sym, ap, ◌∙◌}
use mathlib.Core.List.{append-nil}
use borrow.Author.Rules.{rules}
use lib.ListN.{length}
use Rattle.codec_put.specs.Bytes.{bytes32}
use Rattle.codec_select.proofs.Runs.{run_none, run_two, put_length}
use Rattle.laws.specs.Columns.{number_at}
use Rattle.send_message.specs.Inner.Form.{id_at, ids_in}
use Rattle.send_message.proofs.Owned.{ids_none, ids_more, ids_within, id_some, id_none}
use Rattle.send_message.proofs.put_owned.Goals as goal
use Rattle.send_message.proofs.put_owned.Goals.{then-from-a, else-from-a}

pub loop-l-init : goal.loop-l-init
loop-l-init c = let a = c.args in (rw (ids_none a.owners.iid.now a.owners.owner.now a.a) (run_none _ _), omega arith, search rules)

pub put32-requires : goal.put32-requires
put32-requires c = let a = c.args in
    let lp = c.loop-l in
    let h = put_length lp.invariant.0 in
    let n = lp.invariant.0.next in
    let w = ids_within a.owners.iid.now a.owners.owner.now a.a lp.l a.owners.links (omega arith) in
    let e : length (id_at a.owners.iid.now a.owners.owner.now a.a lp.l) ≡ 4 = ap length (id_some a.owners.iid.now a.owners.owner.now a.a lp.l (sym c.from.ensures ∙ c.if-from-a.true)) in
    omega arith

pub overflow_add-at : goal.overflow_add-at
overflow_add-at c = let a = c.args in
    let lp = c.loop-l in
    let h = put_length lp.invariant.0 in
    let n = lp.invariant.0.next in
    let w = ids_within a.owners.iid.now a.owners.owner.now a.a lp.l a.owners.links (omega arith) in
    let e : length (id_at a.owners.iid.now a.owners.owner.now a.a lp.l) ≡ 4 = ap length (id_some a.owners.iid.now a.owners.owner.now a.a lp.l (sym c.from.ensures ∙ c.if-from-a.true)) in
    omega arith

pub loop-l-preserved : goal.loop-l-preserved
loop-l-preserved c = let a = c.args in
    let lp = c.loop-l in
    let i = lp.invariant.0 in (
      elim c.if-from-a.branch [
        | then-from-a w ↦
            rw (ids_more a.owners.iid.now a.owners.owner.now a.a lp.l, id_some a.owners.iid.now a.owners.owner.now a.a lp.l (sym c.from.ensures ∙ w.if-from-a.true), w.at-is, w.out-is)
            (run_two (ids_in a.owners.iid.now a.owners.owner.now lp.l a.a) (bytes32 (number_at a.owners.iid.now lp.l)) i (record { next = refl; bytes = w.put32.ensures }))
        | else-from-a w ↦
            rw (ids_more a.owners.iid.now a.owners.owner.now a.a lp.l, id_none a.owners.iid.now a.owners.owner.now a.a lp.l (λ e. w.if-from-a.false (c.from.ensures ∙ e)), append-nil (ids_in a.owners.iid.now a.owners.owner.now lp.l a.a), w.at-is, w.out-is) i
      ],
      omega arith,
      search rules,
    )

pub returns : goal.returns
returns c = let a = c.args in let lp = c.loop-l in let e : lp.l ≡ a.owners.links = omega arith in rw e at lp.invariant.0
