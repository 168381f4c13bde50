use Prim.Native.Nat.{◌+◌}
use mathlib.Core.Path.{◌∙◌}
use native.Mathlib.Omega.{arith}
use Rattle.state_plan.specs.Plan.{rows_ok}
use Rattle.state_plan.specs.Inner.Layout.{rows_at}
use Rattle.state_plan.specs.Inner.Tables.{word_of, modes_read, masks_read, links_read}
use Rattle.state_plan.proofs.rows_ok.Goals as goal

-- `state_plan::rows_ok`: the conditions one after the other. Assumes nothing.
pub modes_ok-traffic-requires : goal.modes_ok-traffic-requires
modes_ok-traffic-requires c = λ i b. omega (arith, c.requires.in_ases)

pub overflow_add-t : goal.overflow_add-t
overflow_add-t c = omega (arith, c.requires.first)

pub masks_ok-masked-requires : goal.masks_ok-masked-requires
masks_ok-masked-requires c = let p = c.requires in (λ i b. omega (arith, p.in_asps), p.ases)

pub words-aspid-requires : goal.words-aspid-requires
words-aspid-requires c = let p = c.requires in (omega arith, (p.asps, λ i b. omega (arith, p.in_asps)))

pub links_ok-linked-requires : goal.links_ok-linked-requires
links_ok-linked-requires c = let p = c.requires in (p.links, p.in_links)

pub returns : goal.returns
unfolding rows_at rows_ok
returns c =
    let i = c.requires in
    let s = c.args.s.now in
    let t = c.args.t in
    let x = c.modes_ok-traffic.ensures ∙ modes_read t.ases (word_of s t.y 4) i.ases in
    let y = c.masks_ok-masked.ensures ∙ masks_read t.asps t.ases (word_of s (t.x + 4) 8) i.asps in
    let z = c.links_ok-linked.ensures ∙ links_read t.links t.ases (word_of s t.z 8) (word_of s (t.z + 4) 8) i.links in
    rw (x, y, z, c.all_new-differ.ensures, c.words-aspid.ensures)
