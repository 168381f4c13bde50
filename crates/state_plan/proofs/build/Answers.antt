use mathlib.Core.Path.{◌∙◌}
use native.Mathlib.Omega.{arith}
use Rattle.state_plan.specs.Plan.{fresh}
use Rattle.state_plan.specs.Inner.Layout.{state_at, of_rows}
use Rattle.state_plan.specs.Inner.Tables.{column_as}
use Rattle.state_plan.proofs.build.Goals as goal

-- `state_plan::build`: the columns as they are, zeros elsewhere. Assumes nothing.
pub overflow_add-t : goal.overflow_add-t
overflow_add-t c = omega (arith, c.requires.0.first)

pub masks_of-mask-requires : goal.masks_of-mask-requires
masks_of-mask-requires c = let p = c.requires.0 in (p.asps, λ i b. omega (arith, p.in_asps))

pub overflow_add-t-2 : goal.overflow_add-t-2
overflow_add-t-2 c = omega (arith, c.requires.0.second)

pub bytes-modes-requires : goal.bytes-modes-requires
bytes-modes-requires c = let p = c.requires.0 in (omega arith, (p.ases, λ i b. omega (arith, p.in_ases)))

pub overflow_add-t-3 : goal.overflow_add-t-3
overflow_add-t-3 c = omega (arith, c.requires.0.first)

pub bytes-lists-requires : goal.bytes-lists-requires
bytes-lists-requires c = let p = c.requires.0 in (omega arith, (p.asps, λ i b. omega (arith, p.in_asps)))

pub overflow_add-t-4 : goal.overflow_add-t-4
overflow_add-t-4 c = omega (arith, c.requires.0.third)

pub bytes-owners-requires : goal.bytes-owners-requires
bytes-owners-requires c = let p = c.requires.0 in (omega arith, (p.links, λ i b. omega (arith, p.in_links)))

pub overflow_add-t-5 : goal.overflow_add-t-5
overflow_add-t-5 c = omega (arith, c.requires.0.third)

pub bytes-kinds-requires : goal.bytes-kinds-requires
bytes-kinds-requires c = let p = c.requires.0 in (omega arith, (p.links, λ i b. omega (arith, p.in_links)))

pub words-aspid-requires : goal.words-aspid-requires
words-aspid-requires c = let p = c.requires.0 in (omega arith, (p.asps, λ i b. omega (arith, p.in_asps)))

pub words-iid-requires : goal.words-iid-requires
words-iid-requires c = let p = c.requires.0 in (omega arith, (p.links, λ i b. omega (arith, p.in_links)))

pub overflow_cast-result : goal.overflow_cast-result
overflow_cast-result c = omega (arith, c.requires.0.asps)

pub overflow_cast-result-2 : goal.overflow_cast-result-2
overflow_cast-result-2 c = omega (arith, c.requires.0.ases)

pub overflow_cast-result-3 : goal.overflow_cast-result-3
overflow_cast-result-3 c = omega (arith, c.requires.0.links)

pub returns : goal.returns
unfolding state_at fresh
returns c =
    let b = c.requires.1 in
    rw (c.none.ensures, c.members_of-member.ensures)
    (of_rows _ _ _ _ c.words-aspid.ensures c.masks_of-mask.ensures
    (c.bytes-lists.ensures ∙ column_as 16 _ b.lists)
    (c.bytes-modes.ensures ∙ column_as 16 _ b.modes)
    c.words-iid.ensures
    (c.bytes-owners.ensures ∙ column_as 128 _ b.owners)
    (c.bytes-kinds.ensures ∙ column_as 128 _ b.kinds))
