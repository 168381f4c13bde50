use mathlib.Core.Path.{sym, ◌∙◌}
use native.Mathlib.Omega.{arith}
use Rattle.abi_query.proofs.Laws.{unsound_link, link_there, link_unknown}
use Rattle.state_ranges.specs.Inner.Laws.{table}
use Rattle.abi_query.proofs.m2ua_link_place_at.Goals as goal

pub returns-then-not-sound : goal.returns-then-not-sound
returns-then-not-sound c = unsound_link _ _ (sym c.sound_of-sound.ensures ∙ c.if-not-sound.true)

pub invariant_of-ids : goal.invariant_of-ids
invariant_of-ids c =
    let t = table _ (sym c.sound_of-sound.ensures ∙ c.if-not-sound.false) in
    record { few = rw c.from-n.ensures t.few; order = rw c.from-n.ensures t.order }

pub returns-in-Some : goal.returns-in-Some
returns-in-Some c =
    let i = rw c.from-n.ensures at c.in-Some.ensures in
    link_there _ _ _ (sym c.sound_of-sound.ensures ∙ c.if-not-sound.false) i.0 i.1

pub returns-in-None : goal.returns-in-None
returns-in-None c =
    let i = rw c.from-n.ensures at c.in-None.ensures in
    link_unknown _ _ _ (sym c.sound_of-sound.ensures ∙ c.if-not-sound.false) i (omega arith)
