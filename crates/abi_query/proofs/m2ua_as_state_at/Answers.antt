use native.Mathlib.Omega.{arith}
use mathlib.Core.Path.{sym, ◌∙◌}
use Rattle.state_tables.specs.Inner.Laws.{counts_within}
use Rattle.abi_query.proofs.Laws.{unsound_state, state_there, state_beyond}
use Rattle.abi_query.proofs.m2ua_as_state_at.Goals as goal

pub returns-then-not-sound : goal.returns-then-not-sound
returns-then-not-sound c = unsound_state _ _ (sym c.sound_of-sound.ensures ∙ c.if-not-sound.true)

pub as_state-now-requires : goal.as_state-now-requires
as_state-now-requires c =
    let q = (counts_within _ (sym c.sound_of-sound.ensures ∙ c.if-not-sound.false)).ases in
    omega (arith, c.if-a-n.true, c.from-n.ensures, q)

pub returns-then-a-n : goal.returns-then-a-n
returns-then-a-n c =
    state_there _ _ _ (sym c.sound_of-sound.ensures ∙ c.if-not-sound.false) (rw c.from-n.ensures at c.if-a-n.true) c.as_state-now.ensures

pub returns : goal.returns
returns c =
    state_beyond _ _ (sym c.sound_of-sound.ensures ∙ c.if-not-sound.false) (rw c.from-n.ensures at c.if-a-n.false)
