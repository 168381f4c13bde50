use mathlib.Core.Path.{refl}
use Rattle.std.proofs.Common.{sym, ◌∙◌, ap}
use native.Mathlib.Omega.{arith}
use Rattle.std.proofs.lemmas.Result.{err_from_is_err_and}
use Rattle.state_tables.specs.Inner.Laws.{counts_within}
use Rattle.state_ranges.specs.Inner.Laws.{table}
use Rattle.event_asked.specs.Inner.Ask.{ask_fits_at}
use Rattle.event_asked.specs.Inner.Refusal.{refusal_code}
use Rattle.event_run.specs.Inner.Columns.{state_in}
use Rattle.event_run.proofs.Happens.{asked_of, refusal_is, sound_yes, whole_is, owner_16, does}
use Rattle.event_run.proofs.decide.Goals as goal

pub placed-at-requires : goal.placed-at-requires
placed-at-requires c h = let t = table (state_in c.args.columns) (sym c.is_sound-sound.ensures ∙ h) in (t.few, t.order)

pub returns-in_err-refused : goal.returns-in_err-refused
returns-in_err-refused c =
    let r = asked_of c.args.kind c.args.i c.is_sound-sound.ensures c.asked-ask.ensures c.placed-at.ensures c.link_at-k.ensures c.refused.ensures in
    let p = err_from_is_err_and c.from_residual.result c.from_residual.ensures.1 in
    rw (p.1, p.2) (sym (ap refusal_code c.in_err-refused.was) ∙ refusal_is r)

pub owner_of-o-requires : goal.owner_of-o-requires
owner_of-o-requires c =
    let r = asked_of c.args.kind c.args.i c.is_sound-sound.ensures c.asked-ask.ensures c.placed-at.ensures c.link_at-k.ensures c.refused.ensures in
    rw c.link_at-k.ensures (owner_16 r (ap refusal_code c.in_ok-refused.was))

pub decided-requires : goal.decided-requires
decided-requires c =
    let r = asked_of c.args.kind c.args.i c.is_sound-sound.ensures c.asked-ask.ensures c.placed-at.ensures c.link_at-k.ensures c.refused.ensures in
    let z = ap refusal_code c.in_ok-refused.was in
    let w = whole_is r z in (
      table (state_in c.args.columns) w.sound_yes,
      ask_fits_at (state_in c.args.columns) c.args.msg.now _ refl (counts_within _ w.sound_yes) (c.asked-ask.ensures.known _ ∙ w.known_yes) c.asked-ask.ensures.small,
      c.placed-at.ensures.1 (sound_yes r z),
      rw c.link_at-k.ensures (owner_16 r z),
      c.placed-at.ensures.3 (sound_yes r z),
    )

pub returns : goal.returns
returns c =
    let r = asked_of c.args.kind c.args.i c.is_sound-sound.ensures c.asked-ask.ensures c.placed-at.ensures c.link_at-k.ensures c.refused.ensures in
    does r (ap refusal_code c.in_ok-refused.was) (rw (c.owner_of-o.ensures, c.asp_at-s.ensures, c.link_at-k.ensures) at c.decided.ensures)
