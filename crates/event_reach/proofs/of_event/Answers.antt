use Rattle.std.specs.Prelude.{ℕ, ◌≡◌, Bool, true, List}
use mathlib.Core.Path.{sym, ap, ◌∙◌}
use Rattle.state_tables.specs.Sound.{is_sound}
use Rattle.state_tables.specs.Inner.Laws.{counts_within}
use Rattle.state_tables.specs.declared.Gateway.{Gateway}
use Rattle.state_ranges.specs.Inner.Laws.{table}
use Rattle.rules_event.specs.Event.{lending}
use Rattle.rules_event.specs.Records.{link_at}
use Rattle.rules_event.specs.declared.Link.{Link}
use Rattle.rules_event.specs.Rules.{refusal, refusal_of, in_plan}
use Rattle.event_asked.specs.Happened.{happened, event_of}
use Rattle.event_asked.specs.declared.Ask.{Ask}
use Rattle.event_asked.specs.Inner.Ask.{Asks, ask_fits_at}
use Rattle.event_asked.specs.Inner.Refusal.{refusal_code, refusal_some}
use Rattle.event_asked.specs.Inner.Place.{Named, known_in, refusal_in_lem}
use Rattle.rules_event.specs.Inner.Accepted.{Accepted, accepted}
use Rattle.event_reach.specs.Inner.Rows.{row_is, reached_no, reached_yes}
use Rattle.event_reach.proofs.of_event.Goals as goal

-- the refusal by the place is the rule's
refusal_is : (g : Gateway) (kind i room hold : ℕ) (s : List ℕ) {ask : Ask} {sound there : Bool} {k : Link} {n no : ℕ}
    → no ≡ refusal_of sound (known_in g.asps g.ases there k ask) (lending room hold) → k ≡ link_at g n → sound ≡ is_sound g
    → (sound ≡ true → Named g.links g.iid ask there n) → Asks kind i s ask → no ≡ refusal g (event_of (happened kind i s) room hold)
refusal_is g kind i room hold s {ask} {sound} {there} {k} {n} e q z p a =
    e
    ∙ (λ j. refusal_of sound (known_in g.asps g.ases there (q j) ask) (lending room hold))
    ∙ refusal_in_lem g ask sound there n (lending room hold) z p
    ∙ (λ j. refusal_of (is_sound g) (a.known g j) (lending room hold))

pub placed-at-requires : goal.placed-at-requires
placed-at-requires c h =
    let t = table c.args.g (sym c.is_sound-sound.ensures ∙ h) in
    (t.few, t.order)

pub returns-in-Err : goal.returns-in-Err
returns-in-Err c =
    reached_no c.args.g _
    (refusal_is c.args.g c.args.kind c.args.i c.args.room c.args.hold c.args.msg.now c.refused.ensures c.link_at-k.ensures c.is_sound-sound.ensures c.placed-at.ensures.1 c.asked-ask.ensures)
    (λ z. refusal_some c.in-Err.field-0 (rw c.in-Err.is at z))

-- an event that is not refused is one of a sound state, and fits it
passed : (g : Gateway) (kind i room hold : ℕ) (s : List ℕ) {ask : Ask} {sound there : Bool} {k : Link} {n no : ℕ}
    → no ≡ refusal_of sound (known_in g.asps g.ases there k ask) (lending room hold) → k ≡ link_at g n → sound ≡ is_sound g
    → (sound ≡ true → Named g.links g.iid ask there n) → Asks kind i s ask → no ≡ 0 → Accepted (is_sound g) (in_plan g (happened kind i s)) (lending room hold)
passed g kind i room hold s e q z p a h = accepted _ _ _ (sym (refusal_is g kind i room hold s e q z p a) ∙ h)

pub invariant_of-ids : goal.invariant_of-ids
invariant_of-ids c =
    let g = c.args.g in
    let a = passed g c.args.kind c.args.i c.args.room c.args.hold c.args.msg.now c.refused.ensures c.link_at-k.ensures c.is_sound-sound.ensures c.placed-at.ensures.1 c.asked-ask.ensures (ap refusal_code c.in-Ok.is) in
    let t = table g a.sound_yes in
    record { few = rw c.from.ensures t.few; order = rw c.from.ensures t.order }

pub invariant_of-plan : goal.invariant_of-plan
invariant_of-plan c =
    let g = c.args.g in
    let a = passed g c.args.kind c.args.i c.args.room c.args.hold c.args.msg.now c.refused.ensures c.link_at-k.ensures c.is_sound-sound.ensures c.placed-at.ensures.1 c.asked-ask.ensures (ap refusal_code c.in-Ok.is) in
    record { owned = rw c.from.ensures (table g a.sound_yes).owned }

pub row_of-row-requires : goal.row_of-row-requires
row_of-row-requires c =
    let g = c.args.g in
    let a = c.asked-ask.ensures in
    let t = passed g c.args.kind c.args.i c.args.room c.args.hold c.args.msg.now c.refused.ensures c.link_at-k.ensures c.is_sound-sound.ensures c.placed-at.ensures.1 a (ap refusal_code c.in-Ok.is) in
    ask_fits_at g _ c.asked-ask.result c.from.ensures (counts_within g t.sound_yes) (a.known g ∙ t.known_yes) a.small

pub returns-in-Ok : goal.returns-in-Ok
returns-in-Ok c =
    let g = c.args.g in
    let a = c.asked-ask.ensures in
    let r = refusal_is g c.args.kind c.args.i c.args.room c.args.hold c.args.msg.now c.refused.ensures c.link_at-k.ensures c.is_sound-sound.ensures c.placed-at.ensures.1 a in
    reached_yes g _ r (ap refusal_code c.in-Ok.is) (row_is g c.args.msg.now c.asked-ask.result (event_of (happened c.args.kind c.args.i c.args.msg.now) c.args.room c.args.hold) c.from.ensures c.row_of-row.ensures (a.reach g)) (rw c.from-in-Ok.ensures at c.within.ensures)
