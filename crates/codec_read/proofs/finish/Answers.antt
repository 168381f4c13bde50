use Rattle.codec_parameter.specs.Inner.Slot.{slot}
use mathlib.Core.Path.{◌≡◌, refl, sym, ap, ◌∙◌}
use borrow.Author.Tests.{ne_eqb}
use Rattle.laws.specs.Choice.{◌or_else◌}
use Rattle.codec_wire.specs.Refusal.{number, code}
use Rattle.codec_wire.proofs.Refusals.{number_some, and_code}
use Rattle.codec_read.specs.Inner.Seen.{end_at, outcome_at}
use Rattle.codec_read.proofs.finish.Goals as goal

pub meaning_at-requires : goal.meaning_at-requires
unfolding slot
meaning_at-requires c = refl

pub returns-in-Ok : goal.returns-in-Ok
unfolding outcome_at
returns-in-Ok c =
    let e : 0 ≡ code c.args.fault or_else end_at c.args.musts c.args.c c.args.t c.args.seen.now.met c.args.seen.now.words = ap code (sym c.in-Ok.is ∙ c.and.ensures) ∙ and_code _ _ ∙ ap (λ n. code c.args.fault or_else n) c.end_code.ensures in
    rw (← e) c.meaning_at.ensures

pub returns-in-Err : goal.returns-in-Err
unfolding outcome_at
returns-in-Err c =
    let e : number c.in-Err.r ≡ code c.args.fault or_else end_at c.args.musts c.args.c c.args.t c.args.seen.now.met c.args.seen.now.words = ap code (sym c.in-Err.is ∙ c.and.ensures) ∙ and_code _ _ ∙ ap (λ n. code c.args.fault or_else n) c.end_code.ensures in
    rw (← e, ne_eqb (number c.in-Err.r) 0 (number_some c.in-Err.r)) c.refused.ensures
