use native.Mathlib.Omega.{arith}
use mathlib.Core.Path.{sym, ◌∙◌}
use Rattle.codec_put.proofs.Puts.{puts_none, puts_end, puts_next, puts_length, puts_room, puts_more}
use Rattle.codec_select.specs.Inner.Picks.{picks}
use Rattle.codec_select.proofs.Turns.{left, left_stop, left_yes, left_no, the_par, body_length}
use Rattle.codec_wire.proofs.Steps.{step_next}
use Rattle.codec_select.specs.Inner.Picks.{none_put}
use Rattle.codec_select.proofs.put_picked.Goals as goal

pub returns-in-Nothing : goal.returns-in-Nothing
returns-in-Nothing c = rw c.in-Nothing.is (none_put _ _ _)

pub loop-tag-init : goal.loop-tag-init
loop-tag-init c = puts_none _ _ _

pub shape_of-out-in_default-w : goal.shape_of-out-in_default-w
shape_of-out-in_default-w c = puts_length c.loop-tag.invariant

pub returns-in_default-w : goal.returns-in_default-w
returns-in_default-w c = let e = left_stop (picks c.args.which) _ _ _ (sym c.step_at-w.ensures) c.in_default-w.not-Param in
    record { next = puts_next c.loop-tag.invariant e; bytes = puts_end c.loop-tag.invariant e }

pub put_param-at-requires : goal.put_param-at-requires
put_param-at-requires c =
    let f = picks c.args.which in
    let reads = sym c.step_at-w.ensures ∙ c.in-Param.is in
    let p = the_par f _ _ _ _ _ reads in
    let left_at = left_yes f _ _ _ _ _ reads (sym c.picks.ensures ∙ c.if-picks.true) in
    let h = c.loop-tag.invariant in
    let e = puts_room h p (left f c.args.msg.now c.in-Param.next) left_at in
    let l = puts_length h in
    let a = h.at_is in
    let b = body_length f _ _ _ _ _ reads in
    let k = step_next _ _ _ _ _ reads in
    (omega arith, omega arith)

pub loop-tag-preserved-then-picks : goal.loop-tag-preserved-then-picks
loop-tag-preserved-then-picks c =
    let f = picks c.args.which in
    let reads = sym c.step_at-w.ensures ∙ c.in-Param.is in
    let p = the_par f _ _ _ _ _ reads in
    let left_at = left_yes f _ _ _ _ _ reads (sym c.picks.ensures ∙ c.if-picks.true) in
    puts_more c.loop-tag.invariant p (left f c.args.msg.now c.in-Param.next) left_at _ _ c.put_param-at.ensures

pub loop-tag-preserved : goal.loop-tag-preserved
loop-tag-preserved c =
    rw (left_no (picks c.args.which) _ _ _ _ _ (sym c.step_at-w.ensures ∙ c.in-Param.is) (sym c.picks.ensures ∙ c.if-picks.false)) at c.loop-tag.invariant
