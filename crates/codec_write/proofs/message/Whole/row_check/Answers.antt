use mathlib.Core.Path.{◌≡◌, refl, ◌∙◌}
use Rattle.std.specs.Slice.Iter.{iter_rest}
use Rattle.std.specs.Iterator.Adapters.{zip_first, zip_second}
use Rattle.std.proofs.lemmas.Slice.Zip.{either_empty_from_Zip}
use Rattle.codec_wire.proofs.Refusals.{number_some}
use Rattle.codec_read.proofs.Turns.{head_none, turn_refused, turn_passes, turn_ends}
use Rattle.codec_write.specs.Inner.Write.{row_code}
use Rattle.codec_write.proofs.Lists.{lent_value, lent_next, pars_next, lent_end}
use Rattle.codec_write.proofs.Writes.{err_code}
use Rattle.codec_write.proofs.message.Whole.row_check.Goals as goal

pub loop-tag-init : goal.loop-tag-init
loop-tag-init c =
    let e : iter_rest (zip_first c.into_iter-tag-iterator.result) ≡ c.args.self.message.tags.now = cc in
    let f : iter_rest (zip_second c.into_iter-tag-iterator.result) ≡ c.args.self.message.lens.now = cc in
    let l = c.args.self.sized.lent in
    rw (e, f, c.none-seen.ensures) (l, head_none _ _)

pub split_at-requires : goal.split_at-requires
split_at-requires c = let s = c.in-Some.ensures.steps in lent_value _ _ _ _ _ _ _ s.0 s.1 c.loop-tag.invariant.0

pub returns-in_err-pass : goal.returns-in_err-pass
unfolding row_code
returns-in_err-pass c =
    let s = c.in-Some.ensures.steps in
    let e = rw c.split_at.ensures.front at c.in_err-pass.ensures.checked in
    err_code _ _ c.from_residual.ensures
    ∙ turn_refused c.loop-tag.invariant.1 c.requires.0 c.row_info-info.ensures _ _ _ _ (pars_next _ _ _ _ _ _ _ s.0 s.1) e (number_some _) _

pub loop-tag-preserved : goal.loop-tag-preserved
loop-tag-preserved c =
    let s = c.in-Some.ensures.steps in
    let e = rw c.split_at.ensures.front at c.in_ok-pass.ensures.checked in
    let k = rw c.split_at.ensures.front at c.in_ok-pass.ensures.kept in
    rw c.split_at.ensures.back (
      lent_next _ _ _ _ _ _ _ s.0 s.1 c.loop-tag.invariant.0,
      turn_passes c.loop-tag.invariant.1 c.requires.0 c.row_info-info.ensures _ _ _ _ (pars_next _ _ _ _ _ _ _ s.0 s.1) e refl _ k,
    )

pub returns : goal.returns
unfolding row_code
returns c =
    let none = either_empty_from_Zip c.loop-tag.tag-iterator c.next.new.self c.next.result c.in-None.is c.next.ensures.steps in
    c.end_code.ensures ∙ turn_ends c.loop-tag.invariant.1 c.requires.0 c.row_info-info.ensures (lent_end _ _ _ c.loop-tag.invariant.0 none) _ _
