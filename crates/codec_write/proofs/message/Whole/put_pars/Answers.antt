use native.Mathlib.Omega.{arith}
use mathlib.Core.Path.{◌≡◌}
use lib.ListN.{length}
use Rattle.std.specs.Slice.Iter.{iter_rest}
use Rattle.std.specs.Iterator.Adapters.{zip_first, zip_second}
use Rattle.std.proofs.lemmas.Slice.Zip.{either_empty_from_Zip}
use Rattle.codec_put.specs.Bytes.{pars_bytes}
use Rattle.codec_put.proofs.Puts.{puts_none, puts_end, puts_length, puts_room, puts_more}
use Rattle.codec_write.specs.Inner.Write.{sizes}
use Rattle.codec_write.specs.Inner.Message.{pars_of}
use Rattle.codec_write.proofs.Lists.{lent_value, lent_next, pars_next, lent_end, length_list}
use Rattle.codec_write.proofs.message.Whole.put_pars.Goals as goal

pub loop-tag-init : goal.loop-tag-init
loop-tag-init c =
    let e : iter_rest (zip_first c.into_iter-tag-iterator.result) ≡ c.args.self.message.tags.now = cc in
    let f : iter_rest (zip_second c.into_iter-tag-iterator.result) ≡ c.args.self.message.lens.now = cc in
    let l = c.args.self.sized.lent in
    rw (e, f) (l, puts_none _ _ 8)

pub split_at-requires : goal.split_at-requires
split_at-requires c = let s = c.in-Some.ensures.steps in lent_value _ _ _ _ _ _ _ s.0 s.1 c.loop-tag.invariant.0

pub put_param-at-requires : goal.put_param-at-requires
put_param-at-requires c =
    let m = c.args.self.message in
    let s = c.in-Some.ensures.steps in
    let h = c.loop-tag.invariant.1 in
    let e = puts_room h _ _ (pars_next _ _ _ _ _ _ _ s.0 s.1) in
    let l = puts_length h in
    let a = h.at_is in
    let z = c.args.self.sized in
    -- all parameters take what the lengths say
    let g : length (pars_bytes (pars_of m)) ≡ sizes m.lens.now = length_list m.tags.now m.lens.now m.values.now z.lent.lengths (omega arith) in
    let b = z.size_is in
    let r = c.requires in
    let k = z.small in
    rw c.split_at.ensures.front (omega arith, omega arith)

pub loop-tag-preserved : goal.loop-tag-preserved
loop-tag-preserved c =
    let s = c.in-Some.ensures.steps in
    let w = rw c.split_at.ensures.front at c.put_param-at.ensures in
    rw c.split_at.ensures.back
    (lent_next _ _ _ _ _ _ _ s.0 s.1 c.loop-tag.invariant.0, puts_more c.loop-tag.invariant.1 _ _ (pars_next _ _ _ _ _ _ _ s.0 s.1) _ _ w)

pub returns : goal.returns
returns c =
    let none = either_empty_from_Zip c.loop-tag.tag-iterator c.next.new.self c.next.result c.in-None.is c.next.ensures.steps in
    puts_end c.loop-tag.invariant.1 (lent_end _ _ _ c.loop-tag.invariant.0 none)
