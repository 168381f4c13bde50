use mathlib.Core.Path.{◌≡◌, refl, sym, ap, ◌∙◌}
use mathlib.Core.List.{◌++◌}
use native.Mathlib.Omega.{arith}
use lib.ListN.{length}
use Rattle.codec_put.specs.Bytes.{bytes16}
use Rattle.codec_put.proofs.Sets.{length_over}
use Rattle.codec_select.proofs.Runs.{put_none, run_two}
use Rattle.send_message.specs.Inner.Form.{ids_in, listed_size}
use Rattle.send_message.proofs.Owned.{list_none, list_length, size_none, size_some, list_put}
use Rattle.send_message.proofs.put_listed.Goals as goal

pub returns-in_default : goal.returns-in_default
returns-in_default c = rw c.in_default.is (put_none _ _)

pub returns-then-n-eq0 : goal.returns-then-n-eq0
unfolding listed_size
returns-then-n-eq0 c = let o = c.args.owners in
    rw c.in-Some.is (rw (list_none o.iid.now o.owner.now o.links c.in-Some.a (size_none o.iid.now o.owner.now o.links c.in-Some.a _ c.listed_size-n.ensures.0 c.if-n-eq0.true)) (put_none _ _))

pub put_head-requires : goal.put_head-requires
unfolding listed_size
put_head-requires c = let o = c.args.owners in
    let h = rw c.in-Some.is at c.requires in
    let s = (size_some o.iid.now o.owner.now o.links c.in-Some.a _ c.listed_size-n.ensures.0 c.if-n-eq0.false).0 in
    let e = list_length o.iid.now o.owner.now o.links c.in-Some.a in
    omega (arith, c.listed_size-n.ensures.0)

pub put_owned-requires : goal.put_owned-requires
unfolding listed_size
put_owned-requires c = let o = c.args.owners in
    let h = rw c.in-Some.is at c.requires in
    let s = (size_some o.iid.now o.owner.now o.links c.in-Some.a _ c.listed_size-n.ensures.0 c.if-n-eq0.false).0 in
    let e = list_length o.iid.now o.owner.now o.links c.in-Some.a in
    let l = ap length c.put_head.ensures ∙ length_over _ _ _ in
    omega (arith, c.listed_size-n.ensures.0)

pub returns : goal.returns
unfolding listed_size
returns c = let o = c.args.owners in
    rw c.in-Some.is
    (list_put o.iid.now o.owner.now o.links c.in-Some.a _ c.listed_size-n.ensures.0 c.if-n-eq0.false _ _ _ _
    (run_two (bytes16 0x1 ++ bytes16 c.listed_size-n.result) (ids_in o.iid.now o.owner.now o.links c.in-Some.a) (record { next = refl; bytes = c.put_head.ensures }) c.put_owned.ensures))
