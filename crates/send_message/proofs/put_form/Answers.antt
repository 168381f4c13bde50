use mathlib.Core.Path.{refl, ap, ◌∙◌}
use native.Mathlib.Omega.{arith}
use lib.ListN.{length}
use Rattle.codec_wire.specs.Walk.{walk}
use Rattle.codec_put.specs.Bytes.{overlay, head_bytes, pars_bytes}
use Rattle.codec_put.proofs.Sets.{over_two, length_over}
use Rattle.codec_write.proofs.Writes.{encode_sized}
use Rattle.send_message.specs.Inner.Form.{form_pars}
use Rattle.send_message.proofs.Sizes.{size_is}
use Rattle.send_message.proofs.put_form.Goals as goal

pub put_header-requires : goal.put_header-requires
put_header-requires c = let a = c.args in
    let p = c.requires in
    let e = size_is (form_pars a.owners.iid.now a.owners.owner.now a.owners.links (walk a.msg.now 8).pars a.body.now a.f) in
    omega arith

pub put_pars-requires : goal.put_pars-requires
put_pars-requires c = let a = c.args in
    let p = c.requires in
    let e = size_is (form_pars a.owners.iid.now a.owners.owner.now a.owners.links (walk a.msg.now 8).pars a.body.now a.f) in
    let l = ap length c.put_header.ensures ∙ length_over _ _ _ in
    (p.short, omega arith)

pub returns : goal.returns
returns c = let a = c.args in
    let p = c.requires in
    let ps = form_pars a.owners.iid.now a.owners.owner.now a.owners.links (walk a.msg.now 8).pars a.body.now a.f in
    let e = size_is ps in
    let w = c.put_pars.ensures in
    let n = w.next in (
      omega arith,
      over_two _ (head_bytes a.f.class a.f.msgtype a.size) (pars_bytes ps) _ _ _ _ c.put_header.ensures refl w.bytes
          ∙ ap (overlay a.out.now a.at) (encode_sized a.f.class a.f.msgtype ps a.size p.size_is),
    )
