use mathlib.Core.Path.{refl, ap, ◌∙◌}
use Rattle.codec_put.specs.Bytes.{overlay, head_bytes, pars_bytes}
use Rattle.codec_put.proofs.Sets.{over_two}
use Rattle.codec_write.specs.Inner.Message.{pars_of}
use Rattle.codec_write.proofs.Writes.{encode_sized, size_of_sized}
use Rattle.codec_write.proofs.message.Whole.put.Goals as goal

pub returns : goal.returns
returns c =
    let w = c.args.self in
    let m = w.message in
    over_two _ (head_bytes m.class m.msgtype w.length) (pars_bytes (pars_of m)) _ _ 0 8 c.put_header.ensures refl c.put_pars.ensures
    ∙ ap (overlay c.args.out.now 0) (encode_sized m.class m.msgtype (pars_of m) w.length (size_of_sized w.sized))
