use Rattle.std.proofs.Common.{arith, sym, ap, ◌∙◌, ◌≡◌, ◌+◌, ◌*◌, ◌-◌, length}
use Rattle.std.proofs.lemmas.Slice.{take-put_mid}
use lib.Seq.{length-take-le}
use Rattle.tool_text.proofs.Lengths.{hex_text, part_length}
use Rattle.tool_text.proofs.buffer.Text.push_hex.Goals as goal

pub returns-clause-text : goal.returns-clause-text
returns-clause-text c =
    let i = c.self.inside in
    let n = 2 * length c.args.s.now in
    let m : i.len ≡ length c.args.self.now = sym (length-take-le i.len i.bytes (omega arith)) ∙ ap length c.self.view_is in
    let k = part_length i.bytes i.len (i.len + n - i.len) (omega arith) in
    let e : length c.put_pairs.new.out ≡ n = c.put_pairs.auto.out ∙ k ∙ omega arith in
    take-put_mid i.len _ i.bytes c.put_pairs.new.out _ (omega arith) (omega arith)
    ∙ hex_text _ _ _ _ c.self.view_is c.put_pairs.ensures
