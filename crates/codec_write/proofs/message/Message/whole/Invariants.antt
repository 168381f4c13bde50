use lib.ListN.{drop}
use Prim.Native.Nat.{◌+◌, ◌≤◌}
use mathlib.Core.Path.{◌≡◌}
use Rattle.codec_write.specs.Encode.{total}
use Rattle.codec_write.specs.Inner.Write.{sizes}
use Rattle.codec_write.proofs.message.Message.whole.Given as goal

abbrev pub invariant-loop-len : goal.invariant-loop-len
invariant-loop-len l = (l.length + sizes (drop l.len-index l.len-items) ≡ 8 + sizes l.len-items) × (l.sum + total (drop l.len-index l.len-items) ≡ total l.len-items) × (l.sum ≤ l.length) × (l.length ≤ 2048)
