use Rattle.std.specs.Slice.Iter.{iter_rest}
use Rattle.std.specs.Iterator.Adapters.{zip_first, zip_second}
use Rattle.codec_read.proofs.Turns.{Head}
use Rattle.codec_write.specs.Encode.{pars_in}
use Rattle.codec_write.specs.Inner.Write.{Lent}
use Rattle.codec_write.specs.Inner.Message.{pars_of}
use Rattle.codec_write.proofs.message.Whole.row_check.Given as goal

abbrev pub invariant-loop-tag : goal.invariant-loop-tag
invariant-loop-tag l =
    let ts = iter_rest (zip_first l.tag-iterator) in
    let ns = iter_rest (zip_second l.tag-iterator) in
    Lent ts ns l.rest × Head l.fn.row (pars_of l.fn.self.message) l.seen (pars_in ts ns l.rest)
