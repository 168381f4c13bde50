use native.Mathlib.Omega.{arith}
use borrow.Author.Rules.{rules}
use Prim.Native.Nat.{◌+◌, ◌-◌, ◌≤◌}
use mathlib.Core.Path.{◌≡◌, sym}
use lib.ListN.{length}
use Rattle.codec_read.proofs.Places.{data_lies}
use Rattle.codec_read.proofs.protocol_data.Goals as goal

-- the data lies within the message
pub overflow_add-result : goal.overflow_add-result
overflow_add-result c =
    let within : c.data_at-d.result.start + c.data_at-d.result.length ≤ length c.args.s.now = rw c.data_at-d.ensures (data_lies c.args.s.now).within in
    search rules

pub slice_bounds-result-end : goal.slice_bounds-result-end
slice_bounds-result-end c =
    let within : c.data_at-d.result.start + c.data_at-d.result.length ≤ length c.args.s.now = rw c.data_at-d.ensures (data_lies c.args.s.now).within in
    search rules

pub returns : goal.returns
returns c =
    let m : c.data_at-d.result.start + c.data_at-d.result.length - c.data_at-d.result.start ≡ c.data_at-d.result.length = omega arith in
    rw (m, c.data_at-d.ensures) (sym (data_lies _).bytes)
