use native.Mathlib.Omega.{arith}
use Rattle.codec_put.specs.Bytes.{bytes32}
use Rattle.codec_select.proofs.Runs.{put_none, put_one, one_length}
use Rattle.send_message.specs.Message.{number_par}
use Rattle.send_message.proofs.put_number_if.Goals as goal

pub returns-in_default : goal.returns-in_default
returns-in_default c = rw c.in_default.is (put_none _ _)

pub put_number-requires : goal.put_number-requires
put_number-requires c = let n = c.in-Some.n in
    let h = rw c.in-Some.is at c.requires in
    let e = one_length (number_par n.tag n.value) in
    omega arith

pub returns : goal.returns
returns c = let n = c.in-Some.n in rw c.in-Some.is (put_one n.tag (bytes32 n.value) c.put_number.ensures)
