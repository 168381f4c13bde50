use native.Mathlib.Omega.{arith}
use Rattle.codec_put.specs.Bytes.{par}
use Rattle.codec_select.proofs.Runs.{put_none, put_one, one_length}
use borrow.Author.Rules.{rules}
use Rattle.send_message.proofs.put_data_if.Goals as goal

pub returns-in_default : goal.returns-in_default
returns-in_default c = rw c.in_default.is (put_none _ _)

pub put_param-requires : goal.put_param-requires
put_param-requires c =
    let h = rw c.in-Some.is at c.requires.1 in
    let e = one_length (par c.in-Some.tag c.args.body.now) in
    (search rules, omega arith)

pub returns : goal.returns
returns c = rw c.in-Some.is (put_one c.in-Some.tag c.args.body.now c.put_param.ensures)
