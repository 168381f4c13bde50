use Rattle.codec_wire.specs.Walk.{walk}
use Rattle.codec_select.specs.Only.{only}
use Rattle.codec_select.specs.Inner.Picks.{picks}
use Rattle.send_message.specs.Inner.Form.{copied_pars}
use Rattle.codec_select.proofs.Runs.{put_two, room_first, room_second}
use Rattle.send_message.proofs.put_copies.Goals as goal

pub put_picked-next-requires : goal.put_picked-next-requires
unfolding copied_pars
put_picked-next-requires c = let a = c.args in room_first a.out.now a.at (only (picks a.f.first) (walk a.msg.now 8).pars) (only (picks a.f.after) (walk a.msg.now 8).pars) c.requires

pub put_picked-requires : goal.put_picked-requires
unfolding copied_pars
put_picked-requires c = let a = c.args in room_second a.out.now a.at (only (picks a.f.first) (walk a.msg.now 8).pars) (only (picks a.f.after) (walk a.msg.now 8).pars) c.requires c.put_picked-next.ensures

pub returns : goal.returns
unfolding copied_pars
returns c = let a = c.args in put_two a.out.now a.at (only (picks a.f.first) (walk a.msg.now 8).pars) (only (picks a.f.after) (walk a.msg.now 8).pars) c.put_picked-next.ensures c.put_picked.ensures
