use Rattle.codec_wire.specs.Walk.{walk}
use Rattle.codec_select.proofs.Runs.{put_two, room_first, room_second}
use Rattle.send_message.specs.Inner.Form.{listed_pars, copied_pars}
use Rattle.send_message.proofs.put_rest.Goals as goal

pub put_listed-next-requires : goal.put_listed-next-requires
unfolding listed_pars
put_listed-next-requires c = let a = c.args in
    room_first a.out.now a.at (listed_pars a.owners.iid.now a.owners.owner.now a.owners.links a.f) (copied_pars (walk a.msg.now 8).pars a.f) c.requires

pub put_copies-requires : goal.put_copies-requires
unfolding listed_pars
put_copies-requires c = let a = c.args in
    room_second a.out.now a.at (listed_pars a.owners.iid.now a.owners.owner.now a.owners.links a.f) (copied_pars (walk a.msg.now 8).pars a.f) c.requires c.put_listed-next.ensures

pub returns : goal.returns
unfolding listed_pars
returns c = let a = c.args in
    put_two a.out.now a.at (listed_pars a.owners.iid.now a.owners.owner.now a.owners.links a.f) (copied_pars (walk a.msg.now 8).pars a.f) c.put_listed-next.ensures c.put_copies.ensures
