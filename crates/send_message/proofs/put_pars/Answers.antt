use mathlib.Core.List.{◌++◌}
use borrow.Author.Rules.{rules}
use Rattle.codec_wire.specs.Walk.{walk}
use Rattle.codec_select.proofs.Runs.{put_two, room_first, room_second}
use Rattle.send_message.specs.Inner.Form.{said_pars, listed_pars, copied_pars, form_pars}
use Rattle.send_message.proofs.put_pars.Goals as goal

pub put_said-next-requires : goal.put_said-next-requires
unfolding form_pars
put_said-next-requires c = let a = c.args in (search rules, room_first a.out.now a.at (said_pars a.body.now a.f) (listed_pars a.owners.iid.now a.owners.owner.now a.owners.links a.f ++ copied_pars (walk a.msg.now 8).pars a.f) c.requires.1)

pub put_rest-requires : goal.put_rest-requires
unfolding form_pars
put_rest-requires c = let a = c.args in
    room_second a.out.now a.at (said_pars a.body.now a.f) (listed_pars a.owners.iid.now a.owners.owner.now a.owners.links a.f ++ copied_pars (walk a.msg.now 8).pars a.f) c.requires.1 c.put_said-next.ensures

pub returns : goal.returns
unfolding form_pars
returns c = let a = c.args in put_two a.out.now a.at (said_pars a.body.now a.f) (listed_pars a.owners.iid.now a.owners.owner.now a.owners.links a.f ++ copied_pars (walk a.msg.now 8).pars a.f) c.put_said-next.ensures c.put_rest.ensures
