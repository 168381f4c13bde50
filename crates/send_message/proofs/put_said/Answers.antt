use Rattle.send_message.specs.Inner.Form.{number_pars, held_pars, said_pars}
use borrow.Author.Rules.{rules}
use Rattle.codec_select.proofs.Runs.{put_two, room_first, room_second}
use Rattle.send_message.proofs.put_said.Goals as goal

pub put_number_if-next-requires : goal.put_number_if-next-requires
unfolding said_pars
put_number_if-next-requires c = let a = c.args in room_first a.out.now a.at (number_pars a.f.one) (held_pars a.body.now a.f) c.requires.1

pub put_unit-requires : goal.put_unit-requires
unfolding said_pars
put_unit-requires c = let a = c.args in (search rules, room_second a.out.now a.at (number_pars a.f.one) (held_pars a.body.now a.f) c.requires.1 c.put_number_if-next.ensures)

pub returns : goal.returns
unfolding said_pars
returns c = let a = c.args in put_two a.out.now a.at (number_pars a.f.one) (held_pars a.body.now a.f) c.put_number_if-next.ensures c.put_unit.ensures
