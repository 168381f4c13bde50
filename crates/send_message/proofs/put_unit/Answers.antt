use Rattle.send_message.specs.Inner.Form.{number_pars, data_pars, held_pars}
use borrow.Author.Rules.{rules}
use Rattle.codec_select.proofs.Runs.{put_two, room_first, room_second}
use Rattle.send_message.proofs.put_unit.Goals as goal

pub put_data_if-next-requires : goal.put_data_if-next-requires
unfolding held_pars
put_data_if-next-requires c = let a = c.args in (search rules, room_first a.out.now a.at (data_pars a.body.now a.f.held) (number_pars a.f.two) c.requires.1)

pub put_number_if-requires : goal.put_number_if-requires
unfolding held_pars
put_number_if-requires c = let a = c.args in room_second a.out.now a.at (data_pars a.body.now a.f.held) (number_pars a.f.two) c.requires.1 c.put_data_if-next.ensures

pub returns : goal.returns
unfolding held_pars
returns c = let a = c.args in put_two a.out.now a.at (data_pars a.body.now a.f.held) (number_pars a.f.two) c.put_data_if-next.ensures c.put_number_if.ensures
