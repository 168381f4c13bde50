use native.Mathlib.Omega.{arith}
use Rattle.std.specs.Prelude.{length}
use Rattle.laws.specs.Columns.{number_at}
use Rattle.state_tables.specs.State.{gateway_of, units_of}
use Rattle.event_asked.specs.Happened.{happened}
use Rattle.event_asked.specs.Inner.Refusal.{refusal_some}
use Rattle.event_run.specs.Inner.Perform.{runs_no}
use Rattle.event_run.specs.Inner.Decided.{whole, taken}
use Rattle.event_run.specs.Inner.Performed.{change_room, lay_room, ran_send, ran_turn, ran_spread, ran_turn_spread, ran_change, ran_take}
use Rattle.event_run.proofs.run.Goals as goal

pub returns-in-Err : goal.returns-in-Err
returns-in-Err c =
    let e = rw c.in-Err.is at c.decide.ensures in
    rw c.from.ensures (runs_no _ (happened c.args.kind c.args.i c.args.msg.now) c.args.size e (refusal_some c.in-Err.refusal))

-- ---- room for the actions that come first

pub say-requires : goal.say-requires
say-requires c = let d = rw c.in-Ok-Send.is at c.decide.ensures in let e = (whole d).enough in omega arith

pub say-requires-in-Ok-Turn : goal.say-requires-in-Ok-Turn
say-requires-in-Ok-Turn c = let d = rw c.in-Ok-Turn.is at c.decide.ensures in let e = (whole d).enough in omega arith

pub spread-requires : goal.spread-requires
spread-requires c = let d = rw c.in-Ok-Spread.is at c.decide.ensures in let e = (whole d).enough in omega arith

pub spread-requires-in-Ok-TurnSpread : goal.spread-requires-in-Ok-TurnSpread
spread-requires-in-Ok-TurnSpread c = let d = rw c.in-Ok-TurnSpread.is at c.decide.ensures in let e = (whole d).enough in omega arith

pub say-n-requires : goal.say-n-requires
say-n-requires c = let d = rw c.in-Ok-ChangeIn.is at c.decide.ensures in let e = (whole d).enough in omega arith

-- ---- no change in ASes

pub returns-in-Ok-Send : goal.returns-in-Ok-Send
returns-in-Ok-Send c =
    let d = rw c.in-Ok-Send.field-0-is at (rw c.in-Ok-Send.is at c.decide.ensures) in
    rw c.accepted.ensures (ran_send d c.say.ensures)

pub returns-in-Ok-Turn : goal.returns-in-Ok-Turn
returns-in-Ok-Turn c =
    let d = rw c.in-Ok-Turn.field-0-is at (rw c.in-Ok-Turn.is at c.decide.ensures) in
    rw c.accepted-in-Ok-Turn.ensures (ran_turn d c.say-in-Ok-Turn.ensures)

pub returns-in-Ok-Spread : goal.returns-in-Ok-Spread
returns-in-Ok-Spread c =
    let d = rw c.in-Ok-Spread.field-0-is at (rw c.in-Ok-Spread.is at c.decide.ensures) in
    rw c.accepted-in-Ok-Spread.ensures (ran_spread d c.spread.ensures)

pub returns-in-Ok-TurnSpread : goal.returns-in-Ok-TurnSpread
returns-in-Ok-TurnSpread c =
    let d = rw c.in-Ok-TurnSpread.field-0-is at (rw c.in-Ok-TurnSpread.is at c.decide.ensures) in
    rw c.accepted-in-Ok-TurnSpread.ensures (ran_turn_spread d c.spread-in-Ok-TurnSpread.ensures)

-- ---- a change

pub enact-m-requires : goal.enact-m-requires
enact-m-requires c =
    let d = rw c.in-Ok-ChangeIn.field-0-is at (rw c.in-Ok-ChangeIn.is at c.decide.ensures) in
    (change_room c.in-Ok-ChangeIn.replies (whole d).enough c.say-n.ensures, d.decides.within)

pub returns-in-Ok-ChangeIn : goal.returns-in-Ok-ChangeIn
returns-in-Ok-ChangeIn c =
    let d = rw c.in-Ok-ChangeIn.field-0-is at (rw c.in-Ok-ChangeIn.is at c.decide.ensures) in
    rw c.accepted-in-Ok-ChangeIn.ensures (ran_change d c.say-n.ensures c.enact-m.ensures c.let_go.ensures)

-- ---- a unit comes in

pub take_in-requires : goal.take_in-requires
take_in-requires c =
    let d = rw c.in-Ok-TakeIn.field-0-is at (rw c.in-Ok-TakeIn.is at c.decide.ensures) in
    let t = taken d in
    (t.as_16, t.few)

pub overflow_sub-from : goal.overflow_sub-from
overflow_sub-from c =
    let d = rw c.in-Ok-TakeIn.field-0-is at (rw c.in-Ok-TakeIn.is at c.decide.ensures) in
    let t = taken d in
    rw c.from-in-Ok-TakeIn.ensures t.least

-- (That there is room holds of smaller places too: that the bytes go to this one, returns-in-Ok-TakeIn says.)
pub lay-requires : goal.lay-requires
lay-requires c =
    let d = rw c.in-Ok-TakeIn.field-0-is at (rw c.in-Ok-TakeIn.is at c.decide.ensures) in
    let t = taken d in
    let room = lay_room _ c.from-k.result _ _ _ _ _ (c.from-in-Ok-TakeIn.ensures) t.as_16 (rw c.from-k.ensures t.few) t.most t.within (whole d).whole in
    (room.0, omega (arith, room.1))

pub returns-in-Ok-TakeIn : goal.returns-in-Ok-TakeIn
returns-in-Ok-TakeIn c =
    let d = rw c.in-Ok-TakeIn.field-0-is at (rw c.in-Ok-TakeIn.is at c.decide.ensures) in
    rw c.accepted-in-Ok-TakeIn.ensures (ran_take d c.take_in.ensures c.from-k.ensures (rw c.from-in-Ok-TakeIn.ensures at c.lay.ensures))
