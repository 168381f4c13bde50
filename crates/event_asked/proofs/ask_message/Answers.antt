use native.Mathlib.Omega.{arith}
use Rattle.event_others.specs.Inner.Other.{class_small, type_small}
use Rattle.event_asked.specs.Inner.Ask.{asks_link_message, asks_message}
use Rattle.event_asked.proofs.ask_message.Goals as goal

pub returns-then-link_side : goal.returns-then-link_side
returns-then-link_side c = rw (c.if-link_side.true, c.read-read.ensures) (asks_link_message _)

pub asp_message-requires : goal.asp_message-requires
asp_message-requires c = (rw c.read-read.ensures (class_small _ (omega (arith, c.type_inv.msg 2))), rw c.read-read.ensures (type_small _ (omega (arith, c.type_inv.msg 3))))

pub returns : goal.returns
returns c =
    rw (c.if-link_side.false, c.asp_message.ensures, c.read-read.ensures)
    (asks_message _ _ (class_small _ (omega (arith, c.type_inv.msg 2))) (type_small _ (omega (arith, c.type_inv.msg 3))))
