use native.Mathlib.Omega.{arith}
use mathlib.Core.Path.{sym, ◌∙◌}
use Rattle.event_decision.specs.Inner.Decides.{decided}
use Rattle.event_run.specs.Inner.Columns.{asp_at_lem, up_on, down_on, message_on, other_on}
use Rattle.event_run.proofs.decided.Goals as goal

pub invariant_of-ids : goal.invariant_of-ids
invariant_of-ids c = let t = c.requires.0 in record { few = rw c.from.ensures t.few; order = rw c.from.ensures t.order }

pub invariant_of-plan : goal.invariant_of-plan
invariant_of-plan c = record { owned = rw c.from.ensures c.requires.0.owned }

pub traffic_work-requires : goal.traffic_work-requires
traffic_work-requires c = rw c.in-Traffic.is at c.requires.1

pub sender_of-t-requires : goal.sender_of-t-requires
sender_of-t-requires c = let i = c.requires in let h = rw c.in-Other.is at i.1 in (omega (arith, c.from-in-Other.ensures, i.3), h.0)

pub other_work-requires : goal.other_work-requires
other_work-requires c = let i = c.requires in let h = rw c.in-Other.is at i.1 in (h.0, i.2.small, h.1, h.2)

pub link_message-requires : goal.link_message-requires
link_message-requires c = let i = c.requires in let h = rw c.in-LinkMessage.is at i.1 in (i.3, h.0.class, h.0.msgtype, h.1)

pub returns-in-Up : goal.returns-in-Up
returns-in-Up c =
    let e = c.in-Up.is in
    let i = c.requires in
    let b = rw e at i.1 in
    let q = rw e at i.4 in
    record { on = λ g h. rw e (c.up_work.ensures.on g (asp_at_lem g _ b q h.asp_is, h.member_is, h.active_is)) }

pub returns-in-Traffic : goal.returns-in-Traffic
returns-in-Traffic c =
    let e = c.in-Traffic.is in
    let i = c.requires in
    let b = rw e at i.1 in
    let q = rw e at i.4 in
    record { on = λ g h. rw e (c.traffic_work.ensures.on g (record { links_is = h.links_is ∙ sym c.from.ensures; asp_is = asp_at_lem g _ b q h.asp_is; member_is = h.member_is; mode_is = h.mode_is; iid_is = h.iid_is; owner_is = h.owner_is })) }

pub returns-in-Other : goal.returns-in-Other
returns-in-Other c =
    let e = c.in-Other.is in
    let i = c.requires in
    let q = rw e at i.2 in
    let b = rw e at i.1 in
    let z = rw e at i.4 in
    record { on = λ g h. rw e (decided c.other_work.ensures (other_on g _ _ _ (asp_at_lem g _ b.0 z h.asp_is) h.member_is h.active_is h.iid_is h.links_is h.link_is c.from-in-Other.ensures c.sender_of-t.ensures q)) }

pub returns-in-LinkUp : goal.returns-in-LinkUp
returns-in-LinkUp c =
    let e = c.in-LinkUp.is in
    let i = c.requires in
    let q = rw e at i.2 in
    let b = rw e at i.1 in
    record { on = λ g h. rw e (decided c.link_turns.ensures (up_on g _ h.active_is h.link_is h.owned_by q b)) }

pub returns-in-LinkDown : goal.returns-in-LinkDown
returns-in-LinkDown c =
    let e = c.in-LinkDown.is in
    let i = c.requires in
    let q = rw e at i.2 in
    let b = rw e at i.1 in
    record { on = λ g h. rw e (decided c.link_turns-in-LinkDown.ensures (down_on g _ h.active_is h.link_is h.owned_by q b)) }

pub returns-in-LinkMessage : goal.returns-in-LinkMessage
returns-in-LinkMessage c =
    let e = c.in-LinkMessage.is in
    let i = c.requires in
    let q = rw e at i.2 in
    let t = rw e at i.1 in
    record { on = λ g h. rw e (decided c.link_message.ensures (message_on g _ _ h.active_is h.iid_is h.links_is h.link_is h.owned_by q t.0)) }

pub returns-in-Down : goal.returns-in-Down
returns-in-Down c = record { on = λ g h. rw c.in-Down.is (c.down_work.ensures.on g h.member_is) }

pub returns-in-Lost : goal.returns-in-Lost
returns-in-Lost c = record { on = λ g h. rw c.in-Lost.is (c.lost_work.ensures.on g h.member_is) }
