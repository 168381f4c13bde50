use Prim.Native.Nat.{◌-◌, ◌≤◌}
use Rattle.codec_select.specs.Inner.Picks.{PutBytes}
use Rattle.send_message.specs.Inner.Form.{ids_in}
use Rattle.send_message.proofs.put_owned.Given as goal

abbrev pub invariant-loop-l : goal.invariant-loop-l
invariant-loop-l l = PutBytes l.initial.out l.from (ids_in l.owners.iid.now l.owners.owner.now l.l l.a) l.at l.out × (l.l ≤ l.owners.links) × (l.owners.links ≤ 128)

abbrev pub decreases-loop-l : goal.decreases-loop-l
decreases-loop-l l = l.owners.links - l.l
