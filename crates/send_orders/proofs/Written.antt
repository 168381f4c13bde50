-- Behind an event that was run, on the very state that is lent: what the writer asks for, and what it wrote.
-- Assumes nothing.
use Prim.Native.Nat.{ℕ, ◌+◌, ◌≤◌}
use mathlib.Core.List.{List}
use lib.Dec.{leb}
use lib.ListN.{length}
use Rattle.state_tables.specs.declared.Gateway.{Gateway}
use Rattle.rules_event.specs.Sent.{actions_on}
use Rattle.event_asked.specs.Happened.{happened}
use Rattle.send_message.specs.Send.{part_at}
use Rattle.send_orders.specs.declared.Given.{Given}
use Rattle.send_orders.specs.Inner.Batch.{Ended}
use Rattle.send_orders.specs.Inner.Behind.{Lines, lines_of, CanWrite, Wrote}
use Rattle.send_orders.specs.Inner.Ran.{Ran}

abbrev pub lines_at : Gateway → Gateway → Lines
lines_at g c = lines_of g.member g.iid g.owner g.held.count c.held.count g.held.tag g.held.length g.held.marked g.held.correlation

abbrev pub given_at : ℕ → ℕ → ℕ → ℕ → Gateway → Given
given_at kind i count place g = record { kind = kind; index = i; count = count; place = place; links = g.links }

module _ (s : List ℕ) (kind i place : ℕ) {g : Gateway} {h : List ℕ} {count : ℕ} {ws : List ℕ} {c : Gateway} (t : Ran g h (happened kind i s) count ws c) where
  pub can_write : place ≤ count → CanWrite (given_at kind i count place g) (lines_at g c) ws s h
  can_write l = (l, g, c, t)

  pub written : {lens out lens' out' : List ℕ} {n at : ℕ} → Wrote (given_at kind i count place g) (lines_at g c) ws s h lens out n at lens' out'
      → Ended (λ j. part_at g h (happened kind i s) (place + j)) (λ j. leb (length (actions_on g (happened kind i s))) (place + j)) lens out n at lens' out'
  written w = w g c t
