-- The proof of specs/Room.antt: at most 386 actions, each with a message of at most 2,048 bytes.
-- Assumes nothing.
use Prim.Native.Nat.{ℕ, ◌+◌, ◌≤◌}
use mathlib.Core.Path.{◌≡◌, refl}
use mathlib.Core.Bool.{Bool, true, false, cond}
use mathlib.Core.List.{List, []}
use native.Mathlib.Omega.{arith}
use lib.ListN.{length}
use Rattle.laws.specs.Inner.Below.{concat_short}
use Rattle.state_tables.specs.Sound.{is_sound}
use Rattle.state_tables.specs.declared.Gateway.{Gateway}
use Rattle.rules_event.specs.Event.{EventKind, lending}
use Rattle.rules_event.specs.Rules.{in_plan, refusal_of}
use Rattle.rules_event.specs.Entry.{actions}
use Rattle.rules_event.specs.Sent.{actions_on, is_sent}
use Rattle.rules_event.specs.Inner.Few.{few_actions}
use Rattle.send_message.specs.Send.{message_at, part_at, parts}
use Rattle.send_message.specs.Handle.{room_bytes}
use Rattle.send_reads.specs.Room.{FitsRoom}
use Rattle.send_reads.proofs.Readable.{every_short}

module _ (g : Gateway) (h : List ℕ) (k : EventKind) (sound : is_sound g ≡ true) (planned : in_plan g k ≡ true) where
  -- nothing that is written for an action is longer than a message may be
  pub part_small : (j : ℕ) → length (part_at g h k j) ≤ 2048
  unfolding part_at
  part_small j = go (is_sent (actions_on g k) j) refl
    where
      go : (b : Bool) → is_sent (actions_on g k) j ≡ b → length (cond b (message_at g h k j) []) ≤ 2048
      go true e = (every_short g h k j sound planned e).0
      go false e = omega arith

  pub parts_small : (n : ℕ) → n ≤ 386 → length (parts g h k 0 n) ≤ room_bytes
  unfolding parts
  parts_small n few = omega (arith, few, concat_short (λ j. part_at g h k (0 + j)) 2048 (λ j. part_small (0 + j)) n)

  pub few_on : length (actions_on g k) ≤ 386
  unfolding actions refusal_of
  few_on = rw (sound, planned) at (few_actions g (record { kind = k; lent = lending 1544 34944 }))

pub fits_room : FitsRoom
fits_room g h k sound planned = parts_small g h k sound planned _ (few_on g h k sound planned)
