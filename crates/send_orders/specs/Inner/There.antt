-- What is written for an action of an event is its message, as specs/Send.antt of crate send_message has it.
-- Assumes nothing.
use Rattle.std.specs.Prelude.{ℕ, ◌/◌, ◌<◌, ◌≡◌, Bool, not, List, [], length}
use Rattle.std.proofs.Math.Path.{refl, sym}
use Rattle.std.proofs.Common.{◌∙◌, arith, ne_eqb, lt-ltb}
use Rattle.std.proofs.Math.Bool.{true, false}
use Rattle.std.proofs.lemmas.Bool.{false≢true, not-true}
use Rattle.std.proofs.Math.Decide.{dec_lt}
use Rattle.std.proofs.Math.Dec.{eqb}
use Rattle.laws.specs.Columns.{number_at}
use Rattle.laws.specs.Inner.Every.{and_left, and_right}
use Rattle.codec_parameter.specs.Table.{table, has_class}
use Rattle.state_tables.specs.Sound.{is_sound}
use Rattle.state_tables.specs.declared.Gateway.{Gateway}
use Rattle.rules_action.specs.declared.Action.{Action}
use Rattle.rules_action.specs.Words.{link_side}
use Rattle.rules_event.specs.Event.{EventKind}
use Rattle.rules_event.specs.Rules.{in_plan}
use Rattle.rules_event.specs.Sent.{actions_on, action_at, is_sent, is_data, unit_for, is_passed}
use Rattle.rules_units.proofs.Releases.{every_unit}
use Rattle.send_message.specs.Send.{message_at, part_at}
use Rattle.send_message.specs.Inner.Stands.{Lends}
use Rattle.send_reads.proofs.Readable.{every_short}
use Rattle.send_reads.proofs.Held.{kept}
use Rattle.send_unit.specs.Inner.Made.{held_of, Long}
use Rattle.send_orders.specs.Inner.Part.{sent_from, part_from, to_side, sent_part}

-- a class that has a row is one byte
class_small : (c : ℕ) → has_class table c ≡ true → c < 256
unfolding has_class table
class_small c h = go (dec_lt c 256)
  where
    go : Dec (c < 256) → c < 256
    go (yes l) = l
    go (no l) = absurd (false≢true (rw (ne_eqb c 0 (λ e. omega arith), ne_eqb c 3 (λ e. omega arith), ne_eqb c 4 (λ e. omega arith), ne_eqb c 6 (λ e. omega arith)) at h))

module _ (g : Gateway) (h : List ℕ) (k : EventKind) (j : ℕ) where
  abbrev o : Action
  o = action_at (actions_on g k) j

  pub is_sent_lem : is_sent (actions_on g k) j ≡ true → part_at g h k j ≡ message_at g h k j
  unfolding part_at
  is_sent_lem e = rw e

  pub not_sent : is_sent (actions_on g k) j ≡ false → part_at g h k j ≡ []
  unfolding part_at
  not_sent e = rw e

  module _ (sound : is_sound g ≡ true) (planned : in_plan g k ≡ true) where
    module _ (there : j < length (actions_on g k)) where
      -- the unit that it sends is held
      pub unit_long : held_of (is_passed k) o ≡ true → Long (number_at g.held.length (unit_for g k j))
      unit_long e =
          let u = every_unit g k j sound planned (not-true _ (and_right (is_data o) (not (is_passed k)) e)) (lt-ltb j (length (actions_on g k)) there) (and_left (is_data o) (not (is_passed k)) e) in
          let f = kept g sound (unit_for g k j) u.place u.held in
          record { least = f.least; longest = f.most_bytes }

      -- x is lent for it, and i is that unit, where it sends one
      pub part_there : (x : List ℕ) (i : ℕ) → Lends g k x o → (held_of (is_passed k) o ≡ true → i ≡ unit_for g k j) → part_from g h g.links x (is_passed k) i o ≡ part_at g h k j
      unfolding is_sent message_at
      part_there x i lends unit = go (eqb o.to link_side) refl
        where
          go : (b : Bool) → eqb o.to link_side ≡ b → part_from g h g.links x (is_passed k) i o ≡ part_at g h k j
          go true e = to_side _ _ _ _ _ (sent_from g (is_passed k) i o) e ∙ sym (not_sent (rw (lt-ltb j (length (actions_on g k)) there, e)))
          go false e =
              let y : is_sent (actions_on g k) j ≡ true = rw (lt-ltb j (length (actions_on g k)) there, e) in
              sent_part g h k x (unit_for g k j) i o lends e unit (omega (arith, class_small (o.classtype / 256) (every_short g h k j sound planned y).1)) ∙ sym (is_sent_lem y)
