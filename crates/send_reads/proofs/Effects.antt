-- A property of every action of an effect, by the ways in which the rules make effects (compare the laws on
-- how many there are, of crate rules_event).
-- Assumes nothing.
use mathlib.Core.Path.{◌≡◌}
use mathlib.Core.Bool.{Bool, false, ◌&&◌}
use mathlib.Core.List.{List, [], ◌++◌}
use Prim.Native.Nat.{ℕ, ◌≤◌}
use native.Mathlib.Omega.{arith}
use Rattle.laws.specs.Below.{when}
use lib.Dec.{ltb}
use Rattle.laws.specs.Columns.{flag_at, number_at}
use Rattle.state_tables.specs.Sound.{unit_index}
use Rattle.state_tables.specs.declared.Gateway.{Gateway}
use Rattle.rules_action.specs.declared.Action.{Action}
use Rattle.rules_action.specs.Words.{action, link_side, to_each, to_all}
use Rattle.rules_action.specs.Types.{mgmt_error, mgmt_notify, asp_up_ack, asp_down_ack, establish_confirm, release_confirm, release_indication, data_ack, as_state, other_active}
use Rattle.rules_server.specs.declared.AsRecord.{AsRecord}
use Rattle.rules_server.specs.declared.Change.{Change}
use Rattle.rules_server.specs.declared.Change.TheVariants.{AspUp, AspDown, Deactivate, Activate, Recover}
use Rattle.rules_server.specs.Record.{record_of, state_in}
use Rattle.rules_server.specs.Inner.Record.{state_small}
use Rattle.rules_server.specs.Change.{after, overtaken_in}
use Rattle.rules_server.specs.Notify.{notify, is_notified, notifies_to, notifies, actions_in}
use Rattle.rules_server.specs.Units.{sending, unit_out, units_out, let_out}
use Rattle.rules_servers.specs.Changed.{actions_at, all_actions}
use Rattle.send_message.specs.Inner.Stands.{is_traffic_ack}
use Rattle.send_reads.proofs.Numbers.{largest}
use Rattle.send_reads.proofs.Each.{Each, each_none, each_append, each_cond, each_when, each_below}

-- the same action to each ASP whose flag is set
pub each_all : {P : Action → Type 0} (who : List Bool) (k x v : ℕ) → ((p : ℕ) → P (action p k x v)) → Each P (to_all who k x v)
unfolding to_all to_each
each_all who k x v h = each_below (to_each who k x v) 16 (λ p. each_when (flag_at who p) (action p k x v) (h p))

-- ---- the actions that the rules make, but for the Acks that repeat some of what they answer

pub record Holds (P : Action → Type 0) : Type 0 where
  pub errors : (p x n : ℕ) → n ≤ largest → P (action p mgmt_error x n)
  pub notes : (p a n : ℕ) → n ≤ largest → P (action p mgmt_notify a n)
  pub units : (p : ℕ) (id : List ℕ) (i : ℕ) → P (sending p id i)
  pub sides : (k x v : ℕ) → is_traffic_ack k ≡ false → P (action link_side k x v)
  pub up_acked : (p : ℕ) → P (action p asp_up_ack 0 0)
  pub down_acked : (p : ℕ) → P (action p asp_down_ack 0 0)
  pub data_acked : (p x n : ℕ) → P (action p data_ack x n)
  pub established : (p x v : ℕ) → P (action p establish_confirm x v)
  pub released : (p x v : ℕ) → P (action p release_confirm x v)
  pub stopped : (p x v : ℕ) → P (action p release_indication x v)

-- ---- Notifies, and the units of an AS

module _ {P : Action → Type 0} (note : (p a n : ℕ) → n ≤ largest → P (action p mgmt_notify a n)) (unit : (p : ℕ) (id : List ℕ) (i : ℕ) → P (sending p id i)) where
  to_one : (lost : List Bool) (s t : AsRecord) (a p : ℕ) → Each P (notifies_to lost s t a p)
  unfolding notifies_to
  to_one lost s t a p =
      each_append (when (flag_at lost p) (notify a other_active p)) (when (is_notified s t && flag_at t.ups p) (notify a (as_state (state_in t)) p))
      (each_when (flag_at lost p) (notify a other_active p) (note p a other_active (omega arith)))
      (each_when (is_notified s t && flag_at t.ups p) (notify a (as_state (state_in t)) p) (note p a (as_state (state_in t)) (omega (arith, state_small t))))

  let_out_lem : (k : Change) (n : ℕ) (id : List ℕ) (a : ℕ) → Each P (let_out k n id a)
  unfolding let_out units_out unit_out
  let_out_lem (AspUp p) n id a = each_none
  let_out_lem (AspDown p) n id a = each_none
  let_out_lem (Deactivate p) n id a = each_none
  let_out_lem (Activate p) n id a = each_below (unit_out p n id a) 8 (λ k. each_when (ltb k n) _ (unit p id (unit_index a k)))
  let_out_lem Recover n id a = each_none

  in_one : (g : Gateway) (k : Change) (named : List Bool) (count id : List ℕ) (a : ℕ) → Each P (actions_at k named (record_of g) count id a)
  unfolding actions_at actions_in notifies
  in_one g k named count id a =
      let s : AsRecord = record_of g a in
      each_cond (flag_at named a) (let_out k (number_at count a) id a ++ notifies (overtaken_in k s) s (after k s) a) []
      (each_append (let_out k (number_at count a) id a) (notifies (overtaken_in k s) s (after k s) a) (let_out_lem k (number_at count a) id a) (each_below (notifies_to (overtaken_in k s) s (after k s) a) 16 (to_one (overtaken_in k s) s (after k s) a)))
      each_none

  pub each_change : (g : Gateway) (k : Change) (named : List Bool) → Each P (all_actions g k named)
  unfolding all_actions
  each_change g k named = each_below (actions_at k named (record_of g) g.held.count g.held.id) 16 (in_one g k named g.held.count g.held.id)
