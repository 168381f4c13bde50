-- Laws of specs/Changed.antt, and definitions that only code and proofs use.
-- Assumes nothing.
use Rattle.std.specs.Prelude.{ℕ, ◌≤◌, ◌<◌, ◌≡◌, Bool, true, cond, List, eqb, length, set}
use Rattle.std.proofs.Common.{◌∙◌, length-set, get_or-set_same, get_or-set_other, arith, eq-eqb, ne_eqb}
use Rattle.std.proofs.Math.Decide.{ℕ_discrete}
use Rattle.laws.specs.Inner.Below.{concat_short}
use Rattle.laws.specs.Columns.{flag_at, number_at}
use Rattle.laws.specs.Inner.Columns.{is_tabulate}
use Rattle.state_tables.specs.declared.Gateway.{Gateway}
use Rattle.rules_server.specs.declared.AsRecord.{AsRecord}
use Rattle.rules_server.specs.declared.Change.{Change}
use Rattle.rules_server.specs.Record.{record_of}
use Rattle.rules_server.specs.Inner.Change.{fits}
use Rattle.rules_server.specs.Inner.Notify.{actions_in_short}
use Rattle.rules_servers.specs.Changed.{with_flag, actions_at, all_actions}

-- ---- laws

-- one place of an array set
pub flag_at_set : (c : List ℕ) (p x : ℕ) → length c ≡ 16 → set c p x ≡ with_flag c p x
unfolding with_flag
flag_at_set c p x e = is_tabulate 0 (set c p x) 16 (λ q. cond (eqb q p) x (number_at c q)) (length-set c p x ∙ e) (λ q b. go q b (ℕ_discrete q p))
  where
    go : (q : ℕ) → q < 16 → Dec (q ≡ p) → number_at (set c p x) q ≡ cond (eqb q p) x (number_at c q)
    go q b (yes z) = rw (eq-eqb q p z, z) (get_or-set_same c p x 0 (omega arith))
    go q b (no z) = rw (ne_eqb q p z) (get_or-set_other c p q x 0 z)

-- at most 24 actions in an AS, 384 in all

pub actions_at_short : (k : Change) (named : List Bool) (records : ℕ → AsRecord) (count id : List ℕ) → fits k ≡ true → (a : ℕ) → length (actions_at k named records count id a) ≤ 24
unfolding actions_at
actions_at_short k named records count id h a = actions_in_short (flag_at named a) k a (records a) (number_at count a) id h

pub all_actions_short : (g : Gateway) (k : Change) (named : List Bool) → fits k ≡ true → length (all_actions g k named) ≤ 384
unfolding all_actions
all_actions_short g k named h =
    concat_short (actions_at k named (record_of g) g.held.count g.held.id) 24 (actions_at_short k named (record_of g) g.held.count g.held.id h) 16
