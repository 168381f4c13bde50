-- The few laws on the loop over the ASes (crate rules_servers) that locality needs beside those proved there.
-- Assumes nothing.
use mathlib.Core.Path.{◌≡◌, refl, sym, ap, ◌∙◌}
use mathlib.Core.Bool.{Bool, true, false, ◌&&◌, cond}
use mathlib.Core.List.{List, [], ◌++◌}
use Prim.Native.Nat.{ℕ, ◌<◌}
use native.Mathlib.Omega.{arith}
use lib.ListN.{length, drop, drop_of_length-le}
use lib.Dec.{eqb, ltb}
use Rattle.laws.specs.Below.{when}
use Rattle.laws.specs.Inner.Below.{concat_ext}
use Rattle.laws.specs.Columns.{flag_at, is_set, number_at, tabulate}
use Rattle.laws.specs.Inner.Columns.{length_tabulate, tabulate_ext}
use Rattle.state_tables.specs.Sound.{pair, unit_index}
use Rattle.state_tables.specs.declared.Gateway.{Gateway}
use Rattle.rules_action.specs.declared.Action.{Action}
use Rattle.rules_action.specs.Types.{user_data}
use Rattle.rules_server.specs.declared.Change.{Change}
use Rattle.rules_server.specs.declared.Change.TheVariants.{AspUp, AspDown, Deactivate, Activate, Recover}
use Rattle.rules_server.specs.Record.{row, members_up, record_from, record_of}
use Rattle.rules_server.specs.Change.{after, overtaken_in}
use Rattle.rules_server.specs.Units.{unit_out, units_out, let_out}
use Rattle.rules_server.specs.Notify.{notifies, actions_in}
use Rattle.rules_servers.specs.Changed.{with_flag, with_columns, new_active, new_waiting, up_after, with_change, actions_at, all_actions}
use Rattle.rules_servers.specs.Inner.Records.{flag_at_lem}
use Rattle.rules_history.proofs.Bits.{and_cong}

-- the plan of g, with what g' has where events change it
abbrev pub dyn : Gateway → Gateway → Gateway
dyn g g' = with_columns g g'.up g'.active g'.waiting g'.state g'.held

-- the record of an AS hangs on its members' up flags, its row, its mark and its mode
pub same_record : (up' up member active' active waiting' waiting mode : List ℕ) (a : ℕ)
    → ((q : ℕ) → q < 16 → is_set member (pair a q) ≡ true → number_at up' q ≡ number_at up q)
    → ((q : ℕ) → q < 16 → number_at active' (pair a q) ≡ number_at active (pair a q))
    → number_at waiting' a ≡ number_at waiting a → record_from up' member active' waiting' mode a ≡ record_from up member active waiting mode a
unfolding record_from members_up row
same_record up' up member active' active waiting' waiting mode a hu hc hw =
    λ j. record { ups = ups j; acts = acts j; waiting = eqb (hw j) 1; mode = number_at mode a }
  where
    ups : tabulate 16 (λ q. is_set member (pair a q) && is_set up' q) ≡ tabulate 16 (λ q. is_set member (pair a q) && is_set up q)
    ups = tabulate_ext false 16 _ _ (λ q b. and_cong (is_set member (pair a q)) (λ m. ap (λ (x : ℕ). eqb x 1) (hu q b m)))

    acts : tabulate 16 (λ q. is_set active' (pair a q)) ≡ tabulate 16 (λ q. is_set active (pair a q))
    acts = tabulate_ext false 16 _ _ (λ q b. ap (λ (x : ℕ). eqb x 1) (hc q b))

-- the units that go out hang on the identifiers of the AS's places
same_out : (k : Change) (n : ℕ) (id' id : List ℕ) (a : ℕ) → ((j : ℕ) → j < 8 → number_at id' (unit_index a j) ≡ number_at id (unit_index a j)) → let_out k n id' a ≡ let_out k n id a
unfolding let_out units_out unit_out
same_out (AspUp p) n id' id a h = refl
same_out (AspDown p) n id' id a h = refl
same_out (Deactivate p) n id' id a h = refl
same_out (Activate p) n id' id a h = concat_ext _ _ 8 (λ j b. ap (λ (x : ℕ). when (ltb j n) (record { to = p; classtype = user_data; subject = x; value = 0; unit = unit_index a j })) (h j b))
same_out Recover n id' id a h = refl

-- the actions hang on the records and the units of the ASes named
pub same_actions : (g' g : Gateway) (k : Change) (named : List Bool) → ((a : ℕ) → a < 16 → flag_at named a ≡ true → record_of g' a ≡ record_of g a)
    → ((a : ℕ) → a < 16 → flag_at named a ≡ true → number_at g'.held.count a ≡ number_at g.held.count a)
    → ((a j : ℕ) → a < 16 → j < 8 → flag_at named a ≡ true → number_at g'.held.id (unit_index a j) ≡ number_at g.held.id (unit_index a j))
    → all_actions g' k named ≡ all_actions g k named
unfolding all_actions actions_at actions_in
same_actions g' g k named h hn hi = concat_ext _ _ 16 (λ a b. go a (flag_at named a) (h a b) (hn a b) (λ j c. hi a j b c))
  where
    go : (a : ℕ) (t : Bool) → (t ≡ true → record_of g' a ≡ record_of g a) → (t ≡ true → number_at g'.held.count a ≡ number_at g.held.count a)
        → ((j : ℕ) → j < 8 → t ≡ true → number_at g'.held.id (unit_index a j) ≡ number_at g.held.id (unit_index a j))
        → actions_in t k a (record_of g' a) (number_at g'.held.count a) g'.held.id ≡ actions_in t k a (record_of g a) (number_at g.held.count a) g.held.id
    go a true e n i =
        (λ j. let_out k (n refl j) g'.held.id a ++ notifies (overtaken_in k (e refl j)) (e refl j) (after k (e refl j)) a)
        ∙ ap (λ (x : List Action). x ++ notifies (overtaken_in k (record_of g a)) (record_of g a) (after k (record_of g a)) a)
        (same_out k (number_at g.held.count a) g'.held.id g.held.id a (λ j b. i j b refl))
    go a false e n i = refl

-- an up flag after a change hangs on that flag
pub same_up : (k : Change) (u v : List ℕ) (q : ℕ) → q < 16 → number_at u q ≡ number_at v q → number_at (up_after k u) q ≡ number_at (up_after k v) q
same_up (AspUp p) u v q b e = flag_at_lem u p 1 q b ∙ ap (cond (eqb q p) 1) e ∙ sym (flag_at_lem v p 1 q b)
same_up (AspDown p) u v q b e = flag_at_lem u p 0 q b ∙ ap (cond (eqb q p) 0) e ∙ sym (flag_at_lem v p 0 q b)
same_up (Deactivate p) u v q b e = e
same_up (Activate p) u v q b e = e
same_up Recover u v q b e = e

-- ---- what a change leaves, and the lengths of what it makes

-- whether a change makes the table of up flags anew
abbrev pub remakes_up : Change → Bool
remakes_up (AspUp p) = true
remakes_up (AspDown p) = true
remakes_up (Deactivate p) = false
remakes_up (Activate p) = false
remakes_up Recover = false

tabulate_drop : (n : ℕ) (f : ℕ → ℕ) → drop n (tabulate n f) ≡ []
tabulate_drop n f = drop_of_length-le (tabulate n f) {i = n} (omega (arith, length_tabulate n f))

pub up_length : (k : Change) (u : List ℕ) → length (up_after k u) ≡ cond (remakes_up k) 16 (length u)
unfolding with_flag
up_length (AspUp p) u = length_tabulate 16 _
up_length (AspDown p) u = length_tabulate 16 _
up_length (Deactivate p) u = refl
up_length (Activate p) u = refl
up_length Recover u = refl

pub up_drop : (k : Change) (u : List ℕ) → drop 16 (up_after k u) ≡ cond (remakes_up k) [] (drop 16 u)
unfolding with_flag
up_drop (AspUp p) u = tabulate_drop 16 _
up_drop (AspDown p) u = tabulate_drop 16 _
up_drop (Deactivate p) u = refl
up_drop (Activate p) u = refl
up_drop Recover u = refl

module _ (g : Gateway) (k : Change) (named : List Bool) where
  pub change_up : (with_change g k named).up ≡ up_after k g.up
  unfolding with_change
  change_up = refl

  pub change_state : (with_change g k named).state ≡ g.state
  unfolding with_change
  change_state = refl

  pub active_length : length (with_change g k named).active ≡ 256
  unfolding with_change
  active_length = length_tabulate 256 (new_active k named (record_of g) g.active)

  pub active_drop : drop 256 (with_change g k named).active ≡ []
  unfolding with_change
  active_drop = tabulate_drop 256 (new_active k named (record_of g) g.active)

  pub waiting_length : length (with_change g k named).waiting ≡ 16
  unfolding with_change
  waiting_length = length_tabulate 16 (new_waiting k named (record_of g) g.waiting)

  pub waiting_drop : drop 16 (with_change g k named).waiting ≡ []
  unfolding with_change
  waiting_drop = tabulate_drop 16 (new_waiting k named (record_of g) g.waiting)
