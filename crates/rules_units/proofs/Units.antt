-- The actions as ASP p becomes active, and the units that are gone from the state before to the state after.
-- Assumes nothing.
use mathlib.Core.Path.{◌≡◌, refl, ◌∙◌}
use mathlib.Core.Bool.{Bool, true, false, cond, ◌&&◌}
use mathlib.Core.List.{List, [], ◌++◌, append-nil}
use Prim.Native.Nat.{ℕ, ◌+◌, ◌*◌, ◌/◌, ◌%◌, ◌<◌}
use native.Mathlib.Omega.{arith}
use native.Mathlib.Decide.{ℕ_discrete}
use lib.Dec.{eqb, ltb}
use borrow.Author.Tests.{ltb-true, lt-ltb, le-ltb, eq-eqb, ne_eqb}
use Rattle.laws.specs.Below.{concat_below, when}
use Rattle.laws.specs.Inner.Below.{concat_empty, concat_ext}
use Rattle.laws.specs.Columns.{flag_at, number_at}
use Rattle.state_tables.specs.Sound.{unit_index}
use Rattle.state_tables.specs.declared.Gateway.{Gateway}
use Rattle.rules_action.specs.declared.Action.{Action}
use Rattle.rules_action.specs.Types.{as_state, other_active}
use Rattle.rules_server.specs.declared.AsRecord.{AsRecord}
use Rattle.rules_server.specs.declared.Change.{Change}
use Rattle.rules_server.specs.declared.Change.TheVariants.{Activate}
use Rattle.rules_server.specs.Record.{record_of, state_in}
use Rattle.rules_server.specs.Change.{after, overtaken_in, record_with}
use Rattle.rules_server.specs.Inner.Change.{some_turned}
use Rattle.rules_server.specs.Notify.{notify, is_notified, notifies_to, notifies, actions_in}
use Rattle.rules_server.specs.Units.{sending, unit_out, units_out, let_out}
use Rattle.rules_servers.specs.Changed.{with_change, lets_go, actions_at, all_actions}
use Rattle.rules_servers.specs.Inner.Units.{cleared_at}
use Rattle.rules_event.specs.Sent.{is_data}
use Rattle.rules_units.specs.Inner.Counted.{gone}
use Rattle.rules_units.proofs.Tags.{Tagged, done, other, tag, tagged_append, tagged_below, untagged_below, concat_rows}

-- index i is the action's, and that of a unit held, of the link that the action names
pub record UnitOf (g : Gateway) (o : Action) (i : ℕ) : Type 0 where
  pub same : i ≡ o.unit
  pub place : i < 128
  pub held : i % 8 < number_at g.held.count (i / 8)
  pub link : number_at g.held.id i ≡ o.subject

-- no Data to an ASP
abbrev pub Quiet : Gateway → List Action → Type 0
Quiet g os = Tagged (UnitOf g) os []

-- ---- what is no Data

pub quiet_when : (g : Gateway) (u : Bool) (o : Action) → is_data o ≡ false → Quiet g (when u o)
quiet_when g true o e = other e done
quiet_when g false o e = done

plain_notify : (a v q : ℕ) → is_data (notify a v q) ≡ false
unfolding is_data
plain_notify a v q = refl

quiet_notifies : (g : Gateway) (lost : List Bool) (s t : AsRecord) (a : ℕ) → Quiet g (notifies lost s t a)
unfolding notifies notifies_to
quiet_notifies g lost s t a =
    untagged_below (notifies_to lost s t a) 16
    (λ q b. tagged_append (quiet_when g (flag_at lost q) (notify a other_active q) (plain_notify a other_active q)) (quiet_when g (is_notified s t && flag_at t.ups q) (notify a (as_state (state_in t)) q) (plain_notify a (as_state (state_in t)) q)))

-- where nobody becomes active no unit goes out
pub quiet_change : (g : Gateway) (k : Change) (named : List Bool) → ((n : ℕ) (id : List ℕ) (a : ℕ) → let_out k n id a ≡ []) → Quiet g (all_actions g k named)
unfolding all_actions actions_at actions_in
quiet_change g k named h = untagged_below _ 16 (λ a b. go a (flag_at named a))
  where
    go : (a : ℕ) (t : Bool) → Quiet g (cond t (let_out k (number_at g.held.count a) g.held.id a ++ notifies (overtaken_in k (record_of g a)) (record_of g a) (after k (record_of g a)) a) [])
    go a true = rw (h (number_at g.held.count a) g.held.id a) (quiet_notifies g (overtaken_in k (record_of g a)) (record_of g a) (after k (record_of g a)) a)
    go a false = done

-- ---- the units gone, AS by AS

-- the unit in place k of AS a; c is the state after
abbrev pub gone_at : Gateway → Gateway → ℕ → ℕ → List ℕ
gone_at g c a k = when (ltb k (number_at g.held.count a) && eqb (number_at c.held.count a) 0) (unit_index a k)

pub gone_rows_lem : (g c : Gateway) → gone g c ≡ concat_below (λ a. concat_below (gone_at g c a) 8) 16
unfolding gone
gone_rows_lem g c =
    concat_rows _ 16
    ∙ concat_ext _ _ 16
    (λ a b.
    concat_ext _ _ 8
    (λ k l.
    let m : (a * 8 + k) % 8 ≡ k = omega arith in
    let d : (a * 8 + k) / 8 ≡ a = omega arith in
    rw (m, d)))

module _ (g : Gateway) (p : ℕ) (named : List Bool) (b : p < 16) where
  -- no AS that p becomes active in waits after it
  waits_not : (s : AsRecord) → (after (Activate p) s).waiting ≡ false
  unfolding record_with
  waits_not s = rw (some_turned s.acts s.mode p b)

  abbrev next : Gateway
  next = with_change g (Activate p) named

  count_after : (a : ℕ) → number_at next.held.count a ≡ cond (lets_go (Activate p) named (record_of g) g.held.count a) 0 (number_at g.held.count a)
  unfolding with_change
  count_after a = cleared_at (lets_go (Activate p) named (record_of g) g.held.count) g.held.count a

  -- an AS that it names has none left; any other keeps its own
  none_left : (a : ℕ) → flag_at named a ≡ true → number_at next.held.count a ≡ 0
  unfolding lets_go
  none_left a e = count_after a ∙ rw (e, waits_not (record_of g a)) (go (ℕ_discrete (number_at g.held.count a) 0))
    where
      go : Dec (number_at g.held.count a ≡ 0) → cond (ltb 0 (number_at g.held.count a) && true) 0 (number_at g.held.count a) ≡ 0
      go (yes z) = rw z
      go (no z) = rw (lt-ltb 0 (number_at g.held.count a) (omega arith))

  all_left : (a : ℕ) → flag_at named a ≡ false → number_at next.held.count a ≡ number_at g.held.count a
  unfolding lets_go
  all_left a e = count_after a ∙ rw e (go (ltb 0 (number_at g.held.count a)))
    where
      go : (u : Bool) → cond (u && false) 0 (number_at g.held.count a) ≡ number_at g.held.count a
      go true = refl
      go false = refl

  plain_data : (i : ℕ) → is_data (sending p g.held.id i) ≡ true
  unfolding is_data
  plain_data i = rw (ne_eqb p 255 (λ z. omega arith))

  unit_of_lem : (a k : ℕ) → a < 16 → k < 8 → k < number_at g.held.count a → UnitOf g (sending p g.held.id (unit_index a k)) (unit_index a k)
  unit_of_lem a k l m h =
      let r : (a * 8 + k) % 8 ≡ k = omega arith in
      let d : (a * 8 + k) / 8 ≡ a = omega arith in
      record { same = refl; place = omega arith; held = rw (r, d) h; link = refl }

  unit_tag : (a k : ℕ) → a < 16 → k < 8 → number_at next.held.count a ≡ 0 → Tagged (UnitOf g) (unit_out p (number_at g.held.count a) g.held.id a k) (gone_at g next a k)
  unfolding unit_out
  unit_tag a k l m z = rw (eq-eqb _ 0 z) (go (ltb k (number_at g.held.count a)) refl)
    where
      go : (u : Bool) → ltb k (number_at g.held.count a) ≡ u → Tagged (UnitOf g) (when u (sending p g.held.id (unit_index a k))) (when (u && true) (unit_index a k))
      go true e = tag (plain_data (unit_index a k)) (unit_of_lem a k l m (ltb-true k (number_at g.held.count a) e)) done
      go false e = done

  as_tag : (a : ℕ) → a < 16 → (t : Bool) → flag_at named a ≡ t
      → Tagged (UnitOf g) (cond t (units_out p (number_at g.held.count a) g.held.id a ++ notifies (overtaken_in (Activate p) (record_of g a)) (record_of g a) (after (Activate p) (record_of g a)) a) []) (concat_below (gone_at g next a) 8)
  unfolding units_out
  as_tag a l true e =
      rw append-nil at
      (tagged_append
      (tagged_below (unit_out p (number_at g.held.count a) g.held.id a) (gone_at g next a) 8 (λ k m. unit_tag a k l m (none_left a e)))
      (quiet_notifies g (overtaken_in (Activate p) (record_of g a)) (record_of g a) (after (Activate p) (record_of g a)) a))
  as_tag a l false e = rw (concat_ext (gone_at g next a) (λ k. []) 8 (λ k m. rw (all_left a e) (go k (ℕ_discrete (number_at g.held.count a) 0))), concat_empty {A = ℕ} 8) done
    where
      go : (k : ℕ) → Dec (number_at g.held.count a ≡ 0) → when (ltb k (number_at g.held.count a) && eqb (number_at g.held.count a) 0) (unit_index a k) ≡ []
      go k (yes z) = rw (z, le-ltb k 0 (omega arith))
      go k (no z) = rw (ne_eqb (number_at g.held.count a) 0 z) (last (ltb k (number_at g.held.count a)))
        where
          last : (u : Bool) → when (u && false) (unit_index a k) ≡ []
          last true = refl
          last false = refl

  -- its Data are the units gone
  pub units_gone : Tagged (UnitOf g) (all_actions g (Activate p) named) (gone g next)
  unfolding all_actions actions_at actions_in let_out
  units_gone = rw (gone_rows_lem g next) (tagged_below _ _ 16 (λ a l. as_tag a l (flag_at named a) refl))
