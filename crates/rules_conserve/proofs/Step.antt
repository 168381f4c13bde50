-- One event: what comes in for AS a, and what it holds, goes out, is discarded, is turned away or stays.
-- Assumes nothing.
use mathlib.Core.Path.{◌≡◌, refl, ap, ◌∙◌}
use mathlib.Core.Bool.{Bool, true, false, cond, not, ◌&&◌}
use mathlib.Core.List.{List, ◌++◌}
use Prim.Native.Nat.{ℕ, ◌+◌, ◌<◌}
use native.Mathlib.Omega.{arith}
use native.Mathlib.Decide.{dec_lt}
use lib.Dec.{eqb, ltb}
use borrow.Author.Tests.{lt-ltb, le-ltb}
use Rattle.laws.specs.Below.{one}
use Rattle.laws.specs.Inner.Every.{clash}
use Rattle.laws.specs.Columns.{flag_at, number_at, is_set}
use Rattle.state_tables.specs.Sound.{is_sound}
use Rattle.state_tables.specs.declared.Gateway.{Gateway}
use Rattle.rules_action.specs.declared.Action.{Action}
use Rattle.rules_server.specs.declared.Change.{Change}
use Rattle.rules_server.specs.Record.{record_of}
use Rattle.rules_server.specs.Change.{after}
use Rattle.rules_server.specs.Inner.Change.{fits}
use Rattle.rules_servers.specs.Changed.{lets_go, with_change, all_actions}
use Rattle.rules_servers.specs.Inner.Records.{waiting_at_lem, on_one}
use Rattle.rules_servers.specs.Inner.Units.{cleared_at}
use Rattle.rules_event.specs.Link.{is_pending}
use Rattle.rules_event.specs.Inner.Shapes.{is_over}
use Rattle.rules_conserve.specs.Conserve.{holds}
use Rattle.rules_conserve.proofs.Count.{data_in, data_append, and_yes, and_no}
use Rattle.rules_conserve.proofs.Held.{out, if_some, pending_is, has_waits, release}
use Rattle.rules_conserve.proofs.Sends.{change_data}

-- From g to h: `came` says whether a unit came in for AS a, `over` whether its recovery time is over, `sent`
-- how many went out. Units stay while it is pending.
pub record Step (g : Gateway) (a : ℕ) (came over : Bool) (sent : ℕ) (h : Gateway) : Type 0 where
  pub waits : came ≡ true → is_pending h a ≡ true
  pub go : sent + cond over (holds g a) 0 ≡ cond (is_pending h a) 0 (holds g a)
  pub stay : holds h a ≡ cond (is_pending h a) (holds g a + one (came && ltb (holds g a) 8)) 0

and_then : (u t : Bool) → (u && t) ≡ cond t u false
and_then u true = and_yes u
and_then u false = and_no u

more : (t : Bool) (n : ℕ) → cond t n 0 ≡ cond t (n + 0) 0
more true n = omega arith
more false n = refl

-- n units where the AS is named and waits (w) after the event
left_of : (n : ℕ) (w : Bool) → cond (ltb 0 n && (true && not w)) 0 n ≡ cond w n 0
left_of n w = go (dec_lt 0 n) w
  where
    go : Dec (0 < n) → (w : Bool) → cond (ltb 0 n && not w) 0 n ≡ cond w n 0
    go (yes l) true = rw (lt-ltb 0 n l)
    go (yes l) false = rw (lt-ltb 0 n l)
    go (no l) true = rw (le-ltb 0 n (omega arith))
    go (no l) false = rw (le-ltb 0 n (omega arith)) (omega arith)

module _ (g : Gateway) (ok : is_sound g ≡ true) (a : ℕ) (b : a < 16) where
  -- units, if any, stay as long as it waits
  kept : (holds g a ≡ cond (is_set g.waiting a) (holds g a) 0) × (0 ≡ cond (is_set g.waiting a) 0 (holds g a))
  kept = if_some (holds g a) (is_set g.waiting a) (has_waits g ok a b)

  -- nothing happens in AS a
  pub still : {h : Gateway} → is_pending h a ≡ is_pending g a → holds h a ≡ holds g a → Step g a false false 0 h
  still p e =
      let q = p ∙ pending_is g ok a b in
      record { waits = λ f. clash false refl f; go = rw q kept.1; stay = rw (q, e) (kept.0 ∙ more (is_set g.waiting a) (holds g a)) }

  -- a unit comes in for it: it is held, or is the ninth
  pub joins : {h : Gateway} → is_pending h a ≡ true → holds h a ≡ holds g a + one (ltb (holds g a) 8) → Step g a true false 0 h
  joins p e = record { waits = λ _. p; go = rw p; stay = rw p e }

  -- ---- a change

  module _ (k : Change) (named : List Bool) (f : fits k ≡ true) where
    new_pending : is_sound (with_change g k named) ≡ true → is_pending (with_change g k named) a ≡ cond (flag_at named a) (after k (record_of g a)).waiting (is_set g.waiting a)
    new_pending s = pending_is (with_change g k named) s a b ∙ ap (λ (x : ℕ). eqb x 1) (waiting_at_lem g k named a b) ∙ go (flag_at named a)
      where
        go : (t : Bool) → eqb (cond t (one (after k (record_of g a)).waiting) (number_at g.waiting a)) 1 ≡ cond t (after k (record_of g a)).waiting (is_set g.waiting a)
        go true = on_one (after k (record_of g a)).waiting
        go false = refl

    new_holds : holds (with_change g k named) a ≡ cond (cond (flag_at named a) (after k (record_of g a)).waiting (is_set g.waiting a)) (holds g a) 0
    unfolding with_change lets_go
    new_holds = cleared_at (lets_go k named (record_of g) g.held.count) g.held.count a ∙ go (flag_at named a)
      where
        go : (t : Bool) → cond (ltb 0 (holds g a) && (t && not (after k (record_of g a)).waiting)) 0 (holds g a) ≡ cond (cond t (after k (record_of g a)).waiting (is_set g.waiting a)) (holds g a) 0
        go true = left_of (holds g a) (after k (record_of g a)).waiting
        go false = rw (and_no (ltb 0 (holds g a))) kept.0

    -- what goes, by whether AS a is named
    gone : (t : Bool) → cond t (out k (holds g a)) 0 + cond (cond t (is_over k) false) (holds g a) 0 ≡ cond (cond t (after k (record_of g a)).waiting (is_set g.waiting a)) 0 (holds g a)
    gone true = release g ok a b k f
    gone false = kept.1

    -- a change, with replies that are no Data
    pub changed : (os : List Action) → data_in g a os ≡ 0 → is_sound (with_change g k named) ≡ true
        → Step g a false (is_over k && flag_at named a) (data_in g a (os ++ all_actions g k named)) (with_change g k named)
    changed os n s =
        record {
          waits = λ f. clash false refl f;
          go = rw (new_pending s, data_append g a os (all_actions g k named), n, change_data g ok a b k named f, and_then (is_over k) (flag_at named a)) (omega (arith, gone (flag_at named a)));
          stay = rw (new_pending s) (new_holds ∙ more (cond (flag_at named a) (after k (record_of g a)).waiting (is_set g.waiting a)) (holds g a));
        }
