-- Which ASes let their units go, from the columns that the code has; and what the state's units are then.
-- Assumes nothing.
use Prim.Native.Nat.{ℕ, ◌/◌, ◌<◌}
use Rattle.std.specs.Prelude.{◌≡◌, refl, Bool, true, ◌&&◌, cond, not, List, eqb, ltb, replicate}
use Rattle.std.proofs.Math.Path.{ap, sym}
use Rattle.std.proofs.Common.{◌∙◌, arith, eqb-true}
use Rattle.std.proofs.Math.Bool.{false}
use Rattle.std.proofs.Math.Decide.{dec_lt}
use Rattle.std.proofs.Math.ListN.{length, get_or-eq_default}
use Rattle.std.proofs.lemmas.List.{get_or-replicate}
use Rattle.laws.specs.Below.{one}
use Rattle.laws.specs.Inner.Below.{any_not, all_at}
use Rattle.laws.specs.Columns.{flag_at, is_set, number_at, tabulate}
use Rattle.laws.specs.Inner.Columns.{get_d_tabulate, length_tabulate, is_tabulate}
use Rattle.state_sound.specs.Inner.Sound.{none_counted}
use Rattle.state_tables.specs.declared.Gateway.{Gateway}
use Rattle.rules_server.specs.declared.Change.{Change}
use Rattle.rules_server.specs.Record.{record_of, some}
use Rattle.rules_server.specs.Change.{after}
use Rattle.rules_servers.specs.Changed.{new_waiting, lets_go, units_without}
use Rattle.rules_servers.specs.Inner.Records.{on_one}
use Rattle.rules_servers.specs.Inner.Units.{cleared_none}

-- AS a has units, is named, and waits no longer; `waiting` is the column after the event
abbrev pub goes_at : List ℕ → List Bool → List ℕ → ℕ → Bool
goes_at count named waiting a = ltb 0 (number_at count a) && (flag_at named a && not (is_set waiting a))

unfoldable pub going : List ℕ → List Bool → List ℕ → List Bool
going count named waiting = tabulate 16 (goes_at count named waiting)

-- ---- laws

going_length : (count : List ℕ) (named : List Bool) (w : List ℕ) → length (going count named w) ≡ 16
unfolding going
going_length count named w = length_tabulate 16 (goes_at count named w)

-- where no AS holds a unit, none lets one go
pub none_going : (count : List ℕ) (named : List Bool) (w : List ℕ) → none_counted count ≡ true → replicate 16 false ≡ going count named w
unfolding going none_counted
none_going count named w h =
    is_tabulate false (replicate 16 false) 16 (goes_at count named w) refl
    (λ a b. get_or-replicate {A = Bool} 16 a false false b ∙ rw (eqb-true (number_at count a) 0 (all_at (λ a. eqb (number_at count a) 0) 16 h a b)))

-- the mark after the event, of an AS that is named
waits_no_more : (t : Bool) (w : Bool) (x : ℕ) → (t && not (eqb (cond t (one w) x) 1)) ≡ (t && not w)
waits_no_more true w x = ap not (on_one w)
waits_no_more false w x = refl

module _ (g : Gateway) (k : Change) (named : List Bool) (w : List ℕ) (go : List Bool) (sized : length g.held.count ≡ 16) (waits : w ≡ tabulate 16 (new_waiting k named (record_of g) g.waiting)) (found : go ≡ going g.held.count named w) where
  -- the code's flags are the definition's, of every number
  pub goes_lets : (a : ℕ) → flag_at go a ≡ lets_go k named (record_of g) g.held.count a
  unfolding going lets_go new_waiting
  goes_lets a = rw (found, waits) (pick (dec_lt a 16))
    where
      new : ℕ → ℕ
      new = new_waiting k named (record_of g) g.waiting

      flags : ℕ → Bool
      flags = goes_at g.held.count named (tabulate 16 new)

      pick : Dec (a < 16) → flag_at (tabulate 16 flags) a ≡ (ltb 0 (number_at g.held.count a) && (flag_at named a && not (after k (record_of g a)).waiting))
      pick (yes b) =
          get_d_tabulate 16 flags a false b
          ∙ rw (get_d_tabulate 16 new a 0 b) (ap (◌&&◌ (ltb 0 (number_at g.held.count a))) (waits_no_more (flag_at named a) (after k (record_of g a)).waiting (number_at g.waiting a)))
      pick (no b) =
          get_or-eq_default (tabulate 16 flags) false {n = a} (omega (arith, length_tabulate 16 flags))
          ∙ rw (get_or-eq_default g.held.count 0 {n = a} (omega arith))

  -- so what the six columns are cleared of is what the definition lets go
  pub units_gone : units_without (flag_at go) g.held ≡ units_without (lets_go k named (record_of g) g.held.count) g.held
  units_gone = ap (λ (p : ℕ → Bool). units_without p g.held) (λ y a. goes_lets a y)

  pub units_stay : some go ≡ false → units_without (lets_go k named (record_of g) g.held.count) g.held ≡ g.held
  unfolding some
  units_stay h = sym units_gone ∙ λ y. record {
    count = cleared_none (flag_at go) g.held.count (λ i b. none i) y;
    tag = cleared_none (λ i. flag_at go (i / 8)) g.held.tag (λ i b. none (i / 8)) y;
    length = cleared_none (λ i. flag_at go (i / 8)) g.held.length (λ i b. none (i / 8)) y;
    marked = cleared_none (λ i. flag_at go (i / 8)) g.held.marked (λ i b. none (i / 8)) y;
    id = cleared_none (λ i. flag_at go (i / 8)) g.held.id (λ i b. none (i / 8)) y;
    correlation = cleared_none (λ i. flag_at go (i / 8)) g.held.correlation (λ i b. none (i / 8)) y;
  }
    where
      pick : (a : ℕ) → Dec (a < 16) → flag_at go a ≡ false
      pick a (yes b) = any_not (flag_at go) 16 h a b
      pick a (no b) = get_or-eq_default go false (omega (arith, going_length g.held.count named w, ap length found))

      none : (a : ℕ) → flag_at go a ≡ false
      none a = pick a (dec_lt a 16)
