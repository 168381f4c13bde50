-- The units of an AS in a sound state, and what a change lets go of them.
-- Assumes nothing.
use mathlib.Core.Path.{◌≡◌, refl, sym, ◌∙◌}
use mathlib.Core.Bool.{Bool, true, false, cond, not, ◌&&◌, ◌||◌}
use mathlib.Core.List.{List}
use Prim.Native.Nat.{ℕ, ◌+◌, ◌<◌, ◌≤◌}
use native.Mathlib.Omega.{arith}
use native.Mathlib.Decide.{ℕ_discrete}
use lib.Dec.{eqb}
use borrow.Author.Tests.{ne_eqb, ltb-true}
use Rattle.laws.specs.Inner.Every.{and_left, same_truth, clash}
use Rattle.laws.specs.Columns.{flag_at, is_set}
use Rattle.laws.specs.Inner.Columns.{get_d_tabulate}
use Rattle.state_tables.specs.Sound.{is_sound}
use Rattle.state_tables.specs.Inner.Laws.{parts, server}
use Rattle.state_tables.specs.declared.Gateway.{Gateway}
use Rattle.rules_server.specs.declared.Change.{Change}
use Rattle.rules_server.specs.declared.Change.TheVariants.{AspUp, AspDown, Deactivate, Activate, Recover}
use Rattle.rules_server.specs.Record.{record_from, record_of, some, state_in}
use Rattle.rules_server.specs.Change.{without, record_with, after}
use Rattle.rules_server.specs.Inner.Change.{fits, some_some, some_at, some_turned}
use Rattle.rules_keeps.specs.Inner.Keeps.{sound}
use Rattle.rules_keeps.specs.Inner.Units.{Held, held}
use Rattle.rules_event.specs.Link.{is_pending}
use Rattle.rules_event.specs.Inner.Shapes.{is_over}
use Rattle.rules_event.specs.Inner.TakeIn.{pending_waits}
use Rattle.rules_conserve.specs.Conserve.{holds}

-- how many of n units a change sends out
abbrev pub out : Change → ℕ → ℕ
out (AspUp p) n = 0
out (AspDown p) n = 0
out (Deactivate p) n = 0
out (Activate p) n = n
out Recover n = 0

-- nobody, without p
none_without : (x : List Bool) (p : ℕ) → some x ≡ false → some (without x p) ≡ false
unfolding without
none_without x p e = go (some (without x p)) refl
  where
    go : (t : Bool) → some (without x p) ≡ t → t ≡ false
    go true h =
        let q = some_some (without x p) h in
        clash (some x) e (some_at x q.0 q.1 (and_left _ _ (sym (get_d_tabulate 16 (λ q. flag_at x q && not (eqb q p)) q.0 false q.1) ∙ q.2)))
    go false h = refl

-- of n units none is left where t fails
pub if_some : (n : ℕ) (t : Bool) → ((n ≡ 0 → ⊥) → t ≡ true) → (n ≡ cond t n 0) × (0 ≡ cond t 0 n)
if_some n true h = (refl, refl)
if_some n false h = let z = none (ℕ_discrete n 0) in (z, sym z)
  where
    none : Dec (n ≡ 0) → n ≡ 0
    none (yes z) = z
    none (no z) = clash false refl (h z)

module _ (g : Gateway) (ok : is_sound g ≡ true) (a : ℕ) (b : a < 16) where
  -- nobody is active in an AS that waits
  idle : is_set g.waiting a ≡ true → some (record_of g a).acts ≡ false
  unfolding record_from
  idle w = (sound g.up g.member g.active g.mode g.waiting g.asps g.ases a (server g ok a b)).kept.rests w

  -- pending is who waits
  pub pending_is : is_pending g a ≡ is_set g.waiting a
  unfolding is_pending state_in record_from
  pending_is = same_truth (is_pending g a) (is_set g.waiting a) (pending_waits g a) (λ w. rw (idle w, w))

  pub units : Held g.held g.waiting g.iid g.owner g.links a
  units = held g.held g.waiting g.iid g.owner g.links (parts g ok).in_units a b

  pub few : holds g a ≤ 8
  few = units.few

  -- who has units waits
  pub has_waits : (holds g a ≡ 0 → ⊥) → is_set g.waiting a ≡ true
  has_waits z = rw (ne_eqb (holds g a) 0 z) at units.waits

  -- and is left so by all that makes nobody active in it
  waits_on : (p : ℕ) → (holds g a ≡ 0 → ⊥) → (not (some (without (record_of g a).acts p)) && (some (record_of g a).acts || (record_of g a).waiting)) ≡ true
  unfolding record_from
  waits_on p z = let w = has_waits z in rw (idle w, none_without (record_of g a).acts p (idle w), w)

  -- what a change lets go of the units of AS a, if it names it
  pub release : (k : Change) → fits k ≡ true → out k (holds g a) + cond (is_over k) (holds g a) 0 ≡ cond (after k (record_of g a)).waiting 0 (holds g a)
  unfolding record_with
  release (AspUp p) f = (if_some (holds g a) (after (AspUp p) (record_of g a)).waiting (waits_on p)).1
  release (AspDown p) f = (if_some (holds g a) (after (AspDown p) (record_of g a)).waiting (waits_on p)).1
  release (Deactivate p) f = (if_some (holds g a) (after (Deactivate p) (record_of g a)).waiting (waits_on p)).1
  release (Activate p) f = rw (some_turned (record_of g a).acts (record_of g a).mode p (ltb-true p 16 f)) (omega arith)
  release Recover f = omega arith
