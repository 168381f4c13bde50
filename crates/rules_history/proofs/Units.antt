-- The six columns of the units held, alike: whose AS a place is, and what a change and a unit that comes in
-- do there.
-- Assumes nothing.
use mathlib.Core.Path.{◌≡◌, refl, ap, ◌∙◌}
use mathlib.Core.Bool.{Bool, true, false, ◌&&◌, cond, not}
use mathlib.Core.List.{List}
use Prim.Native.Nat.{ℕ, ◌+◌, ◌/◌, ◌<◌}
use native.Mathlib.Omega.{arith}
use native.Mathlib.Decide.{dec_lt}
use lib.Dec.{ltb}
use lib.ListN.{length, set, length-set, get_or-eq_default}
use Rattle.laws.specs.Columns.{flag_at, number_at}
use Rattle.state_tables.specs.Sound.{unit_index}
use Rattle.state_tables.specs.declared.Gateway.{Gateway}
use Rattle.state_tables.specs.declared.Units.{Units}
use Rattle.rules_server.specs.declared.Arrival.{Arrival}
use Rattle.rules_server.specs.declared.Change.{Change}
use Rattle.rules_server.specs.Change.{after}
use Rattle.rules_server.specs.Record.{record_of}
use Rattle.rules_servers.specs.Changed.{lets_go, units_without, units_with, with_change}
use Rattle.rules_servers.specs.Inner.Units.{cleared_at, length_cleared}

pub data Column : Type 0 where
  counts tags lengths marks ids correlations : Column

abbrev pub column : Column → Units → List ℕ
column counts u = u.count
column tags u = u.tag
column lengths u = u.length
column marks u = u.marked
column ids u = u.id
column correlations u = u.correlation

-- the AS of a place: a count for each AS, and eight places for each
abbrev pub as_of : Column → ℕ → ℕ
as_of counts i = i
as_of tags i = i / 8
as_of lengths i = i / 8
as_of marks i = i / 8
as_of ids i = i / 8
as_of correlations i = i / 8

-- where AS a, which has n units, takes the next one in, and what is written there
abbrev pub place_of : Column → ℕ → ℕ → ℕ
place_of counts a n = a
place_of tags a n = unit_index a n
place_of lengths a n = unit_index a n
place_of marks a n = unit_index a n
place_of ids a n = unit_index a n
place_of correlations a n = unit_index a n

abbrev pub value_of : Column → ℕ → Arrival → ℕ
value_of counts n x = n + 1
value_of tags n x = x.tag
value_of lengths n x = x.length
value_of marks n x = x.marked
value_of ids n x = x.id
value_of correlations n x = x.correlation

pub as_place : (c : Column) (a n : ℕ) → n < 8 → as_of c (place_of c a n) ≡ a
as_place counts a n b = refl
as_place tags a n b = omega arith
as_place lengths a n b = omega arith
as_place marks a n b = omega arith
as_place ids a n b = omega arith
as_place correlations a n b = omega arith

-- ---- ASes let their units go

pub without_at : (c : Column) (go : ℕ → Bool) (u : Units) (i : ℕ) → number_at (column c (units_without go u)) i ≡ cond (go (as_of c i)) 0 (number_at (column c u) i)
without_at counts go u i = cleared_at go u.count i
without_at tags go u i = cleared_at (λ i. go (i / 8)) u.tag i
without_at lengths go u i = cleared_at (λ i. go (i / 8)) u.length i
without_at marks go u i = cleared_at (λ i. go (i / 8)) u.marked i
without_at ids go u i = cleared_at (λ i. go (i / 8)) u.id i
without_at correlations go u i = cleared_at (λ i. go (i / 8)) u.correlation i

without_length : (c : Column) (go : ℕ → Bool) (u : Units) → length (column c (units_without go u)) ≡ length (column c u)
without_length counts go u = length_cleared go u.count
without_length tags go u = length_cleared (λ i. go (i / 8)) u.tag
without_length lengths go u = length_cleared (λ i. go (i / 8)) u.length
without_length marks go u = length_cleared (λ i. go (i / 8)) u.marked
without_length ids go u = length_cleared (λ i. go (i / 8)) u.id
without_length correlations go u = length_cleared (λ i. go (i / 8)) u.correlation

module _ (g : Gateway) (k : Change) (named : List Bool) where
  -- whether AS a does
  abbrev pub goes : ℕ → Bool
  goes = lets_go k named (record_of g) g.held.count

  pub change_unit : (c : Column) (i : ℕ) → number_at (column c (with_change g k named).held) i ≡ cond (goes (as_of c i)) 0 (number_at (column c g.held) i)
  unfolding with_change
  change_unit c i = without_at c goes g.held i

  pub change_long : (c : Column) → length (column c (with_change g k named).held) ≡ length (column c g.held)
  unfolding with_change
  change_long c = without_length c goes g.held

  -- an AS that is not named keeps its units; beyond the sixteen there is none
  pub goes_not : length g.held.count ≡ 16 → (a : ℕ) → (a < 16 → flag_at named a ≡ false) → goes a ≡ false
  unfolding lets_go
  goes_not e a h = pick (dec_lt a 16)
    where
      never : (t u : Bool) → (t && (false && u)) ≡ false
      never true u = refl
      never false u = refl

      pick : Dec (a < 16) → (ltb 0 (number_at g.held.count a) && (flag_at named a && not (after k (record_of g a)).waiting)) ≡ false
      pick (yes b) = rw (h b) (never (ltb 0 (number_at g.held.count a)) (not (after k (record_of g a)).waiting))
      pick (no b) = let z : number_at g.held.count a ≡ 0 = get_or-eq_default g.held.count 0 {n = a} (omega arith) in rw z

-- it hangs on the AS's count and record
pub same_goes : (g' g : Gateway) (k : Change) (named : List Bool) (a : ℕ) → number_at g'.held.count a ≡ number_at g.held.count a → record_of g' a ≡ record_of g a → goes g' k named a ≡ goes g k named a
unfolding lets_go
same_goes g' g k named a e h = λ j. ltb 0 (e j) && (flag_at named a && not (after k (h j)).waiting)

-- ---- a unit comes in

pub with_is : (c : Column) (u : Units) (a : ℕ) (x : Arrival) → column c (units_with u a x) ≡ set (column c u) (place_of c a (number_at u.count a)) (value_of c (number_at u.count a) x)
with_is counts u a x = refl
with_is tags u a x = refl
with_is lengths u a x = refl
with_is marks u a x = refl
with_is ids u a x = refl
with_is correlations u a x = refl

pub with_long : (c : Column) (u : Units) (a : ℕ) (x : Arrival) → length (column c (units_with u a x)) ≡ length (column c u)
with_long c u a x = ap length (with_is c u a x) ∙ length-set (column c u) (place_of c a (number_at u.count a)) (value_of c (number_at u.count a) x)
