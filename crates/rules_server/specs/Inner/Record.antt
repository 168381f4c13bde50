-- Laws of specs/Record.antt, and definitions that only code and proofs use.
-- Assumes nothing.
use Rattle.std.specs.Prelude.{ℕ, ◌+◌, ◌*◌, ◌/◌, ◌%◌, ◌≤◌, ◌<◌, ◌≡◌, refl, Bool, true, false, ◌&&◌, cond, List, eqb, length}
use Rattle.std.proofs.Common.{◌∙◌, arith, eq-eqb, ne_eqb}
use Rattle.std.proofs.Math.Decide.{dec_lt}
use Rattle.laws.specs.Below.{one, any_below}
use Rattle.laws.specs.Inner.Below.{any_ext}
use Rattle.laws.specs.Columns.{flag_at, is_set, number_at, tabulate}
use Rattle.laws.specs.Inner.Columns.{is_tabulate, get_d_tabulate, HalfCol}
use Rattle.state_tables.specs.Sound.{pair}
use Rattle.state_lookup.specs.Inner.Servers.{state_of}
use Rattle.rules_server.specs.declared.AsRecord.{AsRecord}
use Rattle.rules_server.specs.Record.{row, members_up, record_from, some, state_in}

-- the column with the row x for AS a
abbrev pub with_row_at : List ℕ → ℕ → List Bool → ℕ → ℕ
with_row_at c a x i = cond (eqb (i / 16) a) (one (flag_at x (i % 16))) (number_at c i)

unfoldable pub with_row : List ℕ → ℕ → List Bool → List ℕ
with_row c a x = tabulate 256 (with_row_at c a x)

-- ---- laws

some_tabulate : (f : ℕ → Bool) → some (tabulate 16 f) ≡ any_below f 16
unfolding some
some_tabulate f = any_ext (flag_at (tabulate 16 f)) f 16 (λ i b. get_d_tabulate 16 f i false b)

-- the state of the record is the state of the AS
pub state_of_lem : (up member active waiting mode : List ℕ) (a : ℕ) → state_in (record_from up member active waiting mode a) ≡ state_of up member active waiting a
unfolding state_in state_of record_from row members_up
state_of_lem up member active waiting mode a =
    rw (some_tabulate (λ q. is_set active (pair a q)), some_tabulate (λ q. is_set member (pair a q) && is_set up q))

from_small : (x y z : Bool) → cond x 3 (cond y 4 (cond z 2 0)) ≤ 4
from_small true y z = omega arith
from_small false true z = omega arith
from_small false false true = omega arith
from_small false false false = omega arith

pub state_small : (s : AsRecord) → state_in s ≤ 4
unfolding state_in
state_small s = from_small (some s.acts) s.waiting (some s.ups)

-- a row put back: inside it, and outside
pub laid_in : (c : List ℕ) (a : ℕ) (x : List Bool) (q : ℕ) → q < 16 → one (flag_at x q) ≡ with_row_at c a x (pair a q)
laid_in c a x q h =
    let d : (a * 16 + q) / 16 ≡ a = omega arith in
    let m : (a * 16 + q) % 16 ≡ q = omega arith in
    rw (eq-eqb ((a * 16 + q) / 16) a d, m)

pub laid_out : (c : List ℕ) (a : ℕ) (x : List Bool) (i : ℕ) → (i / 16 ≡ a → ⊥) → number_at c i ≡ with_row_at c a x i
laid_out c a x i h = rw (ne_eqb (i / 16) a h)

-- the loop that puts it back
pub laid_none : (c : List ℕ) (a : ℕ) (x : List Bool) → length c ≡ 256 → HalfCol (with_row_at c a x) (number_at c) 256 (pair a 0) c
laid_none c a x e = record { long = e; new = λ i q. laid_out c a x i (λ z. omega arith); old = λ i q c. refl }

pub laid_end : (c d : List ℕ) (x : List Bool) (a k : ℕ) → HalfCol (with_row_at c a x) (number_at c) 256 (pair a k) d → 16 ≤ k → k ≤ 16 → d ≡ with_row c a x
unfolding with_row
laid_end c d x a k h u v =
    is_tabulate 0 d 256 (with_row_at c a x) h.long (λ i q. pick i q (dec_lt i (a * 16 + k)))
  where
    pick : (i : ℕ) → i < 256 → Dec (i < a * 16 + k) → number_at d i ≡ with_row_at c a x i
    pick i q (yes z) = h.new i z
    pick i q (no z) = h.old i (omega arith) q ∙ laid_out c a x i (λ w. omega arith)
