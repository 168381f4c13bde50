-- The checks as the document lists them are those that the code asks, in its order.
-- Assumes nothing.
use mathlib.Core.Path.{◌≡◌, refl, sym, ap, ◌∙◌}
use mathlib.Core.Bool.{Bool, true, false, cond, not, ◌||◌, false≢true}
use mathlib.Core.List.{List}
use Prim.Native.Nat.{ℕ, suc, ◌%◌, ◌<◌, ◌≤◌}
use lib.ListN.{length, get_or}
use lib.Dec.{ltb, eqb}
use native.Mathlib.Omega.{arith}
use Rattle.std.specs.Prelude.{Option, Some, None, is_none, is_some}
use Rattle.codec_parameter.specs.Inner.Slot.{listed, row_or_none}
use borrow.Author.Tests.{ne_eqb, eqb-false}
use Rattle.codec_wire.specs.Number.{be}
use Rattle.codec_parameter.specs.Table.{table, has_class, row_in}
use Rattle.laws.specs.Choice.{◌or_else◌, ◌if◌}
use Rattle.codec_read.specs.Verdict.{most, check3, check4, check5, last_checks, verdict}
use Rattle.codec_read.specs.Meaning.{unreadable, outcome, reading_of}
use Rattle.codec_read.specs.Inner.Seen.{row_code, row_outcome, kind_outcome, checks_outcome}
use Rattle.codec_read.specs.declared.Reading.{Reading}

-- a check that applies decides; else the rest does
first_applies : (n : ℕ) (b : Bool) (m : ℕ) (s : List ℕ) → outcome (((suc n) if b) or_else m) s ≡ cond b (unreadable (suc n)) (outcome m s)
unfolding outcome
first_applies n true m s = rw (ne_eqb (suc n) 0 (λ e. omega arith))
first_applies n false m s = refl

-- two reasons for one number
either : {X : Type 0} (a b : Bool) (x y : X) → cond (a || b) x y ≡ cond a x (cond b x y)
either true b x y = refl
either false b x y = refl

turned : {X : Type 0} (a : Bool) (x y : X) → cond (not a) x y ≡ cond a y x
turned true x y = refl
turned false x y = refl

-- one number for three checks, or one after the other
in_turn_lem : (listed none same whole : Bool) (s : List ℕ)
    → (let n = cond (not listed) 3 (cond none 4 (cond same (cond whole 0 7) 7)) in cond (eqb n 0) (outcome (last_checks s) s) (unreadable n))
    ≡ cond (not listed) (unreadable 3) (cond none (unreadable 4) (cond same (cond whole (outcome (last_checks s) s) (unreadable 7)) (unreadable 7)))
in_turn_lem false none same whole s = refl
in_turn_lem true true same whole s = refl
in_turn_lem true false false whole s = refl
in_turn_lem true false true false s = refl
in_turn_lem true false true true s = refl

-- the row at an index is there where the index is one
none_listed : (i : ℕ) → is_none (listed i) ≡ eqb i 17
none_listed i = go (eqb i 17)
  where
    go : (b : Bool) → is_none (cond b None (Some i)) ≡ b
    go true = refl
    go false = refl

order_row : (s : List ℕ) → outcome (check3 (get_or s 2 0) or_else (check4 (row_in table (get_or s 2 0) (get_or s 3 0)) or_else (check5 s or_else last_checks s))) s ≡ kind_outcome s
unfolding row_outcome row_code table
order_row s =
    first_applies 2 (not (has_class table (get_or s 2 0))) _ s
    ∙ ap (cond (not (has_class table (get_or s 2 0))) (unreadable 3)) (first_applies 3 (eqb (row_in table (get_or s 2 0) (get_or s 3 0)) 17) _ s
    ∙ ap (cond (eqb (row_in table (get_or s 2 0) (get_or s 3 0)) 17) (unreadable 4)) (first_applies 6 (not (eqb (be 4 s 4) (length s)) || not (eqb (length s % 4) 0)) (last_checks s) s
    ∙ either (not (eqb (be 4 s 4) (length s))) (not (eqb (length s % 4) 0)) (unreadable 7) (outcome (last_checks s) s)
    ∙ turned (eqb (be 4 s 4) (length s)) (unreadable 7) _
    ∙ ap (λ (x : Reading). cond (eqb (be 4 s 4) (length s)) x (unreadable 7)) (turned (eqb (length s % 4) 0) (unreadable 7) (outcome (last_checks s) s))))
    ∙ sym (in_turn_lem (has_class table (get_or s 2 0)) (eqb (row_in table (get_or s 2 0) (get_or s 3 0)) 17) (eqb (be 4 s 4) (length s)) (eqb (length s % 4) 0) s)
    ∙ ap (λ (b : Bool). row_outcome (cond (not (has_class table (get_or s 2 0))) 3 (cond b 4 (cond (eqb (be 4 s 4) (length s)) (cond (eqb (length s % 4) 0) 0 7) 7))) s) (sym (none_listed (row_in table (get_or s 2 0) (get_or s 3 0))))

pub order_same : (s : List ℕ) → checks_outcome s ≡ reading_of s
unfolding checks_outcome reading_of verdict
order_same s =
    sym
    (first_applies 6 (ltb (length s) 8 || ltb most (length s)) _ s
    ∙ either (ltb (length s) 8) (ltb most (length s)) (unreadable 7) _
    ∙ ap (λ (x : Reading). cond (ltb (length s) 8) (unreadable 7) (cond (ltb most (length s)) (unreadable 7) x)) (first_applies 0 (not (eqb (get_or s 0 0) 1)) _ s
    ∙ turned (eqb (get_or s 0 0) 1) (unreadable 1) _
    ∙ ap (λ (x : Reading). cond (eqb (get_or s 0 0) 1) x (unreadable 1)) (order_row s)))

-- a row that is there is one of the table
pub row_known : (j i : ℕ) → j ≤ 17 → listed j ≡ Some i → (i ≡ j) × (j < 17)
row_known j i h e = go (eqb j 17) refl e
  where
    go : (b : Bool) → eqb j 17 ≡ b → cond b None (Some j) ≡ Some i → (i ≡ j) × (j < 17)
    go true q z = absurd (false≢true (ap is_some z))
    go false q z = let ne = eqb-false j 17 q in let k : j ≡ i = ap (λ (o : Option ℕ). row_or_none o) z in (sym k, omega arith)
