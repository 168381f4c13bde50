-- What is known of a message that reads.
-- Assumes nothing.
use mathlib.Core.Path.{◌≡◌, refl, sym}
use mathlib.Core.Bool.{Bool, true, false, ◌||◌, false≢true}
use mathlib.Core.List.{List}
use Prim.Native.Nat.{ℕ, zero, suc, ◌≤◌}
use native.Mathlib.Omega.{arith}
use lib.ListN.{length, get_or}
use lib.Dec.{eqb}
use borrow.Author.Tests.{ltb-false, eqb-true, not-false}
use Rattle.laws.specs.Choice.{◌or_else◌, ◌if◌}
use Rattle.codec_wire.specs.Number.{be}
use Rattle.codec_wire.specs.Walk.{walk}
use Rattle.codec_parameter.specs.Table.{table, has_class, row_in}
use Rattle.codec_read.specs.Verdict.{most, check1, check2, check3, check4, check5, check6, pars_code, last_checks, verdict}

-- of two numbers that are checked in turn, both are 0 where the first that applies is
pub or_none : (a b : ℕ) → (a or_else b) ≡ 0 → (a ≡ 0) × (b ≡ 0)
or_none zero b e = (refl, e)
or_none (suc a) b e = absurd (omega arith)

pub if_none : (n : ℕ) (b : Bool) → ((suc n) if b) ≡ 0 → b ≡ false
if_none n true e = absurd (omega arith)
if_none n false e = refl

pub record Accepted (s : List ℕ) : Type 0 where
  pub long : 8 ≤ length s
  pub small : length s ≤ most
  pub version : get_or s 0 0 ≡ 1
  pub listed : has_class table (get_or s 2 0) ≡ true
  pub known : eqb (row_in table (get_or s 2 0) (get_or s 3 0)) 17 ≡ false
  pub field : be 4 s 4 ≡ length s
  pub walked : (walk s 8).code ≡ 0
  pub pars_ok : pars_code (get_or s 2 0) (get_or s 3 0) (walk s 8).pars ≡ 0

or_false : (u v : Bool) → (u || v) ≡ false → (u ≡ false) × (v ≡ false)
or_false true v h = absurd (false≢true (sym h))
or_false false v h = (refl, h)

pub accepted : (s : List ℕ) → verdict s ≡ 0 → Accepted s
unfolding verdict last_checks table
accepted s e =
    let c = get_or s 2 0 in
    let a₁ = or_none (check1 s) _ e in
    let a₂ = or_none (check2 s) _ a₁.1 in
    let a₃ = or_none (check3 c) _ a₂.1 in
    let a₄ = or_none (check4 (row_in table c (get_or s 3 0))) _ a₃.1 in
    let a₅ = or_none (check5 s) _ a₄.1 in
    let a₆ = or_none (check6 s) _ a₅.1 in
    let o = or_false _ _ (if_none 6 _ a₁.0) in
    let f = or_false _ _ (if_none 6 _ a₅.0) in
    record {
      long = ltb-false _ _ o.0;
      small = ltb-false _ _ o.1;
      version = eqb-true _ _ (not-false _ (if_none 0 _ a₂.0));
      listed = not-false _ (if_none 2 _ a₃.0);
      known = if_none 3 _ a₄.0;
      field = eqb-true _ _ (not-false _ f.0);
      walked = a₆.0;
      pars_ok = a₆.1;
    }
