-- What an accepted message's class and type tell of it.
-- Assumes nothing.
use mathlib.Core.Path.{◌≡◌, refl, sym, ap, ◌∙◌}
use mathlib.Core.Bool.{Bool, true, false, ◌&&◌, false≢true}
use mathlib.Core.List.{List, [], ◌∷◌}
use Prim.Native.Nat.{ℕ, ◌+◌, ◌*◌, ◌≤◌, ◌<◌}
use native.Mathlib.Omega.{arith}
use native.Mathlib.Decide.{dec_lt}
use lib.Dec.{ltb, eqb}
use lib.ListN.{length, get_or}
use borrow.Author.Tests.{ne_eqb, eq-eqb, ltb-true}
use Rattle.laws.specs.Inner.Every.{and_left, and_right}
use Rattle.codec_wire.specs.Walk.{walk}
use Rattle.codec_parameter.specs.Table.{Row, table, among, row_in}
use Rattle.codec_read.specs.Verdict.{in_turn, pars_code, verdict}
use Rattle.codec_read.specs.declared.Reading.{Reading}
use Rattle.codec_read.specs.Meaning.{meaning, outcome, reading_of}
use Rattle.rules_event.specs.Rules.{class_type_of}
use Rattle.codec_write.proofs.Writes.{or_none}
use Rattle.codec_write.proofs.RoundTrip.{Accepted}

-- the types of rows are below 16
unfoldable small_types : List ℕ → Bool
small_types [] = true
small_types (t ∷ ts) = ltb t 16 && small_types ts

unfoldable small_rows : List Row → Bool
small_rows [] = true
small_rows (r ∷ rs) = small_types r.types && small_rows rs

not_among : (ts : List ℕ) (t : ℕ) → small_types ts ≡ true → 16 ≤ t → among t ts ≡ false
unfolding among small_types
not_among [] t e h = refl
not_among (x ∷ ts) t e h =
    let b = ltb-true x 16 (and_left (ltb x 16) (small_types ts) e) in
    rw (ne_eqb t x (λ z. omega arith), not_among ts t (and_right (ltb x 16) (small_types ts) e) h)

pub and_none : (b : Bool) → (b && false) ≡ false
and_none true = refl
and_none false = refl

no_row : (rs : List Row) (c t : ℕ) → small_rows rs ≡ true → 16 ≤ t → row_in rs c t ≡ length rs
unfolding row_in small_rows
no_row [] c t e h = refl
no_row (r ∷ rs) c t e h =
    rw (not_among r.types t (and_left (small_types r.types) (small_rows rs) e) h, and_none (eqb c r.class), no_row rs c t (and_right (small_types r.types) (small_rows rs) e) h)

pub type_small : (s : List ℕ) → Accepted s → get_or s 3 0 < 16
unfolding table small_types small_rows
type_small s a = go (dec_lt (get_or s 3 0) 16)
  where
    go : Dec (get_or s 3 0 < 16) → get_or s 3 0 < 16
    go (yes z) = z
    go (no z) =
        absurd (false≢true (sym a.known ∙ eq-eqb (row_in table (get_or s 2 0) (get_or s 3 0)) 17 (no_row table (get_or s 2 0) (get_or s 3 0) refl (omega arith))))

-- its parameters were checked
pub in_turn_lem : (s : List ℕ) → Accepted s → in_turn (row_in table (get_or s 2 0) (get_or s 3 0)) [] (walk s 8).pars ≡ 0
unfolding pars_code
in_turn_lem s a = (or_none (in_turn (row_in table (get_or s 2 0) (get_or s 3 0)) [] (walk s 8).pars) _ a.pars_ok).0

-- what reading it gives
pub reading_is : (s : List ℕ) → verdict s ≡ 0 → reading_of s ≡ meaning (get_or s 2 0) (get_or s 3 0) (walk s 8).pars
unfolding reading_of outcome
reading_is s e = rw e

-- by the rules of a row that its class and type have
pub in_row : (s : List ℕ) → verdict s ≡ 0 → Accepted s → (c t : ℕ) → t < 256 → class_type_of (reading_of s) ≡ c * 256 + t → in_turn (row_in table c t) [] (walk s 8).pars ≡ 0
unfolding meaning
in_row s e a c t h k =
    let z = ap (λ (r : Reading). class_type_of r) (sym (reading_is s e)) ∙ k in
    let q = type_small s a in
    let ec : get_or s 2 0 ≡ c = omega arith in
    let et : get_or s 3 0 ≡ t = omega arith in
    rw (ec, et) at (in_turn_lem s a)
