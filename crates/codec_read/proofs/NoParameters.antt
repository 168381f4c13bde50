-- A message without parameters is refused exactly where its row has a mandatory one, so those of the classes
-- 3 and 4 are accepted.
-- Assumes nothing.
use mathlib.Core.Path.{◌≡◌, refl, sym, ap, ◌∙◌}
use mathlib.Core.Bool.{Bool, beq, true, false, cond, not, ◌&&◌, ◌||◌, false≢true}
use mathlib.Core.List.{List, []}
use Prim.Native.Nat.{ℕ, ◌≤◌, ◌<◌}
use native.Mathlib.Omega.{arith}
use lib.ListN.{length, get_or}
use lib.Dec.{ltb, leb, eqb}
use borrow.Author.Tests.{eqb-true, ltb-true, leb-true, lt-leb, ne_eqb}
use Rattle.laws.specs.Below.{all_below}
use Rattle.laws.specs.Inner.Below.{all_at}
use Rattle.laws.specs.Inner.Choice.{beq_true}
use Rattle.laws.specs.Inner.Every.{and_left, and_right}
use Rattle.codec_wire.specs.Number.{be}
use Rattle.codec_wire.specs.Walk.{Walk, walk}
use Rattle.codec_wire.proofs.Steps.{step_end, walk_step}
use Rattle.codec_wire.specs.declared.Step.TheVariants.{End}
use Rattle.codec_parameter.specs.Table.{table, has_class, among, row_in, entries_in}
use Rattle.codec_parameter.specs.Inner.Slot.{info_of, listed}
use Rattle.codec_parameter.specs.declared.RowInfo.{RowInfo}
use Rattle.laws.specs.Choice.{◌or_else◌}
use Rattle.codec_read.specs.Verdict.{most, has, number, all_there, exactly, sequence_code, in_turn, pars_code, last_checks}
use Rattle.codec_read.specs.Meaning.{meaning, unreadable, outcome, reading_of}
use Rattle.codec_read.specs.Inner.Seen.{row_code, row_outcome, checks_outcome, needs_none, is_bare}
use Rattle.codec_read.specs.declared.Reading.{Reading}
use Rattle.codec_read.proofs.Order.{order_same}
use Rattle.codec_read.proofs.Turns.{row_of}

agrees : ℕ → Bool
agrees i = beq (all_there (entries_in table i) []) (eqb (info_of i).musts 0)

all_agree : all_below agrees 17 ≡ true
unfolding all_below agrees all_there has entries_in table info_of
all_agree = refl

no_musts : (i : ℕ) → i < 17 → all_there (entries_in table i) [] ≡ eqb (info_of i).musts 0
unfolding agrees
no_musts i h = beq_true _ _ (all_at agrees 17 all_agree i h)

no_sequence : (c t : ℕ) → sequence_code c t [] ≡ 0
unfolding sequence_code number has
no_sequence c t = go (eqb c 6 && eqb t 10) (eqb c 6 && eqb t 11)
  where
    go : (a b : Bool) → cond a (exactly (eqb 0 2) false) (cond b (exactly (eqb 0 1 && eqb 0 0) false) 0) ≡ 0
    go true b = refl
    go false true = refl
    go false false = refl

no_walk : (s : List ℕ) → length s ≡ 8 → walk s 8 ≡ record { pars = []; code = 0 }
no_walk s h = walk_step s 8 End (step_end s 8 (omega arith))

-- without parameters, what is mandatory decides
decides : (b : Bool) (c t : ℕ) (s : List ℕ) → (walk s 8).pars ≡ [] → c ≡ get_or s 2 0 → t ≡ get_or s 3 0
    → outcome (cond (not b) 22 0 or_else 0) s ≡ cond b (meaning c t []) (unreadable 22)
unfolding outcome
decides true c t s e ec et = rw (e, ec, et)
decides false c t s e ec et = refl

bare_same : (s : List ℕ) (info : RowInfo) → length s ≡ 8 → row_of s < 17 → info ≡ info_of (row_of s)
    → cond (eqb info.musts 0) (meaning (get_or s 2 0) (get_or s 3 0) []) (unreadable 22) ≡ outcome (last_checks s) s
unfolding last_checks pars_code in_turn
bare_same s info h hi ei =
    let w = no_walk s h in
    let i = row_of s in
    let c = get_or s 2 0 in
    let t = get_or s 3 0 in
    sym
    (ap (λ (x : Walk). outcome (x.code or_else pars_code c t x.pars) s) w
    ∙ ap (λ (n : ℕ). outcome (cond (not (all_there (entries_in table i) [])) 22 0 or_else n) s) (no_sequence c t)
    ∙ ap (λ (b : Bool). outcome (cond (not b) 22 0 or_else 0) s) (no_musts i hi ∙ ap (λ (x : RowInfo). eqb x.musts 0) (sym ei))
    ∙ decides (eqb info.musts 0) c t s (ap (λ (x : Walk). x.pars) w) refl refl)

-- ---- what needs none

-- the class is listed, the type has a row, and nothing in it is mandatory
free : ℕ → ℕ → Bool
free c t = has_class table c && (ltb (row_in table c t) 17 && eqb (info_of (row_in table c t)).musts 0)

free_from_1 : ℕ → ℕ → Bool
free_from_1 c t = leb t 0 || free c t

all_of_3 : all_below (free_from_1 3) 7 ≡ true
unfolding all_below free_from_1 free has_class row_in among table info_of
all_of_3 = refl

all_of_4 : all_below (free_from_1 4) 5 ≡ true
unfolding all_below free_from_1 free has_class row_in among table info_of
all_of_4 = refl

free_at : (c t n : ℕ) → all_below (free_from_1 c) n ≡ true → 1 ≤ t → t < n → free c t ≡ true
unfolding free_from_1
free_at c t n a l h = rw (lt-leb t 0 l) at (all_at (free_from_1 c) n a t h)

needs_free : (c t : ℕ) → needs_none c t ≡ true → free c t ≡ true
unfolding needs_none
needs_free c t h = go (eqb c 3) (eqb c 4) (leb 1 t) (leb t 6) (leb t 4) refl refl refl refl refl h
  where
    go : (x y l m n : Bool) → eqb c 3 ≡ x → eqb c 4 ≡ y → leb 1 t ≡ l → leb t 6 ≡ m → leb t 4 ≡ n → ((x && (l && m)) || (y && (l && n))) ≡ true → free c t ≡ true
    go true y true true n ex ey el em en h = rw (eqb-true c 3 ex) (free_at 3 t 7 all_of_3 (leb-true 1 t el) (omega (arith, leb-true t 6 em)))
    go true true true false true ex ey el em en h = rw (eqb-true c 4 ey) (free_at 4 t 5 all_of_4 (leb-true 1 t el) (omega (arith, leb-true t 4 en)))
    go false true true m true ex ey el em en h = rw (eqb-true c 4 ey) (free_at 4 t 5 all_of_4 (leb-true 1 t el) (omega (arith, leb-true t 4 en)))
    go true false true false n ex ey el em en h = absurd (false≢true h)
    go true true true false false ex ey el em en h = absurd (false≢true h)
    go true false false m n ex ey el em en h = absurd (false≢true h)
    go true true false m n ex ey el em en h = absurd (false≢true h)
    go false false l m n ex ey el em en h = absurd (false≢true h)
    go false true false m n ex ey el em en h = absurd (false≢true h)
    go false true true m false ex ey el em en h = absurd (false≢true h)

-- the checks 1 to 5 find nothing
passed : (len v n i : ℕ) (known : Bool) (x : Reading) → len ≡ 8 → v ≡ 1 → n ≡ 8 → known ≡ true → i < 17
    → cond (ltb len 8) (unreadable 7) (cond (ltb most len) (unreadable 7) (cond (eqb v 1) (cond (eqb (row_code known (listed i) n len) 0) x (unreadable (row_code known (listed i) n len))) (unreadable 1))) ≡ x
unfolding row_code
passed len v n i known x a b c d e = rw (a, b, c, d, ne_eqb i 17 (λ q. omega (arith, e, q)))

of_8 : (a b : Bool) → cond a b false ≡ true → (a ≡ true) × (b ≡ true)
of_8 true b h = (refl, h)
of_8 false b h = absurd (false≢true h)

pub bare_length : (s : List ℕ) → is_bare s ≡ true → length s ≡ 8
unfolding is_bare
bare_length s h = eqb-true (length s) 8 (of_8 _ _ h).0

pub bare_read : (s : List ℕ) → is_bare s ≡ true → meaning (get_or s 2 0) (get_or s 3 0) [] ≡ reading_of s
unfolding is_bare checks_outcome row_outcome free
bare_read s h =
    let c = get_or s 2 0 in
    let t = get_or s 3 0 in
    let v = eqb (get_or s 0 0) 1 in
    let n = eqb (be 4 s 4) 8 in
    let e = bare_length s h in
    let x = (of_8 (eqb (length s) 8) ((v && n) && needs_none c t) h).1 in
    let vn = and_left (v && n) (needs_none c t) x in
    let known = has_class table c in
    let row = ltb (row_in table c t) 17 in
    let none = eqb (info_of (row_in table c t)).musts 0 in
    let f = needs_free c t (and_right (v && n) (needs_none c t) x) in
    let g = and_right known (row && none) f in
    let i = ltb-true (row_in table c t) 17 (and_left row none g) in
    ap (λ (b : Bool). cond b (meaning c t []) (unreadable 22)) (sym (and_right row none g))
    ∙ bare_same s (info_of (row_in table c t)) e i refl
    ∙ sym (passed (length s) (get_or s 0 0) (be 4 s 4) (row_in table c t) known (outcome (last_checks s) s) e (eqb-true (get_or s 0 0) 1 (and_left v n vn)) (eqb-true (be 4 s 4) 8 (and_right v n vn)) (and_left known (row && none) f) i)
    ∙ order_same s
