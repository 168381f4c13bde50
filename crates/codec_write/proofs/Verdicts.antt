-- The numbers that the writer gives are those that the reader gives the message.
-- Assumes nothing.
use mathlib.Core.Path.{◌≡◌, refl, sym, ap, ◌∙◌}
use mathlib.Core.Bool.{Bool, true, false, cond, not, ◌&&◌}
use mathlib.Core.List.{List, ◌++◌}
use Prim.Native.Nat.{ℕ, suc, ◌+◌, ◌/◌, ◌%◌, ◌≤◌}
use native.Mathlib.Nat.{div-add-mod'}
use native.Mathlib.Omega.{arith}
use lib.ListN.{length, get_or}
use lib.Dec.{ltb, eqb}
use borrow.Author.Tests.{le-ltb, eq-eqb, eqb-true}
use Rattle.codec_wire.specs.Number.{be}
use Rattle.codec_wire.specs.Walk.{Par, Walk, walk}
use Rattle.codec_wire.proofs.Number.{be_four}
use Rattle.codec_parameter.specs.Table.{table, has_class, row_in}
use Rattle.laws.specs.Choice.{◌or_else◌, ◌if◌}
use Rattle.codec_read.specs.Verdict.{most, check1, check2, check3, check4, check5, pars_code, last_checks, verdict}
use Rattle.codec_put.specs.Bytes.{head_bytes, pars_bytes}
use Rattle.codec_put.proofs.Round.{be_two_in, walk_written, pars_multiple}
use Rattle.codec_write.specs.Encode.{size_of, encode, total, pars_in, whole}
use Rattle.codec_write.specs.Inner.Write.{sizes, size_code, row_code, kind_code}
use Rattle.codec_write.proofs.Lists.{length_list}

-- a check that applies decides
or_if : (n : ℕ) (b : Bool) (m : ℕ) → (((suc n) if b) or_else m) ≡ cond b (suc n) m
or_if n true m = refl
or_if n false m = refl

pub length_encode : (c t : ℕ) (ps : List Par) → length (encode c t ps) ≡ size_of ps
unfolding encode size_of
length_encode c t ps = omega arith

-- the walk over a written message finds its list
pub walk_encode : (c t : ℕ) (ps : List Par) → walk (encode c t ps) 8 ≡ record { pars = ps; code = 0 }
unfolding encode
walk_encode c t ps = walk_written ps (head_bytes c t (size_of ps))

-- the length field is right
be_encode : (c t : ℕ) (ps : List Par) → be 4 (encode c t ps) 4 ≡ size_of ps
unfolding encode
be_encode c t ps =
    let n = size_of ps in
    let s : List ℕ = head_bytes c t n ++ pars_bytes ps in
    be_four s 4 ∙ rw (be_two_in s 4 (n / 65536) refl refl, be_two_in s 6 (n % 65536) refl refl) (div-add-mod' n 65536)

pub size_list : (ts ns vs : List ℕ) → length ns ≡ length ts → total ns ≤ length vs → size_of (pars_in ts ns vs) ≡ 8 + sizes ns
unfolding size_of
size_list ts ns vs e h = ap (λ (n : ℕ). 8 + n) (length_list ts ns vs e h)

-- the verdict on a written message, from the list
unfoldable pub list_code : ℕ → ℕ → List Par → ℕ
list_code c t ps = cond (ltb most (size_of ps)) 7 (cond (not (has_class table c)) 3 (cond (eqb (row_in table c t) 17) 4 (pars_code c t ps)))

check5_written : (c t : ℕ) (ps : List Par) → check5 (encode c t ps) ≡ 0
unfolding size_of
check5_written c t ps =
    let m = pars_multiple ps in
    rw (length_encode c t ps, eq-eqb (be 4 (encode c t ps) 4) (size_of ps) (be_encode c t ps), eq-eqb (size_of ps % 4) 0 (omega arith))

last_written : (c t : ℕ) (ps : List Par) → last_checks (encode c t ps) ≡ pars_code c t ps
unfolding last_checks encode
last_written c t ps =
    ap (λ (x : Walk). x.code or_else pars_code (get_or (encode c t ps) 2 0) (get_or (encode c t ps) 3 0) x.pars) (walk_encode c t ps)

-- check 1, then the checks 3 and 4, by their tests
first_written : (c t : ℕ) (ps : List Par) (m : ℕ) → (check1 (encode c t ps) or_else m) ≡ cond (ltb most (size_of ps)) 7 m
unfolding size_of
first_written c t ps m = rw (length_encode c t ps, le-ltb (size_of ps) 8 (omega arith)) (or_if 6 (ltb most (size_of ps)) m)

kind_tests : (c t m : ℕ) → (check3 c or_else (check4 (row_in table c t) or_else m)) ≡ cond (not (has_class table c)) 3 (cond (eqb (row_in table c t) 17) 4 m)
unfolding table
kind_tests c t m = or_if 2 (not (has_class table c)) _ ∙ ap (cond (not (has_class table c)) 3) (or_if 3 (eqb (row_in table c t) 17) m)

-- the checks behind check 1, of a written message whose header is known
behind_first : (c t : ℕ) (ps : List Par)
    → (check2 (encode c t ps) or_else (check3 (get_or (encode c t ps) 2 0) or_else (check4 (row_in table (get_or (encode c t ps) 2 0) (get_or (encode c t ps) 3 0)) or_else (check5 (encode c t ps) or_else last_checks (encode c t ps)))))
    ≡ (check3 c or_else (check4 (row_in table c t) or_else (check5 (encode c t ps) or_else last_checks (encode c t ps))))
unfolding encode
behind_first c t ps = refl

pub verdict_encode : (c t : ℕ) (ps : List Par) → verdict (encode c t ps) ≡ list_code c t ps
unfolding verdict list_code
verdict_encode c t ps =
    let five : (check5 (encode c t ps) or_else last_checks (encode c t ps)) ≡ pars_code c t ps =
    ap (λ (x : ℕ). x or_else last_checks (encode c t ps)) (check5_written c t ps) ∙ last_written c t ps in
    first_written c t ps _
    ∙ ap (cond (ltb most (size_of ps)) 7) (behind_first c t ps ∙ kind_tests c t _ ∙ ap (λ (m : ℕ). cond (not (has_class table c)) 3 (cond (eqb (row_in table c t) 17) 4 m)) five)

list_sized : (c t : ℕ) (ps : List Par) (n : ℕ) → size_of ps ≡ n
    → list_code c t ps ≡ cond (ltb most n) 7 (cond (not (has_class table c)) 3 (cond (eqb (row_in table c t) 17) 4 (pars_code c t ps)))
unfolding list_code
list_sized c t ps n e = rw e

-- the code's checks in its order give the number of the promise
pub code_lem : (c t : ℕ) (ts ns vs : List ℕ)
    → (size_code ts ns vs or_else kind_code c t (pars_in ts ns vs)) ≡ (7 if not (whole ts ns vs)) or_else verdict (encode c t (pars_in ts ns vs))
unfolding size_code kind_code whole row_code pars_code
code_lem c t ts ns vs = go (eqb (length ns) (length ts)) (eqb (total ns) (length vs)) refl refl
  where
    rest : ℕ
    rest = cond (not (has_class table c)) 3 (cond (eqb (row_in table c t) 17) 4 (pars_code c t (pars_in ts ns vs)))

    none : (b : Bool) → (cond b 7 7 or_else rest) ≡ 7
    none true = refl
    none false = refl

    some : (b : Bool) → (cond b 7 0 or_else rest) ≡ cond b 7 rest
    some true = refl
    some false = refl

    go : (a d : Bool) → eqb (length ns) (length ts) ≡ a → eqb (total ns) (length vs) ≡ d
        → (cond a (cond (ltb most (8 + sizes ns)) 7 (cond d 0 7)) 7 or_else rest) ≡ (7 if not (a && d)) or_else verdict (encode c t (pars_in ts ns vs))
    go false d ea ed = refl
    go true false ea ed = none (ltb most (8 + sizes ns))
    go true true ea ed =
        let h = eqb-true (total ns) (length vs) ed in
        let l : size_of (pars_in ts ns vs) ≡ 8 + sizes ns = size_list ts ns vs (eqb-true _ _ ea) (omega arith) in
        some (ltb most (8 + sizes ns)) ∙ sym (verdict_encode c t (pars_in ts ns vs) ∙ list_sized c t (pars_in ts ns vs) _ l)
