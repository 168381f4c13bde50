-- How the parts of a text are put one after another, and how long the parts are.
-- Assumes nothing.
use mathlib.Core.Path.{◌≡◌}
use mathlib.Core.List.{List, [], ◌∷◌}
use mathlib.Core.Bool.{Bool, true, false, cond}
use Prim.Native.Nat.{ℕ, suc, ◌+◌, ◌*◌, ◌<◌, ◌≤◌}
use native.Mathlib.Omega.{arith}
use lib.ListN.{length, length-append}
use lib.Dec.{ltb}
use borrow.Author.Tests.{ne_eqb, le-ltb, lt-ltb}
use Rattle.tool_text.specs.Digits.{decimal, places, hex}
use Rattle.tool_text.proofs.Lengths.{length_decimal, length_hex}
use Rattle.codec_wire.specs.Walk.{Par}
use native.Mathlib.Decide.{dec_lt}
use Rattle.codec_read.specs.declared.Reading.{Reading}
use Rattle.codec_read.specs.Verdict.{verdict}
use Rattle.codec_read.specs.Meaning.{reading_of, outcome}
use Rattle.tool_report.specs.declared.Style.{Style}
use Rattle.tool_report.specs.declared.Style.TheVariants.{Plain, Bars, Lines}
use Rattle.tool_report.specs.Shown.{blank, colon, joint, two, fields, value, named, fields_in, par_text}

-- ---- lengths

some : (b : Bool) (m n : ℕ) → m ≤ 10 → n ≤ 10 → cond b m n ≤ 10
some true m n h k = h
some false m n h k = k

pub places_most : (n : ℕ) → places n ≤ 10
unfolding places
places_most n = some (ltb n 10) 1 _ (omega arith) (some (ltb n 100) 2 _ (omega arith) (some (ltb n 1000) 3 _ (omega arith) (some (ltb n 10000) 4 _ (omega arith) (some (ltb n 100000) 5 _ (omega arith) (some (ltb n 1000000) 6 _ (omega arith) (some (ltb n 10000000) 7 _ (omega arith) (some (ltb n 100000000) 8 _ (omega arith) (some (ltb n 1000000000) 9 10 (omega arith) (omega arith)))))))))

pub decimal_most : (n : ℕ) → length (decimal n) ≤ 10
decimal_most n = rw (length_decimal n) (places_most n)

pub two_most : (a c b : ℕ) → length (two a c b) ≤ 21
unfolding two
two_most a c b = rw (length-append (decimal a) (c ∷ decimal b)) (omega (arith, decimal_most a, decimal_most b))

pub joint_most : (style : Style) → length (joint style) ≤ 3
unfolding joint
joint_most Plain = omega arith
joint_most Bars = omega arith
joint_most Lines = omega arith

-- a value takes two characters for each byte, and a blank
pub record Sized (v : List ℕ) (most : ℕ) (text : List ℕ) : Type 0 where
  pub least : 2 * length v ≤ length text
  pub within : length text ≤ most + 2 * length v

fields_sized : (t : ℕ) (v : List ℕ) → Sized v 22 (fields t v)
unfolding fields
fields_sized t v =
    let e = length-append (two t colon (4 + length v)) (colon ∷ hex v) in
    let k = length_hex v in
    let m = two_most t colon (4 + length v) in
    record { least = rw e (omega arith); within = rw e (omega arith) }

value_sized : (v : List ℕ) → Sized v 1 (value v)
unfolding value
value_sized [] = record { least = omega arith; within = omega arith }
value_sized (b ∷ v) =
    let e = length_hex (b ∷ v) in
    let z = ne_eqb (suc (length v)) 0 (λ q. omega arith) in
    record { least = rw z (omega arith); within = rw z (omega arith) }

named_sized : (t : ℕ) (v : List ℕ) → Sized v 28 (named t v)
unfolding named
named_sized t v =
    let e = length-append (two t blank (4 + length v)) (value v) in
    let k = value_sized v in
    let m = two_most t blank (4 + length v) in
    record { least = rw e (omega arith); within = rw e (omega arith) }

in_sized : (style : Style) (t : ℕ) (v : List ℕ) → Sized v 28 (fields_in style t v)
in_sized Plain t v = let k = fields_sized t v in record { least = k.least; within = omega arith }
in_sized Bars t v = named_sized t v
in_sized Lines t v = named_sized t v

pub par_sized : (style : Style) (p : Par) → Sized p.body 31 (par_text style p)
unfolding par_text
par_sized style p =
    let k = in_sized style p.tag p.body in
    let j = joint_most style in
    let e = length-append (joint style) (fields_in style p.tag p.body) in
    record { least = rw e (omega arith); within = rw e (omega arith) }

-- ---- the verdict

-- a message that reads has at most 2,048 bytes
long_verdict : (s : List ℕ) → 2048 < length s → verdict s ≡ 7
unfolding verdict
long_verdict s h = rw (le-ltb (length s) 8 (omega arith), lt-ltb 2048 (length s) h)

pub accepted_short : (s : List ℕ) (r : Reading) → r ≡ reading_of s → r.code ≡ 0 → length s ≤ 2048
unfolding reading_of outcome
accepted_short s r q e = go (dec_lt 2048 (length s))
  where
    go : Dec (2048 < length s) → length s ≤ 2048
    go (yes h) = let z : ◌≡◌ {A = ℕ} 7 0 = rw (q, long_verdict s h) at e in absurd (omega arith)
    go (no h) = omega arith
