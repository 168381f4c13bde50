-- A Data message that reads has protocol data that is good to hold. And a correlation id stands only where
-- one is marked.
-- Assumes nothing.
use mathlib.Core.Path.{◌≡◌, refl, sym, ap, ◌∙◌}
use mathlib.Core.Bool.{Bool, true, false, cond, ◌||◌, false≢true}
use mathlib.Core.List.{List, [], ◌∷◌, ◌++◌}
use Prim.Native.Nat.{ℕ, ◌+◌, ◌≤◌}
use native.Mathlib.Omega.{arith}
use lib.ListN.{length, get_or, length-take, length-drop}
use lib.Dec.{ltb, eqb}
use borrow.Author.Tests.{ltb-false, eqb-true, eq-eqb, not-false}
use Rattle.laws.specs.Inner.Below.{both_true}
use Rattle.codec_wire.specs.Walk.{Par, padded, walk}
use Rattle.codec_parameter.specs.Table.{table, among, row_in, entries_in, key, usage}
use Rattle.codec_parameter.specs.declared.Usage.{Usage}
use Rattle.codec_parameter.specs.declared.Usage.TheVariants.{Forbidden}
use Rattle.codec_parameter.specs.Value.{bytes_of, limits_of, plain_code, body_code}
use Rattle.codec_parameter.specs.Check.{allowed_code, par_code}
use Rattle.codec_parameter.proofs.Slots.{near}
use Rattle.codec_read.specs.Verdict.{has, number, is_none, in_turn, all_there, pars_code, verdict}
use Rattle.laws.specs.Below.{one}
use Rattle.codec_read.specs.Meaning.{unreadable, meaning, outcome, reading_of, body_in, found_in, or_zeros, data_of, data_tag, data_at}
use Rattle.codec_read.specs.Inner.GoodUnit.{GoodUnit, tag_in}
use Rattle.codec_read.specs.declared.Reading.{Reading}
use Rattle.codec_read.specs.declared.Found.{Found}
use Rattle.std.specs.Prelude.{Option, Some}
use Rattle.codec_read.proofs.Told.{or_true, number_none}
use Rattle.codec_read.proofs.Places.{data_key, data_lies}
use Rattle.codec_read.proofs.Accepted.{or_none, if_none, accepted}

-- ---- the first parameter of a tag

-- of protocol data: its value stands behind its tag and length field
place_behind : (at : ℕ) (ps : List Par) → has 0x300 ps ≡ true → 4 ≤ (or_zeros (found_in 0x300 0x301 at ps)).start
unfolding has found_in
place_behind at [] h = absurd (false≢true h)
place_behind at (p ∷ ps) h = let n = at + padded (4 + length p.body) in go (eqb p.tag 0x300 || eqb p.tag 0x301) (rw (data_key p.tag) at h) (found_in 0x300 0x301 n ps) (place_behind n ps)
  where
    go : (b : Bool) → (b || has 0x300 ps) ≡ true → (d : Option Found) → (has 0x300 ps ≡ true → 4 ≤ (or_zeros d).start)
        → 4 ≤ (or_zeros (cond b (Some (record { tag = p.tag; start = at + 4; length = length p.body })) d)).start
    go true e d ih = omega arith
    go false e d ih = ih e

-- and its tag
tag_found : (at : ℕ) (ps : List Par) → (or_zeros (found_in 0x300 0x301 at ps)).tag ≡ tag_in 0x300 ps
unfolding found_in tag_in
tag_found at [] = refl
tag_found at (p ∷ ps) = let n = at + padded (4 + length p.body) in rw (data_key p.tag) (go (eqb p.tag 0x300 || eqb p.tag 0x301) (found_in 0x300 0x301 n ps) (tag_found n ps))
  where
    go : (b : Bool) (d : Option Found) → (or_zeros d).tag ≡ tag_in 0x300 ps → (or_zeros (cond b (Some (record { tag = p.tag; start = at + 4; length = length p.body })) d)).tag ≡ cond b p.tag (tag_in 0x300 ps)
    go true d ih = refl
    go false d ih = ih

-- a tag u that counts as t, which the row may have, and a value v of it that was checked
pub record Passed (i t u : ℕ) (v : List ℕ) : Type 0 where
  pub same_key : key u ≡ key t
  pub allowed : eqb u 0x3 ≡ false → usage i u ≡ Forbidden → ⊥
  pub no_fault : body_code (usage i u) u v ≡ 0

may_stand : (u₁ u : Usage) (first again : Bool) (t : ℕ) → allowed_code u₁ u first again t ≡ 0 → eqb t 0x3 ≡ false → u ≡ Forbidden → ⊥
unfolding allowed_code
may_stand u₁ u first again t e n f = let z : ◌≡◌ {A = ℕ} 19 0 = rw (n, f) at e in omega (arith, z)

pub first_passed : (i t : ℕ) (before ps : List Par) → in_turn i before ps ≡ 0 → has t ps ≡ true → Passed i t (tag_in t ps) (body_in t ps)
unfolding in_turn has tag_in body_in par_code
first_passed i t before [] e h = absurd (false≢true h)
first_passed i t before (p ∷ ps) e h =
    let u₁ = usage i 0x1 in
    let u = usage i p.tag in
    let o = or_none (par_code u₁ u (is_none before) (has p.tag before) p.tag p.body) _ e in
    let b = or_none (allowed_code u₁ u (is_none before) (has p.tag before) p.tag) _ o.0 in
    go (eqb (key p.tag) (key t)) refl h (may_stand u₁ u (is_none before) (has p.tag before) p.tag b.0) b.1 (first_passed i t (before ++ (p ∷ [])) ps o.1)
  where
    go : (b : Bool) → eqb (key p.tag) (key t) ≡ b → (b || has t ps) ≡ true → (eqb p.tag 0x3 ≡ false → usage i p.tag ≡ Forbidden → ⊥) → body_code (usage i p.tag) p.tag p.body ≡ 0
        → (has t ps ≡ true → Passed i t (tag_in t ps) (body_in t ps)) → Passed i t (cond b p.tag (tag_in t ps)) (cond b p.body (body_in t ps))
    go true q a m z ih = record { same_key = eqb-true (key p.tag) (key t) q; allowed = m; no_fault = z }
    go false q a m z ih = ih a

-- ---- protocol data

two_tags : (u : ℕ) → key u ≡ 0x300 → (eqb u 0x300 || eqb u 0x301) ≡ true
two_tags u e = go (eqb u 0x301) e
  where
    go : (b : Bool) → cond b 0x300 u ≡ 0x300 → (eqb u 0x300 || b) ≡ true
    go true q = or_true (eqb u 0x300)
    go false q = rw (eq-eqb u 0x300 q)

-- the limits of both tags
data_limits : (u : ℕ) (w : Usage) (v : List ℕ) → (eqb u 0x300 || eqb u 0x301) ≡ true → body_code w u v ≡ 0 → plain_code (bytes_of 5 277) u v ≡ 0
unfolding body_code limits_of
data_limits u w v h e = go (eqb u 0x300) refl h
  where
    go : (b : Bool) → eqb u 0x300 ≡ b → (b || eqb u 0x301) ≡ true → plain_code (bytes_of 5 277) u v ≡ 0
    go true q a = let z = eqb-true u 0x300 q in rw z (rw z at e)
    go false q a = let z = eqb-true u 0x301 a in rw z (rw z at e)

length_within : (u : ℕ) (v : List ℕ) → plain_code (bytes_of 5 277) u v ≡ 0 → (1 ≤ length v) × (length v ≤ 273)
unfolding plain_code
length_within u v e = go (ltb (length v) 1) (ltb 273 (length v)) refl refl e
  where
    go : (a b : Bool) → ltb (length v) 1 ≡ a → ltb 273 (length v) ≡ b → ◌≡◌ {A = ℕ} (cond a 18 (cond b 18 0)) 0 → (1 ≤ length v) × (length v ≤ 273)
    go true b p q z = let y : ⊥ = omega (arith, z) in absurd y
    go false true p q z = let y : ⊥ = omega (arith, z) in absurd y
    go false false p q z = (ltb-false (length v) 1 p, ltb-false 273 (length v) q)

-- ---- a Data message

-- its parameters were checked, and protocol data is among them
data_checked : (s : List ℕ) → verdict s ≡ 0 → (reading_of s).class ≡ 6 → (reading_of s).msgtype ≡ 1
    → (in_turn 7 [] (walk s 8).pars ≡ 0) × (has 0x300 (walk s 8).pars ≡ true)
unfolding reading_of outcome meaning pars_code table among row_in entries_in all_there
data_checked s e ec et =
    let ps = (walk s 8).pars in
    let c : get_or s 2 0 ≡ 6 = rw e at ec in
    let t : get_or s 3 0 ≡ 1 = rw e at et in
    let o = or_none (in_turn 7 [] ps) _ (rw (c, t) at (accepted s e).pars_ok) in
    let a = not-false _ (if_none 21 _ (or_none _ _ o.1).0) in
    (o.0, (both_true (has 0x300 ps) true (both_true (has 0x1 ps) _ a).1).0)

pub good_unit : (s : List ℕ) → verdict s ≡ 0 → (reading_of s).class ≡ 6 → (reading_of s).msgtype ≡ 1 → GoodUnit s
unfolding data_of data_tag data_at
good_unit s e ec et =
    let ps = (walk s 8).pars in
    let k = data_checked s e ec et in
    let f = first_passed 7 0x300 [] ps k.0 k.1 in
    let u = tag_in 0x300 ps in
    let tagged = two_tags u f.same_key in
    let w = length_within u (body_in 0x300 ps) (data_limits u (usage 7 u) (body_in 0x300 ps) tagged f.no_fault) in
    let d = data_lies s in
    let l : length (data_of s) ≡ (data_at s).length = ap length d.bytes ∙ simp (length-take, length-drop) (omega arith) in
    record {
      tagged = rw (tag_found 8 ps) tagged;
      least = omega arith;
      most = omega arith;
      within = d.within;
      bytes = sym d.bytes;
      same_length = l;
      behind = place_behind 8 ps k.1;
    }

-- ---- the correlation id

marked : (b : Bool) (n : ℕ) → (b ≡ false → n ≡ 0) → (one b ≤ 1) × (one b ≡ 0 → n ≡ 0)
marked true n z = (omega arith, λ e. absurd (omega arith))
marked false n z = (omega arith, λ e. z refl)

-- whatever was read: whether there is one is 0 or 1, and without one it is 0
pub correlation_marked : (s : List ℕ) → ((reading_of s).correlated ≤ 1) × ((reading_of s).correlated ≡ 0 → (reading_of s).correlation ≡ 0)
unfolding reading_of outcome meaning near
correlation_marked s = go (eqb (verdict s) 0)
  where
    ps : List Par
    ps = (walk s 8).pars

    go : (b : Bool)
        → (let r : Reading = cond b (meaning (get_or s 2 0) (get_or s 3 0) ps) (unreadable (verdict s)) in (r.correlated ≤ 1) × (r.correlated ≡ 0 → r.correlation ≡ 0))
    go true = marked (has 0x13 ps) (number 0x13 ps) (number_none 0x13 refl ps)
    go false = (omega arith, λ e. refl)
