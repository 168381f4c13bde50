-- The sequence number that reading gives. Assumes nothing.
use mathlib.Core.Path.{◌≡◌, refl, sym, ◌∙◌}
use mathlib.Core.Bool.{Bool, true, false, cond, ◌&&◌, ◌||◌, false≢true}
use mathlib.Core.List.{List, [], ◌∷◌}
use Prim.Native.Nat.{ℕ, zero, suc, ◌≤◌}
use native.Mathlib.Omega.{arith}
use lib.ListN.{length, get_or}
use lib.Dec.{ltb, eqb}
use borrow.Author.Tests.{ltb-false, ne_eqb}
use Rattle.codec_wire.specs.Number.{be}
use Rattle.codec_wire.specs.Walk.{Par, walk}
use Rattle.codec_parameter.specs.Table.{Row, table, among, row_in, entries_in, key, use_in, usage}
use Rattle.codec_parameter.specs.declared.Usage.{Usage}
use Rattle.codec_parameter.specs.declared.Usage.TheVariants.{Forbidden, Optional, Mandatory, Repeated}
use Rattle.codec_parameter.specs.Value.{limits_of, word_code, plain_code, body_code}
use Rattle.codec_parameter.proofs.Slots.{near}
use Rattle.codec_read.specs.Verdict.{has, head, number, is_retrieval_request, is_retrieval_confirm, in_turn, pars_code, verdict}
use Rattle.laws.specs.Below.{one}
use Rattle.codec_read.specs.Meaning.{unreadable, meaning, outcome, reading_of, body_in, SequenceNumber, SequenceNumbers}
use Rattle.codec_read.specs.Inner.GoodUnit.{tag_in}
use Rattle.codec_read.proofs.Told.{number_none}
use Rattle.codec_read.proofs.GoodUnit.{Passed, first_passed}
use Rattle.codec_read.proofs.Accepted.{or_none, accepted}

-- ---- who has one

unfoldable is_allowed : Usage → Bool
is_allowed Forbidden = false
is_allowed Optional = true
is_allowed Mandatory = true
is_allowed Repeated = true

-- whether the row of a class and type has a tag, row by row
unfoldable allows : List Row → ℕ → ℕ → ℕ → Bool
allows [] c t x = false
allows (r ∷ rs) c t x = cond (eqb c r.class && among t r.types) (is_allowed (use_in r.entries x)) (allows rs c t x)

by_rows : (rs : List Row) (c t x : ℕ) → is_allowed (use_in (entries_in rs (row_in rs c t)) x) ≡ allows rs c t x
unfolding row_in entries_in use_in is_allowed allows
by_rows [] c t x = refl
by_rows (r ∷ rs) c t x = go (eqb c r.class && among t r.types) (by_rows rs c t x)
  where
    go : (b : Bool) → is_allowed (use_in (entries_in rs (row_in rs c t)) x) ≡ allows rs c t x → is_allowed (use_in (entries_in (r ∷ rs) (cond b 0 (suc (row_in rs c t)))) x) ≡ cond b (is_allowed (use_in r.entries x)) (allows rs c t x)
    go true e = refl
    go false e = e

is_allowed_lem : (u : Usage) → (u ≡ Forbidden → ⊥) → is_allowed u ≡ true
unfolding is_allowed
is_allowed_lem Forbidden n = absurd (n refl)
is_allowed_lem Optional n = refl
is_allowed_lem Mandatory n = refl
is_allowed_lem Repeated n = refl

skip : (b x : Bool) → cond b false x ≡ true → x ≡ true
skip true x h = absurd (false≢true h)
skip false x h = h

no_more : (b : Bool) → (b || false) ≡ b
no_more true = refl
no_more false = refl

-- two rows have the tag 0x307, and none behind them
two_rows : (a b p q r z : Bool) → cond a true (cond b true (cond p false (cond q false (cond r false (cond z false false))))) ≡ true → (a || b) ≡ true
two_rows true b p q r z h = refl
two_rows false true p q r z h = refl
two_rows false false p q r z h = skip z false (skip r _ (skip q _ (skip p _ h)))

retrievals : (c t : ℕ) → allows table c t 0x307 ≡ true → (is_retrieval_request c t || is_retrieval_confirm c t) ≡ true
unfolding table among use_in is_allowed allows
retrievals c t h =
    let is : ℕ → List ℕ → Bool = λ k ts. eqb c k && among t ts in
    rw (no_more (eqb t 10), no_more (eqb t 11)) at
    (two_rows (is 6 (10 ∷ [])) (is 6 (11 ∷ [])) (is 6 (12 ∷ [])) (is 6 (13 ∷ [])) (is 6 (14 ∷ [])) (is 6 (15 ∷ []))
    (skip (is 6 (9 ∷ [])) _ (skip (is 6 (7 ∷ 8 ∷ [])) _ (skip (is 6 (2 ∷ 3 ∷ 4 ∷ 5 ∷ 6 ∷ [])) _ (skip (is 6 (1 ∷ [])) _ (skip (is 4 (2 ∷ 4 ∷ [])) _ (skip (is 4 (1 ∷ 3 ∷ [])) _ (skip (is 3 (3 ∷ 6 ∷ [])) _ (skip (is 3 (2 ∷ 4 ∷ 5 ∷ [])) _ (skip (is 3 (1 ∷ [])) _ (skip (is 0 (1 ∷ [])) _ (skip (is 0 (0 ∷ [])) _ h))))))))))))

-- ---- how large it is

number_body : (t : ℕ) (ps : List Par) → number t ps ≡ head (body_in t ps)
unfolding number body_in head
number_body t [] = refl
number_body t (p ∷ ps) = go (eqb (key p.tag) (key t)) (number_body t ps)
  where
    go : (b : Bool) → number t ps ≡ head (body_in t ps) → cond b (head p.body) (number t ps) ≡ head (cond b p.body (body_in t ps))
    go true e = refl
    go false e = e

within : (w : Usage) (v : List ℕ) → body_code w 0x307 v ≡ 0 → head v ≤ (limits_of 0x307).high
unfolding body_code plain_code word_code limits_of head
within w v e = go (ltb (length v) 4) (ltb 4 (length v)) (ltb (be 4 v 0) 0) (ltb 4095 (be 4 v 0)) refl e
  where
    go : (a b x y : Bool) → ltb 4095 (be 4 v 0) ≡ y → ◌≡◌ {A = ℕ} (cond a 18 (cond b 18 (cond a 18 (cond x 17 (cond y 17 0))))) 0 → cond a 0 (be 4 v 0) ≤ 4095
    go true b x y q z = let k : ⊥ = omega (arith, z) in absurd k
    go false true x y q z = let k : ⊥ = omega (arith, z) in absurd k
    go false false true y q z = let k : ⊥ = omega (arith, z) in absurd k
    go false false false true q z = let k : ⊥ = omega (arith, z) in absurd k
    go false false false false q z = ltb-false 4095 (be 4 v 0) q

-- ---- of a message

flag_one : (b : Bool) → one b ≡ 1 → b ≡ true
flag_one true e = refl
flag_one false e = let k : ⊥ = omega (arith, e) in absurd k

flag_none : (b : Bool) → one b ≡ 0 → b ≡ false
flag_none true e = let k : ⊥ = omega (arith, e) in absurd k
flag_none false e = refl

own_key : (u : ℕ) → key u ≡ 0x307 → u ≡ 0x307
own_key u = go (eqb u 0x301)
  where
    go : (b : Bool) → cond b 0x300 u ≡ 0x307 → u ≡ 0x307
    go true e = let k : ⊥ = omega (arith, e) in absurd k
    go false e = e

module _ (c t : ℕ) (ps : List Par) (ok : in_turn (row_in table c t) [] ps ≡ 0) where
  first : has 0x307 ps ≡ true → Passed (row_in table c t) 0x307 0x307 (body_in 0x307 ps)
  first h = let f = first_passed (row_in table c t) 0x307 [] ps ok h in rw (own_key (tag_in 0x307 ps) f.same_key) at f

  who : has 0x307 ps ≡ true → (is_retrieval_request c t || is_retrieval_confirm c t) ≡ true
  unfolding usage
  who h = retrievals c t (sym (by_rows table c t 0x307) ∙ is_allowed_lem (usage (row_in table c t) 0x307) ((first h).allowed refl))

  small : (b : Bool) → has 0x307 ps ≡ b → number 0x307 ps ≤ (limits_of 0x307).high
  unfolding near limits_of
  small true h = rw (number_body 0x307 ps) (within (usage (row_in table c t) 0x307) (body_in 0x307 ps) (first h).no_fault)
  small false h = rw (number_none 0x307 refl ps h) (omega arith)

refused : (n : ℕ) → SequenceNumber (unreadable n)
unfolding limits_of
refused n = record { only = λ f. let k : ⊥ = omega (arith, f) in absurd k; most = omega arith; none = λ f. refl }

pub sequence_numbers : SequenceNumbers
unfolding reading_of outcome meaning near limits_of pars_code
sequence_numbers s = go (verdict s) refl
  where
    go : (n : ℕ) → verdict s ≡ n → SequenceNumber (outcome n s)
    go zero e =
        let c = get_or s 2 0 in
        let t = get_or s 3 0 in
        let ps = (walk s 8).pars in
        let o = (or_none (in_turn (row_in table c t) [] ps) _ (accepted s e).pars_ok).0 in
        record { only = λ f. who c t ps o (flag_one (has 0x307 ps) f); most = small c t ps o (has 0x307 ps) refl; none = λ f. number_none 0x307 refl ps (flag_none (has 0x307 ps) f) }
    go (suc n) e = rw (ne_eqb (suc n) 0 (λ z. omega arith)) (refused (suc n))
