-- Some of the parameters of a message that reads: the checks find nothing in them either, and they take no
-- more bytes.
-- Assumes nothing.
use mathlib.Core.Path.{◌≡◌, refl, sym, ◌∙◌}
use mathlib.Core.Bool.{Bool, true, false, cond, ◌||◌, false≢true}
use mathlib.Core.List.{List, [], ◌∷◌, ◌++◌}
use mathlib.Core.Logic.{◌⊎◌, inl, inr}
use Prim.Native.Nat.{ℕ, ◌+◌, ◌≤◌}
use native.Mathlib.Omega.{arith}
use lib.Dec.{eqb}
use lib.ListN.{length, length-append}
use Rattle.codec_wire.specs.Walk.{Par}
use Rattle.codec_parameter.specs.Table.{key, usage}
use Rattle.codec_parameter.specs.declared.Usage.{Usage}
use Rattle.codec_parameter.specs.declared.Usage.TheVariants.{Forbidden, Optional, Mandatory, Repeated}
use Rattle.codec_parameter.specs.Value.{body_code}
use Rattle.codec_parameter.specs.Check.{once_code, tag_code, allowed_code, par_code}
use Rattle.codec_read.specs.Verdict.{has, is_none, in_turn}
use Rattle.codec_put.specs.Bytes.{par_bytes, pars_bytes}
use Rattle.codec_write.proofs.Writes.{or_none}
use Rattle.codec_select.specs.Only.{only}

-- ---- the check of one parameter

-- a tag that may stand at any place of the messages of a row
pub record Anywhere (i t : ℕ) : Type 0 where
  pub no_text : eqb t 0x3 ≡ false
  pub no_first : (eqb t 0x1 ≡ false) ⊎ (usage i t ≡ Repeated)

once_again : (t : ℕ) (first again first' again' : Bool) → eqb t 0x1 ≡ false → (again' ≡ true → again ≡ true) → once_code first again t ≡ 0 → once_code first' again' t ≡ 0
once_again t first again first' false z m e = rw z
once_again t first true first' true z m e = let y : ⊥ = omega (arith, e) in absurd y
once_again t first false first' true z m e = absurd (false≢true (m refl))

-- it may stand there again where it stood before less often
tag_again : (u : Usage) (t : ℕ) (first again first' again' : Bool) → (eqb t 0x1 ≡ false) ⊎ (u ≡ Repeated) → (again' ≡ true → again ≡ true)
    → tag_code u first again t ≡ 0 → tag_code u first' again' t ≡ 0
tag_again u t first again first' again' (inr z) m e = rw z
tag_again Forbidden t first again first' again' (inl z) m e = e
tag_again Optional t first again first' again' (inl z) m e = once_again t first again first' again' z m e
tag_again Mandatory t first again first' again' (inl z) m e = once_again t first again first' again' z m e
tag_again Repeated t first again first' again' (inl z) m e = e

par_again : (i t : ℕ) (v : List ℕ) (first again first' again' : Bool) → Anywhere i t → (again' ≡ true → again ≡ true)
    → par_code (usage i 0x1) (usage i t) first again t v ≡ 0 → par_code (usage i 0x1) (usage i t) first' again' t v ≡ 0
unfolding par_code allowed_code
par_again i t v first again first' again' a m e =
    let x = or_none (tag_code (usage i t) first again t) (body_code (usage i t) t v) (rw a.no_text at e) in
    let y = tag_again (usage i t) t first again first' again' a.no_first m x.0 in
    rw a.no_text (rw (y, x.1))

-- ---- all of them

pub has_append : (t : ℕ) (xs ys : List Par) → has t (xs ++ ys) ≡ (has t xs || has t ys)
unfolding has
has_append t [] ys = refl
has_append t (x ∷ xs) ys = rw (has_append t xs ys) (assoc (eqb (key x.tag) (key t)))
  where
    assoc : (b : Bool) → (b || (has t xs || has t ys)) ≡ ((b || has t xs) || has t ys)
    assoc true = refl
    assoc false = refl

or_mono : (u v w : Bool) → (u ≡ true → v ≡ true) → (u || w) ≡ true → (v || w) ≡ true
or_mono true v w h e = rw (h refl)
or_mono false true w h e = refl
or_mono false false w h e = e

pub or_first : (u v : Bool) → u ≡ true → (u || v) ≡ true
or_first u v e = rw e

module _ (i : ℕ) (f : ℕ → Bool) (free : (t : ℕ) → f t ≡ true → Anywhere i t) where
  -- of a tag that passes, none stands in the list xs that does not stand in ys
  abbrev Fewer : List Par → List Par → Type 0
  Fewer xs ys = (t : ℕ) → f t ≡ true → has t xs ≡ true → has t ys ≡ true

  -- behind other parameters
  pub in_turn_part : (ps before before' : List Par) → Fewer before' before → in_turn i before ps ≡ 0 → in_turn i before' (only f ps) ≡ 0
  unfolding in_turn only
  in_turn_part [] before before' m e = refl
  in_turn_part (p ∷ ps) before before' m e =
      let o = or_none (par_code (usage i 0x1) (usage i p.tag) (is_none before) (has p.tag before) p.tag p.body) _ e in
      go (f p.tag) refl o.0 (λ after k. in_turn_part ps (before ++ (p ∷ [])) after k o.1)
    where
      go : (b : Bool) → f p.tag ≡ b
          → par_code (usage i 0x1) (usage i p.tag) (is_none before) (has p.tag before) p.tag p.body ≡ 0
          → ((after : List Par) → Fewer after (before ++ (p ∷ [])) → in_turn i after (only f ps) ≡ 0)
          → in_turn i before' (cond b (p ∷ only f ps) (only f ps)) ≡ 0
      go true ef ep ih =
          rw (par_again i p.tag p.body (is_none before) (has p.tag before) (is_none before') (has p.tag before') (free p.tag ef) (m p.tag ef) ep)
          (ih (before' ++ (p ∷ [])) (λ t h z. has_append t before (p ∷ []) ∙ or_mono (has t before') (has t before) (has t (p ∷ [])) (m t h) (sym (has_append t before' (p ∷ [])) ∙ z)))
      go false ef ep ih = ih before' (λ t h z. has_append t before (p ∷ []) ∙ or_first (has t before) _ (m t h z))

-- ---- their bytes

pub length_pars : (xs ys : List Par) → length (pars_bytes (xs ++ ys)) ≡ length (pars_bytes xs) + length (pars_bytes ys)
unfolding pars_bytes
length_pars [] ys = omega arith
length_pars (x ∷ xs) ys =
    let a = length-append (par_bytes x) (pars_bytes (xs ++ ys)) in
    let b = length-append (par_bytes x) (pars_bytes xs) in
    let c = length_pars xs ys in
    omega arith

-- two parts that have no tag in common
pub size_parts : (f h : ℕ → Bool) → ((t : ℕ) → f t ≡ true → h t ≡ false) → (ps : List Par)
    → length (pars_bytes (only f ps)) + length (pars_bytes (only h ps)) ≤ length (pars_bytes ps)
unfolding pars_bytes only
size_parts f h d [] = omega arith
size_parts f h d (p ∷ ps) = go (f p.tag) (h p.tag) refl refl (size_parts f h d ps)
  where
    go : (a b : Bool) → f p.tag ≡ a → h p.tag ≡ b → length (pars_bytes (only f ps)) + length (pars_bytes (only h ps)) ≤ length (pars_bytes ps)
        → length (pars_bytes (cond a (p ∷ only f ps) (only f ps))) + length (pars_bytes (cond b (p ∷ only h ps) (only h ps))) ≤ length (par_bytes p ++ pars_bytes ps)
    go true true ea eb ih = absurd (false≢true (sym (d p.tag ea) ∙ eb))
    go true false ea eb ih =
        omega (arith, length-append (par_bytes p) (pars_bytes ps), length-append (par_bytes p) (pars_bytes (only f ps)))
    go false true ea eb ih =
        omega (arith, length-append (par_bytes p) (pars_bytes ps), length-append (par_bytes p) (pars_bytes (only h ps)))
    go false false ea eb ih = omega (arith, length-append (par_bytes p) (pars_bytes ps))
