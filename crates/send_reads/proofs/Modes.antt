-- The traffic mode of a message that reads: one parameter of eight bytes at most.
-- Assumes nothing.
use mathlib.Core.Path.{◌≡◌, refl, ◌∙◌}
use mathlib.Core.Bool.{Bool, true, false, cond, ◌||◌}
use mathlib.Core.List.{List, [], ◌∷◌, ◌++◌}
use Prim.Native.Nat.{ℕ, ◌≤◌}
use native.Mathlib.Omega.{arith}
use lib.Dec.{ltb}
use lib.ListN.{length, length-append}
use borrow.Author.Tests.{eqb-true, ltb-false}
use Rattle.laws.specs.Inner.Every.{clash}
use Rattle.codec_wire.specs.Number.{be}
use Rattle.codec_wire.specs.Walk.{Par}
use Rattle.codec_parameter.specs.Table.{table, among, row_in, entries_in, use_in, usage}
use Rattle.codec_parameter.specs.declared.Usage.{Usage}
use Rattle.codec_parameter.specs.declared.Usage.TheVariants.{Forbidden, Optional, Mandatory, Repeated}
use Rattle.codec_parameter.specs.Value.{limits_of, word_code, plain_code, body_code}
use Rattle.codec_parameter.specs.Check.{once_code, tag_code, allowed_code, par_code}
use Rattle.codec_read.specs.Verdict.{has, is_none, in_turn}
use Rattle.codec_put.specs.Bytes.{par_bytes, pars_bytes}
use Rattle.codec_put.proofs.Round.{length_par}
use Rattle.codec_write.proofs.Writes.{or_none}
use Rattle.codec_select.specs.Only.{only}
use Rattle.send_message.specs.Inner.Stands.{is_mode}
use Rattle.send_reads.proofs.Part.{has_append, or_first}

-- ---- one parameter

-- a value that was checked has four bytes
four : (v : List ℕ) → plain_code (limits_of 0xb) 0xb v ≡ 0 → length v ≤ 4
unfolding plain_code limits_of word_code
four v e = go (ltb (length v) 4) (ltb 4 (length v)) refl e
  where
    go : (a b : Bool) → ltb 4 (length v) ≡ b → ◌≡◌ {A = ℕ} (cond a 18 (cond b 18 (cond a 18 (cond (ltb (be 4 v 0) 1) 5 (cond (ltb 3 (be 4 v 0)) 5 0))))) 0 → length v ≤ 4
    go true b z e = let y : ⊥ = omega (arith, e) in absurd y
    go false true z e = let y : ⊥ = omega (arith, e) in absurd y
    go false false z e = ltb-false 4 (length v) z

-- where a tag may not come as often as one likes, it was not there before
abbrev often : Usage → Bool
often Forbidden = false
often Optional = false
often Mandatory = false
often Repeated = true

seldom : (first again : Bool) (t : ℕ) → once_code first again t ≡ 0 → again ≡ false
seldom first true t e = let y : ⊥ = omega (arith, e) in absurd y
seldom first false t e = refl

once : (u : Usage) (first again : Bool) (t : ℕ) → often u ≡ false → tag_code u first again t ≡ 0 → again ≡ false
once Forbidden first again t n e = let y : ⊥ = omega (arith, e) in absurd y
once Optional first again t n e = seldom first again t e
once Mandatory first again t n e = seldom first again t e
once Repeated first again t n e = clash true n refl

or_last : (u v : Bool) → v ≡ true → (u || v) ≡ true
or_last true v e = refl
or_last false v e = e

-- ---- all of them, in a row that has the mode once at most

module _ (i : ℕ) (n : often (usage i 0xb) ≡ false) where
  -- the check of one parameter behind others
  abbrev code : List Par → Par → ℕ
  code before p = par_code (usage i 0x1) (usage i p.tag) (is_none before) (has p.tag before) p.tag p.body

  checked : (before : List Par) (p : Par) → p.tag ≡ 0xb → code before p ≡ 0 → (has 0xb before ≡ false) × (length p.body ≤ 4)
  unfolding par_code allowed_code body_code
  checked before p z e =
      let x = or_none (tag_code (usage i 0xb) (is_none before) (has 0xb before) 0xb) (plain_code (limits_of 0xb) 0xb p.body) (rw z at e) in
      (once (usage i 0xb) (is_none before) (has 0xb before) 0xb n x.0, four p.body x.1)

  -- behind one there is no other
  none_behind : (ps before : List Par) → has 0xb before ≡ true → in_turn i before ps ≡ 0 → only is_mode ps ≡ []
  unfolding in_turn only
  none_behind [] before h e = refl
  none_behind (p ∷ ps) before h e =
      let o = or_none (code before p) _ e in
      go (is_mode p.tag) refl o.0 (none_behind ps (before ++ (p ∷ [])) (has_append 0xb before (p ∷ []) ∙ or_first (has 0xb before) _ h) o.1)
    where
      go : (b : Bool) → is_mode p.tag ≡ b → code before p ≡ 0 → only is_mode ps ≡ [] → cond b (p ∷ only is_mode ps) (only is_mode ps) ≡ []
      go true z k ih = clash (has 0xb before) (checked before p (eqb-true p.tag 0xb z) k).0 h
      go false z k ih = ih

  there : (before : List Par) (p : Par) → p.tag ≡ 0xb → has 0xb (before ++ (p ∷ [])) ≡ true
  unfolding has
  there before p z = has_append 0xb before (p ∷ []) ∙ or_last (has 0xb before) _ (rw z)

  mode_fits : (ps before : List Par) → in_turn i before ps ≡ 0 → length (pars_bytes (only is_mode ps)) ≤ 8
  unfolding in_turn only pars_bytes
  mode_fits [] before e = omega arith
  mode_fits (p ∷ ps) before e = let o = or_none (code before p) _ e in go (is_mode p.tag) refl o.0 o.1 (mode_fits ps (before ++ (p ∷ [])) o.1)
    where
      go : (b : Bool) → is_mode p.tag ≡ b → code before p ≡ 0 → in_turn i (before ++ (p ∷ [])) ps ≡ 0 → length (pars_bytes (only is_mode ps)) ≤ 8 → length (pars_bytes (cond b (p ∷ only is_mode ps) (only is_mode ps))) ≤ 8
      go true z k r ih =
          let q = eqb-true p.tag 0xb z in
          let m = (checked before p q k).1 in
          rw (none_behind ps (before ++ (p ∷ [])) (there before p q) r) (omega (arith, length-append (par_bytes p) [], length_par p, m))
      go false z k r ih = ih

-- of an Active and of an Inactive
pub active_mode : (ps : List Par) → in_turn (row_in table 4 1) [] ps ≡ 0 → length (pars_bytes (only is_mode ps)) ≤ 8
unfolding table among row_in entries_in use_in usage
active_mode ps e = mode_fits 5 refl ps [] e

pub inactive_mode : (ps : List Par) → in_turn (row_in table 4 2) [] ps ≡ 0 → length (pars_bytes (only is_mode ps)) ≤ 8
unfolding table among row_in entries_in use_in usage
inactive_mode ps e = mode_fits 6 refl ps [] e
