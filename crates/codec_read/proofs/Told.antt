-- What the two tables say of the parameters is what the checks and the meaning ask of them.
-- Assumes nothing.
use mathlib.Core.Path.{◌≡◌, refl, sym, ap, ◌∙◌}
use mathlib.Core.Bool.{Bool, true, false, cond, not, ◌&&◌, ◌||◌, false≢true}
use mathlib.Core.List.{List, [], ◌∷◌, ◌++◌}
use Prim.Native.Nat.{ℕ, ◌<◌}
use native.Mathlib.Omega.{arith}
use native.Mathlib.Decide.{ℕ_discrete}
use lib.ListN.{length, get_or, set, replicate, get_or-replicate}
use lib.Seq.{get_or-set_same, get_or-set_other}
use lib.Dec.{eqb}
use borrow.Author.Tests.{eq-eqb, ne_eqb}
use Rattle.laws.specs.Inner.Below.{both_true}
use Rattle.codec_wire.specs.Walk.{Par}
use Rattle.codec_parameter.specs.Table.{Entry, table, entries_in, usage}
use Rattle.codec_parameter.specs.declared.Usage.{Usage}
use Rattle.codec_parameter.specs.declared.Usage.TheVariants.{Forbidden}
use Rattle.codec_parameter.specs.Inner.Slot.{slot, tag_at, info_of, packed_use, all_met}
use Rattle.codec_parameter.specs.Check.{allowed_code, par_code}
use Rattle.codec_parameter.specs.Value.{body_code}
use Rattle.codec_parameter.proofs.Slots.{same_slot, tag_one, usage_slot, all_near, near, row_near, near_slot, usage_far}
use Rattle.laws.specs.Choice.{◌or_else◌}
use Rattle.codec_parameter.proofs.Info.{musts_row, use_bits_lem}
use Rattle.codec_read.specs.Verdict.{has, number, head, all_there, exactly, sequence_code, check8}
use Rattle.codec_read.specs.Meaning.{meaning}
use Rattle.codec_read.specs.Inner.Seen.{there, word, Tells, sequence_at, end_at, meaning_at}

-- ---- by tag and by slot

pub has_there : (t : ℕ) → slot t < 31 → (ps : List Par) → has t ps ≡ there (slot t) ps
unfolding has there
has_there t h [] = refl
has_there t h (p ∷ ps) = rw (has_there t h ps, same_slot p.tag t h)

pub number_word : (t : ℕ) → slot t < 31 → (ps : List Par) → number t ps ≡ word (slot t) ps
unfolding number word
number_word t h [] = refl
number_word t h (p ∷ ps) = rw (number_word t h ps, same_slot p.tag t h)

-- the code's packed uses of a tag and of identifiers
pub packed_uses : (i t k : ℕ) → i < 17 → k ≡ slot t → k < 32 → (packed_use (info_of i).uses 1 ≡ usage i 0x1) × (packed_use (info_of i).uses k ≡ usage i t)
packed_uses i t k hi ek hk =
    (use_bits_lem i 1 hi (omega arith) ∙ ap (usage i) tag_one, use_bits_lem i k hi hk ∙ ap (λ (j : ℕ). usage i (tag_at j)) ek ∙ usage_slot i t)

forbidden_again : (u₁ u : Usage) (first a b : Bool) (t : ℕ) → u ≡ Forbidden → allowed_code u₁ u first a t ≡ allowed_code u₁ u first b t
unfolding allowed_code
forbidden_again u₁ u first a b t e = rw e refl

-- a parameter is checked by its slot: where the tag may not stand, it does not matter whether it was there
-- before
pub check_slot : (i t : ℕ) (first : Bool) (ps : List Par) (v : List ℕ)
    → par_code (usage i 0x1) (usage i t) first (has t ps) t v ≡ par_code (usage i 0x1) (usage i t) first (there (slot t) ps) t v
unfolding par_code
check_slot i t first ps v = go (near t) refl
  where
    go : (b : Bool) → near t ≡ b → par_code (usage i 0x1) (usage i t) first (has t ps) t v ≡ par_code (usage i 0x1) (usage i t) first (there (slot t) ps) t v
    go true e = ap (λ (b : Bool). par_code (usage i 0x1) (usage i t) first b t v) (has_there t (near_slot i t e) ps)
    go false e = ap (λ (x : ℕ). x or_else body_code (usage i t) t v) (forbidden_again (usage i 0x1) (usage i t) first (has t ps) (there (slot t) ps) t (usage_far i t e))

-- ---- one parameter more

module _ (k : ℕ) where
  there_append : (ps qs : List Par) → there k (ps ++ qs) ≡ (there k ps || there k qs)
  unfolding there
  there_append [] qs = refl
  there_append (p ∷ ps) qs = rw (there_append ps qs) (assoc (eqb (slot p.tag) k))
    where
      assoc : (b : Bool) → (b || (there k ps || there k qs)) ≡ ((b || there k ps) || there k qs)
      assoc true = refl
      assoc false = refl

  word_append : (ps qs : List Par) → word k (ps ++ qs) ≡ cond (there k ps) (word k ps) (word k qs)
  unfolding there word
  word_append [] qs = refl
  word_append (p ∷ ps) qs = rw (word_append ps qs) (choose (eqb (slot p.tag) k))
    where
      choose : (b : Bool) → cond b (head p.body) (cond (there k ps) (word k ps) (word k qs)) ≡ cond (b || there k ps) (cond b (head p.body) (word k ps)) (word k qs)
      choose true = refl
      choose false = refl

  word_none : (ps : List Par) → there k ps ≡ false → word k ps ≡ 0
  unfolding there word
  word_none [] h = refl
  word_none (p ∷ ps) h = go (eqb (slot p.tag) k) h (word_none ps)
    where
      go : (b : Bool) → (b || there k ps) ≡ false → (there k ps ≡ false → word k ps ≡ 0) → cond b (head p.body) (word k ps) ≡ 0
      go true e ih = absurd (false≢true (sym e))
      go false e ih = ih e

or_false : (b : Bool) → (b || false) ≡ b
or_false true = refl
or_false false = refl

pub or_true : (b : Bool) → (b || true) ≡ true
or_true true = refl
or_true false = refl

module _ (ps : List Par) (p : Par) (k : ℕ) where
  there_last : there k (ps ++ (p ∷ [])) ≡ (there k ps || eqb (slot p.tag) k)
  unfolding there
  there_last = there_append k ps (p ∷ []) ∙ ap (λ (b : Bool). there k ps || b) (or_false (eqb (slot p.tag) k))

  -- the slot of the last parameter
  word_same : slot p.tag ≡ k → word k (ps ++ (p ∷ [])) ≡ cond (there k ps) (word k ps) (head p.body)
  unfolding word
  word_same e = word_append k ps (p ∷ []) ∙ rw (eq-eqb (slot p.tag) k e)

  there_same : slot p.tag ≡ k → there k (ps ++ (p ∷ [])) ≡ true
  there_same e = there_last ∙ rw (eq-eqb (slot p.tag) k e) (or_true (there k ps))

  -- any other slot
  there_other : (slot p.tag ≡ k → ⊥) → there k (ps ++ (p ∷ [])) ≡ there k ps
  there_other n = there_last ∙ rw (ne_eqb (slot p.tag) k n) (or_false (there k ps))

  word_other : (slot p.tag ≡ k → ⊥) → word k (ps ++ (p ∷ [])) ≡ word k ps
  unfolding word
  word_other n = word_append k ps (p ∷ []) ∙ rw (ne_eqb (slot p.tag) k n) (go (there k ps) refl)
    where
      go : (b : Bool) → there k ps ≡ b → cond b (word k ps) 0 ≡ word k ps
      go true e = refl
      go false e = sym (word_none k ps e)

-- the tables before the first parameter
pub seen_none : Tells (replicate 32 false) (replicate 32 0) []
unfolding there word
seen_none = record { met_is = λ k h. get_or-replicate 32 k false false h; words_is = λ k h. get_or-replicate 32 k 0 0 h }

-- and after one parameter more
pub seen_more : {met : List Bool} {words : List ℕ} {ps : List Par} (p : Par) (k : ℕ) → k ≡ slot p.tag → k < length met → k < length words → k < 32
    → Tells met words ps → Tells (set met k true) (set words k (cond (get_or met k false) (get_or words k 0) (head p.body))) (ps ++ (p ∷ []))
seen_more {met} {words} {ps} p k e hm hw h s =
    record { met_is = λ j b. mets j b (ℕ_discrete j k); words_is = λ j b. wds j b (ℕ_discrete j k) }
  where
    mets : (j : ℕ) → j < 32 → Dec (j ≡ k) → get_or (set met k true) j false ≡ there j (ps ++ (p ∷ []))
    mets j b (yes q) = rw q (get_or-set_same met k true false hm ∙ sym (there_same ps p k (sym e)))
    mets j b (no n) = get_or-set_other met k j true false n ∙ s.met_is j b ∙ sym (there_other ps p j (λ q. n (sym q ∙ sym e)))

    wds : (j : ℕ) → j < 32 → Dec (j ≡ k) → get_or (set words k (cond (get_or met k false) (get_or words k 0) (head p.body))) j 0 ≡ word j (ps ++ (p ∷ []))
    wds j b (yes q) = rw q (get_or-set_same words k _ 0 hw ∙ rw (s.met_is k h, s.words_is k h) (sym (word_same ps p k (sym e))))
    wds j b (no n) = get_or-set_other words k j _ 0 n ∙ s.words_is j b ∙ sym (word_other ps p j (λ q. n (sym q ∙ sym e)))

-- ---- check 8 and the meaning

-- the sequence number rules, asked test by test
sequence_same : (c t retrieval result : ℕ) (given : Bool)
    → sequence_at c t retrieval result given
    ≡ cond (eqb c 6 && eqb t 10) (exactly (eqb retrieval 2) given) (cond (eqb c 6 && eqb t 11) (exactly (eqb retrieval 1 && eqb result 0) given) 0)
unfolding sequence_at
sequence_same c t retrieval result given = go (eqb c 6) (eqb t 10) (eqb t 11) (eqb retrieval 1)
  where
    go : (x y z a : Bool)
        → cond x (cond y (exactly (eqb retrieval 2) given) (cond z (cond a (exactly (eqb result 0) given) (exactly false given)) 0)) 0
        ≡ cond (x && y) (exactly (eqb retrieval 2) given) (cond (x && z) (exactly (a && eqb result 0) given) 0)
    go false y z a = refl
    go true true z a = refl
    go true false false a = refl
    go true false true true = refl
    go true false true false = refl

-- a tag that some message has: its slot is its own
own : (t : ℕ) → near t ≡ true → slot t < 31
own t h = near_slot 0 t h

-- where it is not there, its number is 0
pub number_none : (t : ℕ) → near t ≡ true → (ps : List Par) → has t ps ≡ false → number t ps ≡ 0
number_none t h ps e = number_word t (own t h) ps ∙ word_none (slot t) ps (sym (has_there t (own t h) ps) ∙ e)

module _ {met : List Bool} {words : List ℕ} {ps : List Par} (s : Tells met words ps) where
  all_there_lem : (es : List Entry) → all_near es ≡ true → all_met es met ≡ all_there es ps
  unfolding all_met all_there all_near
  all_there_lem [] h = refl
  all_there_lem (e ∷ es) h =
      let b = both_true (near e.tag) (all_near es) h in
      let k : slot e.tag < 31 = near_slot 0 e.tag b.0 in
      let m : get_or met (slot e.tag) false ≡ has e.tag ps = s.met_is (slot e.tag) (omega arith) ∙ sym (has_there e.tag k ps) in
      rw (m, all_there_lem es b.1)

  met_has : (t : ℕ) → slot t < 31 → get_or met (slot t) false ≡ has t ps
  met_has t h = s.met_is (slot t) (omega arith) ∙ sym (has_there t h ps)

  word_number : (t : ℕ) → slot t < 31 → get_or words (slot t) 0 ≡ number t ps
  word_number t h = s.words_is (slot t) (omega arith) ∙ sym (number_word t h ps)

  pub end_same : (i c t : ℕ) → i < 17 → end_at (info_of i).musts c t met words ≡ check8 i c t ps
  unfolding end_at sequence_code near
  end_same i c t h =
      rw (musts_row i met h, all_there_lem (entries_in table i) (row_near i), word_number 0x306 (own 0x306 refl), word_number 0x308 (own 0x308 refl), met_has 0x307 (own 0x307 refl))
      (ap (λ (n : ℕ). cond (not (all_there (entries_in table i) ps)) 22 0 or_else n) (sequence_same c t (number 0x306 ps) (number 0x308 ps) (has 0x307 ps)))

  pub meaning_same : (c t : ℕ) → meaning_at c t met words ≡ meaning c t ps
  unfolding meaning_at meaning near
  meaning_same c t =
      rw (
        met_has 0x1 (own 0x1 refl),
        met_has 0x8 (own 0x8 refl),
        word_number 0x1 (own 0x1 refl),
        word_number 0xb (own 0xb refl),
        met_has 0x11 (own 0x11 refl),
        word_number 0x11 (own 0x11 refl),
        met_has 0x13 (own 0x13 refl),
        word_number 0x13 (own 0x13 refl),
        word_number 0x302 (own 0x302 refl),
        word_number 0x306 (own 0x306 refl),
        met_has 0x307 (own 0x307 refl),
        word_number 0x307 (own 0x307 refl),
      )
