-- A slot stands for its tag, in all that the table and the limits say.
-- Assumes nothing.
use mathlib.Core.Path.{◌≡◌, refl, sym, ap, ◌∙◌}
use mathlib.Core.Bool.{Bool, true, false, ◌&&◌, ◌||◌, false≢true}
use mathlib.Core.List.{List, [], ◌∷◌}
use Prim.Native.Nat.{ℕ, zero, suc, ◌+◌, ◌-◌, ◌<◌, ◌≤◌}
use native.Mathlib.Omega.{arith}
use native.Mathlib.Decide.{dec_lt, ℕ_discrete}
use lib.Dec.{ltb, leb, eqb}
use borrow.Author.Tests.{lt-ltb, le-ltb, eq-eqb, ne_eqb, le-leb, lt-leb}
use Rattle.laws.specs.Inner.Below.{both_true}
use Rattle.codec_parameter.specs.Table.{Entry, Row, table, key, use_in, usage, entries_in}
use Rattle.codec_parameter.specs.declared.Usage.TheVariants.{Forbidden}
use Rattle.codec_parameter.specs.Inner.Slot.{slot, tag_at}

-- where a tag lies: among the low ones, among the high ones, at 0x301, or beyond what any message has
pub data Lies (t : ℕ) : Type 0 where
  low : t < 20 → Lies t
  high : 0x300 ≤ t → t < 0x309 → (t ≡ 0x301 → ⊥) → Lies t
  twin : t ≡ 0x301 → Lies t
  between : 20 ≤ t → t < 0x300 → Lies t
  above : 0x309 ≤ t → Lies t

pub lies : (t : ℕ) → Lies t
lies t = go (dec_lt t 20) (dec_lt t 0x300) (ℕ_discrete t 0x301) (dec_lt t 0x309)
  where
    go : Dec (t < 20) → Dec (t < 0x300) → Dec (t ≡ 0x301) → Dec (t < 0x309) → Lies t
    go (yes a) b c d = low a
    go (no a) (yes b) c d = between (omega arith) b
    go (no a) (no b) (yes c) d = twin c
    go (no a) (no b) (no c) (yes d) = high (omega arith) d c
    go (no a) (no b) (no c) (no d) = above (omega arith)

-- ---- slots of each kind

slot_low : (t : ℕ) → t < 20 → slot t ≡ t
unfolding slot
slot_low t h = rw (lt-ltb t 20 h)

slot_high : (t : ℕ) → 0x300 ≤ t → t < 0x309 → (t ≡ 0x301 → ⊥) → slot t ≡ t - 748
unfolding slot
slot_high t a b n = rw (le-ltb t 20 (omega arith), le-ltb t 0x300 a, le-ltb 0x308 t (omega arith), ne_eqb t 0x301 n)

slot_between : (t : ℕ) → 20 ≤ t → t < 0x300 → slot t ≡ 31
unfolding slot
slot_between t a b = rw (le-ltb t 20 a, lt-ltb t 0x300 b)

slot_above : (t : ℕ) → 0x309 ≤ t → slot t ≡ 31
unfolding slot
slot_above t h = rw (le-ltb t 20 (omega arith), le-ltb t 0x300 (omega arith), lt-ltb 0x308 t (omega arith))

twin_most : slot 0x301 < 32
unfolding slot
twin_most = omega arith

slot_twin : slot 0x301 ≡ slot 0x300
unfolding slot
slot_twin = refl

-- every tag has a slot
pub slot_most : (t : ℕ) → slot t < 32
slot_most t = go (lies t)
  where
    go : Lies t → slot t < 32
    go (low a) = let e = slot_low t a in omega arith
    go (high a b n) = let e = slot_high t a b n in omega arith
    go (twin e) = rw e twin_most
    go (between a b) = let e = slot_between t a b in omega arith
    go (above a) = let e = slot_above t a in omega arith

key_other : (t : ℕ) → (t ≡ 0x301 → ⊥) → key t ≡ t
key_other t n = rw (ne_eqb t 0x301 n)

tag_low : (k : ℕ) → k < 20 → tag_at k ≡ k
unfolding tag_at
tag_low k h = rw (lt-ltb k 20 h)

tag_high : (k : ℕ) → 20 ≤ k → tag_at k ≡ k + 748
unfolding tag_at
tag_high k h = rw (le-ltb k 20 h)

-- the slot of a tag goes by what the tag counts as
pub slot_key : (t : ℕ) → slot (key t) ≡ slot t
slot_key t = go (ℕ_discrete t 0x301)
  where
    go : Dec (t ≡ 0x301) → slot (key t) ≡ slot t
    go (yes e) = rw e (sym slot_twin)
    go (no n) = ap slot (key_other t n)

tag_twin : tag_at (slot 0x301) ≡ 0x300
unfolding slot tag_at
tag_twin = refl

twin_small : slot 0x301 < 31
unfolding slot
twin_small = omega arith

pub tag_one : tag_at 1 ≡ 1
unfolding tag_at
tag_one = refl

tag_far : tag_at 31 ≡ 779
unfolding tag_at
tag_far = refl

key_key : (t : ℕ) → key (key t) ≡ key t
key_key t = go (ℕ_discrete t 0x301)
  where
    go : Dec (t ≡ 0x301) → key (key t) ≡ key t
    go (yes e) = rw e
    go (no n) = ap key (key_other t n)

-- a slot that is some message's tells what its tag counts as
pub tag_slot : (t : ℕ) → slot t < 31 → tag_at (slot t) ≡ key t
tag_slot t h = go (lies t)
  where
    go : Lies t → tag_at (slot t) ≡ key t
    go (low a) = ap tag_at (slot_low t a) ∙ tag_low t a ∙ sym (key_other t (λ e. omega arith))
    go (high a b n) =
        ap tag_at (slot_high t a b n) ∙ tag_high (t - 748) (omega arith) ∙ let e : t - 748 + 748 ≡ t = omega arith in e ∙ sym (key_other t n)
    go (twin e) = rw e tag_twin
    go (between a b) = let e = slot_between t a b in absurd (omega arith)
    go (above a) = let e = slot_above t a in absurd (omega arith)

-- two tags have one slot exactly where they count as one, if one of them is some message's
pub same_slot : (u t : ℕ) → slot t < 31 → eqb (slot u) (slot t) ≡ eqb (key u) (key t)
same_slot u t h = go (ℕ_discrete (slot u) (slot t))
  where
    go : Dec (slot u ≡ slot t) → eqb (slot u) (slot t) ≡ eqb (key u) (key t)
    go (yes e) =
        let k : slot u < 31 = omega arith in
        eq-eqb _ _ e ∙ sym (eq-eqb (key u) (key t) (sym (tag_slot u k) ∙ ap tag_at e ∙ tag_slot t h))
    go (no n) = ne_eqb _ _ n ∙ sym (ne_eqb (key u) (key t) (λ e. n (sym (slot_key u) ∙ ap slot e ∙ slot_key t)))

-- ---- a tag beyond what any message has

-- a tag that has a slot of its own
unfoldable pub near : ℕ → Bool
near t = ltb t 20 || (leb 0x300 t && ltb t 0x309)

unfoldable pub all_near : List Entry → Bool
all_near [] = true
all_near (e ∷ es) = near e.tag && all_near es

rows_near : List Row → Bool
rows_near [] = true
rows_near (r ∷ rs) = all_near r.entries && rows_near rs

table_near : rows_near table ≡ true
unfolding table rows_near all_near near
table_near = refl

entries_near : (rs : List Row) (i : ℕ) → rows_near rs ≡ true → all_near (entries_in rs i) ≡ true
unfolding entries_in all_near rows_near
entries_near [] i h = refl
entries_near (r ∷ rs) zero h = (both_true (all_near r.entries) (rows_near rs) h).0
entries_near (r ∷ rs) (suc i) h = entries_near rs i (both_true (all_near r.entries) (rows_near rs) h).1

-- each tag of a row has a slot of its own
pub row_near : (i : ℕ) → all_near (entries_in table i) ≡ true
row_near i = entries_near table i table_near

far : (es : List Entry) (t : ℕ) → all_near es ≡ true → near t ≡ false → use_in es t ≡ Forbidden
unfolding use_in near all_near
far [] t h n = refl
far (e ∷ es) t h n =
    let b = both_true (near e.tag) (all_near es) h in
    let o : key t ≡ t = key_other t (λ q. false≢true (sym n ∙ ap near q)) in
    let d : eqb (key t) e.tag ≡ false = ne_eqb (key t) e.tag (λ q. false≢true (sym n ∙ ap near (sym o ∙ q) ∙ b.0)) in
    rw d (far es t b.1 n)

-- no message has such a tag
pub usage_far : (i t : ℕ) → near t ≡ false → usage i t ≡ Forbidden
unfolding usage
usage_far i t n = far (entries_in table i) t (row_near i) n

near_between : (t : ℕ) → 20 ≤ t → t < 0x300 → near t ≡ false
unfolding near
near_between t a b = rw (le-ltb t 20 a, lt-leb 0x300 t b)

near_above : (t : ℕ) → 0x309 ≤ t → near t ≡ false
unfolding near
near_above t h = rw (le-ltb t 20 (omega arith), le-leb 0x300 t (omega arith), le-ltb t 0x309 h)

use_key : (es : List Entry) (t u : ℕ) → key t ≡ key u → use_in es t ≡ use_in es u
unfolding use_in
use_key [] t u e = refl
use_key (x ∷ es) t u e = rw (e, use_key es t u e)

-- ---- what a slot says of its tag

module _ (i t : ℕ) where
  far_same : near t ≡ false → slot t ≡ 31 → usage i (tag_at (slot t)) ≡ usage i t
  unfolding tag_at near
  far_same n e = rw e (usage_far i 779 refl ∙ sym (usage_far i t n))

  -- the tag of a slot may stand as the tag itself
  pub usage_slot : usage i (tag_at (slot t)) ≡ usage i t
  unfolding usage
  usage_slot = go (lies t)
    where
      near_same : slot t < 31 → use_in (entries_in table i) (tag_at (slot t)) ≡ use_in (entries_in table i) t
      near_same h = use_key (entries_in table i) (tag_at (slot t)) t (ap key (tag_slot t h) ∙ key_key t)

      go : Lies t → use_in (entries_in table i) (tag_at (slot t)) ≡ use_in (entries_in table i) t
      go (low a) = let e = slot_low t a in near_same (omega arith)
      go (high a b n) = let e = slot_high t a b n in near_same (omega arith)
      go (twin e) = near_same (rw e (twin_small))
      go (between a b) = far_same (near_between t a b) (slot_between t a b)
      go (above a) = far_same (near_above t a) (slot_above t a)

  -- a tag that is near has a slot of its own
  pub near_slot : near t ≡ true → slot t < 31
  near_slot h = go (lies t)
    where
      go : Lies t → slot t < 31
      go (low a) = let e = slot_low t a in omega arith
      go (high a b n) = let e = slot_high t a b n in omega arith
      go (twin e) = rw e twin_small
      go (between a b) = absurd (false≢true (sym (near_between t a b) ∙ h))
      go (above a) = absurd (false≢true (sym (near_above t a) ∙ h))
