-- The units that an event lets go, as a list of their indices.
-- Assumes nothing.
use Rattle.std.specs.Prelude.{ℕ, zero, suc, ◌+◌, ◌*◌, ◌<◌, ◌≤◌, ◌≡◌, refl, Bool, true, cond, ◌&&◌, List, [], ◌∷◌, ◌++◌, ◌⊎◌, length, get_or, drop, replicate}
use Rattle.std.proofs.Common.{sym, ◌∙◌, arith, inl, inr, get_or-drop, eq-eqb, ne_eqb, le-ltb}
use Rattle.std.proofs.Math.Path.{ap}
use Rattle.std.proofs.Math.Bool.{false}
use Rattle.std.proofs.Math.Dec.{eqb, ltb}
use Rattle.std.proofs.lemmas.List.{length-replicate}
use Rattle.std.proofs.lemmas.List.Edits.{sets-eq}
use Rattle.laws.specs.Below.{concat_below, when}
use Rattle.laws.specs.Inner.Below.{concat_none, concat_more, concat_ext, concat_empty, concat_short, when_short}
use Rattle.laws.specs.Columns.{number_at}
use Rattle.codec_put.specs.Bytes.{overlay}
use Rattle.codec_put.proofs.Sets.{length_over}
use Rattle.state_tables.specs.Sound.{unit_index}
use Rattle.state_tables.specs.declared.Gateway.{Gateway}
use Rattle.rules_units.specs.Inner.Counted.{gone}
use Rattle.rules_units.proofs.Units.{gone_rows_lem}

-- those of the first n units of AS a, which has so many before and so many after
unfoldable pub row_to : ℕ → ℕ → ℕ → ℕ → List ℕ
row_to before after a n = concat_below (λ k. when (ltb k before && eqb after 0) (unit_index a k)) n

abbrev pub gone_row : ℕ → ℕ → ℕ → List ℕ
gone_row before after a = row_to before after a 8

-- those of the first n ASes
unfoldable pub gone_rows : List ℕ → List ℕ → ℕ → List ℕ
gone_rows before after n = concat_below (λ a. gone_row (number_at before a) (number_at after a) a) n

-- all of them, with zeros behind
unfoldable pub zeros : List ℕ
zeros = replicate 128 0

unfoldable pub gone_list : List ℕ → List ℕ → List ℕ
gone_list before after = overlay zeros 0 (gone_rows before after 16)

all_and : (u : Bool) → (u && true) ≡ u
all_and true = refl
all_and false = refl

and_none : (u : Bool) → (u && false) ≡ false
and_none true = refl
and_none false = refl

pub gone_is : (g c : Gateway) → gone_rows g.held.count c.held.count 16 ≡ gone g c
unfolding gone_rows row_to
gone_is g c = sym (gone_rows_lem g c)

module _ (b c a : ℕ) where
  pub row_none : row_to b c a 0 ≡ []
  unfolding row_to
  row_none = concat_none (λ k. when (ltb k b && eqb c 0) (unit_index a k))

  pub row_more : (k : ℕ) → c ≡ 0 → row_to b c a (k + 1) ≡ row_to b c a k ++ when (ltb k b) (unit_index a k)
  unfolding row_to
  row_more k z =
      let e : (ltb k b && eqb c 0) ≡ ltb k b = rw (eq-eqb c 0 z) (all_and (ltb k b)) in
      concat_more (λ k. when (ltb k b && eqb c 0) (unit_index a k)) k ∙ ap (λ (u : Bool). row_to b c a k ++ when u (unit_index a k)) e

  -- an AS that had none, and one that has some left
  pub row_empty : (b ≡ 0) ⊎ (c ≡ 0 → ⊥) → gone_row b c a ≡ []
  unfolding row_to
  row_empty h = concat_ext _ (λ k. []) 8 (λ k l. ap (λ (u : Bool). when u (unit_index a k)) (go k h)) ∙ concat_empty {A = ℕ} 8
    where
      go : (k : ℕ) → (b ≡ 0) ⊎ (c ≡ 0 → ⊥) → (ltb k b && eqb c 0) ≡ false
      go k (inl z) = rw (le-ltb k b (omega arith))
      go k (inr z) = rw (ne_eqb c 0 z) (and_none (ltb k b))

  pub row_length : (k : ℕ) → length (row_to b c a k) ≤ k
  unfolding row_to
  row_length k = omega (arith, concat_short (λ k. when (ltb k b && eqb c 0) (unit_index a k)) 1 (λ k. when_short (ltb k b && eqb c 0) (unit_index a k)) k)

module _ (before after : List ℕ) where
  pub rows_none : gone_rows before after 0 ≡ []
  unfolding gone_rows
  rows_none = concat_none (λ a. gone_row (number_at before a) (number_at after a) a)

  pub rows_more : (n : ℕ) → gone_rows before after (n + 1) ≡ gone_rows before after n ++ gone_row (number_at before n) (number_at after n) n
  unfolding gone_rows
  rows_more n = concat_more (λ a. gone_row (number_at before a) (number_at after a) a) n

  pub rows_short : (n : ℕ) → length (gone_rows before after n) ≤ n * 8
  unfolding gone_rows
  rows_short n = concat_short _ 8 (λ a. row_length (number_at before a) (number_at after a) a 8) n

-- ---- what stands at a place of the list

zeros_at : (m i : ℕ) → get_or (replicate m 0) i 0 ≡ zero
zeros_at zero i = refl
zeros_at (suc m) zero = refl
zeros_at (suc m) (suc i) = zeros_at m i

before_zeros : (xs l : List ℕ) → ((i : ℕ) → get_or l i 0 ≡ 0) → (i : ℕ) → get_or (xs ++ l) i 0 ≡ get_or xs i 0
before_zeros [] l h i = h i
before_zeros (x ∷ xs) l h zero = refl
before_zeros (x ∷ xs) l h (suc i) = before_zeros xs l h i

over_zeros : (m : ℕ) (xs : List ℕ) → length xs ≤ m → (i : ℕ) → get_or (overlay (replicate m 0) 0 xs) i 0 ≡ get_or xs i 0
unfolding overlay
over_zeros m xs h i =
    let l = length-replicate {A = ℕ} m 0 in
    rw (sets-eq xs (replicate m 0) 0 (omega arith)) (before_zeros xs (drop (0 + length xs) (replicate m 0)) (λ j. get_or-drop (0 + length xs) (replicate m 0) j 0 ∙ zeros_at m (0 + length xs + j)) i)

pub length_zeros : length zeros ≡ 128
unfolding zeros
length_zeros = refl

pub length_list : (before after : List ℕ) → length (gone_list before after) ≡ 128
unfolding gone_list
length_list before after = length_over zeros 0 (gone_rows before after 16) ∙ length_zeros

pub gone_at_lem : (g c : Gateway) (i : ℕ) → number_at (gone_list g.held.count c.held.count) i ≡ get_or (gone g c) i 0
unfolding gone_list zeros
gone_at_lem g c i = over_zeros 128 (gone_rows g.held.count c.held.count 16) (rows_short g.held.count c.held.count 16) i ∙ ap (λ (x : List ℕ). get_or x i 0) (gone_is g c)

-- ---- every index is below 128

abbrev Small : ℕ → List ℕ → Type 0
Small b xs = (i : ℕ) → get_or xs i 0 < b

small_append : (b : ℕ) (xs ys : List ℕ) → Small b xs → Small b ys → Small b (xs ++ ys)
small_append b [] ys h k i = k i
small_append b (x ∷ xs) ys h k zero = h 0
small_append b (x ∷ xs) ys h k (suc i) = small_append b xs ys (λ j. h (suc j)) k i

small_below : (b : ℕ) → 0 < b → (f : ℕ → List ℕ) (n : ℕ) → ((k : ℕ) → k < n → Small b (f k)) → Small b (concat_below f n)
unfolding concat_below
small_below b z f zero h i = z
small_below b z f (suc n) h i = small_append b (concat_below f n) (f n) (small_below b z f n (λ k l. h k (omega arith))) (h n (omega arith)) i

small_when : (b : ℕ) → 0 < b → (u : Bool) (x : ℕ) → x < b → Small b (when u x)
small_when b z true x h zero = h
small_when b z true x h (suc i) = z
small_when b z false x h i = z

pub index_small : (before after : List ℕ) (i : ℕ) → number_at (gone_list before after) i < 128
unfolding gone_list zeros gone_rows row_to
index_small before after i =
    rw (over_zeros 128 (gone_rows before after 16) (rows_short before after 16) i)
    (small_below 128 (omega arith) _ 16 (λ a l. small_below 128 (omega arith) _ 8 (λ k m. small_when 128 (omega arith) (ltb k (number_at before a) && eqb (number_at after a) 0) (a * 8 + k) (omega arith))) i)

pub if_small : (b : Bool) (x : ℕ) → x < 128 → cond b x 0 < 128
if_small true x h = h
if_small false x h = omega arith
