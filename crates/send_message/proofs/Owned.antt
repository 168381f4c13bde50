-- The identifiers of an AS's links as bytes, and the parameter that lists them.
-- Assumes nothing.
use mathlib.Core.Path.{◌≡◌, refl, sym, ap, ◌∙◌}
use mathlib.Core.Bool.{Bool, true, false, cond, ◌&&◌}
use mathlib.Core.List.{List, [], ◌∷◌, ◌++◌, append-nil}
use Prim.Native.Nat.{ℕ, zero, suc, ◌+◌, ◌-◌, ◌*◌, ◌%◌, ◌<◌, ◌≤◌}
use native.Mathlib.Omega.{arith}
use native.Mathlib.Decide.{dec_lt, ℕ_discrete}
use lib.ListN.{length, length-append}
use lib.Dec.{eqb, ltb}
use borrow.Author.Tests.{eq-eqb, ne_eqb, lt-ltb, le-ltb}
use Rattle.std.specs.Prelude.{Option, Some, None}
use Rattle.laws.specs.Below.{concat_below, count_below, one}
use Rattle.laws.specs.Inner.Below.{concat_none, concat_more, count_more}
use Rattle.laws.specs.Columns.{number_at}
use Rattle.codec_wire.specs.Walk.{Par}
use Rattle.codec_put.specs.Bytes.{par, par_size, par_bytes, pars_bytes, bytes16, bytes32}
use Rattle.codec_select.specs.Inner.Picks.{PutBytes, PutPars}
use Rattle.codec_select.proofs.Runs.{one_bytes, one_length, none_length}
use Rattle.send_message.specs.Inner.Form.{owns, id_at, ids_in, ids_par_in, as_pars, list_size, listed_size}

-- a byte is compared with the last byte of a number, and the number is one byte
pub is_owner : (o a : ℕ) → o < 256 → (eqb o (a % 256) && ltb a 256) ≡ eqb o a
is_owner o a h = go (dec_lt a 256)
  where
    last : (b : Bool) → (b && true) ≡ b
    last true = refl
    last false = refl

    none : (b : Bool) → (b && false) ≡ false
    none true = refl
    none false = refl

    go : Dec (a < 256) → (eqb o (a % 256) && ltb a 256) ≡ eqb o a
    go (yes l) = let e : a % 256 ≡ a = omega arith in rw (e, lt-ltb a 256 l) (last (eqb o a))
    go (no l) = rw (le-ltb a 256 (omega arith), ne_eqb o a (λ z. l (omega arith))) (none (eqb o (a % 256)))

module _ (iid owner : List ℕ) (a : ℕ) where
  pub id_length : (l : ℕ) → length (id_at iid owner a l) ≡ 4 * one (owns owner a l)
  id_length l = go (owns owner a l)
    where
      go : (b : Bool) → length (cond b (bytes32 (number_at iid l)) []) ≡ 4 * one b
      go true = refl
      go false = refl

  pub id_some : (l : ℕ) → number_at owner l ≡ a → id_at iid owner a l ≡ bytes32 (number_at iid l)
  id_some l e = rw (eq-eqb (number_at owner l) a e)

  pub id_none : (l : ℕ) → (number_at owner l ≡ a → ⊥) → id_at iid owner a l ≡ []
  id_none l e = rw (ne_eqb (number_at owner l) a e)

  pub ids_length : (n : ℕ) → length (ids_in iid owner n a) ≡ 4 * count_below (owns owner a) n
  unfolding ids_in concat_below count_below
  ids_length zero = refl
  ids_length (suc n) = let h = ids_length n in let e = id_length n in rw (length-append (concat_below (id_at iid owner a) n) (id_at iid owner a n)) (omega arith)

  pub ids_none : ids_in iid owner 0 a ≡ []
  unfolding ids_in
  ids_none = concat_none (id_at iid owner a)

  pub ids_more : (n : ℕ) → ids_in iid owner (n + 1) a ≡ ids_in iid owner n a ++ id_at iid owner a n
  unfolding ids_in
  ids_more n = concat_more (id_at iid owner a) n

  -- those of the first links are a part of all
  counts : (f : ℕ → Bool) (l n : ℕ) → l ≤ n → count_below f l ≤ count_below f n
  unfolding count_below
  counts f l zero h = let e : l ≡ 0 = omega arith in rw e (omega arith)
  counts f l (suc n) h = go (dec_lt n l) (λ q. counts f l n q)
    where
      go : Dec (n < l) → (l ≤ n → count_below f l ≤ count_below f n) → count_below f l ≤ count_below f n + one (f n)
      go (yes q) k = let e : l ≡ suc n = omega arith in rw e (omega arith)
      go (no q) k = omega (arith, k (omega arith))

  pub ids_within : (l n : ℕ) → l < n → length (ids_in iid owner l a) + length (id_at iid owner a l) ≤ length (ids_in iid owner n a)
  ids_within l n h =
      let e = ids_length l in
      let k = ids_length n in
      let i = id_length l in
      let q = count_more (owns owner a) l in
      omega (arith, counts (owns owner a) (l + 1) n (omega arith))

-- the parameter that lists them, as head and identifiers
pub ids_bytes : (ids : List ℕ) (n : ℕ) → n ≡ 4 + length ids → length ids % 4 ≡ 0 → pars_bytes (par 0x1 ids ∷ []) ≡ (bytes16 0x1 ++ bytes16 n) ++ ids
unfolding par_bytes
ids_bytes ids n e m =
    let z : par_size (length ids) - (4 + length ids) ≡ 0 = omega arith in
    one_bytes (par 0x1 ids) ∙ rw (z, e) (ap (λ (x : List ℕ). bytes16 0x1 ++ (bytes16 (4 + length ids) ++ x)) (append-nil ids))

-- its size tells whether there is one
module _ (iid owner : List ℕ) (n a : ℕ) where
  abbrev k : ℕ
  k = count_below (owns owner a) n

  len : length (ids_in iid owner n a) ≡ 4 * k
  len = ids_length iid owner a n

  pub list_none : k ≡ 0 → ids_par_in iid owner n a ≡ []
  unfolding ids_par_in
  list_none z = let l = len in rw (eq-eqb (length (ids_in iid owner n a)) 0 (omega arith))

  pub list_some : (k ≡ 0 → ⊥) → ids_par_in iid owner n a ≡ par 0x1 (ids_in iid owner n a) ∷ []
  unfolding ids_par_in
  list_some z = let l = len in rw (ne_eqb (length (ids_in iid owner n a)) 0 (λ y. z (omega arith)))

  pub list_length : length (pars_bytes (ids_par_in iid owner n a)) ≡ list_size k
  list_length = go (ℕ_discrete k 0)
    where
      go : Dec (k ≡ 0) → length (pars_bytes (ids_par_in iid owner n a)) ≡ list_size k
      go (yes z) = ap (λ (x : List Par). length (pars_bytes x)) (list_none z) ∙ none_length ∙ rw z
      go (no z) =
          let l = len in
          ap (λ (x : List Par). length (pars_bytes x)) (list_some z) ∙ one_length (par 0x1 (ids_in iid owner n a)) ∙ rw (ne_eqb k 0 z) (omega arith)

  -- a number that is its size
  pub size_none : (m : ℕ) → m ≡ list_size k → m ≡ 0 → k ≡ 0
  size_none m e z = go (ℕ_discrete k 0)
    where
      go : Dec (k ≡ 0) → k ≡ 0
      go (yes y) = y
      go (no y) = let q : 4 + 4 * k ≡ 0 = rw (ne_eqb k 0 y) at (sym e ∙ z) in let w : ⊥ = omega arith in absurd w

  pub size_some : (m : ℕ) → m ≡ list_size k → (m ≡ 0 → ⊥) → (m ≡ 4 + length (ids_in iid owner n a)) × (k ≡ 0 → ⊥)
  size_some m e z = go (ℕ_discrete k 0)
    where
      go : Dec (k ≡ 0) → (m ≡ 4 + length (ids_in iid owner n a)) × (k ≡ 0 → ⊥)
      go (yes y) = absurd (z (e ∙ rw y))
      go (no y) = let l = len in let q : m ≡ 4 + 4 * k = e ∙ rw (ne_eqb k 0 y) in (omega arith, y)

  pub list_put : (m : ℕ) → m ≡ list_size k → (m ≡ 0 → ⊥) → (out : List ℕ) (at r : ℕ) (out' : List ℕ) → PutBytes out at ((bytes16 0x1 ++ bytes16 m) ++ ids_in iid owner n a) r out' → PutPars out at (ids_par_in iid owner n a) r out'
  list_put m e z out at r out' w =
      let s = size_some m e z in
      let l = len in
      rw (list_some s.1, ids_bytes (ids_in iid owner n a) m s.0 (omega arith)) w

pub listed_length : (iid owner : List ℕ) (n : ℕ) (listed : Option ℕ) → length (pars_bytes (as_pars iid owner n listed)) ≡ listed_size owner n listed
unfolding listed_size
listed_length iid owner n None = none_length
listed_length iid owner n (Some a) = list_length iid owner n a
