-- Tables that the code fills from rows, a word of each, and what the code asks of the words.
-- Assumes nothing.
use Rattle.std.specs.Prelude.{ℕ, zero, suc, ◌+◌, ◌*◌, ◌-◌, ◌<◌, ◌≤◌, ◌≡◌, refl, Bool, true, false, ◌&&◌, cond, List, eqb, leb, ltb, length, get_or, replicate, set}
use Rattle.std.proofs.Common.{sym, ap, ◌∙◌, add-one, arith, not-suc-le-zero, length-set, get_or-set_same, get_or-set_other, ltb-true, leb-true, lt-ltb, le-ltb, le-leb}
use Rattle.std.proofs.Math.Decide.{dec_lt, ℕ_discrete}
use Rattle.std.specs.Int.Bits.{bit_or, or_add_and}
use Rattle.std.proofs.lemmas.Nat.{or_lt, and_le_l, and_le_r}
use Rattle.std.proofs.lemmas.List.{length-replicate, get_or-replicate}
use Rattle.laws.specs.Below.{all_below}
use Rattle.laws.specs.Inner.Below.{all_none, all_more}
use Rattle.laws.specs.Inner.Every.{all_ext, all_two, same_truth, and_both, and_left, and_right}
use Rattle.laws.specs.Columns.{number_at}
use Rattle.laws.specs.Inner.Columns.{is_tabulate, tabulate_ext}
use Rattle.codec_wire.specs.Number.{be}
use Rattle.state_tables.specs.Sound.{ascends, all_under}
use Rattle.state_tables.specs.Inner.Column.{under_at}
use Rattle.state_plan.specs.Plan.{high, low, column, bits_from, modes_ok, masks_ok, link_kinds, list_rules}
use Rattle.state_plan.specs.Inner.Laws.{column_at, mode_small}

-- the word of row i, if that of the first row stands at a position
abbrev pub word_of : List ℕ → ℕ → ℕ → ℕ → ℕ
word_of s at row i = be 4 s (at + row * i)

-- the byte of row i, if that of the first row stands at a position
abbrev pub byte_of : List ℕ → ℕ → ℕ → ℕ → ℕ
byte_of s at row i = get_or s (at + row * i) 0

-- the words of n rows are within a file of some length
abbrev pub RowsIn : ℕ → ℕ → ℕ → ℕ → Type 0
RowsIn long at row n = (i : ℕ) → i < n → at + row * i + 4 ≤ long

-- n numbers are below an end
abbrev pub AllIn : (ℕ → ℕ) → ℕ → ℕ → Type 0
AllIn f n end = (i : ℕ) → i < n → f i < end

-- n numbers are the same
abbrev pub Same : (ℕ → ℕ) → (ℕ → ℕ) → ℕ → Type 0
Same f g n = (i : ℕ) → i < n → f i ≡ g i

-- a list of bytes
abbrev pub Bytes : List ℕ → Type 0
Bytes s = (i : ℕ) → get_or s i 0 < 256

-- what is read of each of n rows, and zeros (z) beyond them; `gives` says what a reading may give
module _ {A : Type 0} where
  pub record Read (gives : ℕ → A → Type 0) (z : A) (places n : ℕ) (l : List A) : Type 0 where
    pub long : length l ≡ places
    pub new : (i : ℕ) → i < n → gives i (get_or l i z)
    pub old : (i : ℕ) → n ≤ i → i < places → get_or l i z ≡ z

  pub read_none : (gives : ℕ → A → Type 0) (z : A) (places : ℕ) → Read gives z places 0 (replicate places z)
  read_none gives z places =
      record {
        long = length-replicate places z;
        new = λ i b. absurd (not-suc-le-zero b);
        old = λ i b c. get_or-replicate places i z z c;
      }

  pub read_more : {gives : ℕ → A → Type 0} {z : A} {places n : ℕ} {l : List A} (x : A) → Read gives z places n l → n < places → gives n x → Read gives z places (n + 1) (set l n x)
  read_more {gives} {z} {places} {n} {l} x r b g =
      record {
        long = length-set l n x ∙ r.long;
        new = λ i q. pick i q (ℕ_discrete i n);
        old = λ i q c. get_or-set_other l n i x z (λ e. omega arith) ∙ r.old i (omega arith) c;
      }
    where
      pick : (i : ℕ) → i < n + 1 → Dec (i ≡ n) → gives i (get_or (set l n x) i z)
      pick i q (yes e) = rw (e, get_or-set_same l n x z (omega (arith, r.long))) g
      pick i q (no e) = rw (get_or-set_other l n i x z e) (r.new i (omega arith))

  pub read_all : {gives : ℕ → A → Type 0} {z : A} {places m n : ℕ} {l : List A} → m ≡ n → Read gives z places m l → Read gives z places n l
  read_all e r = rw e at r

-- the least that number l may be in an ascending list: one more than the number before it
unfoldable pub floor_of : (ℕ → ℕ) → ℕ → ℕ
floor_of f zero = 0
floor_of f (suc l) = f l + 1

-- ---- laws

-- what was read is the column of the numbers that a reading gives
pub column_read : {gives : ℕ → ℕ → Type 0} {places n : ℕ} {l : List ℕ} (f : ℕ → ℕ) → Read gives 0 places n l → ((i x : ℕ) → i < n → gives i x → x ≡ f i) → l ≡ column places n f
unfolding column
column_read {gives} {places} {n} {l} f r e = is_tabulate 0 l places (λ i. cond (ltb i n) (f i) 0) r.long (λ i b. pick i b (dec_lt i n))
  where
    pick : (i : ℕ) → i < places → Dec (i < n) → get_or l i 0 ≡ cond (ltb i n) (f i) 0
    pick i b (yes z) = e i _ z (r.new i z) ∙ rw (lt-ltb i n z)
    pick i b (no z) = r.old i (omega arith) b ∙ rw (le-ltb i n (omega arith))

-- a column said by the same numbers
pub column_as : (places n : ℕ) {f g : ℕ → ℕ} → Same f g n → column places n f ≡ column places n g
unfolding column
column_as places n {f} {g} e = tabulate_ext 0 places _ _ (λ i b. pick i (dec_lt i n))
  where
    pick : (i : ℕ) → Dec (i < n) → cond (ltb i n) (f i) 0 ≡ cond (ltb i n) (g i) 0
    pick i (yes z) = rw (lt-ltb i n z, e i z)
    pick i (no z) = rw (le-ltb i n (omega arith))

-- the tests of words are those of the tables
pub modes_read : (n : ℕ) (f : ℕ → ℕ) → n ≤ 16 → all_below (λ i. leb 1 (f i) && leb (f i) 3) n ≡ modes_ok (column 16 n f) n
unfolding modes_ok
modes_read n f b = all_ext _ _ n (λ i l. rw (column_at 16 n f i l b))

under_read : (places n m : ℕ) (f : ℕ → ℕ) → n ≤ places → all_below (λ i. ltb (f i) m) n ≡ all_under (column places n f) m n
unfolding all_under
under_read places n m f b = all_ext (λ i. ltb (f i) m) (λ i. ltb (number_at (column places n f) i) m) n (λ i h. rw (column_at places n f i h b))

pub masks_read : (n m : ℕ) (f : ℕ → ℕ) → n ≤ 16
    → all_below (λ p. eqb (bits_from (high (f p)) m) 0 && ltb (low (f p)) list_rules) n
    ≡ (masks_ok (column 16 n (λ p. high (f p))) n m && all_under (column 16 n (λ p. low (f p))) list_rules n)
unfolding masks_ok
masks_read n m f b =
    all_two (λ p. eqb (bits_from (high (f p)) m) 0) (λ p. ltb (low (f p)) list_rules) n
    ∙ rw (all_ext (λ p. eqb (bits_from (high (f p)) m) 0) (λ p. eqb (bits_from (number_at (column 16 n (λ p. high (f p))) p) m) 0) n (λ p l. rw (column_at 16 n (λ p. high (f p)) p l b)), under_read 16 n list_rules (λ p. low (f p)) b)

pub floor_none : (f : ℕ → ℕ) → floor_of f 0 ≡ 0
unfolding floor_of
floor_none f = refl

pub floor_more : (f : ℕ → ℕ) (l : ℕ) → floor_of f (l + 1) ≡ f l + 1
unfolding floor_of
floor_more f l = rw add-one

-- not below its floor is above the number before it
floor_next : (f : ℕ → ℕ) (k : ℕ) → leb (floor_of f (k + 1)) (f (k + 1)) ≡ ltb (f k) (f (k + 1))
floor_next f k =
    rw (floor_more f k)
    (same_truth (leb (f k + 1) (f (k + 1))) (ltb (f k) (f (k + 1))) (λ h. lt-ltb (f k) (f (k + 1)) (omega (arith, leb-true (f k + 1) (f (k + 1)) h))) (λ h. le-leb (f k + 1) (f (k + 1)) (omega (arith, ltb-true (f k) (f (k + 1)) h))))

floors : (f : ℕ → ℕ) (k : ℕ) → all_below (λ l. leb (floor_of f l) (f l)) (k + 1) ≡ all_below (λ l. ltb (f l) (f (l + 1))) k
floors f zero = all_more (λ l. leb (floor_of f l) (f l)) 0 ∙ rw (all_none (λ l. leb (floor_of f l) (f l)), all_none (λ l. ltb (f l) (f (l + 1))), floor_none f) (le-leb 0 (f 0) (omega arith))
floors f (suc k) =
    rw (sym (add-one k))
    (all_more (λ l. leb (floor_of f l) (f l)) (k + 1) ∙ rw (floors f k, floor_next f k) (sym (all_more (λ l. ltb (f l) (f (l + 1))) k)))

ids_read : (n : ℕ) (f : ℕ → ℕ) → n ≤ 128 → all_below (λ l. leb (floor_of f l) (f l)) n ≡ ascends (column 128 n f) n
unfolding ascends
ids_read zero f b = all_none _ ∙ sym (all_none _)
ids_read (suc k) f b =
    let e : suc k - 1 ≡ k = omega arith in
    rw (e, sym (add-one k))
    (floors f k ∙ all_ext (λ l. ltb (f l) (f (l + 1))) (λ l. ltb (number_at (column 128 (k + 1) f) l) (number_at (column 128 (k + 1) f) (l + 1))) k (λ l h. rw (column_at 128 (k + 1) f l (omega arith) (omega arith), column_at 128 (k + 1) f (l + 1) (omega arith) (omega arith))))

pub links_read : (n m : ℕ) (f g : ℕ → ℕ) → n ≤ 128
    → (all_below (λ l. leb (floor_of f l) (f l) && ltb (low (g l)) m) n && all_below (λ l. ltb (high (g l)) link_kinds) n)
    ≡ (ascends (column 128 n f) n && (all_under (column 128 n (λ l. low (g l))) m n && all_under (column 128 n (λ l. high (g l))) link_kinds n))
links_read n m f g b =
    rw (all_two (λ l. leb (floor_of f l) (f l)) (λ l. ltb (low (g l)) m) n, ids_read n f b, under_read 128 n m (λ l. low (g l)) b, under_read 128 n link_kinds (λ l. high (g l)) b)
    (assoc (ascends (column 128 n f) n) (all_under (column 128 n (λ l. low (g l))) m n) (all_under (column 128 n (λ l. high (g l))) link_kinds n))
  where
    assoc : (u v w : Bool) → ((u && v) && w) ≡ (u && (v && w))
    assoc true v w = refl
    assoc false v w = refl

pub and_same : {t u v w : Bool} → t ≡ u → v ≡ w → (t && v) ≡ (u && w)
and_same p q = rw (p, q)

-- two kinds are below 2 where their bits together are
pub kinds_both : (x y : ℕ) → ltb (high (bit_or x y)) link_kinds ≡ (ltb (high x) link_kinds && ltb (high y) link_kinds)
kinds_both x y =
    let u = ltb (high x) 2 in
    let v = ltb (high y) 2 in
    same_truth (ltb (high (bit_or x y)) 2) (u && v)
    (λ h.
    let p = ltb-true (high (bit_or x y)) 2 h in
    and_both u v (lt-ltb (high x) 2 (omega (arith, or_add_and x y, and_le_r x y))) (lt-ltb (high y) 2 (omega (arith, or_add_and x y, and_le_l x y))))
    (λ h.
    let p = ltb-true (high x) 2 (and_left u v h) in
    let q = ltb-true (high y) 2 (and_right u v h) in
    lt-ltb (high (bit_or x y)) 2 (omega (arith, or_lt 17 x y (omega arith) (omega arith))))

-- of no rows every place is zero
pub column_zero : (places : ℕ) (f : ℕ → ℕ) → column places 0 f ≡ replicate places 0
unfolding column
column_zero places f = sym (is_tabulate 0 (replicate places 0) places (λ i. cond (ltb i 0) (f i) 0) (length-replicate places 0) (λ i b. get_or-replicate places i 0 0 b ∙ rw (le-ltb i 0 (omega arith))))

-- a number below 256 is its last byte: of a word, and of its halves
pub word_byte : (s : List ℕ) (p : ℕ) → be 4 s p < 256 → get_or s (p + 3) 0 ≡ be 4 s p
unfolding be
word_byte s p h = omega arith

pub low_byte : (s : List ℕ) → Bytes s → (p : ℕ) → low (be 4 s p) < 256 → get_or s (p + 3) 0 ≡ low (be 4 s p)
unfolding be
low_byte s z p h = omega (arith, z (p + 3))

pub high_byte : (s : List ℕ) → Bytes s → (p : ℕ) → high (be 4 s p) < 256 → get_or s (p + 1) 0 ≡ high (be 4 s p)
unfolding be
high_byte s z p h = omega (arith, z (p + 2), z (p + 3))

-- so of the words of n rows, or of a half of each
pub same_bytes : (s : List ℕ) (n at k row from : ℕ) (h : ℕ → ℕ) → from ≡ at + k → ((p : ℕ) → h (be 4 s p) < 256 → get_or s (p + k) 0 ≡ h (be 4 s p))
    → AllIn (λ i. h (word_of s at row i)) n 256 → Same (byte_of s from row) (λ i. h (word_of s at row i)) n
same_bytes s n at k row from h e z b i l = ap (λ j. get_or s j 0) (omega (arith, e)) ∙ z (at + row * i) (b i l)

-- the modes of good rows are bytes, and so are rules, owners and kinds
pub mode_bytes : (n : ℕ) (f : ℕ → ℕ) → n ≤ 16 → modes_ok (column 16 n f) n ≡ true → AllIn f n 256
mode_bytes n f b h i l = omega (arith, column_at 16 n f i l b, mode_small (column 16 n f) n h i l)

pub under_bytes : (places n m : ℕ) (f : ℕ → ℕ) → n ≤ places → m ≤ 16 → all_under (column places n f) m n ≡ true → AllIn f n 256
under_bytes places n m f b k h i l = omega (arith, column_at places n f i l b, under_at (column places n f) m n h i l)
