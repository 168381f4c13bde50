-- What a file that is laid out well gives, and that a loaded plan gives a sound state.
-- Assumes nothing.
use Rattle.std.specs.Prelude.{ℕ, ◌+◌, ◌*◌, ◌<◌, ◌≤◌, ◌≡◌, refl, Bool, true, false, ◌||◌, ◌&&◌, cond, List, eqb, leb, ltb, length}
use Rattle.std.proofs.Common.{◌∙◌, arith, leb-true, eqb-true, lt-ltb}
use Rattle.laws.specs.Below.{all_below}
use Rattle.laws.specs.Inner.Below.{all_at, all_of}
use Rattle.laws.specs.Columns.{number_at}
use Rattle.laws.specs.Inner.Columns.{get_d_tabulate}
use Rattle.laws.specs.Inner.Every.{and_left, and_right}
use Rattle.state_tables.specs.Sound.{blank_from, all_under, differs, ascends}
use Rattle.state_plan.specs.Plan.{offset, count, follow, layout_ok, column, modes_ok, masks_ok, link_kinds, list_rules, Tables, rows_ok}

-- the counts are within their limits, and each body starts where the one before it ends
pub record Layout (s : List ℕ) : Type 0 where
  pub long : 24 ≤ length s
  pub some_asps : 1 ≤ count s 0
  pub asps : count s 0 ≤ 16
  pub some_ases : 1 ≤ count s 1
  pub ases : count s 1 ≤ 16
  pub links : count s 2 ≤ 128
  pub first : offset s 0 ≡ 24
  pub second : offset s 1 ≡ 24 + 8 * count s 0
  pub third : offset s 2 ≡ 24 + 8 * count s 0 + 4 * count s 1
  pub end : 24 + 8 * count s 0 + 4 * count s 1 + 8 * count s 2 ≡ length s

-- one entry of the contents
pub record Entry (s : List ℕ) (i at least most : ℕ) : Type 0 where
  pub start : offset s i ≡ at
  pub enough : least ≤ count s i
  pub few : count s i ≤ most

abbrev entry_ok : List ℕ → ℕ → ℕ → ℕ → ℕ → Bool
entry_ok s i at least most = eqb (offset s i) at && (leb least (count s i) && leb (count s i) most)

entry : (s : List ℕ) (i at least most : ℕ) → entry_ok s i at least most ≡ true → Entry s i at least most
entry s i at least most h =
    let x = eqb (offset s i) at in
    let y = leb least (count s i) in
    let z = leb (count s i) most in
    record {
      start = eqb-true (offset s i) at (and_left x (y && z) h);
      enough = leb-true least (count s i) (and_left y z (and_right x (y && z) h));
      few = leb-true (count s i) most (and_right y z (and_right x (y && z) h));
    }

pub layout : (s : List ℕ) → layout_ok s ≡ true → Layout s
unfolding layout_ok follow
layout s h =
    let p = 24 + 8 * count s 0 in
    let q = p + 4 * count s 1 in
    let x = entry_ok s 0 24 1 16 in
    let y = entry_ok s 1 p 1 16 in
    let z = entry_ok s 2 q 0 128 in
    let e = eqb (q + 8 * count s 2) (length s) in
    let a = and_right (leb 24 (length s)) (x && (y && (z && e))) h in
    let b = and_right x (y && (z && e)) a in
    let c = and_right y (z && e) b in
    let i = entry s 0 24 1 16 (and_left x (y && (z && e)) a) in
    let j = entry s 1 p 1 16 (and_left y (z && e) b) in
    let k = entry s 2 q 0 128 (and_left z e c) in
    record {
      long = leb-true 24 (length s) (and_left (leb 24 (length s)) (x && (y && (z && e))) h);
      some_asps = i.enough;
      asps = i.few;
      some_ases = j.enough;
      ases = j.few;
      links = k.few;
      first = i.start;
      second = j.start;
      third = k.start;
      end = eqb-true (q + 8 * count s 2) (length s) (and_right z e c);
    }

-- the places of a table beyond its rows are zero
pub column_blank : (places n : ℕ) (f : ℕ → ℕ) → blank_from (column places n f) n places ≡ true
unfolding blank_from column
column_blank places n f = all_of _ places (λ i b. rw (get_d_tabulate places (λ i. cond (ltb i n) (f i) 0) i 0 b) (go i (ltb i n)))
  where
    go : (i : ℕ) (u : Bool) → (u || eqb (cond u (f i) 0) 0) ≡ true
    go i true = refl
    go i false = refl

-- the rows, condition by condition
pub record Rows (t : Tables) : Type 0 where
  pub traffic : modes_ok t.mode t.ases ≡ true
  pub inside : masks_ok t.mask t.asps t.ases ≡ true
  pub ruled : all_under t.list list_rules t.asps ≡ true
  pub differ : all_below (differs t.aspid) t.asps ≡ true
  pub order : ascends t.iid t.links ≡ true
  pub owned : all_under t.owner t.ases t.links ≡ true
  pub sorted : all_under t.kind link_kinds t.links ≡ true

pub rows : (t : Tables) → rows_ok t ≡ true → Rows t
unfolding rows_ok
rows t h =
    let a = modes_ok t.mode t.ases in
    let b = masks_ok t.mask t.asps t.ases in
    let c = all_under t.list list_rules t.asps in
    let d = all_below (differs t.aspid) t.asps in
    let e = ascends t.iid t.links in
    let f = all_under t.owner t.ases t.links in
    let g = all_under t.kind link_kinds t.links in
    let l = and_left (a && (b && c)) (d && (e && (f && g))) h in
    let r = and_right (a && (b && c)) (d && (e && (f && g))) h in
    let x = and_right d (e && (f && g)) r in
    record {
      traffic = and_left a (b && c) l;
      inside = and_left b c (and_right a (b && c) l);
      ruled = and_right b c (and_right a (b && c) l);
      differ = and_left d (e && (f && g)) r;
      order = and_left e (f && g) x;
      owned = and_left f g (and_right e (f && g) x);
      sorted = and_right f g (and_right e (f && g) x);
    }

-- a row of a table is what was read
pub column_at : (places n : ℕ) (f : ℕ → ℕ) (i : ℕ) → i < n → n ≤ places → number_at (column places n f) i ≡ f i
unfolding column
column_at places n f i b c = get_d_tabulate places (λ i. cond (ltb i n) (f i) 0) i 0 (omega arith) ∙ rw (lt-ltb i n b)

-- what the rows of a good file say is small
pub mode_small : (mode : List ℕ) (n : ℕ) → modes_ok mode n ≡ true → (i : ℕ) → i < n → number_at mode i ≤ 3
unfolding modes_ok
mode_small mode n h i b =
    leb-true (number_at mode i) 3
    (and_right (leb 1 (number_at mode i)) (leb (number_at mode i) 3) (all_at (λ i. leb 1 (number_at mode i) && leb (number_at mode i) 3) n h i b))
