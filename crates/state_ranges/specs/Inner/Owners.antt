-- The owners of neighbouring places, each looked at once in a message.
-- Assumes nothing.
use Rattle.std.specs.Prelude.{ℕ, zero, suc, ◌+◌, ◌<◌, ◌≤◌, ◌≡◌, refl, Bool, ◌||◌, ◌&&◌, max, List, [], ◌∷◌, eqb, leb, length, set, replicate}
use Rattle.std.proofs.Common.{ap, ◌∙◌, sym, arith, get_or-set_other}
use Rattle.std.proofs.Math.Bool.{true, false}
use Rattle.std.proofs.lemmas.Bool.{false≢true}
use Rattle.std.proofs.Math.Nat.{max-le}
use Rattle.std.proofs.Math.Decide.{dec_lt, ℕ_discrete}
use Rattle.std.proofs.Math.ListN.{length-set}
use Rattle.std.proofs.lemmas.List.{get_or-replicate}
use Rattle.std.proofs.Math.Seq.{get_or-set_same}
use borrow.Author.Tests.{eq-eqb, le-leb, leb-true, eqb-true}
use Rattle.laws.specs.Below.{any_below}
use Rattle.laws.specs.Inner.Below.{any_at, any_in}
use Rattle.laws.specs.Columns.{flag_at, number_at, tabulate}
use Rattle.laws.specs.Inner.Columns.{is_tabulate, get_d_tabulate}
use Rattle.laws.specs.Inner.Every.{and_left, and_right, same_truth, or_case}

or_left : (u v : Bool) → u ≡ true → (u || v) ≡ true
or_left u v e = rw e

pub or_right : (u v : Bool) → v ≡ true → (u || v) ≡ true
or_right true v e = refl
or_right false v e = e

-- place l is not before first, and AS a owns its link
unfoldable pub owns_from : List ℕ → ℕ → ℕ → ℕ → Bool
owns_from owner first a l = leb first l && eqb (number_at owner l) a

-- the flags of the owners of the places from k up to far's number at k are set
pub record Looked (owner far : List ℕ) (flags : List Bool) : Type 0 where
  pub long : length far ≡ 128
  pub done : (k j : ℕ) → k < 128 → k ≤ j → j < number_at far k → flag_at flags (number_at owner j) ≡ true

-- nothing is looked at
pub looked_none : (owner : List ℕ) (flags : List Bool) → Looked owner (replicate 128 0) flags
looked_none owner flags = record { long = refl; done = λ k j b p q. let e : number_at (replicate 128 0) k ≡ 0 = get_or-replicate 128 k 0 0 b in absurd (let z : ⊥ = omega arith in z) }

-- more flags keep it
pub looked_more : {owner far : List ℕ} {flags next : List Bool} → Looked owner far flags → ((a : ℕ) → flag_at flags a ≡ true → flag_at next a ≡ true) → Looked owner far next
looked_more h m = record { long = h.long; done = λ k j b p q. m _ (h.done k j b p q) }

-- so what is named beside the flags keeps it
flag_in : (flags : List Bool) (a : ℕ) → flag_at flags a ≡ true → a < length flags
flag_in [] a e = absurd (false≢true e)
flag_in (x ∷ flags) zero e = omega arith
flag_in (x ∷ flags) (suc a) e = omega (arith, flag_in flags a e)

pub looked_or : {owner far : List ℕ} {flags next : List Bool} (f : ℕ → Bool) → Looked owner far flags → length flags ≡ 16 → next ≡ tabulate 16 (λ a. flag_at flags a || f a) → Looked owner far next
looked_or {flags = flags} {next = next} f h n e =
    looked_more h
    (λ a q. let b : a < 16 = omega (arith, n, flag_in flags a q) in
    ap (λ (l : List Bool). flag_at l a) e ∙ get_d_tabulate 16 (λ a. flag_at flags a || f a) a false b ∙ or_left (flag_at flags a) (f a) q)

-- ---- a walk from first up to past that has come to l

pub record Walking (owner far : List ℕ) (old r : List Bool) (first l past : ℕ) : Type 0 where
  pub long : length far ≡ 128
  -- the flags grow, and only by owners of these places
  pub kept : (a : ℕ) → flag_at old a ≡ true → flag_at r a ≡ true
  pub only : (a : ℕ) → a < 16 → flag_at r a ≡ true → (flag_at old a || any_below (owns_from owner first a) past) ≡ true
  pub all : (j : ℕ) → first ≤ j → j < l → flag_at r (number_at owner j) ≡ true
  -- places passed may point over some that are still to come
  pub done : (k j : ℕ) → k < 128 → k ≤ j → j < number_at far k → (k < l → l ≤ j → j < past → ⊥) → flag_at r (number_at owner j) ≡ true

pub walk_start : {owner far : List ℕ} {old : List Bool} (first past : ℕ) → Looked owner far old → Walking owner far old old first first past
walk_start {owner} {far} {old} first past h =
    record {
      long = h.long;
      kept = λ a e. e;
      only = λ a b e. or_left (flag_at old a) (any_below (owns_from owner first a) past) e;
      all = λ j p q. absurd (let z : ⊥ = omega arith in z);
      done = λ k j b p q n. h.done k j b p q;
    }

-- the later of two numbers
module _ (next past j : ℕ) where
  later_case : j < max next past → (j < next → ⊥) → j < past
  later_case q n = go (dec_lt j past)
    where
      go : Dec (j < past) → j < past
      go (yes b) = b
      go (no b) = let m : max next past ≤ j = max-le (omega arith) (omega arith) in absurd (let z : ⊥ = omega arith in z)

module _ {owner far : List ℕ} {old r : List Bool} {first l past : ℕ} (h : Walking owner far old r first l past) (b : l < 128) (m : ℕ) (e : m ≡ max (number_at far l) past) where
  at_same : number_at (set far l m) l ≡ m
  at_same = get_or-set_same far l m 0 (omega (arith, h.long))

  skipped : (j : ℕ) → l ≤ j → j < number_at far l → flag_at r (number_at owner j) ≡ true
  skipped j p c = h.done l j b p c (λ z. absurd (let w : ⊥ = omega arith in w))

  -- places looked at before are skipped
  pub walk_jump : (next : ℕ) → next ≡ number_at far l → l < next → Walking owner (set far l m) old r first next past
  walk_jump next s q =
      record {
        long = length-set far l m ∙ h.long;
        kept = h.kept;
        only = h.only;
        all = λ j p c. passed j p c (dec_lt j l);
        done = λ k j u p c n. turn k j u p c n (ℕ_discrete k l) (dec_lt j next) (dec_lt j l);
      }
    where
      passed : (j : ℕ) → first ≤ j → j < next → Dec (j < l) → flag_at r (number_at owner j) ≡ true
      passed j p c (yes z) = h.all j p z
      passed j p c (no z) = skipped j (omega arith) (omega arith)

      turn : (k j : ℕ) → k < 128 → k ≤ j → j < number_at (set far l m) k → (k < next → next ≤ j → j < past → ⊥) → Dec (k ≡ l) → Dec (j < next) → Dec (j < l) → flag_at r (number_at owner j) ≡ true
      turn k j u p c n (yes z) (yes w) d = skipped j (omega arith) (omega arith)
      turn k j u p c n (yes z) (no w) d =
          let t : number_at (set far l m) k ≡ m = rw z at_same in
          let g : j < max (number_at far l) past = rw (t ∙ e) at c in
          absurd (n (omega arith) (omega arith) (later_case (number_at far l) past j g (λ x. w (omega arith))))
      turn k j u p c n (no z) (yes w) (no d) = skipped j (omega arith) (omega arith)
      turn k j u p c n (no z) w (yes d) = h.done k j u p (rw (get_or-set_other far l k m 0 z) at c) (λ x y v. absurd (let t : ⊥ = omega arith in t))
      turn k j u p c n (no z) (no w) (no d) = h.done k j u p (rw (get_or-set_other far l k m 0 z) at c) (λ x y v. n (omega arith) (omega arith) v)

  -- one that was not has its owner's flag set
  pub walk_step : first ≤ l → l < past → number_at far l ≤ l → length r ≡ 16 → number_at owner l < 16 → Walking owner (set far l m) old (set r (number_at owner l) true) first (l + 1) past
  unfolding owns_from
  walk_step f c q len o =
      record {
        long = length-set far l m ∙ h.long;
        kept = λ a x. more a (h.kept a x);
        only = λ a u x. new a u x (ℕ_discrete a (number_at owner l));
        all = λ j p x. passed j p x (ℕ_discrete j l);
        done = λ k j u p x n. turn k j u p x n (ℕ_discrete j l) (ℕ_discrete k l);
      }
    where
      here : flag_at (set r (number_at owner l) true) (number_at owner l) ≡ true
      here = get_or-set_same r (number_at owner l) true false (omega arith)

      more : (a : ℕ) → flag_at r a ≡ true → flag_at (set r (number_at owner l) true) a ≡ true
      more a x = go (ℕ_discrete a (number_at owner l))
        where
          go : Dec (a ≡ number_at owner l) → flag_at (set r (number_at owner l) true) a ≡ true
          go (yes z) = rw z here
          go (no z) = get_or-set_other r (number_at owner l) a true false z ∙ x

      new : (a : ℕ) → a < 16 → flag_at (set r (number_at owner l) true) a ≡ true → Dec (a ≡ number_at owner l) → (flag_at old a || any_below (owns_from owner first a) past) ≡ true
      new a u x (yes z) = or_right (flag_at old a) (any_below (owns_from owner first a) past) (any_in (owns_from owner first a) past l c (owns a z))
        where
          owns : (a : ℕ) → a ≡ number_at owner l → owns_from owner first a l ≡ true
          owns a z = rw (le-leb first l f, eq-eqb (number_at owner l) a (sym z))
      new a u x (no z) = h.only a u (sym (get_or-set_other r (number_at owner l) a true false z) ∙ x)

      passed : (j : ℕ) → first ≤ j → j < l + 1 → Dec (j ≡ l) → flag_at (set r (number_at owner l) true) (number_at owner j) ≡ true
      passed j p x (yes z) = rw z here
      passed j p x (no z) = more _ (h.all j p (omega arith))

      turn : (k j : ℕ) → k < 128 → k ≤ j → j < number_at (set far l m) k → (k < l + 1 → l + 1 ≤ j → j < past → ⊥) → Dec (j ≡ l) → Dec (k ≡ l) → flag_at (set r (number_at owner l) true) (number_at owner j) ≡ true
      turn k j u p x n (yes z) d = rw z here
      turn k j u p x n (no z) (yes d) =
          let t : number_at (set far l m) k ≡ m = rw d at_same in
          let g : j < max (number_at far l) past = rw (t ∙ e) at x in
          absurd (n (omega arith) (omega arith) (later_case (number_at far l) past j g (λ w. omega arith)))
      turn k j u p x n (no z) (no d) = more _ (h.done k j u p (rw (get_or-set_other far l k m 0 d) at x) (λ s y v. n (omega arith) (omega arith) v))

-- ---- the walk is over

module _ {owner far : List ℕ} {old r : List Bool} {first l past : ℕ} (h : Walking owner far old r first l past) (q : past ≤ l) where
  pub walk_looked : Looked owner far r
  walk_looked = record { long = h.long; done = λ k j b p c. h.done k j b p c (λ x y z. omega arith) }

  pub walk_owners : length r ≡ 16 → r ≡ tabulate 16 (λ a. flag_at old a || any_below (owns_from owner first a) past)
  unfolding owns_from
  walk_owners len = is_tabulate false r 16 (λ a. flag_at old a || any_below (owns_from owner first a) past) len (λ a b. same_truth _ _ (h.only a b) (back a))
    where
      owned : (a j : ℕ) → j < past → owns_from owner first a j ≡ true → flag_at r a ≡ true
      owned a j p e =
          let z : number_at owner j ≡ a = eqb-true (number_at owner j) a (and_right (leb first j) (eqb (number_at owner j) a) e) in
          rw z at (h.all j (leb-true first j (and_left (leb first j) (eqb (number_at owner j) a) e)) (omega arith))

      back : (a : ℕ) → (flag_at old a || any_below (owns_from owner first a) past) ≡ true → flag_at r a ≡ true
      back a e = or_case (flag_at old a) (any_below (owns_from owner first a) past) e (h.kept a) (λ g. let y = any_at (owns_from owner first a) past g in owned a y.0 y.1 y.2)
