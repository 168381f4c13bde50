-- The places of links that a message names, marked: the mark at a place says up to where it and those behind
-- it are named.
-- Assumes nothing.
use Rattle.std.specs.Prelude.{◌≡◌, cond, max, ◌||◌, ◌&&◌, List, [], ◌∷◌, eqb, length, set, replicate}
use Rattle.std.proofs.Math.Path.{refl, sym}
use Rattle.std.proofs.Common.{ap, ◌∙◌, arith, get_or-set_same, get_or-set_other}
use Rattle.std.proofs.Math.Bool.{Bool, true, false, or-false, or_assoc}
use Prim.Native.Nat.{ℕ, ◌+◌, ◌-◌, ◌*◌, ◌<◌, ◌≤◌}
use Rattle.std.specs.Bool.{then_some}
use Rattle.std.proofs.Math.Nat.{max-le, le-max_left, le-max_right}
use Rattle.std.proofs.Math.Decide.{dec_lt, ℕ_discrete}
use Rattle.std.proofs.Math.Dec.{leb, ltb}
use Rattle.std.proofs.Math.ListN.{length-set}
use Rattle.std.proofs.lemmas.List.{get_or-replicate}
use borrow.Author.Tests.{eq-eqb, ne_eqb, eqb-true, le-leb, lt-leb, leb-true, leb-false, lt-ltb, le-ltb, ltb-true}
use Rattle.laws.specs.Below.{one, any_below}
use Rattle.laws.specs.Inner.Below.{any_none, any_more, any_at, any_in}
use Rattle.laws.specs.Inner.Every.{and_left, and_right, and_both, same_truth, or_case, false_of}
use Rattle.laws.specs.Columns.{flag_at, number_at}
use Rattle.laws.specs.Inner.Columns.{HalfCol, half_none, half_more}
use Rattle.codec_wire.specs.Number.{be}
use Rattle.codec_wire.specs.Walk.{Par}
use Rattle.state_tables.specs.Sound.{ascends}
use Rattle.state_tables.specs.Inner.Laws.{ascends_any}
use Rattle.state_lookup.specs.Links.{index_of}
use Rattle.state_lookup.specs.Inner.Links.{rank, rank_below, rank_from, index_own, index_is}
use Rattle.state_lookup.specs.Inner.Index.{IndexIs}
use Rattle.state_ranges.specs.Inner.Ranks.{rank_here, rank_next}
use Rattle.state_ranges.specs.Named.{some_in, some_entry, some_of, start_at, stop_at, entries}
use Rattle.state_ranges.specs.Places.{is_from}
use Rattle.state_ranges.specs.Inner.Owners.{or_right}
use Rattle.rules_event.specs.Identifiers.{is_ids, names_some}

-- place l is named: a mark at it or before it goes beyond it
unfoldable pub covered : List ℕ → ℕ → Bool
covered until l = any_below (λ k. ltb l (number_at until k)) (l + 1)

-- the places from first on, before past, are named too
pub record Marked (until : List ℕ) (first past : ℕ) (next : List ℕ) : Type 0 where
  pub long : length next ≡ length until
  pub at : (l : ℕ) → covered next l ≡ (covered until l || (leb first l && ltb l past))

-- those of the links whose identifiers f names are named too
pub record Adds (until iid : List ℕ) (links : ℕ) (f : ℕ → Bool) (next : List ℕ) : Type 0 where
  pub long : length next ≡ length until
  pub at : (l : ℕ) → l < links → covered next l ≡ (covered until l || f (number_at iid l))

-- those of the links whose identifiers f names, and no others
pub record Covered (until iid : List ℕ) (links : ℕ) (f : ℕ → Bool) : Type 0 where
  pub at : (l : ℕ) → l < links → covered until l ≡ f (number_at iid l)

-- the column of the good ones
pub record GoodColumn (iid owner : List ℕ) (links : ℕ) (mine : List Bool) (ps : List Par) (r : List ℕ) : Type 0 where
  pub at : (l : ℕ) → l < links → number_at r l ≡ one (names_some (eqb (number_at iid l)) ps && flag_at mine (number_at owner l))

-- ---- laws: one mark

or_left : (u v : Bool) → u ≡ true → (u || v) ≡ true
or_left u v e = rw e

-- where nothing more is named
same_or : (u v : Bool) → v ≡ false → u ≡ (u || v)
same_or u v e = rw e (sym (or-false u))

-- below the later of two numbers is below one of them
below_later : (x y j : ℕ) → ltb j (max x y) ≡ (ltb j x || ltb j y)
below_later x y j = go (dec_lt j x) (dec_lt j y)
  where
    above : x ≤ max x y × y ≤ max x y
    above = (le-max_left x y, le-max_right x y)

    go : Dec (j < x) → Dec (j < y) → ltb j (max x y) ≡ (ltb j x || ltb j y)
    go (yes b) c = rw (lt-ltb j x b) (lt-ltb j (max x y) (omega (arith, above)))
    go (no b) (yes c) = rw (le-ltb j x (omega arith), lt-ltb j y c) (lt-ltb j (max x y) (omega (arith, above)))
    go (no b) (no c) = rw (le-ltb j x (omega arith), le-ltb j y (omega arith)) (le-ltb j (max x y) (max-le (omega arith) (omega arith)))

-- the mark of first goes up to past, where it went less far
module _ (until : List ℕ) (first past m : ℕ) (b : first < length until) (e : m ≡ max (number_at until first) past) where
  abbrev old : ℕ → ℕ → Bool
  old l k = ltb l (number_at until k)

  abbrev new : ℕ → ℕ → Bool
  new l k = ltb l (number_at (set until first m) k)

  new_here : (l : ℕ) → new l first ≡ (old l first || ltb l past)
  new_here l = ap (ltb l) (get_or-set_same until first m 0 b ∙ e) ∙ below_later (number_at until first) past l

  new_other : (l k : ℕ) → (k ≡ first → ⊥) → new l k ≡ old l k
  new_other l k n = ap (ltb l) (get_or-set_other until first k m 0 n)

  pub mark_more : Marked until first past (set until first m)
  unfolding covered
  mark_more = record { long = length-set until first m; at = λ l. same_truth (any_below (new l) (l + 1)) (any_below (old l) (l + 1) || inside l) (from l) (to l) }
    where
      inside : ℕ → Bool
      inside l = leb first l && ltb l past

      from : (l : ℕ) → any_below (new l) (l + 1) ≡ true → (any_below (old l) (l + 1) || inside l) ≡ true
      from l h = let x = any_at (new l) (l + 1) h in go x.0 x.1 x.2 (ℕ_discrete x.0 first)
        where
          go : (k : ℕ) → k < l + 1 → new l k ≡ true → Dec (k ≡ first) → (any_below (old l) (l + 1) || inside l) ≡ true
          go k c t (yes z) =
              let q : (old l first || ltb l past) ≡ true = sym (new_here l) ∙ rw z at t in
              or_case (old l first) (ltb l past) q
              (λ u. or_left (any_below (old l) (l + 1)) (inside l) (any_in (old l) (l + 1) first (omega arith) u))
              (λ u. or_right (any_below (old l) (l + 1)) (inside l) (and_both (leb first l) (ltb l past) (le-leb first l (omega arith)) u))
          go k c t (no z) = or_left (any_below (old l) (l + 1)) (inside l) (any_in (old l) (l + 1) k c (sym (new_other l k z) ∙ t))

      to : (l : ℕ) → (any_below (old l) (l + 1) || inside l) ≡ true → any_below (new l) (l + 1) ≡ true
      to l h =
          or_case (any_below (old l) (l + 1)) (inside l) h
          (λ u. let x = any_at (old l) (l + 1) u in go x.0 x.1 x.2 (ℕ_discrete x.0 first))
          (λ u. any_in (new l) (l + 1) first (omega (arith, leb-true first l (and_left (leb first l) (ltb l past) u))) (new_here l ∙ or_right (old l first) (ltb l past) (and_right (leb first l) (ltb l past) u)))
        where
          go : (k : ℕ) → k < l + 1 → old l k ≡ true → Dec (k ≡ first) → any_below (new l) (l + 1) ≡ true
          go k c t (yes z) = let q : old l first ≡ true = rw z at t in any_in (new l) (l + 1) first (omega arith) (new_here l ∙ or_left (old l first) (ltb l past) q)
          go k c t (no z) = any_in (new l) (l + 1) k c (new_other l k z ∙ t)

-- ---- one after the other

module _ {until iid : List ℕ} {links : ℕ} where
  -- none is named
  adds_none : (f : ℕ → Bool) → ((l : ℕ) → l < links → f (number_at iid l) ≡ false) → Adds until iid links f until
  adds_none f h = record { long = refl; at = λ l b. same_or (covered until l) (f (number_at iid l)) (h l b) }

  adds_as : {f g : ℕ → Bool} {next : List ℕ} → ((x : ℕ) → f x ≡ g x) → Adds until iid links f next → Adds until iid links g next
  adds_as h a = record { long = a.long; at = λ l b. a.at l b ∙ ap (λ u. covered until l || u) (h (number_at iid l)) }

  adds_then : {f g : ℕ → Bool} {next last : List ℕ} → Adds until iid links f next → Adds next iid links g last → Adds until iid links (λ x. f x || g x) last
  adds_then {f} {g} a c = record { long = c.long ∙ a.long; at = λ l b. c.at l b ∙ rw (a.at l b) (or_assoc (covered until l) (f (number_at iid l)) (g (number_at iid l))) }

-- ---- a range

from_low : (start stop x : ℕ) → is_from start stop x ≡ true → start ≤ x
from_low start stop x e = leb-true start x (and_left (leb start x) (leb x stop) e)

from_high : (start stop x : ℕ) → is_from start stop x ≡ true → x ≤ stop
from_high start stop x e = leb-true x stop (and_right (leb start x) (leb x stop) e)

-- a range that ends before it starts names none
pub range_none : (until iid : List ℕ) (links start stop : ℕ) → stop < start → Adds until iid links (is_from start stop) until
range_none until iid links start stop h = adds_none (is_from start stop) (λ l b. false_of (is_from start stop (number_at iid l)) (λ e. omega (arith, from_low start stop (number_at iid l) e, from_high start stop (number_at iid l) e)))

-- its places are those from the rank of start on, before that of the number behind stop
module _ (iid : List ℕ) (links start stop : ℕ) (h : ascends iid links ≡ true) where
  from_start : (l : ℕ) → l < links → leb (rank iid links start) l ≡ leb start (number_at iid l)
  from_start l b = go (dec_lt l (rank iid links start))
    where
      go : Dec (l < rank iid links start) → leb (rank iid links start) l ≡ leb start (number_at iid l)
      go (yes z) = rw (lt-leb (rank iid links start) l z, lt-leb start (number_at iid l) (rank_below iid links h start l b z))
      go (no z) = let q : rank iid links start ≤ l = omega arith in rw (le-leb (rank iid links start) l q, le-leb start (number_at iid l) (rank_from iid links h start l b q))

  to_stop : (l : ℕ) → l < links → ltb l (rank iid links (stop + 1)) ≡ leb (number_at iid l) stop
  to_stop l b = go (dec_lt l (rank iid links (stop + 1)))
    where
      go : Dec (l < rank iid links (stop + 1)) → ltb l (rank iid links (stop + 1)) ≡ leb (number_at iid l) stop
      go (yes z) = rw (lt-ltb l (rank iid links (stop + 1)) z, le-leb (number_at iid l) stop (omega (arith, rank_below iid links h (stop + 1) l b z)))
      go (no z) = let q : rank iid links (stop + 1) ≤ l = omega arith in rw (le-ltb l (rank iid links (stop + 1)) q, lt-leb (number_at iid l) stop (omega (arith, rank_from iid links h (stop + 1) l b q)))

  pub range_adds : {until next : List ℕ} {first past : ℕ} → first ≡ rank iid links start → past ≡ rank iid links (stop + 1) → Marked until first past next → Adds until iid links (is_from start stop) next
  range_adds {until} p q m = record { long = m.long; at = λ l b. m.at l ∙ rw (p, q, from_start l b, to_stop l b) }

  -- where the identifier at the first of them is above stop, or there is none, none is known
  pub range_unknown : {until : List ℕ} (first : ℕ) → first ≡ rank iid links start → (ltb first links && leb (number_at iid first) stop) ≡ false → Adds until iid links (is_from start stop) until
  range_unknown first p e = adds_none (is_from start stop) (λ l b. false_of (is_from start stop (number_at iid l)) (λ z. go l b z (dec_lt l first) (ℕ_discrete l first)))
    where
      above : first < links → stop < number_at iid first
      above b = leb-false (number_at iid first) stop (rw (lt-ltb first links b) at e)

      go : (l : ℕ) → l < links → is_from start stop (number_at iid l) ≡ true → Dec (l < first) → Dec (l ≡ first) → ⊥
      go l b z (yes c) d = omega (arith, from_low start stop (number_at iid l) z, rank_below iid links h start l b (omega arith))
      go l b z (no c) (yes d) = omega (arith, ap (number_at iid) d, from_high start stop (number_at iid l) z, above (omega arith))
      go l b z (no c) (no d) = omega (arith, from_high start stop (number_at iid l) z, above (omega arith), ascends_any iid links h first l (omega arith) b)

-- else there are some
pub range_some : (iid : List ℕ) (links stop : ℕ) → ascends iid links ≡ true → (first past : ℕ) → past ≡ rank iid links (stop + 1) → (ltb first links && leb (number_at iid first) stop) ≡ true → first < past
range_some iid links stop h first past q e = go (dec_lt first past)
  where
    go : Dec (first < past) → first < past
    go (yes c) = c
    go (no c) =
        let b = ltb-true first links (and_left (ltb first links) (leb (number_at iid first) stop) e) in
        let w : ⊥ = omega (arith, leb-true (number_at iid first) stop (and_right (ltb first links) (leb (number_at iid first) stop) e), rank_from iid links h (stop + 1) first b (omega arith)) in
        absurd w

-- an identifier that stands there ends at its place
pub one_past : (iid : List ℕ) (links x : ℕ) → ascends iid links ≡ true → (l : ℕ) → l ≡ rank iid links x → (ltb l links && leb (number_at iid l) x) ≡ true → (l + 1 ≡ rank iid links (x + 1)) × (l < links)
one_past iid links x h l p e =
    let b : l < links = ltb-true l links (and_left (ltb l links) (leb (number_at iid l) x) e) in
    let u = leb-true (number_at iid l) x (and_right (ltb l links) (leb (number_at iid l) x) e) in
    let v = rank_from iid links h x l b (omega arith) in
    (rank_next iid links h x l b (omega arith), b)

-- the place behind one of the column's
pub past_most : (past l : ℕ) (v : Bool) → past ≡ cond v (l + 1) 0 → l < 128 → past ≤ 128
past_most past l true e b = omega arith
past_most past l false e b = omega arith

-- ---- an identifier of which a table says where it stands: what is unknown marks nothing

module _ (iid : List ℕ) (links x : ℕ) (h : ascends iid links ≡ true) where
  -- the number x alone
  alone : (y : ℕ) → is_from x x y ≡ true → y ≡ x
  alone y e = omega (arith, from_low x x y e, from_high x x y e)

  unknown : links ≡ index_of iid links x → (l : ℕ) → l < links → is_from x x (number_at iid l) ≡ false
  unknown n l b =
      false_of (is_from x x (number_at iid l))
      (λ e. let i : index_of iid links x ≡ l = rw (alone (number_at iid l) e) at (index_own iid links h l b) in omega arith)

  none_marked : (i : ℕ) (u v : Bool) (l : ℕ) → v ≡ false → (u || (leb i l && ltb l 0)) ≡ (u || v)
  none_marked i u v l e = rw (le-ltb l 0 (omega arith), e, never (leb i l))
    where
      never : (w : Bool) → (w && false) ≡ false
      never true = refl
      never false = refl

  pub found_adds : {until next : List ℕ} {past : ℕ} (known : Bool) (l : ℕ) → IndexIs iid links x (then_some known l) → past ≡ cond known (l + 1) 0 → Marked until l past next → Adds until iid links (is_from x x) next
  found_adds true l s p m =
      let z : number_at iid l ≡ x = rw s.0 (index_is iid links x (rw s.0 at s.1)) in
      range_adds iid links x x h (rank_here iid links h x l s.1 z) (p ∙ rank_next iid links h x l s.1 z) m
  found_adds {until} false i s p m =
      record { long = m.long; at = λ l b. m.at l ∙ rw p (none_marked i (covered until l) (is_from x x (number_at iid l)) l (unknown s l b)) }

-- a range names the numbers from start to stop
range_names : (start stop x : ℕ) → is_from start stop x ≡ some_in (eqb x) start stop
unfolding some_in
range_names start stop x =
    same_truth (leb start x && leb x stop) (any_below hits (stop + 1 - start))
    (λ h.
    let p = from_low start stop x h in
    let q = from_high start stop x h in
    any_in hits (stop + 1 - start) (x - start) (omega arith) (eq-eqb x (start + (x - start)) (omega arith)))
    (λ h.
    let y = any_at hits (stop + 1 - start) h in
    let e : x ≡ start + y.0 = eqb-true x (start + y.0) y.2 in
    and_both (leb start x) (leb x stop) (le-leb start x (omega arith)) (le-leb x stop (omega (arith, y.1))))
  where
    hits : ℕ → Bool
    hits i = eqb x (start + i)

-- the entries of a value before i
abbrev pub entries_name : Bool → List ℕ → ℕ → ℕ → Bool
entries_name pairs value i x = any_below (some_entry (eqb x) pairs value) i

entries_none : {until iid : List ℕ} {links : ℕ} (pairs : Bool) (value : List ℕ) → Adds until iid links (entries_name pairs value 0) until
entries_none {iid = iid} pairs value = adds_none _ (λ l b. any_none (some_entry (eqb (number_at iid l)) pairs value))

entries_more : {until next last iid : List ℕ} {links start stop : ℕ} (pairs : Bool) (value : List ℕ) (i : ℕ) → start ≡ start_at pairs value i → stop ≡ stop_at pairs value i
    → Adds until iid links (entries_name pairs value i) next → Adds next iid links (is_from start stop) last → Adds until iid links (entries_name pairs value (i + 1)) last
unfolding some_entry
entries_more {start = start} {stop = stop} pairs value i p q a c =
    adds_as (λ x. rw (any_more (some_entry (eqb x) pairs value) i, range_names start stop x, p, q)) (adds_then a c)

entries_end : {until next iid : List ℕ} {links : ℕ} (pairs : Bool) (value : List ℕ) (i : ℕ) → i ≡ entries pairs value → Adds until iid links (entries_name pairs value i) next → Adds until iid links (λ x. some_of (eqb x) pairs value) next
unfolding some_of
entries_end pairs value i e a = rw e at a

-- what a loop over the n entries keeps: those before i are marked
pub record Passed (pairs : Bool) (until value iid : List ℕ) (links n i : ℕ) (next : List ℕ) : Type 0 where
  pub adds : Adds until iid links (entries_name pairs value i) next
  pub all : n ≡ entries pairs value
  pub within : i ≤ n
  pub long : length next ≡ 128

module _ {pairs : Bool} {until value iid : List ℕ} {links n : ℕ} where
  pub passed_none : n ≡ entries pairs value → length until ≡ 128 → Passed pairs until value iid links n 0 until
  passed_none e h = record { adds = entries_none pairs value; all = e; within = omega arith; long = h }

  pub passed_more : {i start stop : ℕ} {next last : List ℕ} → Passed pairs until value iid links n i next → i < n → start ≡ start_at pairs value i → stop ≡ stop_at pairs value i
      → Adds next iid links (is_from start stop) last → Passed pairs until value iid links n (i + 1) last
  passed_more {i} w b p q a = record { adds = entries_more pairs value i p q w.adds a; all = w.all; within = omega arith; long = a.long ∙ w.long }

  pub passed_end : {i : ℕ} {next : List ℕ} → Passed pairs until value iid links n i next → n ≤ i → Adds until iid links (λ x. some_of (eqb x) pairs value) next
  passed_end {i} w b = entries_end pairs value i (omega (arith, w.all, w.within)) w.adds

-- a single identifier is a range from itself to itself
ids_stop : (value : List ℕ) (i : ℕ) → start_at false value i ≡ stop_at false value i
unfolding start_at stop_at
ids_stop value i = let e : 4 * i ≡ 4 * i + (4 - 4) = omega arith in ap (be 4 value) e

pub passed_id : {until value iid next last : List ℕ} {links n i x : ℕ} → Passed false until value iid links n i next → i < n → x ≡ start_at false value i
    → Adds next iid links (is_from x x) last → Passed false until value iid links n (i + 1) last
passed_id {value = value} {i = i} w b p a = passed_more w b p (p ∙ ids_stop value i) a

-- a parameter names by its tag
abbrev pub par_names : ℕ → List ℕ → ℕ → Bool
par_names tag body x = is_ids tag && some_of (eqb x) (eqb tag 0x8) body

module _ {until next iid : List ℕ} {links : ℕ} (tag : ℕ) (body : List ℕ) where
  pub par_ids : tag ≡ 1 → Adds until iid links (λ x. some_of (eqb x) false body) next → Adds until iid links (par_names tag body) next
  par_ids e a = rw e a

  pub par_ranges : tag ≡ 8 → Adds until iid links (λ x. some_of (eqb x) true body) next → Adds until iid links (par_names tag body) next
  par_ranges e a = rw e a

pub par_other : {until iid : List ℕ} {links : ℕ} (tag : ℕ) (body : List ℕ) → (tag ≡ 1 → ⊥) → (tag ≡ 8 → ⊥) → Adds until iid links (par_names tag body) until
par_other tag body p q = adds_none _ (λ l b. rw (ne_eqb tag 1 p, ne_eqb tag 8 q))

-- ---- a message: what is named so far, with the parameters to come, is what all of them name
pub record Rest (until iid : List ℕ) (links : ℕ) (rest all : List Par) : Type 0 where
  pub long : length until ≡ 128
  pub at : (l : ℕ) → l < links → (covered until l || names_some (eqb (number_at iid l)) rest) ≡ names_some (eqb (number_at iid l)) all

covered_none : (n l : ℕ) → l < n → covered (replicate n 0) l ≡ false
unfolding covered
covered_none n l b =
    false_of (any_below marks (l + 1))
    (λ h. let x = any_at marks (l + 1) h in omega (arith, x.1, get_or-replicate {A = ℕ} n x.0 0 0 (omega (arith, x.1)), ltb-true l (number_at (replicate n 0) x.0) x.2))
  where
    marks : ℕ → Bool
    marks k = ltb l (number_at (replicate n 0) k)

pub rest_all : (iid : List ℕ) (links : ℕ) (all : List Par) → links ≤ 128 → Rest (replicate 128 0) iid links all all
rest_all iid links all h = record { long = refl; at = λ l b. rw (covered_none 128 l (omega arith)) }

pub rest_next : {until next iid : List ℕ} {links : ℕ} (x : Par) (rest all : List Par) → Rest until iid links (x ∷ rest) all → Adds until iid links (par_names x.tag x.body) next → Rest next iid links rest all
unfolding names_some
rest_next {until} {next} {iid} {links} x rest all r a =
    record {
      long = a.long ∙ r.long;
      at = λ l b. rw (a.at l b) (or_assoc (covered until l) (par_names x.tag x.body (number_at iid l)) (names_some (eqb (number_at iid l)) rest)) ∙ r.at l b;
    }

pub rest_end : {until iid : List ℕ} {links : ℕ} (all : List Par) → Rest until iid links [] all → Covered until iid links (λ x. names_some (eqb x) all)
unfolding names_some
rest_end {until} all r = record { at = λ l b. sym (or-false (covered until l)) ∙ r.at l b }

-- ---- the sweep: a number is below where it has come to just where it is below one of the marks passed

pub record Swept (until : List ℕ) (l past : ℕ) : Type 0 where
  pub at : (m : ℕ) → ltb m past ≡ any_below (λ k. ltb m (number_at until k)) l

pub swept_none : (until : List ℕ) → Swept until 0 0
swept_none until = record { at = λ m. le-ltb m 0 (omega arith) ∙ sym (any_none _) }

pub swept_more : {until : List ℕ} {l past next : ℕ} → Swept until l past → next ≡ max past (number_at until l) → Swept until (l + 1) next
swept_more {until} {l} {past} s e = record { at = λ m. ap (ltb m) e ∙ below_later past (number_at until l) m ∙ rw (any_more (λ k. ltb m (number_at until k)) l, s.at m) }

swept_covered : {until : List ℕ} {past : ℕ} (l : ℕ) → Swept until (l + 1) past → ltb l past ≡ covered until l
unfolding covered
swept_covered l s = s.at l

-- the places passed hold whether they are good
pub record GoodsTo (until owner : List ℕ) (mine : List Bool) (old : List ℕ) (l : ℕ) (r : List ℕ) : Type 0 where
  pub half : HalfCol (λ k. one (covered until k && flag_at mine (number_at owner k))) (number_at old) 128 l r

pub goods_none : (until owner : List ℕ) (mine : List Bool) → GoodsTo until owner mine (replicate 128 0) 0 (replicate 128 0)
goods_none until owner mine = record { half = half_none _ _ _ refl }

module _ {until owner old r : List ℕ} {mine : List Bool} where
  pub goods_more : {past : ℕ} (l v : ℕ) → GoodsTo until owner mine old l r → l < 128 → Swept until (l + 1) past → v ≡ one (ltb l past && flag_at mine (number_at owner l)) → GoodsTo until owner mine old (l + 1) (set r l v)
  goods_more l v h b s e = record { half = half_more v h.half b (e ∙ ap (λ u. one (u && flag_at mine (number_at owner l))) (swept_covered l s)) }

  pub goods_end : {iid : List ℕ} {links l : ℕ} {ps : List Par} → GoodsTo until owner mine old l r → links ≤ l → Covered until iid links (λ x. names_some (eqb x) ps) → GoodColumn iid owner links mine ps r
  goods_end h b c = record { at = λ k q. h.half.new k (omega arith) ∙ ap (λ u. one (u && flag_at mine (number_at owner k))) (c.at k q) }
