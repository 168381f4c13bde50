-- The ASes row by row: those of the plan are tested, and beyond them are zeros.
-- Assumes nothing.
use Rattle.std.specs.Prelude.{ℕ, zero, suc, ◌+◌, ◌*◌, ◌-◌, ◌/◌, ◌<◌, ◌≤◌, ◌≡◌, refl, Bool, ◌||◌, ◌&&◌, cond, not, List, leb, min}
use Rattle.std.proofs.Common.{◌∙◌, sym, arith}
use Rattle.std.proofs.Math.Bool.{true, false}
use Rattle.std.proofs.lemmas.Bool.{false≢true}
use Rattle.std.proofs.Math.Nat.{min-eq_left, min-eq_right}
use Rattle.std.proofs.Math.Decide.{dec_lt}
use Rattle.std.proofs.Math.Dec.{eqb, ltb}
use borrow.Author.Tests.{lt-ltb, le-ltb, ltb-true, ltb-false, eqb-true}
use Rattle.laws.specs.Below.{all_below, any_below, one}
use Rattle.laws.specs.Inner.Below.{all_at, all_of, all_not, all_more, count_small}
use Rattle.laws.specs.Inner.Columns.{HalfCol}
use Rattle.laws.specs.Columns.{number_at, is_set}
use Rattle.laws.specs.Inner.Every.{and_left, and_right, and_both, same_truth}
use Rattle.state_tables.specs.Sound.{pair, blank_from, flag_if, member_at, active_at, sound_row, active_in, mode_at, waiting_at, override_at, sound_as, sound_ases}
use Rattle.state_tables.specs.Inner.Laws.{as_parts}
use Rattle.state_tables.specs.Inner.Limits.{limit, places, place_at, limits_to, flags_of, limits_at, flags_at, flag_limit, flag_above, le_not, any_fails}

-- the smaller of two numbers
abbrev pub least : ℕ → ℕ → ℕ
least x y = cond (ltb x y) x y

-- the library's minimum is it
pub least_min : (x y : ℕ) → min x y ≡ least x y
least_min x y = go (dec_lt x y)
  where
    go : Dec (x < y) → min x y ≡ least x y
    go (yes z) = rw (lt-ltb x y z) (min-eq_left (omega arith))
    go (no z) = rw (le-ltb x y (omega arith)) (min-eq_right (omega arith))

abbrev pub pair_fails : List ℕ → List ℕ → List ℕ → List ℕ → ℕ → ℕ → Bool
pair_fails top up member active a q =
    leb (number_at top q) (number_at member (pair a q)) || ltb (least (number_at member (pair a q)) (number_at up q)) (number_at active (pair a q))

abbrev pub marks_at : List ℕ → List ℕ → List ℕ → ℕ → ℕ → Bool
marks_at count mode waiting ases a =
    (mode_at (number_at mode a) (ltb a ases) && waiting_at (number_at waiting a) (number_at count a) (ltb a ases)) && override_at (number_at mode a) (number_at count a)

-- the row of AS a has a pair that fails: a member at its limit or beyond, or one that is active and is not
-- both member and up
unfoldable pub row_fails : List ℕ → List ℕ → List ℕ → List ℕ → ℕ → Bool
row_fails top up member active a = any_below (pair_fails top up member active a) 16

-- mode and recovery time of the first places, where count says how many members are active
unfoldable pub sound_marks : List ℕ → List ℕ → List ℕ → ℕ → ℕ → Bool
sound_marks count mode waiting ases = all_below (marks_at count mode waiting ases)

-- ---- laws

and_none : (u : Bool) → (u && false) ≡ false
and_none true = refl
and_none false = refl

and_all : (u : Bool) → (u && true) ≡ u
and_all true = refl
and_all false = refl

-- of a row whose members are flags, whom its member and up flag let be active
both_flags : (m : ℕ) (u : Bool) → m ≤ 1 → least m (one u) ≡ one (eqb m 1 && u)
both_flags zero true b = refl
both_flags zero false b = refl
both_flags (suc zero) true b = refl
both_flags (suc zero) false b = refl
both_flags (suc (suc m)) u b = let z : ⊥ = omega arith in absurd z

-- one pair
pair_fails_lem : (m x : ℕ) (b u : Bool) → (leb (limit b 2) m || ltb (least m (one u)) x) ≡ not (flag_if m b && flag_if x (eqb m 1 && u))
pair_fails_lem m x b u = rw (le_not m (limit b 2), flag_limit m b) (go (flag_if m b) refl)
  where
    small : (b : Bool) → ltb m (limit b 2) ≡ true → m ≤ 1
    small true h = let z = ltb-true m 2 h in omega arith
    small false h = let z = ltb-true m 1 h in omega arith

    go : (t : Bool) → flag_if m b ≡ t → (not t || ltb (least m (one u)) x) ≡ not (t && flag_if x (eqb m 1 && u))
    go true e = rw (both_flags m u (small b (flag_limit m b ∙ e))) (flag_above x (eqb m 1 && u))
    go false e = refl

-- a row of the plan fails just where it is not sound
pub row_fails_lem : (up member active : List ℕ) (asps ases a : ℕ) → a < ases
    → row_fails (limits_to asps 2) (flags_of up) member active a ≡ not (sound_row up member active asps ases a)
unfolding row_fails sound_row member_at active_at
row_fails_lem up member active asps ases a b =
    any_fails (λ q. member_at member asps ases a q && active_at up member active a q) (pair_fails (limits_to asps 2) (flags_of up) member active a) 16
    (λ q d. rw (limits_at asps 2 q d, flags_at up q d, lt-ltb a ases b) (pair_fails_lem (number_at member (pair a q)) (number_at active (pair a q)) (ltb q asps) (is_set up q) ∙ rw (and_all (ltb q asps))))

-- what a row's count says: of a sound row how many are active, of another 17
pub row_said : (up member active top on : List ℕ) (asps ases a c : ℕ) → a < ases → top ≡ limits_to asps 2 → on ≡ flags_of up → c ≡ cond (row_fails top on member active a) 17 (active_in active a)
    → c ≡ cond (sound_row up member active asps ases a) (active_in active a) 17
row_said up member active top on asps ases a c b e f h = h ∙ rw (e, f, row_fails_lem up member active asps ases a b) (go (sound_row up member active asps ases a))
  where
    go : (t : Bool) → cond (not t) 17 (active_in active a) ≡ cond t (active_in active a) 17
    go true = refl
    go false = refl

pub row_over : (t : Bool) (n c : ℕ) → n ≤ 16 → c ≡ cond t n 17 → 16 < c → t ≡ false
row_over true n c b e h = let z : ⊥ = omega arith in absurd z
row_over false n c b e h = refl

pub row_under : (t : Bool) (n c : ℕ) → c ≡ cond t n 17 → c ≤ 16 → (t ≡ true) × (c ≡ n)
row_under true n c e h = (refl, e)
row_under false n c e h = let z : ⊥ = omega arith in absurd z

pub active_few : (active : List ℕ) (a : ℕ) → active_in active a ≤ 16
unfolding active_in
active_few active a = count_small (λ q. is_set active (pair a q)) 16

-- a turn over the marks
pub marks_turn : (place count mode waiting : List ℕ) (ases a : ℕ) (ok t w o : Bool) → a < 16 → place ≡ places → ok ≡ sound_marks count mode waiting ases a
    → t ≡ mode_at (number_at mode a) (ltb (number_at place a) ases) → w ≡ waiting_at (number_at waiting a) (number_at count a) (ltb (number_at place a) ases) → o ≡ override_at (number_at mode a) (number_at count a)
    → (ok && ((t && w) && o)) ≡ sound_marks count mode waiting ases (a + 1)
unfolding sound_marks
marks_turn place count mode waiting ases a ok t w o b p h e f g = rw (h, e, f, g, p, place_at a (omega arith)) (sym (all_more (marks_at count mode waiting ases) a))

-- the next of 16 places. (Said here, since a proof in the middle of a loop's body has too many facts to
-- choose from.)
pub next_fits : (q : ℕ) → q < 16 → q + 1 < 18446744073709551616
next_fits q b = omega arith

pub next_in : (q : ℕ) → q < 16 → q + 1 ≤ 16
next_in q b = omega arith

pub next_less : (q : ℕ) → q < 16 → 16 - (q + 1) < 16 - q
next_less q b = omega arith

-- the sum of a row of bytes so far, and with one more
pub sum_fits : (n q x : ℕ) → n ≤ q * 255 → q ≤ 16 → x ≤ 255 → n + x < 4294967296
sum_fits n q x a b d = omega arith

pub sum_next : (n q x : ℕ) → n ≤ q * 255 → x ≤ 255 → n + x ≤ (q + 1) * 255
sum_next n q x a d = omega arith

-- a turn over a row: so long as no pair fails, what is active is a flag, and the sum of the flags is their
-- count
pub row_turn : (t m u x n k : ℕ) (b : Bool) → u ≤ 1 → (b ≡ false → n ≡ k) → (b || (leb t m || ltb (least m u) x)) ≡ false → n + x ≡ k + one (eqb x 1)
row_turn t m u x n k true w e h = absurd (false≢true (sym h))
row_turn t m u x n k false w e h = rw (e refl) (go x (omega (arith, ltb-false (least m u) x (last (leb t m) h), low (dec_lt m u))))
  where
    last : (v : Bool) → (v || ltb (least m u) x) ≡ false → ltb (least m u) x ≡ false
    last true g = absurd (false≢true (sym g))
    last false g = g

    low : Dec (m < u) → least m u ≤ 1
    low (yes z) = rw (lt-ltb m u z) (omega arith)
    low (no z) = rw (le-ltb m u (omega arith)) w

    go : (x : ℕ) → x ≤ 1 → k + x ≡ k + one (eqb x 1)
    go zero l = refl
    go (suc zero) l = refl
    go (suc (suc x)) l = let z : ⊥ = omega arith in absurd z

blank_at_lem : (c : List ℕ) (n end : ℕ) → blank_from c n end ≡ true → (i : ℕ) → n ≤ i → i < end → eqb (number_at c i) 0 ≡ true
unfolding blank_from
blank_at_lem c n end h i b d = rw (le-ltb i n b) at (all_at (λ i. ltb i n || eqb (number_at c i) 0) end h i d)

blank_of : (c : List ℕ) (n end : ℕ) → ((i : ℕ) → n ≤ i → i < end → eqb (number_at c i) 0 ≡ true) → blank_from c n end ≡ true
unfolding blank_from
blank_of c n end f = all_of (λ i. ltb i n || eqb (number_at c i) 0) end (λ i b. go i b (dec_lt i n))
  where
    go : (i : ℕ) → i < end → Dec (i < n) → (ltb i n || eqb (number_at c i) 0) ≡ true
    go i b (yes z) = rw (lt-ltb i n z)
    go i b (no z) = rw (le-ltb i n (omega arith)) (f i (omega arith) b)

-- a flag that may not be set is 0
flag_none : (x : ℕ) (b : Bool) → b ≡ false → flag_if x b ≡ true → eqb x 0 ≡ true
flag_none x b e h = go (eqb x 0) (eqb x 1) (rw e at h)
  where
    go : (u v : Bool) → (u || (v && false)) ≡ true → u ≡ true
    go true v h = refl
    go false true h = absurd (false≢true h)
    go false false h = absurd (false≢true h)

at_pair : (c : List ℕ) (i : ℕ) → eqb (number_at c (pair (i / 16) (i - i / 16 * 16))) 0 ≡ true → eqb (number_at c i) 0 ≡ true
at_pair c i h = let e : i / 16 * 16 + (i - i / 16 * 16) ≡ i = omega arith in rw e at h

module _ (up member active mode waiting : List ℕ) (asps ases : ℕ) where
  abbrev sound : ℕ → Bool
  sound = sound_as up member active mode waiting asps ases

  -- what an AS beyond the plan's holds
  record Blank (a : ℕ) : Type 0 where
    nobody : (q : ℕ) → q < 16 → eqb (number_at member (pair a q)) 0 ≡ true
    idle : (q : ℕ) → q < 16 → eqb (number_at active (pair a q)) 0 ≡ true
    no_mode : eqb (number_at mode a) 0 ≡ true
    no_wait : eqb (number_at waiting a) 0 ≡ true

  beyond_sound : (a : ℕ) → ases ≤ a → Blank a → sound a ≡ true
  unfolding sound_as sound_row member_at active_at mode_at waiting_at override_at
  beyond_sound a b h =
      and_both _ _ (all_of _ 16 (λ q c. rw (h.nobody q c, h.idle q c)))
      (rw (le-ltb a ases b, h.no_wait, eqb-true (number_at mode a) 0 h.no_mode))

  beyond_blank : (a : ℕ) → ases ≤ a → sound a ≡ true → Blank a
  unfolding sound_row member_at active_at mode_at waiting_at
  beyond_blank a b h =
      let s = as_parts up member active mode waiting asps ases a h in
      let out : ltb a ases ≡ false = le-ltb a ases b in
      let both = all_at (λ q. member_at member asps ases a q && active_at up member active a q) 16 s.row in
      let none : (q : ℕ) → q < 16 → eqb (number_at member (pair a q)) 0 ≡ true = λ q c. flag_none (number_at member (pair a q)) (ltb q asps && ltb a ases) (rw out (and_none (ltb q asps))) (and_left (member_at member asps ases a q) (active_at up member active a q) (both q c)) in
      record {
        nobody = none;
        idle = λ q c. flag_none (number_at active (pair a q)) (is_set member (pair a q) && is_set up q) (rw (eqb-true (number_at member (pair a q)) 0 (none q c))) (and_right (member_at member asps ases a q) (active_at up member active a q) (both q c));
        no_mode = rw out at s.traffic;
        no_wait = flag_none (number_at waiting a) (ltb a ases && eqb (active_in active a) 0) (rw out) s.idle;
      }

  row_blank : all_below sound 16 ≡ true → (a : ℕ) → ases ≤ a → a < 16 → Blank a
  row_blank h a b c = beyond_blank a b (all_at sound 16 h a c)

  -- a row that is not sound
  pub rows_fail : (a : ℕ) → a < 16 → sound_row up member active asps ases a ≡ false → sound_ases up member active mode waiting asps ases ≡ false
  unfolding sound_ases sound_as
  rows_fail a b h = all_not sound 16 a b (rw h)

  module _ (count : List ℕ) (k : HalfCol (active_in active) (λ i. 0) 16 ases count) where
    abbrev marks : ℕ → Bool
    marks = marks_at count mode waiting ases

    abbrev row : ℕ → Bool
    row = sound_row up member active asps ases

    row_sound : all_below row ases ≡ true → blank_from member (ases * 16) 256 ≡ true → blank_from active (ases * 16) 256 ≡ true
        → (a : ℕ) → a < 16 → marks a ≡ true → Dec (a < ases) → sound a ≡ true
    unfolding sound_as mode_at waiting_at
    row_sound h m x a b s (yes z) = and_both (row a) _ (all_at row ases h a z) (rw (k.new a z) at s)
    row_sound h m x a b s (no z) =
        let out : ltb a ases ≡ false = le-ltb a ases (omega arith) in
        let t = mode_at (number_at mode a) (ltb a ases) in
        let w = waiting_at (number_at waiting a) (number_at count a) (ltb a ases) in
        let l = and_left (t && w) (override_at (number_at mode a) (number_at count a)) s in
        beyond_sound a (omega arith)
        (record {
          nobody = λ q c. blank_at_lem member (ases * 16) 256 m (pair a q) (omega arith) (omega arith);
          idle = λ q c. blank_at_lem active (ases * 16) 256 x (pair a q) (omega arith) (omega arith);
          no_mode = rw out at (and_left t w l);
          no_wait = flag_none (number_at waiting a) (ltb a ases && eqb (number_at count a) 0) (rw out) (and_right t w l);
        })

    marks_sound : (a : ℕ) → a < 16 → sound a ≡ true → Dec (a < ases) → marks a ≡ true
    unfolding sound_as mode_at waiting_at override_at
    marks_sound a b h (yes z) = rw (k.new a z) (and_right (row a) _ h)
    marks_sound a b h (no z) =
        let n = beyond_blank a (omega arith) h in
        rw (le-ltb a ases (omega arith), n.no_wait, eqb-true (number_at mode a) 0 n.no_mode)

    -- the rows of the plan's ASes, zeros beyond them, and the marks of all places are all ASes
    pub rows_whole : ases ≤ 16 → all_below row ases ≡ true
        → ((blank_from member (ases * 16) 256 && blank_from active (ases * 16) 256) && sound_marks count mode waiting ases 16)
        ≡ sound_ases up member active mode waiting asps ases
    unfolding sound_ases sound_marks
    rows_whole w r =
        let m = blank_from member (ases * 16) 256 in
        let x = blank_from active (ases * 16) 256 in
        same_truth ((m && x) && all_below marks 16) (all_below sound 16)
        (λ h.
        let l = and_left (m && x) (all_below marks 16) h in
        let n = and_right (m && x) (all_below marks 16) h in
        all_of sound 16 (λ a b. row_sound r (and_left m x l) (and_right m x l) a b (all_at marks 16 n a b) (dec_lt a ases)))
        (λ h.
        and_both (m && x) (all_below marks 16)
        (and_both m x
        (blank_of member (ases * 16) 256 (λ i b c. at_pair member i ((row_blank h (i / 16) (omega arith) (omega arith)).nobody (i - i / 16 * 16) (omega arith))))
        (blank_of active (ases * 16) 256 (λ i b c. at_pair active i ((row_blank h (i / 16) (omega arith) (omega arith)).idle (i - i / 16 * 16) (omega arith)))))
        (all_of marks 16 (λ a b. marks_sound a b (all_at sound 16 h a b) (dec_lt a ases))))
