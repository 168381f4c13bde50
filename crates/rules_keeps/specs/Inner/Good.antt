-- What a sound state says of the record of an AS, and that each change keeps it.
-- Assumes nothing.
use Rattle.std.specs.Prelude.{ℕ, ◌≤◌, ◌<◌, ◌≡◌, Bool, true, false, ◌||◌, ◌&&◌, not, List, eqb, ltb}
use Rattle.std.proofs.Common.{ap, ◌∙◌, sym, arith}
use Rattle.std.proofs.lemmas.Bool.{false≢true}
use borrow.Author.Tests.{eqb-true, not-true}
use Rattle.laws.specs.Below.{one, count_below}
use Rattle.laws.specs.Columns.{flag_at}
use Rattle.laws.specs.Inner.Columns.{get_d_tabulate}
use Rattle.laws.specs.Inner.Every.{and_left, and_right, or_case}
use Rattle.laws.specs.Inner.Count.{count_single, count_fewer}
use Rattle.rules_server.specs.declared.AsRecord.{AsRecord}
use Rattle.rules_server.specs.declared.Change.{Change}
use Rattle.rules_server.specs.declared.Change.TheVariants.{AspUp, AspDown, Deactivate, Activate, Recover}
use Rattle.rules_server.specs.Record.{some}
use Rattle.rules_server.specs.Change.{without, joined, activated, record_with, after}
use Rattle.rules_server.specs.Inner.Change.{some_some}

-- Rules 5.8, 5.9, 5.11 and 5.12 of a record; `inside` is whether the AS is one of the plan
pub record Good (inside : Bool) (s : AsRecord) : Type 0 where
  pub placed : (q : ℕ) → q < 16 → flag_at s.ups q ≡ true → inside ≡ true
  pub lives : (q : ℕ) → q < 16 → flag_at s.acts q ≡ true → flag_at s.ups q ≡ true
  pub alone : eqb s.mode 1 ≡ true → count_below (flag_at s.acts) 16 ≤ 1
  pub rests : s.waiting ≡ true → some s.acts ≡ false
  pub noted : s.waiting ≡ true → inside ≡ true

-- what an event makes sure of in an AS that it names
abbrev pub Allowed : Bool → Change → AsRecord → Type 0
Allowed inside (AspUp p) s = inside ≡ true
Allowed inside (AspDown p) s = Unit {0}
Allowed inside (Deactivate p) s = Unit {0}
Allowed inside (Activate p) s = flag_at s.ups p ≡ true
Allowed inside Recover s = Unit {0}

-- ---- the flags of a changed row

at_without : (x : List Bool) (p q : ℕ) → q < 16 → flag_at (without x p) q ≡ (flag_at x q && not (eqb q p))
unfolding without
at_without x p q b = get_d_tabulate 16 (λ q. flag_at x q && not (eqb q p)) q false b

at_joined : (x : List Bool) (p q : ℕ) → q < 16 → flag_at (joined x p) q ≡ (flag_at x q || eqb q p)
unfolding joined
at_joined x p q b = get_d_tabulate 16 (λ q. flag_at x q || eqb q p) q false b

at_turned : (x : List Bool) (mode p q : ℕ) → q < 16 → flag_at (activated x mode p) q ≡ ((flag_at x q && not (eqb mode 1)) || eqb q p)
unfolding activated
at_turned x mode p q b = get_d_tabulate 16 (λ q. (flag_at x q && not (eqb mode 1)) || eqb q p) q false b

one_most : (t : Bool) → one t ≤ 1
one_most true = omega arith
one_most false = omega arith

-- ---- each change keeps the record good

module _ (inside : Bool) (s : AsRecord) (g : Good inside s) where
  settled : (ups acts : List Bool) → ((q : ℕ) → q < 16 → flag_at ups q ≡ true → inside ≡ true) → ((q : ℕ) → q < 16 → flag_at acts q ≡ true → flag_at ups q ≡ true) → (eqb s.mode 1 ≡ true → count_below (flag_at acts) 16 ≤ 1) → Good inside (record_with s ups acts)
  unfolding record_with
  settled ups acts p l o =
      record {
        placed = p;
        lives = l;
        alone = o;
        rests = λ w. not-true (some acts) (and_left (not (some acts)) (some s.acts || s.waiting) w);
        noted = λ w.
            or_case (some s.acts) s.waiting (and_right (not (some acts)) (some s.acts || s.waiting) w)
            (λ e. let x = some_some s.acts e in g.placed x.0 x.1 (g.lives x.0 x.1 x.2))
            g.noted;
      }

  -- p active no more
  fewer : (ups : List Bool) (p : ℕ) → ((q : ℕ) → q < 16 → flag_at ups q ≡ true → inside ≡ true) → ((q : ℕ) → q < 16 → eqb q p ≡ false → flag_at s.ups q ≡ true → flag_at ups q ≡ true) → Good inside (record_with s ups (without s.acts p))
  fewer ups p pl h =
      settled ups (without s.acts p) pl
      (λ q b e. h q b (not-true (eqb q p) (and_right (flag_at s.acts q) (not (eqb q p)) (left q b e))) (g.lives q b (and_left (flag_at s.acts q) (not (eqb q p)) (left q b e))))
      (λ m. omega (arith, g.alone m, count_fewer (flag_at (without s.acts p)) (flag_at s.acts) 16 (λ q b e. and_left (flag_at s.acts q) (not (eqb q p)) (left q b e))))
    where
      left : (q : ℕ) → q < 16 → flag_at (without s.acts p) q ≡ true → (flag_at s.acts q && not (eqb q p)) ≡ true
      left q b e = sym (at_without s.acts p q b) ∙ e

  -- p active, in override alone
  turned_good : (p : ℕ) → flag_at s.ups p ≡ true → Good inside (record_with s s.ups (activated s.acts s.mode p))
  turned_good p u =
      settled s.ups (activated s.acts s.mode p) g.placed
      (λ q b e. or_case (flag_at s.acts q && not (eqb s.mode 1)) (eqb q p) (left q b e) (λ x. g.lives q b (and_left (flag_at s.acts q) (not (eqb s.mode 1)) x)) (λ x. ap (flag_at s.ups) (eqb-true q p x) ∙ u))
      (λ m. omega (arith, count_fewer (flag_at (activated s.acts s.mode p)) (λ q. eqb q p) 16 (λ q b e. or_case (flag_at s.acts q && not (eqb s.mode 1)) (eqb q p) (left q b e) (λ x. absurd (false≢true (ap not (sym m) ∙ and_right (flag_at s.acts q) (not (eqb s.mode 1)) x))) (λ x. x)), count_single p 16, one_most (ltb p 16)))
    where
      left : (q : ℕ) → q < 16 → flag_at (activated s.acts s.mode p) q ≡ true → ((flag_at s.acts q && not (eqb s.mode 1)) || eqb q p) ≡ true
      left q b e = sym (at_turned s.acts s.mode p q b) ∙ e

  pub after_good : (k : Change) → Allowed inside k s → Good inside (after k s)
  after_good (AspUp p) i = fewer (joined s.ups p) p (λ q b e. i) (λ q b n u. at_joined s.ups p q b ∙ rw u)
  after_good (AspDown p) i =
      fewer (without s.ups p) p
      (λ q b e. g.placed q b (and_left (flag_at s.ups q) (not (eqb q p)) (sym (at_without s.ups p q b) ∙ e)))
      (λ q b n u. at_without s.ups p q b ∙ rw (u, n))
  after_good (Deactivate p) i = fewer s.ups p g.placed (λ q b n u. u)
  after_good (Activate p) i = turned_good p i
  after_good Recover i =
      record {
        placed = g.placed;
        lives = g.lives;
        alone = g.alone;
        rests = λ w. absurd (false≢true w);
        noted = λ w. absurd (false≢true w);
      }
