-- Every change of an AS leaves a sound state sound.
-- Assumes nothing.
use Rattle.std.specs.Prelude.{ℕ, ◌<◌, ◌≡◌, refl, Bool, false, ◌&&◌, cond, List}
use Rattle.std.proofs.Common.{◌∙◌, arith}
use Rattle.std.proofs.Math.Path.{sym}
use Rattle.std.proofs.Math.Bool.{true}
use Rattle.std.proofs.lemmas.Bool.{false≢true}
use Rattle.std.proofs.Math.Dec.{ltb}
use borrow.Author.Tests.{eqb-true, lt-ltb}
use Rattle.laws.specs.Below.{one, all_below}
use Rattle.laws.specs.Inner.Below.{all_of}
use Rattle.laws.specs.Columns.{flag_at, is_set, number_at}
use Rattle.laws.specs.Inner.Every.{and_left, and_right, and_both}
use Rattle.state_tables.specs.declared.Gateway.{Gateway}
use Rattle.state_tables.specs.Sound.{pair, blank_from, differs, sound_column, sound_asps, sound_as, sound_ases, sound_columns, is_sound}
use Rattle.state_tables.specs.Inner.Column.{fits_inside, fits_zero, column_turned}
use Rattle.state_tables.specs.Inner.Laws.{parts, whole, server, counts_within, member_within}
use Rattle.rules_server.specs.declared.AsRecord.{AsRecord}
use Rattle.rules_server.specs.declared.Change.{Change}
use Rattle.rules_server.specs.declared.Change.TheVariants.{AspUp, AspDown, Deactivate, Activate, Recover}
use Rattle.rules_server.specs.Record.{record_from, record_of}
use Rattle.rules_server.specs.Change.{after}
use Rattle.rules_servers.specs.Changed.{column_of, up_after, with_change}
use Rattle.rules_servers.specs.Inner.Records.{moves, NamesOwn, names_own, record_change, active_at_lem, waiting_at_lem, flag_at_lem, column_at, ups_at}
use Rattle.rules_keeps.specs.Inner.Good.{Good, Allowed, after_good}
use Rattle.rules_keeps.specs.Inner.Units.{units_changed}
use Rattle.rules_keeps.specs.Inner.Keeps.{InPlan, Sound, sound, tested}

one_plain : (t : Bool) → one t < 2
one_plain true = omega arith
one_plain false = omega arith

-- ---- the whole state

still_plain : (t : Bool) (x y : ℕ) → x < 2 → y < 2 → cond t x y < 2
still_plain true x y l m = l
still_plain false x y l m = m

still_good : (t : Bool) (inside : Bool) (x y : AsRecord) → (t ≡ true → Good inside x) → Good inside y → Good inside (cond t x y)
still_good true inside x y f h = f refl
still_good false inside x y f h = h

ups_kept : (k : Change) (up : List ℕ) (asps : ℕ) → InPlan asps k → sound_column up 2 asps 16 ≡ true → sound_column (up_after k up) 2 asps 16 ≡ true
ups_kept (AspUp p) up asps i h = column_turned up 2 asps 16 h (up_after (AspUp p) up) p 1 (flag_at_lem up p 1) (fits_inside 2 asps p 1 i (omega arith))
ups_kept (AspDown p) up asps i h = column_turned up 2 asps 16 h (up_after (AspDown p) up) p 0 (flag_at_lem up p 0) (fits_zero 2 asps p (omega arith))
ups_kept (Deactivate p) up asps i h = h
ups_kept (Activate p) up asps i h = h
ups_kept Recover up asps i h = h

module _ (g : Gateway) (k : Change) (named : List Bool) (h : is_sound g ≡ true) (own : NamesOwn k g.member named) (i : InPlan g.asps k) (allowed : (a : ℕ) → a < 16 → flag_at named a ≡ true → Allowed (ltb a g.ases) k (record_of g a)) where
  in_as : (a : ℕ) → a < 16 → Sound g.up g.member g.active g.mode g.waiting g.asps g.ases a
  in_as a b = sound g.up g.member g.active g.mode g.waiting g.asps g.ases a (server g h a b)

  record_kept : (a : ℕ) → a < 16 → record_from (up_after k g.up) g.member (with_change g k named).active (with_change g k named).waiting g.mode a ≡ cond (flag_at named a) (after k (record_of g a)) (record_of g a)
  unfolding with_change
  record_kept a b = record_change g k named own a b

  -- the state after it, AS by AS
  after_as : (a : ℕ) → a < 16 → Sound (up_after k g.up) g.member (with_change g k named).active g.mode (with_change g k named).waiting g.asps g.ases a
  after_as a b =
      record {
        members = (in_as a b).members;
        traffic = (in_as a b).traffic;
        flags = λ q z. rw (active_at_lem g k named a q b z) (still_plain (flag_at named a) (one (flag_at (after k (record_of g a)).acts q)) (number_at g.active (pair a q)) (one_plain (flag_at (after k (record_of g a)).acts q)) ((in_as a b).flags q z));
        mark = rw (waiting_at_lem g k named a b) (still_plain (flag_at named a) (one (after k (record_of g a)).waiting) (number_at g.waiting a) (one_plain (after k (record_of g a)).waiting) (in_as a b).mark);
        kept = rw (record_kept a b) (still_good (flag_at named a) (ltb a g.ases) (after k (record_of g a)) (record_of g a) (λ e. after_good (ltb a g.ases) (record_of g a) (in_as a b).kept k (allowed a b e)) (in_as a b).kept);
      }

  asps_kept : sound_asps g.aspid (up_after k g.up) g.asps ≡ true
  unfolding sound_asps
  asps_kept =
      let d = all_below (differs g.aspid) g.asps && blank_from g.aspid g.asps 16 in
      let u = sound_column g.up 2 g.asps 16 in
      let e = (parts g h).in_asps in
      and_both d _ (and_left d u e) (ups_kept k g.up g.asps i (and_right d u e))

  pub keeps : is_sound (with_change g k named) ≡ true
  unfolding with_change sound_ases sound_columns
  keeps =
      whole (with_change g k named) (parts g h).counted asps_kept
      (all_of (sound_as (up_after k g.up) g.member (with_change g k named).active g.mode (with_change g k named).waiting g.asps g.ases) 16
      (λ a b. tested (up_after k g.up) g.member (with_change g k named).active g.mode (with_change g k named).waiting g.asps g.ases a (after_as a b)))
      (parts g h).in_links (parts g h).in_columns
      (units_changed g k named (parts g h).in_units)

-- ---- kind by kind

module _ (g : Gateway) (h : is_sound g ≡ true) where
  nothing_moves : (k : Change) (named : List Bool) → ((q : ℕ) → moves k q ≡ false) → NamesOwn k g.member named
  nothing_moves k named n q a m b = absurd (false≢true (sym (n q) ∙ m))

  member_known : (p a : ℕ) → a < 16 → p < 16 → is_set g.member (pair a p) ≡ true → ltb a g.ases ≡ true
  member_known p a b c e = lt-ltb a g.ases (member_within g h a p b c e).1

  pub keeps_up : (p : ℕ) → p < g.asps → is_sound (with_change g (AspUp p) (column_of g.member p)) ≡ true
  keeps_up p l =
      keeps g (AspUp p) (column_of g.member p) h (names_own (AspUp p) g.member p (λ q m. eqb-true q p m)) l
      (λ a b e. member_known p a b (omega (arith, (counts_within g h).asps)) (sym (column_at g.member p a b) ∙ e))

  pub keeps_down : (p : ℕ) → is_sound (with_change g (AspDown p) (column_of g.member p)) ≡ true
  keeps_down p = keeps g (AspDown p) (column_of g.member p) h (names_own (AspDown p) g.member p (λ q m. eqb-true q p m)) tt (λ a b e. tt)

  pub keeps_deactivate : (p : ℕ) (named : List Bool) → is_sound (with_change g (Deactivate p) named) ≡ true
  keeps_deactivate p named = keeps g (Deactivate p) named h (nothing_moves (Deactivate p) named (λ q. refl)) tt (λ a b e. tt)

  pub keeps_activate : (p : ℕ) (named : List Bool) → p < g.asps → is_set g.up p ≡ true → ((a : ℕ) → a < 16 → flag_at named a ≡ true → is_set g.member (pair a p) ≡ true) → is_sound (with_change g (Activate p) named) ≡ true
  unfolding record_from
  keeps_activate p named l u m =
      keeps g (Activate p) named h (nothing_moves (Activate p) named (λ q. refl)) tt
      (λ a b e. ups_at g.up g.member a p (omega (arith, (counts_within g h).asps)) ∙ rw (m a b e, u))

  pub keeps_recover : (named : List Bool) → is_sound (with_change g Recover named) ≡ true
  keeps_recover named = keeps g Recover named h (nothing_moves Recover named (λ q. refl)) tt (λ a b e. tt)
