-- Every change leaves a sound state sound.
-- Assumes nothing.
use Rattle.std.specs.Prelude.{ℕ, zero, suc, ◌<◌, ◌≡◌, refl, Bool, false, ◌||◌, ◌&&◌, not, List, leb, set}
use Rattle.std.proofs.Common.{◌∙◌, arith}
use Rattle.std.proofs.Math.Path.{sym}
use Rattle.std.proofs.Math.Bool.{true}
use Rattle.std.proofs.lemmas.Bool.{false≢true}
use Rattle.std.proofs.Math.Dec.{eqb, ltb}
use borrow.Author.Tests.{eq-eqb, ne_eqb, eqb-true, leb-true, le-leb}
use Rattle.laws.specs.Below.{any_below, count_below}
use Rattle.laws.specs.Inner.Below.{all_at, all_of, any_not}
use Rattle.laws.specs.Columns.{flag_at, is_set, number_at}
use Rattle.laws.specs.Inner.Columns.{get_d_tabulate}
use Rattle.laws.specs.Inner.Every.{and_left, and_right, and_both, count_not}
use Rattle.laws.specs.Inner.Count.{count_ext, count_some}
use Rattle.state_tables.specs.declared.Gateway.{Gateway}
use Rattle.state_tables.specs.Sound.{pair, flag_if, member_at, active_at, sound_row, active_in, mode_at, waiting_at, override_at, sound_as, sound_links, sound_columns, is_sound}
use Rattle.state_tables.specs.Inner.Column.{column_set}
use Rattle.state_tables.specs.Inner.Laws.{parts, whole, Server, links_parts, flag_set}
use Rattle.rules_server.specs.declared.Change.{Change}
use Rattle.rules_server.specs.declared.Change.TheVariants.{AspUp, AspDown, Deactivate, Activate, Recover}
use Rattle.rules_server.specs.declared.Arrival.{Arrival}
use Rattle.rules_server.specs.Record.{row, record_from, some}
use Rattle.rules_servers.specs.Changed.{with_link, with_unit}
use Rattle.rules_servers.specs.Inner.Records.{ups_at}
use Rattle.rules_keeps.specs.Inner.Good.{Good}
use Rattle.rules_keeps.specs.Inner.Units.{UnitOf, sizes, units_joined, joined_with, sized_with}

-- ---- flags

flag_plain : (x : ℕ) (b : Bool) → flag_if x b ≡ true → x < 2
flag_plain zero b h = omega arith
flag_plain (suc zero) b h = omega arith
flag_plain (suc (suc x)) b h =
    absurd (false≢true (rw (ne_eqb (suc (suc x)) 0 (λ z. omega arith), ne_eqb (suc (suc x)) 1 (λ z. omega arith)) at h))

flag_back : (x : ℕ) (b : Bool) → x < 2 → (eqb x 1 ≡ true → b ≡ true) → flag_if x b ≡ true
flag_back zero b l h = refl
flag_back (suc zero) b l h = h refl
flag_back (suc (suc x)) b l h = let z : ⊥ = omega arith in absurd z

-- ---- an AS, in words and as tested

-- what the test of AS a says: its row of members and its mode, that its flags are flags, and its record
pub record Sound (up member active mode waiting : List ℕ) (asps ases a : ℕ) : Type 0 where
  pub members : (q : ℕ) → q < 16 → member_at member asps ases a q ≡ true
  pub traffic : mode_at (number_at mode a) (ltb a ases) ≡ true
  pub flags : (q : ℕ) → q < 16 → number_at active (pair a q) < 2
  pub mark : number_at waiting a < 2
  pub kept : Good (ltb a ases) (record_from up member active waiting mode a)

row_at_lem : (c : List ℕ) (a q : ℕ) → q < 16 → flag_at (row c a) q ≡ is_set c (pair a q)
unfolding row
row_at_lem c a q b = get_d_tabulate 16 (λ q. is_set c (pair a q)) q false b

row_count : (c : List ℕ) (a : ℕ) → count_below (flag_at (row c a)) 16 ≡ active_in c a
unfolding active_in
row_count c a = count_ext (flag_at (row c a)) (λ q. is_set c (pair a q)) 16 (row_at_lem c a)

none_some : (x : List Bool) → count_below (flag_at x) 16 ≡ 0 → some x ≡ false
unfolding some
none_some x h = go (any_below (flag_at x) 16) refl
  where
    go : (u : Bool) → any_below (flag_at x) 16 ≡ u → u ≡ false
    go true e = let z : ⊥ = omega (arith, count_some (flag_at x) 16 e) in absurd z
    go false e = refl

some_none : (x : List Bool) → some x ≡ false → count_below (flag_at x) 16 ≡ 0
unfolding some
some_none x h = count_not (flag_at x) 16 (any_not (flag_at x) 16 h)

implied : (u v : Bool) → (not u || v) ≡ true → u ≡ true → v ≡ true
implied true v h e = h
implied false v h e = absurd (false≢true e)

implies : (u v : Bool) → (u ≡ true → v ≡ true) → (not u || v) ≡ true
implies true v h = h refl
implies false v h = refl

module _ (up member active mode waiting : List ℕ) (asps ases a : ℕ) where
  member_in : (q : ℕ) → member_at member asps ases a q ≡ true → is_set member (pair a q) ≡ true → ltb a ases ≡ true
  unfolding member_at
  member_in q h e = and_right (ltb q asps) (ltb a ases) (flag_set (number_at member (pair a q)) (ltb q asps && ltb a ases) h e)

  pub sound : Server up member active mode waiting asps ases a → Sound up member active mode waiting asps ases a
  unfolding sound_row active_at waiting_at override_at record_from
  sound s =
      record {
        members = mem;
        traffic = s.traffic;
        flags = λ q b. flag_plain (number_at active (pair a q)) (is_set member (pair a q) && is_set up q) (act q b);
        mark = flag_plain (number_at waiting a) (ltb a ases && eqb (active_in active a) 0) s.idle;
        kept =
            record {
              placed = λ q b e. member_in q (mem q b) (and_left (is_set member (pair a q)) (is_set up q) (sym (ups_at up member a q b) ∙ e));
              lives = λ q b e. ups_at up member a q b ∙ flag_set (number_at active (pair a q)) (is_set member (pair a q) && is_set up q) (act q b) (sym (row_at_lem active a q b) ∙ e);
              alone = λ m. omega (arith, row_count active a, leb-true (active_in active a) 1 (implied (eqb (number_at mode a) 1) (leb (active_in active a) 1) s.alone m));
              rests = λ w. none_some (row active a) (row_count active a ∙ eqb-true (active_in active a) 0 (and_right (ltb a ases) (eqb (active_in active a) 0) (rest w)));
              noted = λ w. and_left (ltb a ases) (eqb (active_in active a) 0) (rest w);
            };
      }
    where
      both : (q : ℕ) → q < 16 → (member_at member asps ases a q && flag_if (number_at active (pair a q)) (is_set member (pair a q) && is_set up q)) ≡ true
      both = all_at (λ q. member_at member asps ases a q && flag_if (number_at active (pair a q)) (is_set member (pair a q) && is_set up q)) 16 s.row

      mem : (q : ℕ) → q < 16 → member_at member asps ases a q ≡ true
      mem q b = and_left (member_at member asps ases a q) (flag_if (number_at active (pair a q)) (is_set member (pair a q) && is_set up q)) (both q b)

      act : (q : ℕ) → q < 16 → flag_if (number_at active (pair a q)) (is_set member (pair a q) && is_set up q) ≡ true
      act q b = and_right (member_at member asps ases a q) (flag_if (number_at active (pair a q)) (is_set member (pair a q) && is_set up q)) (both q b)

      rest : is_set waiting a ≡ true → (ltb a ases && eqb (active_in active a) 0) ≡ true
      rest w = flag_set (number_at waiting a) (ltb a ases && eqb (active_in active a) 0) s.idle w

  pub tested : Sound up member active mode waiting asps ases a → sound_as up member active mode waiting asps ases a ≡ true
  unfolding sound_as sound_row active_at waiting_at override_at record_from
  tested s =
      and_both _ _
      (all_of (λ q. member_at member asps ases a q && flag_if (number_at active (pair a q)) (is_set member (pair a q) && is_set up q)) 16
      (λ q b. and_both _ _ (s.members q b)
      (flag_back (number_at active (pair a q)) (is_set member (pair a q) && is_set up q) (s.flags q b)
      (λ e. sym (ups_at up member a q b) ∙ s.kept.lives q b (row_at_lem active a q b ∙ e)))))
      (and_both _ _
      (and_both _ _ s.traffic
      (flag_back (number_at waiting a) (ltb a ases && eqb (active_in active a) 0) s.mark
      (λ w. and_both _ _ (s.kept.noted w) (eq-eqb (active_in active a) 0 (sym (row_count active a) ∙ some_none (row active a) (s.kept.rests w))))))
      (implies (eqb (number_at mode a) 1) (leb (active_in active a) 1) (λ m. le-leb (active_in active a) 1 (omega (arith, row_count active a, s.kept.alone m)))))

-- who is brought up is an ASP of the plan
abbrev pub InPlan : ℕ → Change → Type 0
InPlan asps (AspUp p) = p < asps
InPlan asps (AspDown p) = Unit {0}
InPlan asps (Deactivate p) = Unit {0}
InPlan asps (Activate p) = Unit {0}
InPlan asps Recover = Unit {0}

-- ---- a link's state

links_kept : (iid owner state : List ℕ) (ases links l v : ℕ) → l < links → v < 4 → sound_links iid owner state ases links ≡ true → sound_links iid owner (set state l v) ases links ≡ true
unfolding sound_links
links_kept iid owner state ases links l v b w h =
    let x = links_parts iid owner state ases links h in
    and_both _ _ (and_both _ _ x.order x.blank_ids) (and_both _ _ x.owned (column_set state 4 links 128 x.known l v b w))

pub keeps_link : (g : Gateway) (l v : ℕ) → is_sound g ≡ true → l < g.links → v < 4 → is_sound (with_link g l v) ≡ true
unfolding sound_columns
keeps_link g l v h b w = whole (with_link g l v) (parts g h).counted (parts g h).in_asps (parts g h).in_ases (links_kept g.iid g.owner g.state g.ases g.links l v b w (parts g h).in_links) (parts g h).in_columns (parts g h).in_units

-- ---- a unit more

pub keeps_unit : (g : Gateway) (a : ℕ) (x : Arrival) → is_sound g ≡ true → a < 16 → is_set g.waiting a ≡ true → number_at g.held.count a < 8 → UnitOf g.iid g.owner g.links a x → is_sound (with_unit g a x) ≡ true
unfolding sound_columns
keeps_unit g a x h b w room good =
    let z = parts g h in
    let s = sizes g.held g.waiting g.iid g.owner g.links z.in_units in
    whole (with_unit g a x) z.counted z.in_asps z.in_ases z.in_links z.in_columns
    (units_joined g.held (with_unit g a x).held g.waiting g.iid g.owner g.links a x b w room good (joined_with g.held a x s b room) (sized_with g.held a x s) z.in_units)
