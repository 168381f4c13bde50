-- A loaded plan gives a sound state.
-- Assumes nothing.
use Rattle.std.specs.Prelude.{ℕ, ◌+◌, ◌*◌, ◌-◌, ◌/◌, ◌%◌, ◌^◌, ◌<◌, ◌≤◌, ◌≡◌, Bool, ◌||◌, ◌&&◌, not, List, eqb, ltb, replicate}
use Rattle.std.proofs.Math.Path.{refl}
use Rattle.std.proofs.Common.{ap, ◌∙◌, sym, shr-shr, eqb-true, le-leb, lt-ltb, le-ltb}
use Rattle.std.proofs.Math.Bool.{true, false, cond}
use native.Mathlib.Omega.{arith}
use Rattle.std.proofs.Math.Decide.{dec_lt, ℕ_discrete}
use Rattle.std.proofs.Math.Dec.{leb}
use Rattle.std.proofs.lemmas.List.{get_or-replicate}
use Rattle.std.proofs.lemmas.Nat.{shr_le}
use Rattle.laws.specs.Inner.Below.{all_at, all_of}
use Rattle.laws.specs.Columns.{number_at}
use Rattle.laws.specs.Inner.Columns.{get_d_tabulate}
use Rattle.laws.specs.Inner.Every.{count_not, and_both}
use Rattle.state_tables.specs.Sound.{pair, counts_in, blank_from, flag_if, sound_asps, member_at, active_at, sound_row, active_in, mode_at, waiting_at, override_at, sound_as, sound_ases, sound_links, sound_kinds, sound_lists, sound_columns, is_sound}
use Rattle.state_tables.specs.Inner.Laws.{whole}
use Rattle.state_tables.specs.Inner.Column.{blank_at_lem, column_made, column_zeros}
use Rattle.state_tables.specs.Inner.Sound.{no_units_sound}
use Rattle.state_tables.specs.declared.Gateway.{Gateway}
use Rattle.state_plan.specs.Plan.{count, layout_ok, bit, bits_from, modes_ok, masks_ok, Tables, tables_of, rows_ok, members, fresh, refused, accepted, built, load_of, asp_ids, masks, lists, modes, link_ids, owners, kinds}
use Rattle.state_plan.specs.Inner.Laws.{Layout, layout, Rows, rows, column_blank}

zero_at : (n i : ℕ) → i < n → number_at (replicate n 0) i ≡ 0
zero_at n i b = get_or-replicate {A = ℕ} n i 0 0 b

-- the bits from a on are none if those from an earlier place are none
bits_none : (x m a : ℕ) → m ≤ a → bits_from x m ≡ 0 → bits_from x a ≡ 0
bits_none x m a h e =
    let z : m + (a - m) ≡ a = omega arith in
    let w : bits_from x a ≡ x / 2 ^ m / 2 ^ (a - m) = ap (λ (k : ℕ). x / 2 ^ k) (sym z) ∙ sym (shr-shr x m (a - m)) in
    omega (arith, w, shr_le (x / 2 ^ m) (a - m), e)

-- a number below 2 is a flag
small_flag : (x : ℕ) → x < 2 → flag_if x true ≡ true
small_flag x h = go (ℕ_discrete x 0)
  where
    go : Dec (x ≡ 0) → flag_if x true ≡ true
    go (yes z) = rw z
    go (no z) = let e : x ≡ 1 = omega arith in rw e

-- ---- table by table, for counts within limits, rows in order and zeros beyond them

module _ (t : Tables) (r : Rows t) where
  -- its parts, each by a short name
  abbrev n : ℕ
  n = t.asps

  abbrev m : ℕ
  m = t.ases

  abbrev k : ℕ
  k = t.links

  abbrev aspid : List ℕ
  aspid = t.aspid

  abbrev mask : List ℕ
  mask = t.mask

  abbrev mode : List ℕ
  mode = t.mode

  abbrev iid : List ℕ
  iid = t.iid

  abbrev owner : List ℕ
  owner = t.owner

  fresh_asps : blank_from aspid n 16 ≡ true → sound_asps aspid (replicate 16 0) n ≡ true
  unfolding sound_asps
  fresh_asps h = rw (r.differ, h) (column_zeros 2 n 16 (omega arith))

  -- a member is one of the plan's
  fresh_member : blank_from mask n 16 ≡ true → (a q : ℕ) → a < 16 → q < 16 → member_at (members mask) n m a q ≡ true
  unfolding member_at members masks_ok
  fresh_member h a q b d =
      let x : (a * 16 + q) / 16 ≡ a = omega arith in
      let y : (a * 16 + q) % 16 ≡ q = omega arith in
      let e : number_at (members mask) (pair a q) ≡ bit (number_at mask q) a = get_d_tabulate 256 (λ i. bit (number_at mask (i % 16)) (i / 16)) (a * 16 + q) 0 (omega arith) ∙ rw (x, y) in
      rw e (go (dec_lt q n) (dec_lt a m))
    where
      none : bit (number_at mask q) a ≡ 0 → (u : Bool) → flag_if (bit (number_at mask q) a) u ≡ true
      none z u = rw z

      go : Dec (q < n) → Dec (a < m) → flag_if (bit (number_at mask q) a) (ltb q n && ltb a m) ≡ true
      go (yes s) (yes t) = rw (lt-ltb q n s, lt-ltb a m t) (small_flag (bit (number_at mask q) a) (omega arith))
      go (yes s) (no t) =
          let z : bits_from (number_at mask q) m ≡ 0 = eqb-true (bits_from (number_at mask q) m) 0 (all_at (λ p. eqb (bits_from (number_at mask p) m) 0) n r.inside q s) in
          let w = bits_none (number_at mask q) m a (omega arith) z in
          none (omega (arith, w)) (ltb q n && ltb a m)
      go (no s) t =
          let z : number_at mask q ≡ 0 = blank_at_lem mask n 16 h q d (omega arith) in
          let w : bits_from (number_at mask q) a ≤ number_at mask q = shr_le (number_at mask q) a in
          none (omega (arith, w)) (ltb q n && ltb a m)

  fresh_row : blank_from mask n 16 ≡ true → (a : ℕ) → a < 16 → sound_row (replicate 16 0) (members mask) (replicate 256 0) n m a ≡ true
  unfolding sound_row active_at
  fresh_row h a b =
      all_of _ 16 (λ q d. rw (fresh_member h a q b d, zero_at 256 (a * 16 + q) (omega arith)))

  none_active : (a : ℕ) → a < 16 → active_in (replicate 256 0) a ≡ 0
  unfolding active_in
  none_active a b = count_not _ 16 (λ q d. rw (zero_at 256 (a * 16 + q) (omega arith)))

  fresh_mode : blank_from mode m 16 ≡ true → (a : ℕ) → a < 16 → mode_at (number_at mode a) (ltb a m) ≡ true
  unfolding mode_at modes_ok
  fresh_mode h a b = go (dec_lt a m)
    where
      go : Dec (a < m) → cond (ltb a m) (leb 1 (number_at mode a) && leb (number_at mode a) 3) (eqb (number_at mode a) 0) ≡ true
      go (yes s) = rw (lt-ltb a m s) (all_at (λ a. leb 1 (number_at mode a) && leb (number_at mode a) 3) m r.traffic a s)
      go (no s) = rw (le-ltb a m (omega arith), blank_at_lem mode m 16 h a b (omega arith))

  fresh_as : blank_from mask n 16 ≡ true → blank_from mode m 16 ≡ true → (a : ℕ) → a < 16 → sound_as (replicate 16 0) (members mask) (replicate 256 0) mode (replicate 16 0) n m a ≡ true
  unfolding sound_as waiting_at override_at
  fresh_as h g a b = rw (fresh_row h a b, fresh_mode g a b, none_active a b, zero_at 16 a b) (any (not (eqb (number_at mode a) 1)))
    where
      any : (u : Bool) → (u || true) ≡ true
      any true = refl
      any false = refl

  fresh_links : blank_from iid k 128 ≡ true → blank_from owner k 128 ≡ true → sound_links iid owner (replicate 128 0) m k ≡ true
  unfolding sound_links
  fresh_links h g = rw (r.order, h, column_made owner m k 128 r.owned g) (column_zeros 4 k 128 (omega arith))

-- ---- the whole

counts_in_lem : (s : List ℕ) → Layout s → (counts_in (count s 0) (count s 1) (count s 2) && eqb 0 0) ≡ true
unfolding counts_in
counts_in_lem s l =
    rw (
      le-leb 1 (count s 0) l.some_asps,
      le-leb (count s 0) 16 l.asps,
      le-leb 1 (count s 1) l.some_ases,
      le-leb (count s 1) 16 l.ases,
      le-leb (count s 2) 128 l.links,
    )

abbrev pub rows_of : List ℕ → Bool
rows_of s = rows_ok (tables_of s)

abbrev pub fresh_of : List ℕ → Gateway
fresh_of s = fresh (tables_of s)

pub fresh_sound : (s : List ℕ) → layout_ok s ≡ true → rows_of s ≡ true → is_sound (fresh_of s) ≡ true
unfolding fresh sound_ases sound_columns sound_kinds sound_lists asp_ids masks lists modes link_ids owners kinds
fresh_sound s h g =
    let l = layout s h in
    let n = count s 0 in
    let m = count s 1 in
    let k = count s 2 in
    let t = tables_of s in
    let r = rows t g in
    whole (fresh_of s) (counts_in_lem s l)
    (fresh_asps t r (column_blank 16 n _))
    (all_of _ 16 (fresh_as t r (column_blank 16 n _) (column_blank 16 m _)))
    (fresh_links t r (column_blank 128 k _) (column_blank 128 k _))
    (and_both _ _ (column_made (kinds s) 2 k 128 r.sorted (column_blank 128 k _)) (column_made (lists s) 2 n 16 r.ruled (column_blank 16 n _)))
    (no_units_sound (fresh_of s).waiting (fresh_of s).iid (fresh_of s).owner (fresh_of s).links)

-- a loaded plan gives a sound state
pub loaded_sound : (s : List ℕ) → (load_of s).code ≡ 0 → is_sound (load_of s).gateway ≡ true
unfolding load_of built
loaded_sound s = outer (layout_ok s) refl
  where
    inner : layout_ok s ≡ true → (v : Bool) → rows_of s ≡ v → (cond v (accepted (fresh_of s)) (refused 202)).code ≡ 0 → is_sound (cond v (accepted (fresh_of s)) (refused 202)).gateway ≡ true
    inner e true g h = fresh_sound s e g
    inner e false g h = absurd (omega arith)

    outer : (u : Bool) → layout_ok s ≡ u → (cond u (cond (rows_of s) (accepted (fresh_of s)) (refused 202)) (refused 201)).code ≡ 0 → is_sound (cond u (cond (rows_of s) (accepted (fresh_of s)) (refused 202)) (refused 201)).gateway ≡ true
    outer true e h = inner e (rows_of s) refl h
    outer false e h = absurd (omega arith)
