-- The entries of a value in order: the first that refuses, and the ASes that they name.
-- Assumes nothing.
use Prim.Native.Nat.{ℕ, zero, suc, ◌+◌, ◌*◌, ◌<◌, ◌≤◌}
use Rattle.std.specs.Prelude.{◌≡◌, Bool, true, ◌||◌, List, length}
use Rattle.std.proofs.Math.Path.{refl, sym}
use Rattle.std.proofs.Common.{◌∙◌, subst, arith}
use Rattle.std.proofs.Math.Bool.{false}
use Rattle.std.proofs.Math.Numerals.{add-one}
use Rattle.laws.specs.Below.{any_below}
use Rattle.laws.specs.Inner.Below.{any_none, any_more}
use Rattle.laws.specs.Columns.{flag_at, tabulate}
use Rattle.laws.specs.Inner.Columns.{is_tabulate, tabulate_ext, get_d_tabulate}
use Rattle.state_ranges.specs.Named.{Refused, first_in, some_in, first_of, width, start_at, stop_at, entries, refused_entry, some_entry, refused_in, some_of}
use Rattle.state_ranges.specs.Inner.Refused.{not_found}
use Rattle.state_ranges.specs.Inner.Names.{earlier, earlier_again, earlier_nothing, Plain, plain_earlier}

-- ---- an entry: it lies within the value, and an identifier alone ends where it starts

pub inside : (pairs : Bool) (s : List ℕ) (i : ℕ) → i < entries pairs s → width pairs * i + width pairs ≤ length s
unfolding entries
inside true s i h = omega arith
inside false s i h = omega arith

pub alone_ends : (pairs : Bool) (s : List ℕ) (i : ℕ) → pairs ≡ false → start_at pairs s i ≡ stop_at pairs s i
unfolding start_at stop_at
alone_ends pairs s i e = let z : 4 * i + 0 ≡ 4 * i = omega arith in rw (e, z)

-- flag a holds what it held, or that some entry before i names one that is good a
unfoldable pub Flags : (ℕ → ℕ → Bool) → Bool → List ℕ → List Bool → ℕ → List Bool
Flags good pairs s old i = tabulate 16 (λ a. flag_at old a || any_below (some_entry (good a) pairs s) i)

or_none : (u : Bool) → u ≡ (u || false)
or_none true = refl
or_none false = refl

or_true : (u : Bool) → true ≡ (u || true)
or_true true = refl
or_true false = refl

or_assoc : (u v w : Bool) → ((u || v) || w) ≡ (u || (v || w))
or_assoc true v w = refl
or_assoc false v w = refl

pub flags_none : (good : ℕ → ℕ → Bool) (pairs : Bool) (s : List ℕ) (old : List Bool) → length old ≡ 16 → old ≡ Flags good pairs s old 0
unfolding Flags
flags_none good pairs s old e = is_tabulate false old 16 (λ a. flag_at old a || any_below (some_entry (good a) pairs s) 0) e (λ a b. rw (any_none (some_entry (good a) pairs s)) (or_none (flag_at old a)))

-- entry i, from start to stop
module _ (pairs : Bool) (s : List ℕ) (i start stop : ℕ) (p : start ≡ start_at pairs s i) (q : stop ≡ stop_at pairs s i) where
  -- what was refused before, or the entry's first
  pub refused_more : (bad : ℕ → Bool) (old r next : Refused) → r ≡ earlier old (first_of (refused_entry bad pairs s) i) → next ≡ earlier r (first_in bad start stop) → next ≡ earlier old (first_of (refused_entry bad pairs s) (i + 1))
  unfolding first_of refused_entry earlier
  refused_more bad old r next h e =
      rw add-one
      (e
      ∙ (λ y. earlier (h y) (first_in bad (p y) (q y)))
      ∙ earlier_again old (first_of (refused_entry bad pairs s) i) (refused_entry bad pairs s i))

  pub flags_more : (good : ℕ → ℕ → Bool) (old r next : List Bool) → r ≡ Flags good pairs s old i → next ≡ tabulate 16 (λ a. flag_at r a || some_in (good a) start stop) → next ≡ Flags good pairs s old (i + 1)
  unfolding Flags some_entry
  flags_more good old r next h e =
      e
      ∙ tabulate_ext false 16 (λ a. flag_at r a || some_in (good a) start stop) (λ a. flag_at old a || any_below (some_entry (good a) pairs s) (i + 1))
      (λ a b. rw (any_more, h, get_d_tabulate 16 (λ a. flag_at old a || any_below (some_entry (good a) pairs s) i) a false b, p, q) (or_assoc (flag_at old a) (any_below (some_entry (good a) pairs s) i) (some_entry (good a) pairs s i)))

-- past the last entry
module _ (pairs : Bool) (s : List ℕ) (i : ℕ) (e : i ≡ entries pairs s) where
  pub refused_end : (bad : ℕ → Bool) (old r : Refused) → r ≡ earlier old (first_of (refused_entry bad pairs s) i) → r ≡ earlier old (refused_in bad pairs s)
  unfolding refused_in
  refused_end bad old r h = h ∙ rw e

  pub flags_end : (good : ℕ → ℕ → Bool) (old r : List Bool) → r ≡ Flags good pairs s old i → r ≡ tabulate 16 (λ a. flag_at old a || some_of (good a) pairs s)
  unfolding Flags some_of
  flags_end good old r h = h ∙ rw e

-- ---- before the first entry, and where nothing was found

module _ (bad : ℕ → Bool) (pairs : Bool) (s : List ℕ) where
  plain_first : (i : ℕ) → Plain (first_of (refused_entry bad pairs s) i)
  unfolding first_of refused_entry earlier
  plain_first zero = λ e. refl
  plain_first (suc i) = plain_earlier (first_of (refused_entry bad pairs s) i) (refused_entry bad pairs s i) (not_found bad (start_at pairs s i) (stop_at pairs s i))

  pub plain_in : Plain (refused_in bad pairs s)
  unfolding refused_in
  plain_in = plain_first (entries pairs s)

  module _ (old : Refused) where
    pub refused_none : Plain old → old ≡ earlier old (first_of (refused_entry bad pairs s) 0)
    unfolding first_of
    refused_none h = sym (earlier_nothing old h)

    pub refused_plain : (i : ℕ) (r : Refused) → r ≡ earlier old (first_of (refused_entry bad pairs s) i) → Plain r
    refused_plain i r e = subst Plain (sym e) (plain_earlier old (first_of (refused_entry bad pairs s) i) (plain_first i))
