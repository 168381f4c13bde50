-- What one pass over identifiers finds (Rule 7.8).
-- Assumes nothing.
use Rattle.std.specs.Prelude.{◌≡◌, refl, Bool, true, false, cond, List, Option, Some, None, ℕ}
use Rattle.std.specs.Option.{option_or, is_some}
use Rattle.std.proofs.Common.{◌∙◌, sym}
use Rattle.std.proofs.lemmas.Bool.{false≢true}
use Rattle.state_sets.specs.Inner.Members.{members}
use Rattle.state_ranges.specs.declared.Named.{Named}
use Rattle.state_ranges.specs.Named.{Refused, nothing, refusing}

-- the one found before, if there is one, else the next
unfoldable pub earlier : Refused → Refused → Refused
earlier old next = cond old.found old next

pub earlier_found : (old next : Refused) → old.found ≡ true → earlier old next ≡ old
unfolding earlier
earlier_found old next e = rw e

pub earlier_none : (old next : Refused) → old.found ≡ false → earlier old next ≡ next
unfolding earlier
earlier_none old next e = rw e

pub earlier_again : (x y z : Refused) → earlier (earlier x y) z ≡ earlier x (earlier y z)
unfolding earlier
earlier_again x y z = go x.found refl
  where
    go : (u : Bool) → x.found ≡ u → earlier (earlier x y) z ≡ earlier x (earlier y z)
    go true e = rw e
    go false e = rw e

-- where nothing is found, the identifier is 0
abbrev pub Plain : Refused → Type 0
Plain x = x.found ≡ false → x ≡ nothing

pub plain_earlier : (x y : Refused) → Plain y → Plain (earlier x y)
unfolding earlier
plain_earlier x y h = go x.found refl
  where
    go : (u : Bool) → x.found ≡ u → Plain (cond u x y)
    go true e f = absurd (false≢true (sym f ∙ e))
    go false e f = h f

pub earlier_nothing : (x : Refused) → Plain x → earlier x nothing ≡ x
unfolding earlier
earlier_nothing x h = go x.found refl
  where
    go : (u : Bool) → x.found ≡ u → cond u x nothing ≡ x
    go true e = refl
    go false e = sym (h e)

-- ---- as code has it

abbrev pub as_refused : Option ℕ → Refused
as_refused None = nothing
as_refused (Some x) = refusing x

pub as_plain : (r : Option ℕ) → Plain (as_refused r)
as_plain None e = refl
as_plain (Some x) e = absurd (false≢true (sym e))

pub as_or : (old next : Option ℕ) → as_refused (option_or old next) ≡ earlier (as_refused old) (as_refused next)
unfolding earlier
as_or None next = refl
as_or (Some x) next = refl

pub as_found : (r : Option ℕ) → (as_refused r).found ≡ is_some r
as_found None = refl
as_found (Some x) = refl

-- the first refused identifier, and the owners' flags
pub record Names (r : Named) (first : Refused) (owners : List Bool) : Type 0 where
  pub refused : as_refused r.refused ≡ first
  pub set : members r.set ≡ owners
