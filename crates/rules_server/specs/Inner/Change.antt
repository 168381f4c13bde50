-- Laws of specs/Change.antt, and definitions that only code and proofs use.
-- Assumes nothing.
use Rattle.std.specs.Prelude.{ℕ, ◌<◌, ◌≡◌, refl, Bool, true, false, ◌||◌, ◌&&◌, not, List, eqb, ltb}
use Rattle.std.proofs.Common.{◌∙◌, sym, eq-eqb}
use Rattle.laws.specs.Below.{any_below}
use Rattle.laws.specs.Inner.Below.{any_in, any_at}
use Rattle.laws.specs.Columns.{flag_at, tabulate}
use Rattle.laws.specs.Inner.Columns.{get_d_tabulate}
use Rattle.rules_server.specs.Record.{some}
use Rattle.rules_server.specs.declared.Change.{Change}
use Rattle.rules_server.specs.declared.Change.TheVariants.{AspUp, AspDown, Deactivate, Activate, Recover}
use Rattle.rules_server.specs.Change.{activated, overtaken, nobody}

-- who becomes active is an ASP
abbrev pub fits : Change → Bool
fits (AspUp p) = true
fits (AspDown p) = true
fits (Deactivate p) = true
fits (Activate p) = ltb p 16
fits Recover = true

-- ---- laws

pub nobody_none : some nobody ≡ false
unfolding nobody some any_below tabulate
nobody_none = refl

pub some_at : (x : List Bool) (q : ℕ) → q < 16 → flag_at x q ≡ true → some x ≡ true
unfolding some
some_at x q b h = any_in (flag_at x) 16 q b h

pub some_some : (x : List Bool) → some x ≡ true → (q : ℕ) × (q < 16) × (flag_at x q ≡ true)
unfolding some
some_some x h = any_at (flag_at x) 16 h

first_of_lem : (u v w : Bool) → ((u && v) && w) ≡ true → u ≡ true
first_of_lem true v w e = refl
first_of_lem false v w e = e

or_true : (u : Bool) → (u || true) ≡ true
or_true true = refl
or_true false = refl

-- those overtaken were active
pub overtaken_was : (x : List Bool) (mode p q : ℕ) → q < 16 → flag_at (overtaken x mode p) q ≡ true → flag_at x q ≡ true
unfolding overtaken
overtaken_was x mode p q b e =
    first_of_lem _ _ _ (sym (get_d_tabulate 16 (λ q. (flag_at x q && eqb mode 1) && not (eqb q p)) q false b) ∙ e)

-- p is active after it
turned_on : (x : List Bool) (mode p : ℕ) → p < 16 → flag_at (activated x mode p) p ≡ true
unfolding activated
turned_on x mode p b =
    get_d_tabulate 16 (λ q. (flag_at x q && not (eqb mode 1)) || eqb q p) p false b
    ∙ rw (eq-eqb p p refl) (or_true (flag_at x p && not (eqb mode 1)))

pub some_turned : (x : List Bool) (mode p : ℕ) → p < 16 → some (activated x mode p) ≡ true
some_turned x mode p b = some_at (activated x mode p) p b (turned_on x mode p b)
