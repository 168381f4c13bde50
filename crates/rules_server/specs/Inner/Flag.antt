-- A change by the flag of its ASP: what the code computes, and that it is what the definitions of Change say.
-- Assumes nothing.
use Rattle.std.specs.Prelude.{ℕ, ◌<◌, ◌≤◌, ◌≡◌, Bool, ◌&&◌, ◌||◌, cond, List, set, replicate}
use Rattle.std.proofs.Math.Path.{refl}
use Rattle.std.proofs.Common.{◌∙◌, sym, arith, length-set, get_or-set_same, get_or-set_other, eq-eqb, ne_eqb}
use Rattle.std.proofs.Math.Bool.{true, false, not}
use Rattle.std.proofs.Math.Decide.{ℕ_discrete}
use Rattle.std.proofs.Math.Dec.{eqb}
use Rattle.std.proofs.lemmas.List.{get_or-replicate}
use Rattle.laws.specs.Columns.{flag_at, tabulate}
use Rattle.laws.specs.Inner.Columns.{is_tabulate, tabulate_ext, get_d_tabulate}
use Rattle.rules_server.specs.Change.{without, joined, activated, overtaken, nobody}
use Rattle.rules_server.specs.declared.Change.{Change}
use Rattle.rules_server.specs.declared.Change.TheVariants.{AspUp, AspDown, Deactivate, Activate, Recover}

-- ASP p alone
unfoldable pub flagged : ℕ → List Bool
flagged p = tabulate 16 (λ q. eqb q p)

-- the ASP of a change, alone
abbrev pub flag_of : Change → List Bool
flag_of (AspUp p) = flagged p
flag_of (AspDown p) = flagged p
flag_of (Deactivate p) = flagged p
flag_of (Activate p) = flagged p
flag_of Recover = nobody

-- x without those of y, and with them; those active once y are; those overtaken
unfoldable pub less : List Bool → List Bool → List Bool
less x y = tabulate 16 (λ q. flag_at x q && not (flag_at y q))

unfoldable pub more : List Bool → List Bool → List Bool
more x y = tabulate 16 (λ q. flag_at x q || flag_at y q)

unfoldable pub activated_by : List Bool → ℕ → List Bool → List Bool
activated_by x mode y = cond (eqb mode 1) y (more x y)

unfoldable pub overtaken_by : List Bool → ℕ → List Bool → List Bool
overtaken_by x mode y = cond (eqb mode 1) (less x y) nobody

-- ---- laws

pub flagged_in : (p : ℕ) → p < 16 → set (replicate 16 false) p true ≡ flagged p
unfolding flagged
flagged_in p b = is_tabulate false (set (replicate 16 false) p true) 16 (λ q. eqb q p) (length-set (replicate 16 false) p true) (λ q c. go q c (ℕ_discrete q p))
  where
    go : (q : ℕ) → q < 16 → Dec (q ≡ p) → flag_at (set (replicate 16 false) p true) q ≡ eqb q p
    go q c (yes z) = rw (z, eq-eqb p p refl) (get_or-set_same (replicate 16 false) p true false b)
    go q c (no z) = get_or-set_other (replicate 16 false) p q true false z ∙ get_or-replicate 16 q false false c ∙ sym (ne_eqb q p z)

pub flagged_not : (p : ℕ) → 16 ≤ p → replicate 16 false ≡ flagged p
unfolding flagged
flagged_not p b = is_tabulate false (replicate 16 false) 16 (λ q. eqb q p) refl (λ q c. get_or-replicate 16 q false false c ∙ sym (ne_eqb q p (λ z. omega arith)))

-- with the flag of p they are the definitions
module _ {y : List Bool} (p : ℕ) (e : y ≡ flagged p) where
  at_flag : (q : ℕ) → q < 16 → flag_at y q ≡ eqb q p
  unfolding flagged
  at_flag q b = rw e (get_d_tabulate 16 (λ q. eqb q p) q false b)

  pub less_one : {r : List Bool} (x : List Bool) → r ≡ less x y → r ≡ without x p
  unfolding less without
  less_one x h = h ∙ tabulate_ext false 16 (λ q. flag_at x q && not (flag_at y q)) (λ q. flag_at x q && not (eqb q p)) (λ q b. rw (at_flag q b))

  pub more_one : {r : List Bool} (x : List Bool) → r ≡ more x y → r ≡ joined x p
  unfolding more joined
  more_one x h = h ∙ tabulate_ext false 16 (λ q. flag_at x q || flag_at y q) (λ q. flag_at x q || eqb q p) (λ q b. rw (at_flag q b))

  pub turned_one : {r : List Bool} (x : List Bool) (mode : ℕ) → r ≡ activated_by x mode y → r ≡ activated x mode p
  unfolding activated_by activated flagged joined
  turned_one x mode h = h ∙ go (eqb mode 1)
    where
      only : (u v : Bool) → v ≡ ((u && false) || v)
      only true v = refl
      only false v = refl

      all : (u v : Bool) → (u || v) ≡ ((u && true) || v)
      all true v = refl
      all false v = refl

      go : (u : Bool) → cond u y (more x y) ≡ tabulate 16 (λ q. (flag_at x q && not u) || eqb q p)
      go true = e ∙ tabulate_ext false 16 _ _ (λ q b. only (flag_at x q) (eqb q p))
      go false = more_one x refl ∙ tabulate_ext false 16 _ _ (λ q b. all (flag_at x q) (eqb q p))

  pub overtaken_one : {r : List Bool} (x : List Bool) (mode : ℕ) → r ≡ overtaken_by x mode y → r ≡ overtaken x mode p
  unfolding overtaken_by overtaken without nobody
  overtaken_one x mode h = h ∙ go (eqb mode 1)
    where
      all : (u v : Bool) → (u && not v) ≡ ((u && true) && not v)
      all true v = refl
      all false v = refl

      none : (u v : Bool) → false ≡ ((u && false) && not v)
      none true v = refl
      none false v = refl

      go : (u : Bool) → cond u (less x y) nobody ≡ tabulate 16 (λ q. (flag_at x q && u) && not (eqb q p))
      go true = less_one x refl ∙ tabulate_ext false 16 _ _ (λ q b. all (flag_at x q) (eqb q p))
      go false = tabulate_ext false 16 _ _ (λ q b. none (flag_at x q) (eqb q p))
