-- What every decision promises of the `Decision` that it hands back, and how a choice by a test is
-- followed.
-- Assumes nothing.
use Rattle.std.specs.Prelude.{◌≡◌, refl, Bool, true, false, cond, not, List, ℕ, ◌<◌, ◌≤◌, ltb, eqb}
use Rattle.std.proofs.Common.{eq-eqb, ne_eqb, lt-ltb, le-ltb}
use Rattle.state_tables.specs.declared.Gateway.{Gateway}
use Rattle.rules_action.specs.declared.Action.{Action}
use Rattle.rules_server.specs.declared.Change.{Change}
use Rattle.rules_server.specs.declared.Change.TheVariants.{AspUp, AspDown, Deactivate, Activate, Recover}
use Rattle.rules_server.specs.Inner.Change.{fits}
use Rattle.rules_event.specs.declared.Decision.{Decision}
use Rattle.rules_event.specs.declared.Decision.TheVariants.{Send, Turn, Spread, TurnSpread, ChangeIn, TakeIn}
use Rattle.rules_event.specs.Effect.{Effect}
use Rattle.rules_event.specs.Asp.{active_effect, inactive_effect}
use Rattle.rules_event.specs.Inner.Decision.{effect_in}

-- the ASP of a change; 0 where it has none
abbrev pub asp_of : Change → ℕ
asp_of (AspUp p) = p
asp_of (AspDown p) = p
asp_of (Deactivate p) = p
asp_of (Activate p) = p
asp_of Recover = 0

-- what is performed stays within the tables
abbrev pub Within : Decision → Type 0
Within (Send os) = Unit {0}
Within (Turn l v a) = l < 128
Within (Spread t) = Unit {0}
Within (TurnSpread l v t) = l < 128
Within (ChangeIn os k who) = asp_of k < 16
Within (TakeIn a x) = a < 16

-- the work is the effect d
pub record Decides (w : Decision) (d : Effect) : Type 0 where
  pub is : effect_in w ≡ d
  pub within : Within w

-- the work is the effect d of every state for which P holds; P says which columns of it were lent
pub record DecidesOn (P : Gateway → Type 0) (d : Gateway → Effect) (w : Decision) : Type 0 where
  pub on : (g : Gateway) → P g → Decides w (d g)

-- Active where on holds, else Inactive, in the ASes named, with what is told beside the Ack
unfoldable pub act : Gateway → ℕ → Bool → ℕ → List Action → List Bool → Effect
act g p on mode = λ told named. cond on (active_effect g p mode told named) (inactive_effect p told named)

pub fits_asp : (k : Change) → asp_of k < 16 → fits k ≡ true
fits_asp (AspUp p) h = refl
fits_asp (AspDown p) h = refl
fits_asp (Deactivate p) h = refl
fits_asp (Activate p) h = lt-ltb p 16 h
fits_asp Recover h = refl

-- the same effect, otherwise written
pub decided : {w : Decision} {d e : Effect} → Decides w d → d ≡ e → Decides w e
decided h e = rw e at h

-- ---- a work decides a choice by deciding the arm taken

module _ {w : Decision} (x y : Effect) where
  pub by_yes : (b : Bool) → b ≡ true → Decides w x → Decides w (cond b x y)
  by_yes b e q = rw e q

  pub by_no : (b : Bool) → b ≡ false → Decides w y → Decides w (cond b x y)
  by_no b e q = rw e q

  pub by_eq : (a b : ℕ) → a ≡ b → Decides w x → Decides w (cond (eqb a b) x y)
  by_eq a b h q = rw (eq-eqb a b h) q

  pub by_ne : (a b : ℕ) → (a ≡ b → ⊥) → Decides w y → Decides w (cond (eqb a b) x y)
  by_ne a b h q = rw (ne_eqb a b h) q

  pub by_not_eq : (a b : ℕ) → a ≡ b → Decides w y → Decides w (cond (not (eqb a b)) x y)
  by_not_eq a b h q = rw (eq-eqb a b h) q

  pub by_not_ne : (a b : ℕ) → (a ≡ b → ⊥) → Decides w x → Decides w (cond (not (eqb a b)) x y)
  by_not_ne a b h q = rw (ne_eqb a b h) q

  pub by_lt : (a b : ℕ) → a < b → Decides w x → Decides w (cond (ltb a b) x y)
  by_lt a b h q = rw (lt-ltb a b h) q

  pub by_ge : (a b : ℕ) → b ≤ a → Decides w y → Decides w (cond (ltb a b) x y)
  by_ge a b h q = rw (le-ltb a b h) q

pub ruleset decisions = (by_lt, by_ge, by_eq, by_ne, by_not_eq, by_not_ne, by_yes, by_no)
