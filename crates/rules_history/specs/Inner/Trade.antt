-- Laws of specs/Trade.antt, and definitions that only code and proofs use.
-- Assumes nothing.
use Rattle.std.specs.Prelude.{◌≡◌, refl, List, [], ◌∷◌, ℕ, zero, suc}
use Rattle.std.proofs.Common.{sym, ap, ◌∙◌}
use Rattle.rules_history.specs.Trade.{swap_at, swaps, outs, last, MayTrade, Trades}

-- e and f commute at b: each hands back the same after the other, and both orders lead to one state
pub record Commute {B E O : Type 0} (out : B → E → O) (next : B → E → B) (b : B) (e f : E) : Type 0 where
  pub first : out (next b f) e ≡ out b e
  pub second : out (next b e) f ≡ out b f
  pub both : next (next b e) f ≡ next (next b f) e

module _ {B E O : Type 0} (out : B → E → O) (next : B → E → B) (Independent : B → E → E → Type 0)
    (commute : (b : B) (e f : E) → Independent b e f → Commute out next b e f) where
  one_outs : (b : B) (h : List E) (i : ℕ) → MayTrade next Independent b h i → outs out next b (swap_at i h) ≡ swap_at i (outs out next b h)
  one_outs b [] i m = absurd m
  one_outs b (e ∷ []) i m = absurd m
  one_outs b (e ∷ f ∷ h) zero m =
      let c = commute b e f m in
      λ j. sym c.second j ∷ c.first j ∷ outs out next (sym c.both j) h
  one_outs b (e ∷ f ∷ h) (suc i) m = ap (λ (l : List O). out b e ∷ l) (one_outs (next b e) (f ∷ h) i m)

  one_last : (b : B) (h : List E) (i : ℕ) → MayTrade next Independent b h i → last out next b (swap_at i h) ≡ last out next b h
  one_last b [] i m = absurd m
  one_last b (e ∷ []) i m = absurd m
  one_last b (e ∷ f ∷ h) zero m = ap (λ (s : B). last out next s h) (sym (commute b e f m).both)
  one_last b (e ∷ f ∷ h) (suc i) m = one_last (next b e) (f ∷ h) i m

  pub traded_outs : (b : B) (h : List E) (is : List ℕ) → Trades next Independent b h is → outs out next b (swaps is h) ≡ swaps is (outs out next b h)
  traded_outs b h [] t = refl
  traded_outs b h (i ∷ is) t = traded_outs b (swap_at i h) is t.1 ∙ ap (swaps is) (one_outs b h i t.0)

  pub traded_last : (b : B) (h : List E) (is : List ℕ) → Trades next Independent b h is → last out next b (swaps is h) ≡ last out next b h
  traded_last b h [] t = refl
  traded_last b h (i ∷ is) t = traded_last b (swap_at i h) is t.1 ∙ one_last b h i t.0
