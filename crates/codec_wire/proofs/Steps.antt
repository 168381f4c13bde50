-- The cases of `step_at`, each from facts on numbers, and what a parameter's step tells of the place after
-- it.
-- Assumes nothing.
use mathlib.Core.Path.{◌≡◌, refl, sym, ap, ◌∙◌}
use mathlib.Core.Bool.{Bool, true, false, cond}
use mathlib.Core.List.{List, [], ◌∷◌}
use Prim.Native.Nat.{ℕ, zero, suc, ◌+◌, ◌-◌, ◌<◌, ◌≤◌}
use native.Mathlib.Omega.{arith}
use lib.ListN.{length, take, drop}
use lib.Dec.{ltb, leb}
use borrow.Author.Tests.{le-ltb, lt-ltb, le-leb, lt-leb, ltb-false, leb-true, leb-false}
use Rattle.codec_wire.specs.Number.{be}
use Rattle.codec_wire.specs.Walk.{step_at, padded, Walk, walk_f, walk, on_step, step_code}
use Rattle.codec_wire.specs.declared.Step.{Step}
use Rattle.codec_wire.specs.declared.Step.TheVariants.{Param, End, Fault}

module _ (s : List ℕ) (at : ℕ) where
  pub step_end : length s ≤ at → step_at s at ≡ End
  unfolding step_at
  step_end h = simp (le-leb (length s) at h)

  pub step_short : at < length s → length s - at < 4 → step_at s at ≡ Fault
  unfolding step_at
  step_short h k = simp (lt-leb (length s) at h, lt-ltb (length s - at) 4 k)

  pub step_low : at + 4 ≤ length s → be 2 s (at + 2) < 4 → step_at s at ≡ Fault
  unfolding step_at
  step_low h k = simp (lt-leb (length s) at (omega arith), le-ltb (length s - at) 4 (omega arith), lt-ltb (be 2 s (at + 2)) 4 k)

  pub step_over : at + 4 ≤ length s → 4 ≤ be 2 s (at + 2) → length s - at < padded (be 2 s (at + 2)) → step_at s at ≡ Fault
  unfolding step_at
  step_over h k o = simp (lt-leb (length s) at (omega arith), le-ltb (length s - at) 4 (omega arith), le-ltb (be 2 s (at + 2)) 4 k, lt-leb (padded (be 2 s (at + 2))) (length s - at) o)

  pub step_param : (t l : ℕ) → t ≡ be 2 s at → l ≡ be 2 s (at + 2) → at + 4 ≤ length s → 4 ≤ l → padded l ≤ length s - at → step_at s at ≡ Param t l (at + padded l)
  unfolding step_at
  step_param t l et el h k o =
      rw (et, el)
      (simp (lt-leb (length s) at (omega arith), le-ltb (length s - at) 4 (omega arith), le-ltb (be 2 s (at + 2)) 4 (omega arith), le-leb (padded (be 2 s (at + 2))) (length s - at) (omega arith)))

  -- a parameter takes its length at least, and ends within the message
  pub record Next (l n : ℕ) : Type 0 where
    pub low : 4 ≤ l
    pub past : at + l ≤ n
    pub within : n ≤ length s
    pub place : n ≡ at + padded l

  pub step_next : (t l n : ℕ) → step_at s at ≡ Param t l n → Next l n
  unfolding step_at
  step_next t l n = go (leb (length s) at) (ltb (length s - at) 4) (ltb (be 2 s (at + 2)) 4) (leb (padded (be 2 s (at + 2))) (length s - at)) refl refl refl refl
    where
      go : (a b c d : Bool) → leb (length s) at ≡ a → ltb (length s - at) 4 ≡ b → ltb (be 2 s (at + 2)) 4 ≡ c → leb (padded (be 2 s (at + 2))) (length s - at) ≡ d
          → cond a End (cond b Fault (cond c Fault (cond d (Param (be 2 s at) (be 2 s (at + 2)) (at + padded (be 2 s (at + 2)))) Fault))) ≡ Param t l n → Next l n
      go true b c d ea eb ec ed e = let z : ◌≡◌ {A = ℕ} 0 1 = cc in absurd (omega arith)
      go false true c d ea eb ec ed e = let z : ◌≡◌ {A = ℕ} 0 1 = cc in absurd (omega arith)
      go false false true d ea eb ec ed e = let z : ◌≡◌ {A = ℕ} 0 1 = cc in absurd (omega arith)
      go false false false false ea eb ec ed e = let z : ◌≡◌ {A = ℕ} 0 1 = cc in absurd (omega arith)
      go false false false true ea eb ec ed e =
          let el : be 2 s (at + 2) ≡ l = cc in
          let en : at + padded (be 2 s (at + 2)) ≡ n = cc in
          let h₁ : at < length s = leb-false _ _ ea in
          let h₂ : 4 ≤ be 2 s (at + 2) = ltb-false _ _ ec in
          let h₃ : padded (be 2 s (at + 2)) ≤ length s - at = leb-true _ _ ed in
          record { low = omega arith; past = omega arith; within = omega arith; place = sym en ∙ ap (λ (x : ℕ). at + padded x) el }

-- any count that is large enough gives the same walk
same : (s : List ℕ) (f g at : ℕ) → length s - at < f → length s - at < g → walk_f f s at ≡ walk_f g s at
unfolding walk_f
same s zero g at hf hg = absurd (omega arith)
same s (suc f) zero at hf hg = absurd (omega arith)
same s (suc f) (suc g) at hf hg = on (step_at s at) refl (λ n h. same s f g n (omega arith) (omega arith))
  where
    on : (w : Step) → step_at s at ≡ w → ((n : ℕ) → (at < n) × (n ≤ length s) → walk_f f s n ≡ walk_f g s n) → on_step s at w (walk_f f s) ≡ on_step s at w (walk_f g s)
    on (Param t l n) e ih = let k : Next s at l n = step_next s at t l n e in ap (λ (r : Walk). on_step s at (Param t l n) (λ _. r)) (ih n (omega arith))
    on End e ih = refl
    on Fault e ih = refl

-- the walk goes by its first reading
pub walk_step : (s : List ℕ) (at : ℕ) (w : Step) → step_at s at ≡ w → walk s at ≡ on_step s at w (walk s)
unfolding walk walk_f
walk_step s at (Param t l n) e =
    let k : Next s at l n = step_next s at t l n e in
    ap (λ (w : Step). on_step s at w (walk_f (length s - at) s)) e
    ∙ ap (λ (r : Walk). on_step s at (Param t l n) (λ _. r)) (same s (length s - at) (suc (length s - n)) n (omega arith) (omega arith))
walk_step s at End e = ap (λ (w : Step). on_step s at w (walk_f (length s - at) s)) e
walk_step s at Fault e = ap (λ (w : Step). on_step s at w (walk_f (length s - at) s)) e

-- a reading that is no parameter ends the walk
pub walk_stop : (s : List ℕ) (at : ℕ) (w : Step) → step_at s at ≡ w → ((t l n : ℕ) → w ≡ Param t l n → ⊥) → walk s at ≡ record { pars = []; code = step_code w }
walk_stop s at (Param t l n) e k = absurd (k t l n refl)
walk_stop s at End e k = walk_step s at End e
walk_stop s at Fault e k = walk_step s at Fault e

-- what the walk finds next: a parameter with the bytes between its header and its end, or nothing
pub pars_next : (s : List ℕ) (at t l n : ℕ) → step_at s at ≡ Param t l n → (walk s at).pars ≡ record { tag = t; body = take (at + l - (at + 4)) (drop (at + 4) s) } ∷ (walk s n).pars
pars_next s at t l n e = let em : at + l - (at + 4) ≡ l - 4 = omega arith in rw em (ap (λ (w : Walk). w.pars) (walk_step s at (Param t l n) e))

pub pars_stop : (s : List ℕ) (at : ℕ) (w : Step) → step_at s at ≡ w → ((t l n : ℕ) → w ≡ Param t l n → ⊥) → (walk s at).pars ≡ []
pars_stop s at w e k = ap (λ (x : Walk). x.pars) (walk_stop s at w e k)
