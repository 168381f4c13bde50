-- A turn of the loops over the picked parameters of a message.
-- Assumes nothing.
use mathlib.Core.Path.{◌≡◌, ap, ◌∙◌}
use mathlib.Core.Bool.{Bool, true, false}
use mathlib.Core.List.{List, [], ◌∷◌}
use Prim.Native.Nat.{ℕ, ◌+◌, ◌-◌}
use native.Mathlib.Omega.{arith}
use lib.ListN.{length, take, drop, length-append, length-take, length-drop}
use Rattle.codec_wire.specs.Walk.{step_at, walk, Par}
use Rattle.codec_wire.specs.declared.Step.{Step}
use Rattle.codec_wire.specs.declared.Step.TheVariants.{Param}
use Rattle.codec_wire.proofs.Steps.{pars_next, pars_stop, step_next, Next}
use Rattle.codec_put.specs.Bytes.{par, par_size, par_bytes, pars_bytes}
use Rattle.codec_put.proofs.Round.{length_par}
use Rattle.codec_select.specs.Only.{only}
use Rattle.codec_select.specs.Inner.Picks.{only_yes, only_no, only_end, none_size}

-- the parameters picked from a position on
abbrev pub left : (ℕ → Bool) → List ℕ → ℕ → List Par
left f s at = only f (walk s at).pars

abbrev pub left_size : (ℕ → Bool) → List ℕ → ℕ → ℕ
left_size f s at = length (pars_bytes (left f s at))

pub left_stop : (f : ℕ → Bool) (s : List ℕ) (at : ℕ) (w : Step) → step_at s at ≡ w → ((t l n : ℕ) → w ≡ Param t l n → ⊥) → left f s at ≡ []
left_stop f s at w e k = ap (only f) (pars_stop s at w e k) ∙ only_end f

pub size_stop : (f : ℕ → Bool) (s : List ℕ) (at : ℕ) (w : Step) → step_at s at ≡ w → ((t l n : ℕ) → w ≡ Param t l n → ⊥) → left_size f s at ≡ 0
unfolding pars_bytes
size_stop f s at w e k = ap (λ (x : List Par). length (pars_bytes x)) (left_stop f s at w e k)

-- a parameter stands at the position
module _ (f : ℕ → Bool) (s : List ℕ) (at t l n : ℕ) (e : step_at s at ≡ Param t l n) where
  abbrev pub the_par : Par
  the_par = par t (take (at + l - (at + 4)) (drop (at + 4) s))

  pub body_length : length the_par.body ≡ l - 4
  body_length = let k : Next s at l n = step_next s at t l n e in rw (length-take, length-drop) (omega arith)

  pub par_size_lem : at + par_size (length the_par.body) ≡ n
  par_size_lem = let k : Next s at l n = step_next s at t l n e in rw body_length (omega arith)

  pub left_yes : f t ≡ true → left f s at ≡ the_par ∷ left f s n
  left_yes y = ap (only f) (pars_next s at t l n e) ∙ only_yes f the_par (walk s n).pars y

  pub left_no : f t ≡ false → left f s at ≡ left f s n
  left_no y = ap (only f) (pars_next s at t l n e) ∙ only_no f the_par (walk s n).pars y

  pub size_yes : f t ≡ true → left_size f s at ≡ n - at + left_size f s n
  unfolding pars_bytes
  size_yes y =
      let h = par_size_lem in
      ap (λ (x : List Par). length (pars_bytes x)) (left_yes y)
      ∙ length-append (par_bytes the_par) (pars_bytes (left f s n))
      ∙ ap (λ (k : ℕ). k + left_size f s n) (length_par the_par ∙ omega arith)

  pub size_no : f t ≡ false → left_size f s at ≡ left_size f s n
  size_no y = ap (λ (x : List Par). length (pars_bytes x)) (left_no y)

-- what `picked_size` asks of a turn
pub ruleset size_turns = (step_next, size_stop, size_yes, size_no, none_size)
