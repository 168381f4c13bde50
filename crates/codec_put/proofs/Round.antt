-- The walk over parameters that were written finds them again.
-- Assumes nothing.
use mathlib.Core.Path.{◌≡◌, refl, sym, ap, ◌∙◌}
use mathlib.Core.List.{List, [], ◌∷◌, ◌++◌, append_assoc, append-nil}
use Prim.Native.Nat.{ℕ, ◌+◌, ◌-◌, ◌/◌, ◌%◌}
use native.Mathlib.Nat.{div-add-mod', add_assoc}
use native.Mathlib.Omega.{arith}
use lib.ListN.{length, get_or, take, drop, length-append, length-replicate}
use lib.Seq.{get_or-append-add, get_or-append_seam, drop-append-add, take_at}
use Rattle.codec_wire.specs.Number.{be}
use Rattle.codec_wire.specs.Walk.{step_at, padded, Par, walk}
use Rattle.codec_wire.specs.declared.Step.TheVariants.{Param, End}
use Rattle.codec_wire.proofs.Number.{be_two}
use Rattle.codec_wire.proofs.Steps.{step_param, step_end, walk_step}
use Rattle.codec_put.specs.Bytes.{par_size, par_bytes, pars_bytes}

-- a number that was written is read again
pub be_two_in : (xs : List ℕ) (k n : ℕ) → get_or xs k 0 ≡ n / 256 → get_or xs (k + 1) 0 ≡ n % 256 → be 2 xs k ≡ n
be_two_in xs k n e₁ e₂ = be_two xs k ∙ rw (e₁, e₂) (div-add-mod' n 256)

pub length_par : (p : Par) → length (par_bytes p) ≡ par_size (length p.body)
unfolding par_bytes
length_par p = simp (length-append, length-replicate) (omega arith)

-- parameters take a multiple of four bytes
pub pars_multiple : (ps : List Par) → length (pars_bytes ps) % 4 ≡ 0
unfolding pars_bytes
pars_multiple [] = refl
pars_multiple (p ∷ ps) = let ih = pars_multiple ps in rw (length-append (par_bytes p) (pars_bytes ps), length_par p) (omega arith)

-- a parameter p between the bytes pre and rest
module _ (pre rest : List ℕ) (p : Par) where
  abbrev s : List ℕ
  s = pre ++ (par_bytes p ++ rest)

  abbrev l : ℕ
  l = 4 + length p.body

  length_s : length s ≡ length pre + (padded l + length rest)
  length_s =
      length-append pre (par_bytes p ++ rest)
      ∙ ap (λ (n : ℕ). length pre + n) (length-append (par_bytes p) rest ∙ ap (λ (n : ℕ). n + length rest) (length_par p))

  step_written : step_at s (length pre) ≡ Param p.tag l (length pre + padded l)
  unfolding par_bytes
  step_written =
      let h = length_s in
      step_param s (length pre) p.tag l
      (sym (be_two_in s (length pre) p.tag (get_or-append_seam pre _ _ 0) (get_or-append-add pre (par_bytes p ++ rest) 1 0)))
      (sym (be_two_in s (length pre + 2) l (get_or-append-add pre (par_bytes p ++ rest) 2 0) (rw (add_assoc (length pre) 2 1) (get_or-append-add pre (par_bytes p ++ rest) 3 0))))
      (omega arith) (omega arith) (omega arith)

  body_written : take (l - 4) (drop (length pre + 4) s) ≡ p.body
  unfolding par_bytes
  body_written = rw (drop-append-add pre (par_bytes p ++ rest) 4, append_assoc p.body) (take_at p.body _ (l - 4) (omega arith))

-- behind any bytes, the walk over written parameters finds them and no fault
pub walk_written : (ps : List Par) (pre : List ℕ) → walk (pre ++ pars_bytes ps) (length pre) ≡ record { pars = ps; code = 0 }
unfolding pars_bytes
walk_written [] pre = rw append-nil (walk_step pre (length pre) End (step_end pre (length pre) (omega arith)))
walk_written (p ∷ ps) pre =
    let e = rw (append_assoc pre (par_bytes p) (pars_bytes ps), length-append pre (par_bytes p), length_par p) at (walk_written ps (pre ++ par_bytes p)) in
    walk_step (s pre (pars_bytes ps) p) (length pre) (Param p.tag (l pre (pars_bytes ps) p) _) (step_written pre (pars_bytes ps) p)
    ∙ (λ i. record { pars = record { tag = p.tag; body = body_written pre (pars_bytes ps) p i } ∷ (e i).pars; code = (e i).code })
