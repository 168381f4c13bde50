-- Which parameters are picked, what writing parameters leaves, and the laws of specs/Only.antt.
-- Assumes nothing.
use Rattle.std.specs.Prelude.{◌≡◌, refl, ℕ, ◌+◌, Bool, true, false, ◌||◌, List, [], ◌∷◌, length, eqb}
use Rattle.std.proofs.Common.{ap, arith}
use Rattle.codec_wire.specs.Walk.{Par}
use Rattle.codec_put.specs.Bytes.{overlay, pars_bytes}
use Rattle.codec_select.specs.Only.{only}
use Rattle.codec_select.specs.declared.Which.{Which}
use Rattle.codec_select.specs.declared.Which.TheVariants.{Nothing, All, Mode, Ids, Heartbeat}

-- the tags that are picked (Rule 2.11)
abbrev pub picks : Which → ℕ → Bool
picks Nothing t = false
picks All t = true
picks Mode t = eqb t 0xb
picks Ids t = eqb t 0x1 || eqb t 0x8
picks Heartbeat t = eqb t 0x9

-- the bytes bs are written over out at a position: the position after them, and the whole buffer
pub record PutBytes (out : List ℕ) (at : ℕ) (bs : List ℕ) (r : ℕ) (out' : List ℕ) : Type 0 where
  pub next : r ≡ at + length bs
  pub bytes : out' ≡ overlay out at bs

-- the same of parameters
abbrev pub PutPars : List ℕ → ℕ → List Par → ℕ → List ℕ → Type 0
PutPars out at ps r out' = PutBytes out at (pars_bytes ps) r out'

module _ (f : ℕ → Bool) (p : Par) (ps : List Par) where
  pub only_yes : f p.tag ≡ true → only f (p ∷ ps) ≡ p ∷ only f ps
  unfolding only
  only_yes e = rw e

  pub only_no : f p.tag ≡ false → only f (p ∷ ps) ≡ only f ps
  unfolding only
  only_no e = rw e

pub only_end : (f : ℕ → Bool) → only f [] ≡ []
unfolding only
only_end f = refl

pub only_none : (ps : List Par) → only (λ t. false) ps ≡ []
unfolding only
only_none [] = refl
only_none (p ∷ ps) = only_none ps

pub only_all : (ps : List Par) → only (λ t. true) ps ≡ ps
unfolding only
only_all [] = refl
only_all (p ∷ ps) = ap (λ (x : List Par). p ∷ x) (only_all ps)

-- where none are picked nothing is written
pub none_size : (ps : List Par) → 0 ≡ length (pars_bytes (only (picks Nothing) ps))
unfolding pars_bytes
none_size ps = rw (only_none ps)

pub none_put : (out : List ℕ) (at : ℕ) (ps : List Par) → PutPars out at (only (picks Nothing) ps) at out
unfolding pars_bytes overlay
none_put out at ps = rw (only_none ps) (record { next = omega arith; bytes = refl })
