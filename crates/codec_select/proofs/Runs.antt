-- Parameters written one list after the other.
-- Assumes nothing.
use mathlib.Core.Path.{◌≡◌, refl, sym, ap, ◌∙◌}
use mathlib.Core.List.{List, [], ◌∷◌, ◌++◌, append_assoc, append-nil}
use Prim.Native.Nat.{ℕ, ◌+◌, ◌≤◌}
use native.Mathlib.Omega.{arith}
use lib.ListN.{length, length-append}
use Rattle.codec_wire.specs.Walk.{Par}
use Rattle.codec_put.specs.Bytes.{overlay, par, par_size, par_bytes, pars_bytes, PutAt}
use Rattle.codec_put.proofs.Round.{length_par}
use Rattle.codec_put.proofs.Sets.{over_two, length_over}
use Rattle.codec_select.specs.Inner.Picks.{PutBytes, PutPars}

pub pars_append : (ps qs : List Par) → pars_bytes (ps ++ qs) ≡ pars_bytes ps ++ pars_bytes qs
unfolding pars_bytes
pars_append [] qs = refl
pars_append (p ∷ ps) qs = ap (λ (x : List ℕ). par_bytes p ++ x) (pars_append ps qs) ∙ sym (append_assoc (par_bytes p) (pars_bytes ps) (pars_bytes qs))

pub pars_length : (ps qs : List Par) → length (pars_bytes (ps ++ qs)) ≡ length (pars_bytes ps) + length (pars_bytes qs)
pars_length ps qs = ap length (pars_append ps qs) ∙ length-append (pars_bytes ps) (pars_bytes qs)

-- one parameter
pub one_bytes : (p : Par) → pars_bytes (p ∷ []) ≡ par_bytes p
unfolding pars_bytes
one_bytes p = append-nil (par_bytes p)

pub one_length : (p : Par) → length (pars_bytes (p ∷ [])) ≡ par_size (length p.body)
one_length p = ap length (one_bytes p) ∙ length_par p

-- nothing
pub none_length : length (pars_bytes []) ≡ 0
unfolding pars_bytes
none_length = refl

pub run_none : (out : List ℕ) (at : ℕ) → PutBytes out at [] at out
unfolding overlay
run_none out at = record { next = omega arith; bytes = refl }

pub put_none : (out : List ℕ) (at : ℕ) → PutPars out at [] at out
unfolding pars_bytes
put_none out at = run_none out at

pub put_one : {out : List ℕ} {at : ℕ} (t : ℕ) (v : List ℕ) {r : ℕ} {out' : List ℕ} → PutAt out at t v r out' → PutPars out at (par t v ∷ []) r out'
put_one {out} {at} t v w =
    record {
      next = w.next ∙ ap (λ (n : ℕ). at + n) (sym (one_length (par t v)));
      bytes = w.bytes ∙ ap (overlay out at) (sym (one_bytes (par t v)));
    }

-- a buffer keeps its length
pub put_length : {out : List ℕ} {at : ℕ} {bs : List ℕ} {r : ℕ} {out' : List ℕ} → PutBytes out at bs r out' → length out' ≡ length out
put_length {out} {at} {bs} w = ap length w.bytes ∙ length_over out at bs

-- two runs of bytes
pub run_two : {out : List ℕ} {at : ℕ} (xs ys : List ℕ) {m : ℕ} {mid : List ℕ} {r : ℕ} {out' : List ℕ} → PutBytes out at xs m mid → PutBytes mid m ys r out' → PutBytes out at (xs ++ ys) r out'
run_two {out} {at} xs ys {m} {mid} {r} {out'} u v =
    record {
      next = let a = u.next in let b = v.next in rw (length-append xs ys) (omega arith);
      bytes = over_two out xs ys mid out' at m u.bytes u.next v.bytes;
    }

-- two lists of parameters, the second behind the first
module _ (out : List ℕ) (at : ℕ) (ps qs : List Par) where
  pub put_two : {m : ℕ} {mid : List ℕ} {r : ℕ} {out' : List ℕ} → PutPars out at ps m mid → PutPars mid m qs r out' → PutPars out at (ps ++ qs) r out'
  put_two u v = rw (pars_append ps qs) (run_two (pars_bytes ps) (pars_bytes qs) u v)

  pub room_first : at + length (pars_bytes (ps ++ qs)) ≤ length out → at + length (pars_bytes ps) ≤ length out
  room_first h = let e = pars_length ps qs in omega arith

  pub room_second : {m : ℕ} {mid : List ℕ} → at + length (pars_bytes (ps ++ qs)) ≤ length out → PutPars out at ps m mid → m + length (pars_bytes qs) ≤ length mid
  room_second h u = let e = pars_length ps qs in let l = put_length u in let a = u.next in omega arith
