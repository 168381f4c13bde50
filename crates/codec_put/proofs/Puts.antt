-- A turn of the loop that writes parameters.
-- Assumes nothing.
use mathlib.Core.Path.{◌≡◌, refl, sym, ap, ◌∙◌}
use mathlib.Core.List.{List, [], ◌∷◌, ◌++◌, append_assoc, append-nil}
use Prim.Native.Nat.{ℕ, ◌+◌}
use native.Mathlib.Omega.{arith}
use lib.ListN.{length, length-append}
use Rattle.codec_wire.specs.Walk.{Par}
use Rattle.codec_put.specs.Bytes.{overlay, par_size, par_bytes, pars_bytes, PutAt}
use Rattle.codec_put.proofs.Round.{length_par}
use Rattle.codec_put.proofs.Sets.{over_two, length_over}

-- what is known at the loop's head: out has the bytes written from a position on, and with those of the
-- parameters left they are all
pub record Puts (all : List Par) (out₀ : List ℕ) (from : ℕ) (out : List ℕ) (at : ℕ) (ps : List Par) : Type 0 where
  pub written : List ℕ
  pub out_is : out ≡ overlay out₀ from written
  pub at_is : at ≡ from + length written
  pub rest : written ++ pars_bytes ps ≡ pars_bytes all

pub puts_none : (all : List Par) (out : List ℕ) (from : ℕ) → Puts all out from out from all
unfolding overlay
puts_none all out from = record { written = []; out_is = refl; at_is = omega arith; rest = refl }

module _ {all : List Par} {out₀ : List ℕ} {from : ℕ} {out : List ℕ} {at : ℕ} {ps : List Par} (h : Puts all out₀ from out at ps) where
  all_written : ps ≡ [] → h.written ≡ pars_bytes all
  unfolding pars_bytes
  all_written e = sym (append-nil h.written) ∙ ap (λ (x : List Par). h.written ++ pars_bytes x) (sym e) ∙ h.rest

  pub puts_end : ps ≡ [] → out ≡ overlay out₀ from (pars_bytes all)
  puts_end e = h.out_is ∙ ap (overlay out₀ from) (all_written e)

  pub puts_next : ps ≡ [] → at ≡ from + length (pars_bytes all)
  puts_next e = h.at_is ∙ ap (λ (x : List ℕ). from + length x) (all_written e)

  pub puts_length : length out ≡ length out₀
  puts_length = ap length h.out_is ∙ length_over out₀ from h.written

  module _ (p : Par) (qs : List Par) (e : ps ≡ p ∷ qs) where
    split : h.written ++ (par_bytes p ++ pars_bytes qs) ≡ pars_bytes all
    unfolding pars_bytes
    split = ap (λ (x : List Par). h.written ++ pars_bytes x) (sym e) ∙ h.rest

    -- the next parameter has room
    pub puts_room : length h.written + (par_size (length p.body) + length (pars_bytes qs)) ≡ length (pars_bytes all)
    puts_room =
        sym
        (length-append h.written (par_bytes p ++ pars_bytes qs)
        ∙ ap (λ (n : ℕ). length h.written + n) (length-append (par_bytes p) (pars_bytes qs) ∙ ap (λ (n : ℕ). n + length (pars_bytes qs)) (length_par p)))
        ∙ ap length split

    pub puts_more : (out' : List ℕ) (at' : ℕ) → PutAt out at p.tag p.body at' out' → Puts all out₀ from out' at' qs
    puts_more out' at' w =
        record {
          written = h.written ++ par_bytes p;
          out_is = over_two out₀ h.written (par_bytes p) out out' from at h.out_is h.at_is w.bytes;
          at_is = let a = h.at_is in let b = w.next in rw (length-append h.written (par_bytes p), length_par p) (omega arith);
          rest = append_assoc h.written (par_bytes p) (pars_bytes qs) ∙ split;
        }
