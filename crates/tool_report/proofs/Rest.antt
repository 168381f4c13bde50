-- The loop over the parameters of a message: what is written, and what is still to come.
-- Assumes nothing.
use mathlib.Core.Path.{◌≡◌, refl, sym, ap, ◌∙◌}
use mathlib.Core.List.{List, [], ◌∷◌, ◌++◌, append_assoc, append-nil}
use Prim.Native.Nat.{ℕ, zero, suc, ◌+◌, ◌-◌, ◌*◌, ◌<◌, ◌≤◌}
use native.Mathlib.Omega.{arith}
use lib.ListN.{length, length-append, take, drop, length-take}
use Rattle.codec_wire.specs.declared.Step.{Step}
use Rattle.codec_wire.specs.declared.Step.TheVariants.{Param, End, Fault}
use Rattle.codec_wire.specs.Walk.{Par, walk, step_at, part_of}
use Rattle.codec_wire.proofs.Steps.{step_next, Next, pars_next, pars_stop, walk_step}
use borrow.Author.Tests.{le-ltb}
use Rattle.tool_report.specs.declared.Style.{Style}
use Rattle.tool_report.specs.Shown.{par_text, pars_text}
use Rattle.tool_report.specs.Inner.Shown.{par}
use Rattle.tool_report.proofs.Texts.{par_sized}

-- the parameters take at most eight characters for each byte of the message
pub pars_most : (style : Style) (s : List ℕ) (at : ℕ) → length (pars_text style (walk s at).pars) ≤ 8 * (length s - at)
unfolding pars_text
pars_most style s at = most (suc (length s - at)) at (omega arith)
  where
    on : (at : ℕ) (w : Step) → step_at s at ≡ w → ((n : ℕ) → at < n → n ≤ length s → length (pars_text style (walk s n).pars) ≤ 8 * (length s - n)) → length (pars_text style (walk s at).pars) ≤ 8 * (length s - at)
    on at (Param t l n) e ih =
        let k : Next s at l n = step_next s at t l n e in
        let p : Par = par t (take (l - 4) (drop (at + 4) s)) in
        let h : length p.body ≤ l - 4 = rw (length-take (l - 4) (drop (at + 4) s)) (omega arith) in
        let z = par_sized style p in
        let i = ih n (omega arith) (omega arith) in
        rw (walk_step s at (Param t l n) e, length-append (par_text style p) (pars_text style (walk s n).pars)) (omega arith)
    on at End e ih = rw (walk_step s at End e) (omega arith)
    on at Fault e ih = rw (walk_step s at Fault e) (omega arith)

    most : (f at : ℕ) → length s - at < f → length (pars_text style (walk s at).pars) ≤ 8 * (length s - at)
    most zero at h = absurd (omega arith)
    most (suc f) at h = on at (step_at s at) refl (λ n a b. most f n (omega arith))

-- what the walk finds next, with the value as a part of the message
pub pars_part : (s : List ℕ) (at t l n : ℕ) → step_at s at ≡ Param t l n → (walk s at).pars ≡ par t (part_of s at l) ∷ (walk s n).pars
unfolding part_of
pars_part s at t l n e =
    let k : Next s at l n = step_next s at t l n e in
    rw (le-ltb l 4 (omega arith), le-ltb (length s) l (omega arith), le-ltb (length s - l) at (omega arith)) (pars_next s at t l n e)

-- the text of the parameters from a position on completes that of all
pub record Rest (style : Style) (s before out : List ℕ) (at : ℕ) : Type 0 where
  pub text : out ++ pars_text style (walk s at).pars ≡ before ++ pars_text style (walk s 8).pars

module _ {style : Style} {s before out : List ℕ} {at : ℕ} (h : Rest style s before out at) where
  lengths : length out + length (pars_text style (walk s at).pars) ≡ length before + length (pars_text style (walk s 8).pars)
  lengths = sym (length-append out _) ∙ ap length h.text ∙ length-append before _

  pub rest_used : length out ≤ length before + 8 * length s
  rest_used = omega (arith, lengths, pars_most style s 8)

  pub rest_stop : (w : Step) → step_at s at ≡ w → ((t l n : ℕ) → w ≡ Param t l n → ⊥) → out ≡ before ++ pars_text style (walk s 8).pars
  unfolding pars_text
  rest_stop w e k =
      let z : (walk s at).pars ≡ [] = pars_stop s at w e k in
      sym (append-nil out) ∙ (rw z at h.text)

  module _ (t l n : ℕ) (e : step_at s at ≡ Param t l n) where
    split : pars_text style (walk s at).pars ≡ par_text style (par t (part_of s at l)) ++ pars_text style (walk s n).pars
    unfolding pars_text
    split = ap (pars_text style) (pars_part s at t l n e)

    pub rest_room : length out + 2 * length (part_of s at l) ≤ length before + 8 * length s
    rest_room =
        let z = par_sized style (par t (part_of s at l)) in
        let p = rw (split, length-append (par_text style (par t (part_of s at l))) (pars_text style (walk s n).pars)) at lengths in
        omega (arith, pars_most style s 8)

    pub rest_next : (more : List ℕ) → more ≡ out ++ par_text style (par t (part_of s at l)) → Rest style s before more n
    rest_next more k = record { text = rw (k, append_assoc out) (ap (λ r. out ++ r) (sym split) ∙ h.text) }
