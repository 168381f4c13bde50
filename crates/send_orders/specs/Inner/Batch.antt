-- A loop that writes parts one behind the other, as many as go in, and the length of each.
-- Assumes nothing.
use Rattle.std.specs.Prelude.{ℕ, ◌+◌, ◌-◌, ◌<◌, ◌≤◌, ◌≡◌, refl, Bool, true, false, ◌||◌, take, drop, ltb, leb}
use Rattle.std.proofs.Math.Path.{ap, sym}
use Rattle.std.proofs.Common.{◌∙◌, arith, zero-add, add-zero, length-append}
use mathlib.Core.List.{List, [], ◌∷◌, ◌++◌, append_assoc}
use Rattle.std.proofs.Math.ListN.{length, set}
use Rattle.std.proofs.lemmas.List.Edits.{sets-eq}
use Rattle.std.proofs.Math.Seq.{take-append_seam, drop-append_seam}
use Rattle.std.proofs.Math.Decide.{dec_lt}
use borrow.Author.Tests.{lt-leb, le-leb, lt-ltb, le-ltb}
use Rattle.laws.specs.Below.{concat_below, first_below}
use Rattle.laws.specs.Columns.{tabulate}
use Rattle.laws.specs.Inner.Below.{concat_more, first_more, first_at}
use Rattle.laws.specs.Inner.Columns.{length_tabulate}
use Rattle.codec_put.specs.Bytes.{overlay}
use Rattle.codec_put.proofs.Sets.{over_append, over_two, length_over}
use Rattle.codec_write.proofs.Plain.{tabulate_append}

-- m parts are all, or there is no length behind m of `slots`, or the next part does not go into `room` bytes
unfoldable pub ends_in : (ℕ → List ℕ) → (ℕ → Bool) → ℕ → ℕ → ℕ → Bool
ends_in part all slots room m = all m || (leb slots m || ltb room (length (concat_below part (m + 1))))

-- what is known at the loop's head: n parts are written, and no end was met
pub record Filled (part : ℕ → List ℕ) (all : ℕ → Bool) (lens₀ out₀ : List ℕ) (n at : ℕ) (lens out : List ℕ) : Type 0 where
  pub at_is : at ≡ length (concat_below part n)
  pub lens_are : lens ≡ overlay lens₀ 0 (tabulate n (λ j. length (part j)))
  pub out_is : out ≡ overlay out₀ 0 (concat_below part n)
  pub goes_in : at ≤ length out₀
  pub none : first_below (ends_in part all (length lens₀) (length out₀)) n ≡ n

-- the bytes p stand before a position
pub record StandsBefore (out : List ℕ) (at : ℕ) (p : List ℕ) : Type 0 where
  pub far : length p ≤ at
  pub stand : take (length p) (drop (at - length p) out) ≡ p

stands_over : (out₀ xs p : List ℕ) → length xs + length p ≤ length out₀ → take (length p) (drop (length xs) (overlay out₀ 0 (xs ++ p))) ≡ p
unfolding overlay
stands_over out₀ xs p h =
    let e : length (xs ++ p) ≡ length xs + length p = length-append xs p in
    rw (sets-eq (xs ++ p) out₀ 0 (omega arith), append_assoc xs p (drop (0 + length (xs ++ p)) out₀), drop-append_seam xs (p ++ drop (0 + length (xs ++ p)) out₀)) (take-append_seam p (drop (0 + length (xs ++ p)) out₀))

pub filled_none : (part : ℕ → List ℕ) (all : ℕ → Bool) (lens out : List ℕ) → Filled part all lens out 0 0 lens out
unfolding overlay concat_below tabulate first_below
filled_none part all lens out = record { at_is = refl; lens_are = refl; out_is = refl; goes_in = omega arith; none = refl }

one_more : (f : ℕ → ℕ) (l : List ℕ) (n : ℕ) → set (overlay l 0 (tabulate n f)) n (f n) ≡ overlay l 0 (tabulate (n + 1) f)
unfolding overlay tabulate
one_more f l n =
    let e : length (tabulate n f) ≡ n = length_tabulate n f in
    sym
    (ap (overlay l 0) (tabulate_append n 1 f)
    ∙ sym (over_append l (tabulate n f) (f (n + 0) ∷ []) 0)
    ∙ rw (zero-add, e, add-zero))

module _ {part : ℕ → List ℕ} {all : ℕ → Bool} {lens₀ out₀ : List ℕ} {n at : ℕ} {lens out : List ℕ} (h : Filled part all lens₀ out₀ n at lens out) where
  pub filled_lens : length lens ≡ length lens₀
  filled_lens = ap length h.lens_are ∙ length_over lens₀ 0 _

  pub filled_out : length out ≡ length out₀
  filled_out = ap length h.out_is ∙ length_over out₀ 0 _

  -- the length of one part more
  longer : length (concat_below part (n + 1)) ≡ at + length (part n)
  longer = ap length (concat_more part n) ∙ length-append (concat_below part n) (part n) ∙ ap (λ (x : ℕ). x + length (part n)) (sym h.at_is)

  pub filled_more : (lens' out' : List ℕ) → all n ≡ false → n < length lens₀ → at + length (part n) ≤ length out₀ → lens' ≡ set lens n (length (part n)) → out' ≡ overlay out at (part n)
      → Filled part all lens₀ out₀ (n + 1) (at + length (part n)) lens' out'
  unfolding ends_in
  filled_more lens' out' a b c el eo =
      record {
        at_is = sym longer;
        lens_are = el ∙ ap (λ (x : List ℕ). set x n (length (part n))) h.lens_are ∙ one_more (λ j. length (part j)) lens₀ n;
        out_is = over_two out₀ (concat_below part n) (part n) out out' 0 at h.out_is (h.at_is ∙ sym (zero-add (length (concat_below part n)))) eo ∙ ap (overlay out₀ 0) (sym (concat_more part n));
        goes_in = c;
        none = first_more (ends_in part all (length lens₀) (length out₀)) n h.none (rw (a, lt-leb (length lens₀) n b, longer, le-ltb (length out₀) (at + length (part n)) c));
      }

  -- the buffer under another name
  pub filled_as : (out' : List ℕ) → out' ≡ out → Filled part all lens₀ out₀ n at lens out'
  filled_as out' e = record { at_is = h.at_is; lens_are = h.lens_are; out_is = e ∙ h.out_is; goes_in = h.goes_in; none = h.none }

  -- the part before stands there
  pub filled_before : (p : List ℕ) → 0 < n → p ≡ part (n - 1) → StandsBefore out at p
  filled_before p l e =
      let z : n ≡ n - 1 + 1 = omega arith in
      let c : concat_below part n ≡ concat_below part (n - 1) ++ p = ap (concat_below part) z ∙ concat_more part (n - 1) ∙ ap (λ (x : List ℕ). concat_below part (n - 1) ++ x) (sym e) in
      let a : at ≡ length (concat_below part (n - 1)) + length p = h.at_is ∙ ap length c ∙ length-append (concat_below part (n - 1)) p in
      let d : at - length p ≡ length (concat_below part (n - 1)) = omega (arith, a) in
      record {
        far = omega (arith, a);
        stand = (λ i. take (length p) (drop (d i) ((h.out_is ∙ ap (overlay out₀ 0) c) i))) ∙ stands_over out₀ (concat_below part (n - 1)) p (omega (arith, a, h.goes_in));
      }

  -- where an end is met, so many go in
  pub ends : (bound : ℕ) → ends_in part all (length lens₀) (length out₀) n ≡ true → n ≤ bound → n ≡ first_below (ends_in part all (length lens₀) (length out₀)) bound
  ends bound e q = go (dec_lt n bound)
    where
      go : Dec (n < bound) → n ≡ first_below (ends_in part all (length lens₀) (length out₀)) bound
      go (yes l) = sym (first_at _ n bound h.none e l)
      go (no l) = let z : n ≡ bound = omega arith in sym h.none ∙ ap (first_below (ends_in part all (length lens₀) (length out₀))) z

  or_right : (u v : Bool) → v ≡ true → (u || v) ≡ true
  or_right true v e = refl
  or_right false v e = e

  pub ends_all : all n ≡ true → ends_in part all (length lens₀) (length out₀) n ≡ true
  unfolding ends_in
  ends_all q = rw q

  pub ends_slots : length lens₀ ≤ n → ends_in part all (length lens₀) (length out₀) n ≡ true
  unfolding ends_in
  ends_slots q = or_right (all n) _ (rw (le-leb (length lens₀) n q))

  pub ends_room : length out₀ < at + length (part n) → ends_in part all (length lens₀) (length out₀) n ≡ true
  unfolding ends_in
  ends_room q = or_right (all n) _ (or_right (leb (length lens₀) n) _ (rw longer (lt-ltb (length out₀) (at + length (part n)) q)))

-- a loop that has ended: n parts are written, and no further one goes in
pub record Ended (part : ℕ → List ℕ) (all : ℕ → Bool) (lens₀ out₀ : List ℕ) (n at : ℕ) (lens out : List ℕ) : Type 0 where
  pub filled : Filled part all lens₀ out₀ n at lens out
  pub ends_there : ends_in part all (length lens₀) (length out₀) n ≡ true
