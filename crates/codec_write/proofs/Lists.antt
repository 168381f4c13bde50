-- A step through a lent list of tags and values, and the length of its message.
-- Assumes nothing.
use mathlib.Core.Path.{◌≡◌, refl, ap}
use mathlib.Core.Logic.{◌⊎◌, inl, inr}
use mathlib.Core.List.{List, [], ◌∷◌}
use Prim.Native.Nat.{ℕ, suc, ◌+◌, ◌-◌, ◌<◌, ◌≤◌}
use native.Mathlib.Omega.{arith}
use native.Mathlib.Numerals.{add-one}
use borrow.Author.Tests.{eq-eqb, ne_eqb, lt-ltb, le-ltb}
use lib.ListN.{length, get_or, take, drop, drop_of_length-le, length-append, length-drop}
use lib.Seq.{drop-cons, length-take-le, take_at, drop_at}
use Rattle.codec_wire.specs.Walk.{Par}
use Rattle.codec_read.specs.Verdict.{most}
use Rattle.codec_put.specs.Bytes.{par, par_size, par_bytes, pars_bytes}
use Rattle.codec_put.proofs.Round.{length_par}
use Rattle.codec_write.specs.Encode.{total, pars_in, tags_of, lens_of, values_of}
use Rattle.codec_write.specs.Inner.Write.{sizes, size_code, Lent, Sized}

pub total_next : (ns : List ℕ) (i : ℕ) → i < length ns → total (drop i ns) ≡ get_or ns i 0 + total (drop (i + 1) ns)
unfolding total
total_next ns i h = rw (add-one, drop-cons ns i 0)

pub sizes_next : (ns : List ℕ) (i : ℕ) → i < length ns → sizes (drop i ns) ≡ par_size (get_or ns i 0) + sizes (drop (i + 1) ns)
unfolding sizes
sizes_next ns i h = rw (add-one, drop-cons ns i 0)

pub total_none : (ns : List ℕ) (i : ℕ) → length ns ≤ i → total (drop i ns) ≡ 0
unfolding total
total_none ns i h = rw (drop_of_length-le ns h)

pub sizes_none : (ns : List ℕ) (i : ℕ) → length ns ≤ i → sizes (drop i ns) ≡ 0
unfolding sizes
sizes_none ns i h = rw (drop_of_length-le ns h)

-- ---- what is left of a whole list: the tags ts, the lengths ns, and the values vs

module _ (ts ns vs : List ℕ) (t n : ℕ) (ts' ns' : List ℕ) (et : ts ≡ t ∷ ts') (en : ns ≡ n ∷ ns') where
  pub lent_value : Lent ts ns vs → n ≤ length vs
  unfolding total
  lent_value l = let e : total ns ≡ n + total ns' = rw en in let h = l.values in omega arith

  pub lent_next : Lent ts ns vs → Lent ts' ns' (drop n vs)
  unfolding total
  lent_next l =
      let e : total ns ≡ n + total ns' = rw en in
      let a : length ts ≡ suc (length ts') = ap length et in
      let b : length ns ≡ suc (length ns') = ap length en in
      let h = l.values in
      let k = l.lengths in
      record { lengths = omega arith; values = rw (length-drop n vs) (omega arith) }

  pub pars_next : pars_in ts ns vs ≡ par t (take n vs) ∷ pars_in ts' ns' (drop n vs)
  unfolding pars_in
  pars_next = rw (et, en)

pub lent_end : (ts ns vs : List ℕ) → Lent ts ns vs → (ts ≡ []) ⊎ (ns ≡ []) → pars_in ts ns vs ≡ []
unfolding pars_in
lent_end [] ns vs l e = refl
lent_end (t ∷ ts) [] vs l e = refl
lent_end (t ∷ ts) (n ∷ ns) vs l (inl e) = absurd (let k : suc (length ts) ≡ 0 = ap length e in omega arith)
lent_end (t ∷ ts) (n ∷ ns) vs l (inr e) = absurd (let k : suc (length ns) ≡ 0 = ap length e in omega arith)

-- the parameters of a whole list take the bytes that its lengths say
pub length_list : (ts ns vs : List ℕ) → length ns ≡ length ts → total ns ≤ length vs → length (pars_bytes (pars_in ts ns vs)) ≡ sizes ns
unfolding pars_in pars_bytes total sizes
length_list [] [] vs e h = refl
length_list [] (n ∷ ns) vs e h = absurd (omega arith)
length_list (t ∷ ts) [] vs e h = absurd (omega arith)
length_list (t ∷ ts) (n ∷ ns) vs e h =
    let l : length (take n vs) ≡ n = length-take-le n vs (omega arith) in
    let d : length (drop n vs) ≡ length vs - n = length-drop n vs in
    let ih = length_list ts ns (drop n vs) (omega arith) (omega arith) in
    rw (length-append (par_bytes (par t (take n vs))) (pars_bytes (pars_in ts ns (drop n vs))), length_par (par t (take n vs)), l, ih)

-- every list of parameters has a lent form
pub lent_pars : (ps : List Par) → pars_in (tags_of ps) (lens_of ps) (values_of ps) ≡ ps
unfolding pars_in tags_of lens_of values_of
lent_pars [] = refl
lent_pars (p ∷ ps) = rw (take_at p.body (values_of ps) (length p.body) refl, drop_at p.body (values_of ps) (length p.body) refl, lent_pars ps)

pub lent_whole : (ps : List Par) → Lent (tags_of ps) (lens_of ps) (values_of ps)
unfolding tags_of lens_of values_of total
lent_whole [] = record { lengths = refl; values = refl }
lent_whole (p ∷ ps) =
    let ih = lent_whole ps in
    record { lengths = ap suc ih.lengths; values = rw (length-append p.body (values_of ps)) (ap (λ (n : ℕ). length p.body + n) ih.values) }

-- ---- whether a list is whole and its message not too long, by the facts at each end of the code

pub size_other : (ts ns vs : List ℕ) → (length ns ≡ length ts → ⊥) → 7 ≡ size_code ts ns vs
unfolding size_code
size_other ts ns vs ne = rw (ne_eqb (length ns) (length ts) ne)

pub size_over : (ts ns vs : List ℕ) → length ns ≡ length ts → most < 8 + sizes ns → 7 ≡ size_code ts ns vs
unfolding size_code
size_over ts ns vs e h = rw (eq-eqb (length ns) (length ts) e, lt-ltb most (8 + sizes ns) h)

pub size_total : (ts ns vs : List ℕ) → length ns ≡ length ts → 8 + sizes ns ≤ most → (total ns ≡ length vs → ⊥) → 7 ≡ size_code ts ns vs
unfolding size_code
size_total ts ns vs e h ne = rw (eq-eqb (length ns) (length ts) e, le-ltb most (8 + sizes ns) h, ne_eqb (total ns) (length vs) ne)

pub size_none : (ts ns vs : List ℕ) (n : ℕ) → Sized ts ns vs n → 0 ≡ size_code ts ns vs
unfolding size_code
size_none ts ns vs n s =
    rw (eq-eqb (length ns) (length ts) s.lent.lengths, le-ltb most (8 + sizes ns) (let h = s.small in let e = s.size_is in omega arith), eq-eqb (total ns) (length vs) s.lent.values)

-- what Message::whole asks of its loop
pub ruleset size_turns = (total_next, sizes_next, total_none, sizes_none, size_other, size_over, size_total, size_none)
