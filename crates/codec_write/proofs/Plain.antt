-- The parameters that the walk finds, written again, are the bytes walked over with their padding zeroed.
-- Assumes nothing.
use mathlib.Core.Path.{◌≡◌, refl, sym, ap, ◌∙◌, subst}
use mathlib.Core.Bool.{Bool, true, false, cond}
use mathlib.Core.List.{List, [], ◌∷◌, ◌++◌}
use Prim.Native.Nat.{ℕ, zero, suc, ◌+◌, ◌-◌, ◌*◌, ◌/◌, ◌%◌, ◌<◌, ◌≤◌}
use native.Mathlib.Nat.{zero-add, suc-add, add_assoc, add-zero}
use native.Mathlib.Omega.{arith}
use lib.ListN.{length, get_or, take, drop, replicate, length-append, length-drop, length-replicate, get_or-replicate}
use lib.Seq.{length-take-le, get_or-take, get_or-drop}
use lib.Dec.{ltb, leb}
use borrow.Author.Tests.{le-leb, lt-leb, lt-ltb, le-ltb, leb-true}
use Rattle.laws.specs.Columns.{tabulate}
use Rattle.laws.specs.Inner.Columns.{is_tabulate, tabulate_ext}
use Rattle.codec_wire.specs.Number.{be}
use Rattle.codec_wire.specs.Walk.{Par, Walk, walk, step_at, padded}
use Rattle.codec_wire.specs.declared.Step.{Step}
use Rattle.codec_wire.specs.declared.Step.TheVariants.{Param, End, Fault}
use Rattle.codec_wire.proofs.Number.{be_two}
use Rattle.codec_wire.proofs.Steps.{Next, step_next, walk_step}
use Rattle.codec_put.specs.Bytes.{bytes16, bytes32, par, par_bytes, pars_bytes}
use Rattle.codec_put.proofs.Round.{length_par}
use Rattle.codec_write.specs.RoundTrip.{is_padding, Bytes}

-- a list given index by index, in two parts
pub tabulate_append : (m n : ℕ) (f : ℕ → ℕ) → tabulate (m + n) f ≡ tabulate m f ++ tabulate n (λ k. f (m + k))
unfolding tabulate
tabulate_append zero n f = ap (λ (m : ℕ). tabulate m f) (zero-add n) ∙ tabulate_ext 0 n f (λ k. f (0 + k)) (λ i q. ap f (sym (zero-add i)))
tabulate_append (suc m) n f =
    ap (λ (m : ℕ). tabulate m f) (suc-add m n)
    ∙ ap (λ (l : List ℕ). f 0 ∷ l)
    (tabulate_append m n (λ i. f (suc i)) ∙ ap (λ (l : List ℕ). tabulate m (λ i. f (suc i)) ++ l) (tabulate_ext 0 n (λ k. f (suc (m + k))) (λ k. f (suc m + k)) (λ i q. ap f (sym (suc-add m i)))))

-- ---- a number's bytes

pub two_of : (n x y : ℕ) → n ≡ x * 256 + y → y < 256 → bytes16 n ≡ x ∷ y ∷ []
two_of n x y e h = let q : n / 256 ≡ x = omega arith in let m : n % 256 ≡ y = omega arith in rw (q, m)

pub four_of : (n x y z w : ℕ) → n ≡ (x * 256 + y) * 65536 + (z * 256 + w) → y < 256 → z < 256 → w < 256 → bytes32 n ≡ x ∷ y ∷ z ∷ w ∷ []
four_of n x y z w e hy hz hw =
    let q : n / 65536 ≡ x * 256 + y = omega arith in
    let m : n % 65536 ≡ z * 256 + w = omega arith in
    rw (q, m) (ap (λ (l : List ℕ). l ++ bytes16 (z * 256 + w)) (two_of (x * 256 + y) x y refl hy) ∙ ap (λ (l : List ℕ). x ∷ y ∷ l) (two_of (z * 256 + w) z w refl hw))

-- ---- what a reading says

pub record Is (s : List ℕ) (at t l n : ℕ) : Type 0 where
  pub tag_is : t ≡ be 2 s at
  pub length_is : l ≡ be 2 s (at + 2)
  pub next_is : n ≡ at + padded l

step_is : (s : List ℕ) (at t l n : ℕ) → step_at s at ≡ Param t l n → Is s at t l n
unfolding step_at
step_is s at t l n = go (leb (length s) at) (ltb (length s - at) 4) (ltb (be 2 s (at + 2)) 4) (leb (padded (be 2 s (at + 2))) (length s - at))
  where
    go : (a b c d : Bool) → cond a End (cond b Fault (cond c Fault (cond d (Param (be 2 s at) (be 2 s (at + 2)) (at + padded (be 2 s (at + 2)))) Fault))) ≡ Param t l n → Is s at t l n
    go true b c d e = let z : ◌≡◌ {A = ℕ} 0 1 = cc in absurd (omega arith)
    go false true c d e = let z : ◌≡◌ {A = ℕ} 0 1 = cc in absurd (omega arith)
    go false false true d e = let z : ◌≡◌ {A = ℕ} 0 1 = cc in absurd (omega arith)
    go false false false false e = let z : ◌≡◌ {A = ℕ} 0 1 = cc in absurd (omega arith)
    go false false false true e =
        let et : be 2 s at ≡ t = cc in
        let el : be 2 s (at + 2) ≡ l = cc in
        let en : at + padded (be 2 s (at + 2)) ≡ n = cc in
        record { tag_is = sym et; length_is = sym el; next_is = sym en ∙ ap (λ (x : ℕ). at + padded x) el }

step_ended : (s : List ℕ) (at : ℕ) → step_at s at ≡ End → length s ≤ at
unfolding step_at
step_ended s at = go (leb (length s) at) (ltb (length s - at) 4) (ltb (be 2 s (at + 2)) 4) (leb (padded (be 2 s (at + 2))) (length s - at)) refl
  where
    go : (a b c d : Bool) → leb (length s) at ≡ a → cond a End (cond b Fault (cond c Fault (cond d (Param (be 2 s at) (be 2 s (at + 2)) (at + padded (be 2 s (at + 2)))) Fault))) ≡ End → length s ≤ at
    go true b c d ea e = leb-true (length s) at ea
    go false true c d ea e = let z : ◌≡◌ {A = ℕ} 0 1 = cc in absurd (omega arith)
    go false false true d ea e = let z : ◌≡◌ {A = ℕ} 0 1 = cc in absurd (omega arith)
    go false false false false ea e = let z : ◌≡◌ {A = ℕ} 0 1 = cc in absurd (omega arith)
    go false false false true ea e = let z : ◌≡◌ {A = ℕ} 0 1 = cc in absurd (omega arith)

-- where the walk meets no fault, the parameters found, written again, take the bytes walked over
pub length_walked : (s : List ℕ) (f at : ℕ) → length s - at < f → at ≤ length s → (walk s at).code ≡ 0 → length (pars_bytes (walk s at).pars) ≡ length s - at
unfolding pars_bytes
length_walked s zero at h q e = absurd (omega arith)
length_walked s (suc f) at h q e = on (step_at s at) refl (λ n lt le z. length_walked s f n (omega arith) le z)
  where
    on : (w : Step) → step_at s at ≡ w
        → ((n : ℕ) → at < n → n ≤ length s → (walk s n).code ≡ 0 → length (pars_bytes (walk s n).pars) ≡ length s - n)
        → length (pars_bytes (walk s at).pars) ≡ length s - at
    on (Param t l n) w ih =
        let ws = walk_step s at (Param t l n) w in
        let nx : Next s at l n = step_next s at t l n w in
        let v : List ℕ = take (l - 4) (drop (at + 4) s) in
        let lv : length v ≡ l - 4 = length-take-le (l - 4) (drop (at + 4) s) (rw (length-drop (at + 4) s) (omega arith)) in
        let r = ih n (omega arith) nx.within (sym (ap (λ (x : Walk). x.code) ws) ∙ e) in
        ap (λ (x : Walk). length (pars_bytes x.pars)) ws
        ∙ length-append (par_bytes (par t v)) (pars_bytes (walk s n).pars)
        ∙ ap (λ (m : ℕ). m + length (pars_bytes (walk s n).pars)) (length_par (par t v))
        ∙ omega arith
    on End w ih = let g = step_ended s at w in ap (λ (x : Walk). length (pars_bytes x.pars)) (walk_step s at End w) ∙ omega arith
    on Fault w ih =
        let z : ◌≡◌ {A = ℕ} 18 0 = sym (ap (λ (x : Walk). x.code) (walk_step s at Fault w)) ∙ e in absurd (omega arith)

-- ---- where padding lies

pub pad_before : (ps : List Par) (at i : ℕ) → i < at → is_padding at ps i ≡ false
unfolding is_padding
pad_before [] at i h = refl
pad_before (p ∷ ps) at i h =
    rw (lt-leb (at + (4 + length p.body)) i (omega arith)) (pad_before ps (at + padded (4 + length p.body)) i (omega arith))

module _ (p : Par) (ps : List Par) (at i : ℕ) where
  pad_in : at + (4 + length p.body) ≤ i → i < at + padded (4 + length p.body) → is_padding at (p ∷ ps) i ≡ true
  unfolding is_padding
  pad_in h q = rw (le-leb (at + (4 + length p.body)) i h, lt-ltb i (at + padded (4 + length p.body)) q)

  pad_not : i < at + (4 + length p.body) → is_padding at (p ∷ ps) i ≡ false
  unfolding is_padding
  pad_not h = rw (lt-leb (at + (4 + length p.body)) i h) (pad_before ps (at + padded (4 + length p.body)) i (omega arith))

  pad_after : at + padded (4 + length p.body) ≤ i → is_padding at (p ∷ ps) i ≡ is_padding (at + padded (4 + length p.body)) ps i
  unfolding is_padding
  pad_after h = rw (le-leb (at + (4 + length p.body)) i (omega arith), le-ltb i (at + padded (4 + length p.body)) h)

-- ---- the parameters of a message s

module _ (s : List ℕ) (b : Bytes s) where
  -- the byte at the position i, zeroed where it is padding
  abbrev pub zeroed : ℕ → List Par → ℕ → ℕ
  zeroed at ps i = cond (is_padding at ps i) 0 (get_or s i 0)

  part_tabulate : (at n : ℕ) → at + n ≤ length s → take n (drop at s) ≡ tabulate n (λ k. get_or s (at + k) 0)
  part_tabulate at n h =
      is_tabulate 0 (take n (drop at s)) n (λ k. get_or s (at + k) 0) (length-take-le n (drop at s) (rw (length-drop at s) (omega arith)))
      (λ i q. get_or-take n (drop at s) i 0 q ∙ get_or-drop at s i 0)

  two_at : (at : ℕ) → at + 2 ≤ length s → bytes16 (be 2 s at) ≡ get_or s at 0 ∷ get_or s (at + 1) 0 ∷ []
  two_at at h = two_of (be 2 s at) (get_or s at 0) (get_or s (at + 1) 0) (be_two s at) (b.below (at + 1) (omega arith))

  module _ (at t l n : ℕ) (is : Is s at t l n) (nx : Next s at l n) where
    abbrev v : List ℕ
    v = take (l - 4) (drop (at + 4) s)

    length_v : length v ≡ l - 4
    length_v = length-take-le (l - 4) (drop (at + 4) s) (rw (length-drop (at + 4) s) (omega arith))

    -- tag, length and value are the bytes that stand there
    front : bytes16 t ++ (bytes16 l ++ v) ≡ tabulate l (λ k. get_or s (at + k) 0)
    unfolding tabulate
    front =
        let e : l ≡ 4 + (l - 4) = omega arith in
        let et : bytes16 t ≡ get_or s at 0 ∷ get_or s (at + 1) 0 ∷ [] = ap bytes16 is.tag_is ∙ two_at at (omega arith) in
        let el : bytes16 l ≡ get_or s (at + 2) 0 ∷ get_or s (at + 2 + 1) 0 ∷ [] = ap bytes16 is.length_is ∙ two_at (at + 2) (omega arith) in
        let ev : v ≡ tabulate (l - 4) (λ k. get_or s (at + (4 + k)) 0) =
        part_tabulate (at + 4) (l - 4) (omega arith) ∙ tabulate_ext 0 (l - 4) _ _ (λ i q. ap (λ (x : ℕ). get_or s x 0) (add_assoc at 4 i)) in
        let e₀ : at + 0 ≡ at = add-zero at in
        let e₃ : at + 3 ≡ at + 2 + 1 = omega arith in
        ap (λ (x : List ℕ). x ++ (bytes16 l ++ v)) et ∙ ap (λ (x : List ℕ). get_or s at 0 ∷ get_or s (at + 1) 0 ∷ (x ++ v)) el
        ∙ ap (λ (x : List ℕ). get_or s at 0 ∷ get_or s (at + 1) 0 ∷ get_or s (at + 2) 0 ∷ get_or s (at + 2 + 1) 0 ∷ x) ev
        ∙ sym
        (ap (λ (m : ℕ). tabulate m (λ k. get_or s (at + k) 0)) e
        ∙ tabulate_append 4 (l - 4) (λ k. get_or s (at + k) 0)
        ∙ ap (λ (x : ℕ). get_or s x 0 ∷ get_or s (at + 1) 0 ∷ get_or s (at + 2) 0 ∷ get_or s (at + 3) 0 ∷ tabulate (l - 4) (λ k. get_or s (at + (4 + k)) 0)) e₀
        ∙ ap (λ (x : ℕ). get_or s at 0 ∷ get_or s (at + 1) 0 ∷ get_or s (at + 2) 0 ∷ get_or s x 0 ∷ tabulate (l - 4) (λ k. get_or s (at + (4 + k)) 0)) e₃)

    size_v : 4 + length v ≡ l
    size_v = let e = length_v in omega arith

    module _ (ps : List Par) where
      -- the bytes from there on, the padding zeroed
      abbrev g : ℕ → ℕ
      g k = zeroed at (par t v ∷ ps) (at + k)

      abbrev pad : ℕ
      pad = padded l - l

      low : (i : ℕ) → i < l → g i ≡ get_or s (at + i) 0
      low i h =
          let e = size_v in
          ap (λ (u : Bool). cond u 0 (get_or s (at + i) 0)) (pad_not (par t v) ps at (at + i) (omega arith))

      high : (i : ℕ) → i < pad → g (l + i) ≡ 0
      high i h =
          let e = size_v in
          ap (λ (u : Bool). cond u 0 (get_or s (at + (l + i)) 0)) (pad_in (par t v) ps at (at + (l + i)) (omega arith) (omega arith))

      -- one parameter, written again
      again : par_bytes (par t v) ≡ tabulate (padded l) g
      unfolding par_bytes
      again =
          let e : padded l ≡ l + pad = omega arith in
          ap (λ (m : ℕ). bytes16 t ++ (bytes16 m ++ (v ++ replicate (padded m - m) 0))) size_v
          ∙ ap (λ (x : List ℕ). x ++ replicate pad 0) front
          ∙ sym
          (ap (λ (m : ℕ). tabulate m g) e
          ∙ tabulate_append l pad g
          ∙ ap (λ (x : List ℕ). x ++ tabulate pad (λ k. g (l + k))) (tabulate_ext 0 l g (λ k. get_or s (at + k) 0) low)
          ∙ ap (λ (x : List ℕ). tabulate l (λ k. get_or s (at + k) 0) ++ x)
          (sym (is_tabulate 0 (replicate pad 0) pad (λ k. g (l + k)) (length-replicate pad 0) (λ i h. get_or-replicate pad i 0 0 h ∙ sym (high i h)))))

      -- behind it, padding is that of the parameters left
      behind : (i : ℕ) → zeroed n ps (n + i) ≡ g (padded l + i)
      behind i =
          let e = size_v in
          let q = is.next_is in
          let e₁ : n + i ≡ at + (padded l + i) = omega arith in
          let e₂ : n ≡ at + padded (4 + length v) = omega arith in
          ap (λ (y : ℕ). zeroed n ps y) e₁
          ∙ ap (λ (m : ℕ). zeroed m ps (at + (padded l + i))) e₂
          ∙ ap (λ (u : Bool). cond u 0 (get_or s (at + (padded l + i)) 0)) (sym (pad_after (par t v) ps at (at + (padded l + i)) (omega arith)))

      pub par_plain : pars_bytes ps ≡ tabulate (length s - n) (λ k. zeroed n ps (n + k)) → pars_bytes (par t v ∷ ps) ≡ tabulate (length s - at) g
      unfolding pars_bytes
      par_plain ih =
          let q = is.next_is in
          let e : length s - at ≡ padded l + (length s - n) = omega arith in
          ap (λ (x : List ℕ). x ++ pars_bytes ps) again
          ∙ ap (λ (x : List ℕ). tabulate (padded l) g ++ x) (ih ∙ tabulate_ext 0 (length s - n) (λ k. zeroed n ps (n + k)) (λ k. g (padded l + k)) (λ i h. behind i))
          ∙ sym (ap (λ (m : ℕ). tabulate m g) e ∙ tabulate_append (padded l) (length s - n) g)

  -- all parameters from a position on, where the walk meets no fault
  pub pars_plain : (f at : ℕ) → length s - at < f → at ≤ length s → (walk s at).code ≡ 0
      → pars_bytes (walk s at).pars ≡ tabulate (length s - at) (λ k. zeroed at (walk s at).pars (at + k))
  unfolding pars_bytes tabulate
  pars_plain zero at h q e = absurd (omega arith)
  pars_plain (suc f) at h q e = on (step_at s at) refl (λ n lt le z. pars_plain f n (omega arith) le z)
    where
      Goal : List Par → Type 0
      Goal ps = pars_bytes ps ≡ tabulate (length s - at) (λ k. zeroed at ps (at + k))

      on : (w : Step) → step_at s at ≡ w
          → ((n : ℕ) → at < n → n ≤ length s → (walk s n).code ≡ 0 → pars_bytes (walk s n).pars ≡ tabulate (length s - n) (λ k. zeroed n (walk s n).pars (n + k)))
          → Goal (walk s at).pars
      on (Param t l n) w ih =
          let ws = walk_step s at (Param t l n) w in
          let nx : Next s at l n = step_next s at t l n w in
          subst Goal (sym (ap (λ (x : Walk). x.pars) ws))
          (par_plain at t l n (step_is s at t l n w) nx (walk s n).pars (ih n (omega arith) nx.within (sym (ap (λ (x : Walk). x.code) ws) ∙ e)))
      on End w ih =
          let ws = walk_step s at End w in
          let d : length s - at ≡ 0 = let g = step_ended s at w in omega arith in
          subst Goal (sym (ap (λ (x : Walk). x.pars) ws)) (sym (ap (λ (m : ℕ). tabulate m (λ k. zeroed at [] (at + k))) d))
      on Fault w ih =
          let ws = walk_step s at Fault w in
          let z : ◌≡◌ {A = ℕ} 18 0 = sym (ap (λ (x : Walk). x.code) ws) ∙ e in absurd (omega arith)
