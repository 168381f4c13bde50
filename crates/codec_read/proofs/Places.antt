-- Where a value lies, found by the walk, and as a part of the message.
-- Assumes nothing.
use mathlib.Core.Path.{◌≡◌, refl, sym, ap, ◌∙◌}
use mathlib.Core.Bool.{Bool, true, false, cond, ◌||◌}
use mathlib.Core.List.{List, []}
use Prim.Native.Nat.{ℕ, zero, suc, ◌+◌, ◌-◌, ◌<◌, ◌≤◌}
use native.Mathlib.Omega.{arith}
use lib.ListN.{length, take, drop, length-take, length-drop}
use lib.Dec.{eqb}
use Rattle.std.specs.Prelude.{Option, Some, None}
use Rattle.std.specs.Option.{unwrap_or}
use Rattle.codec_wire.specs.Walk.{padded, walk, step_at}
use Rattle.codec_wire.specs.declared.Step.{Step}
use Rattle.codec_wire.specs.declared.Step.TheVariants.{Param, End, Fault}
use Rattle.codec_wire.proofs.Steps.{step_next, Next, pars_next, pars_stop, walk_step}
use Rattle.codec_parameter.specs.Table.{key}
use Rattle.codec_read.specs.declared.Found.{Found}
use Rattle.codec_read.specs.Meaning.{body_in, found_in, or_zeros, place_of, data_of, data_tag, data_at, LiesAt, DataLies}

-- a tag counts as 0x300: it is one of the two
pub data_key : (u : ℕ) → eqb (key u) 0x300 ≡ (eqb u 0x300 || eqb u 0x301)
data_key u = go (eqb u 0x301) (eqb u 0x300) refl
  where
    go : (b c : Bool) → eqb u 0x300 ≡ c → eqb (cond b 0x300 u) 0x300 ≡ (c || b)
    go true true e = refl
    go true false e = refl
    go false true e = e
    go false false e = e

-- a parameter stands at a position
module _ (s : List ℕ) (at t l n : ℕ) (e : step_at s at ≡ Param t l n) where
  body_length : length (take (at + l - (at + 4)) (drop (at + 4) s)) ≡ at + l - (at + 4)
  body_length = let k = step_next s at t l n e in simp (length-take, length-drop) (omega arith)

  next_is : at + padded (4 + (at + l - (at + 4))) ≡ n
  next_is = let k = step_next s at t l n e in let m : 4 + (at + l - (at + 4)) ≡ l = omega arith in ap (λ (x : ℕ). at + padded x) m ∙ sym k.place

  pub found_next : (x y : ℕ) → found_in x y at (walk s at).pars ≡ cond (eqb t x || eqb t y) (Some (record { tag = t; start = at + 4; length = at + l - (at + 4) })) (found_in x y n (walk s n).pars)
  unfolding found_in
  found_next x y = rw (pars_next s at t l n e, body_length, next_is)

  found_lies : LiesAt s (record { start = at + 4; length = at + l - (at + 4) }) (take (at + l - (at + 4)) (drop (at + 4) s))
  found_lies = let k = step_next s at t l n e in record { bytes = refl; within = omega arith }

-- the parameters end there
pub found_stop : (s : List ℕ) (at x y : ℕ) (w : Step) → step_at s at ≡ w → ((t' l n : ℕ) → w ≡ Param t' l n → ⊥)
    → found_in x y at (walk s at).pars ≡ None
unfolding found_in
found_stop s at x y w e h = ap (found_in x y at) (pars_stop s at w e h)

either : {s v v' : List ℕ} (d d' : Option Found) (b : Bool) → LiesAt s (place_of (or_zeros d)) v → LiesAt s (place_of (or_zeros d')) v' → LiesAt s (place_of (or_zeros (cond b d d'))) (cond b v v')
either d d' true h k = h
either d d' false h k = k

-- protocol data lies where the walk says
lies : (s : List ℕ) (at : ℕ) → LiesAt s (place_of (or_zeros (found_in 0x300 0x301 at (walk s at).pars))) (body_in 0x300 (walk s at).pars)
unfolding found_in body_in
lies s at = go (suc (length s - at)) at (omega arith)
  where
    nothing : LiesAt s (record { start = 0; length = 0 }) []
    nothing = record { bytes = refl; within = omega arith }

    on : (at : ℕ) (w : Step) → step_at s at ≡ w → ((n : ℕ) → at < n → n ≤ length s → LiesAt s (place_of (or_zeros (found_in 0x300 0x301 n (walk s n).pars))) (body_in 0x300 (walk s n).pars))
        → LiesAt s (place_of (or_zeros (found_in 0x300 0x301 at (walk s at).pars))) (body_in 0x300 (walk s at).pars)
    on at (Param u l n) e ih =
        let k : Next s at l n = step_next s at u l n e in
        rw (pars_next s at u l n e, body_length s at u l n e, next_is s at u l n e, data_key u) (either _ _ (eqb u 0x300 || eqb u 0x301) (found_lies s at u l n e) (ih n (omega arith) (omega arith)))
    on at End e ih = rw (walk_step s at End e) nothing
    on at Fault e ih = rw (walk_step s at Fault e) nothing

    go : (f at : ℕ) → length s - at < f → LiesAt s (place_of (or_zeros (found_in 0x300 0x301 at (walk s at).pars))) (body_in 0x300 (walk s at).pars)
    go zero at h = absurd (omega arith)
    go (suc f) at h = on at (step_at s at) refl (λ n a b. go f n (omega arith))

pub data_lies : DataLies
unfolding data_of data_at
data_lies s = lies s 8

zeros_for : (o : Option Found) → unwrap_or o (record { tag = 0; start = 0; length = 0 }) ≡ or_zeros o
zeros_for None = refl
zeros_for (Some f) = refl

-- what was found, or zeros, is what a message says of its protocol data
pub data_is : (s : List ℕ) (o : Option Found) (d : Found) → o ≡ found_in 0x300 0x301 8 (walk s 8).pars → d ≡ unwrap_or o (record { tag = 0; start = 0; length = 0 })
    → (d.tag ≡ data_tag s) × (d.start ≡ (data_at s).start) × (d.length ≡ (data_at s).length)
unfolding data_tag data_at
data_is s o d e f = let k = f ∙ zeros_for o ∙ ap or_zeros e in (ap (λ (u : Found). u.tag) k, ap (λ (u : Found). u.start) k, ap (λ (u : Found). u.length) k)
