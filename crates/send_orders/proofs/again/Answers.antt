use Prim.Native.Nat.{ℕ, ◌+◌, ◌-◌}
use mathlib.Core.Path.{◌≡◌, sym, ap, ◌∙◌}
use mathlib.Core.List.{List, append_assoc}
use native.Mathlib.Omega.{arith}
use lib.ListN.{length, take, drop, length-drop}
use lib.Seq.{length-take-le, take_all}
use Rattle.std.proofs.lemmas.List.{drop-drop}
use Rattle.std.proofs.lemmas.List.Edits.{sets-eq}
use Rattle.std.proofs.lemmas.Slice.{between_is}
use Rattle.codec_put.specs.Bytes.{overlay}
use Rattle.send_orders.proofs.again.Goals as goal

pub returns : goal.returns
unfolding overlay
returns c = let a = c.args in
    let l = a.out.now in
    let i = a.at - a.size in
    let b = take a.size (drop i l) in
    let n : length b ≡ a.size = length-take-le a.size (drop i l) (omega (arith, length-drop i l)) in
    let s = c.split_at_mut-written.ensures in
    let k : a.at - i ≡ a.size = omega arith in
    let m : length c.split_at_mut-written.result.0.now - i ≡ a.size = omega (arith, s.front_len) in
    let w : drop i (take a.at l) ≡ b = sym (between_is l i a.at) ∙ ap (λ (j : ℕ). take j (drop i l)) k in
    let x : c.copy_from_slice.new.self ≡ b = c.copy_from_slice.ensures.after ∙ rw (m, s.front, w) (take_all a.size b (omega (arith, n))) in
    rw (sets-eq b l a.at (omega (arith, n)), n, s.front, s.back, x, drop-drop a.size a.at l, append_assoc (take a.at l) b (drop (a.at + a.size) l))
