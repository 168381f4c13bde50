-- No unit is lost or doubled, proved.
-- Assumes nothing.
use mathlib.Core.Path.{◌≡◌, refl, sym, ◌∙◌}
use mathlib.Core.Bool.{Bool, true, false, cond, ◌&&◌, false≢true}
use mathlib.Core.List.{List}
use Prim.Native.Nat.{ℕ, zero, suc, ◌+◌, ◌<◌}
use native.Mathlib.Omega.{arith}
use native.Mathlib.Decide.{dec_lt}
use lib.Dec.{leb, ltb}
use lib.ListN.{get_or-replicate}
use borrow.Author.Tests.{lt-ltb, le-ltb, lt-leb, le-leb}
use Rattle.laws.specs.Below.{one}
use Rattle.state_tables.specs.Sound.{is_sound, zeros}
use Rattle.state_tables.specs.declared.Gateway.{Gateway}
use Rattle.state_plan.specs.Plan.{layout_ok, fresh, refused, accepted, built, load_of}
use Rattle.state_plan.specs.Inner.Fresh.{rows_of, fresh_of, loaded_sound}
use Rattle.rules_event.specs.Link.{is_pending}
use Rattle.rules_event.specs.Entry.{actions, MeetsRules}
use Rattle.rules_event.specs.Calls.{Board, Call, Calls, none, call}
use Rattle.rules_keeps.proofs.Next.{next_sound}
use Rattle.rules_conserve.specs.Conserve.{is_recovery, done, came_in, sent_out, least, since, tally, holds, sum_below, Balanced, Balance, Conservation, FreshBalance}
use Rattle.rules_conserve.proofs.Count.{least_is, data_words}
use Rattle.rules_conserve.proofs.Step.{Step}
use Rattle.rules_conserve.proofs.Held.{few}
use Rattle.rules_conserve.proofs.Events.{event_step}

-- ---- one call

-- c are held of n that came; one more comes
eighth : (n c : ℕ) → c ≡ least n 8 → (c + one (ltb c 8) ≡ least (n + 1) 8) × (one (leb 8 n) + one (ltb c 8) ≡ 1)
eighth n c e = go (dec_lt n 8)
  where
    go : Dec (n < 8) → (c + one (ltb c 8) ≡ least (n + 1) 8) × (one (leb 8 n) + one (ltb c 8) ≡ 1)
    go (yes l) = let z : c ≡ n = e ∙ rw (lt-ltb n 8 l) in rw (z, lt-ltb n 8 l, lt-leb 8 n l) (sym (least_is (n + 1) 8 (omega arith)), omega arith)
    go (no l) = let z : c ≡ 8 = e ∙ rw (le-ltb n 8 (omega arith)) in rw (z, le-ltb (n + 1) 8 (omega arith), le-leb 8 n (omega arith)) (omega arith, omega arith)

module _ {g h : Gateway} {a : ℕ} {came over : Bool} {sent : ℕ} (n : ℕ) (e : holds g a ≡ least n 8) (s : Step g a came over sent h) where
  -- by how much each number grows
  balanced : one came + holds g a ≡ sent + cond over (least n 8) 0 + one (came && leb 8 n) + holds h a
  balanced = rw (← e) (go (is_pending h a) came s.waits s.go s.stay)
    where
      go : (t u : Bool) → (u ≡ true → t ≡ true) → sent + cond over (holds g a) 0 ≡ cond t 0 (holds g a) → holds h a ≡ cond t (holds g a + one (u && ltb (holds g a) 8)) 0
          → one u + holds g a ≡ sent + cond over (holds g a) 0 + one (u && leb 8 n) + holds h a
      go true true w p q = omega (arith, (eighth n (holds g a) e).1)
      go true false w p q = omega arith
      go false true w p q = absurd (false≢true (w refl))
      go false false w p q = omega arith

  -- what is held is what came since, up to 8
  held_since : holds h a ≡ least (cond (is_pending h a) (n + one came) 0) 8
  held_since = go (is_pending h a) came s.stay
    where
      go : (t u : Bool) → holds h a ≡ cond t (holds g a + one (u && ltb (holds g a) 8)) 0 → holds h a ≡ least (cond t (n + one u) 0) 8
      go true true q = q ∙ (eighth n (holds g a) e).0
      go true false q = let z : n + 0 ≡ n = omega arith in q ∙ rw z (omega (arith, e))
      go false u q = q

module _ (a : ℕ) (b : a < 16) where
  call_step : (g : Gateway) (d : Call) → is_sound g ≡ true → MeetsRules g d.event d.lent d.left d.hold d.held d.outcome
      → Step g a (came_in g d a) (done d && is_recovery d.event.kind a) (sent_out g d a) d.outcome.gateway
  unfolding came_in sent_out
  call_step g d ok h = rw (h.refused, h.state, h.count, h.words, data_words g a (actions g d.event) _) (event_step g a ok b d.event)

  -- ---- a history

  history : {b c : Board} {cs : List Call} (n : ℕ) → is_sound b.gateway ≡ true → holds b.gateway a ≡ least n 8 → Calls b cs c → Balanced (holds b.gateway a) (tally a n b.gateway cs) (holds c.gateway a)
  unfolding tally since
  history n ok e none = omega arith
  history n ok e (call {b} {d = d} m l t) =
      let s = call_step b.gateway d ok m in
      let r = history (since b.gateway d a n) (rw m.state (next_sound b.gateway ok d.event)) (held_since n e s) t in
      omega (arith, balanced n e s, r)

-- ---- in all

summed : (came start sent discarded turned end : ℕ → ℕ) (n : ℕ) → ((a : ℕ) → a < n → came a + start a ≡ sent a + discarded a + turned a + end a)
    → sum_below came n + sum_below start n ≡ sum_below sent n + sum_below discarded n + sum_below turned n + sum_below end n
unfolding sum_below
summed came start sent discarded turned end zero h = refl
summed came start sent discarded turned end (suc n) h = omega (arith, summed came start sent discarded turned end n (λ a b. h a (omega arith)), h n (omega arith))

from_start : (start : ℕ → ℕ) (b c : Board) (cs : List Call) → ((a : ℕ) → a < 16 → holds b.gateway a ≡ start a) → is_sound b.gateway ≡ true → Calls b cs c → Balance start b c cs
from_start start b c cs h ok t = record { each = each; all = summed _ start _ _ _ (holds c.gateway) 16 each }
  where
    each : (a : ℕ) → a < 16 → Balanced (start a) (tally a (start a) b.gateway cs) (holds c.gateway a)
    each a l = rw (h a l) at (history a l (start a) ok (h a l ∙ sym (least_is (start a) 8 (omega (arith, few b.gateway ok a l, h a l)))) t)

-- ---- the theorems

pub conservation : Conservation
conservation b c cs ok t = from_start (holds b.gateway) b c cs (λ a l. refl) ok t

-- a fresh state holds none, as does the state of zeros
none_held : (file : List ℕ) (a : ℕ) → a < 16 → holds (load_of file).gateway a ≡ 0
unfolding load_of built fresh zeros
none_held file a l = go (layout_ok file) (rows_of file)
  where
    go : (u v : Bool) → holds (cond u (cond v (accepted (fresh_of file)) (refused 202)) (refused 201)).gateway a ≡ 0
    go true true = get_or-replicate 16 a 0 0 l
    go true false = get_or-replicate 16 a 0 0 l
    go false v = get_or-replicate 16 a 0 0 l

pub fresh_balance : FreshBalance
fresh_balance file hold c cs f t = from_start (λ a. 0) (record { gateway = (load_of file).gateway; hold = hold }) c cs (none_held file) (loaded_sound file f) t
