use Prim.Native.Nat.{ℕ, min, ◌+◌, ◌-◌, ◌<◌, ◌≤◌}
use mathlib.Core.Path.{◌≡◌, refl, sym, ap, ◌∙◌}
use mathlib.Core.Bool.{Bool, true, false}
use mathlib.Core.List.{List}
use mathlib.Core.Logic.{◌⊎◌, inl, inr}
use native.Mathlib.Omega.{arith}
use native.Mathlib.Nat.{add-zero}
use native.Mathlib.Decide.{dec_lt}
use lib.Dec.{leb}
use lib.ListN.{length}
use borrow.Author.Tests.{le-leb, lt-leb}
use Rattle.std.proofs.Math.Nat.{min-le_left, min-le_right, le-min}
use Rattle.std.specs.Bool.{then_some}
use Rattle.laws.specs.Below.{one}
use Rattle.laws.specs.Columns.{number_at}
use Rattle.rules_action.specs.declared.Action.{Action}
use Rattle.rules_event.specs.Sent.{is_data}
use Rattle.laws.specs.Inner.Below.{from_one, one_small}
use Rattle.send_unit.specs.Inner.Words.{action_in, data_in, data_more, data_small}
use Rattle.send_unit.specs.Inner.Made.{held_of}
use Rattle.send_orders.specs.Inner.Part.{Lent, lent_in, Ready, Again, made_in, part_in, part_of_lem, PutIf, put_as, put_length, put_none, put_done}
use Rattle.send_orders.specs.Inner.Alike.{repeats_in, repeats_part}
use Rattle.send_orders.specs.Inner.Batch.{Filled, filled_none, filled_out, filled_lens, filled_more, filled_as, filled_before, ends_all, ends_slots, ends_room, ends_in}
use Rattle.send_orders.proofs.put_many.Goals as goal

-- at the loop's head, where the action n places on is not beyond the last
module _ {v : Lent} (p : Ready v) {lens₀ out₀ : List ℕ} {n at size d : ℕ} {lens out : List ℕ}
    (h : (v.run.place + n ≤ v.run.count)
    × Filled (λ j. part_in v (v.run.place + j)) (λ m. leb v.run.count (v.run.place + m)) lens₀ out₀ n at lens out
    × (0 < n → size ≡ length (part_in v (v.run.place + (n - 1))))
    × (d ≡ data_in v.words (v.run.place + n)))
    (l : v.run.place + n < v.run.count) where
  -- what is written is made of the action and its unit
  made-now : {i : ℕ} {o : Action} → i ≡ number_at v.list d → o ≡ action_in v.words (v.run.place + n) → made_in v i o ≡ part_in v (v.run.place + n)
  made-now ei eo = part_of_lem v (v.run.place + n) _ _ l (ei ∙ ap (number_at v.list) h.3) eo

  -- where the action repeats, it stands before the position, and is as long as the one before it
  again-now : (b : Bool) → b ≡ repeats_in v.run.passed v.words v.run.place n → Again out at (part_in v (v.run.place + n)) (then_some b size)
  again-now true e = let s = repeats_part v n l (sym e) in (h.2 s.0 ∙ ap length (sym s.1), filled_before h.1 _ s.0 s.1)
  again-now false e = tt

-- a turn is not beyond the last action, nor the last length; behind the last turn one of these is met
turn_in : (count place slots most n : ℕ) → most ≡ min (count - place) slots → n < most → (place + n < count) × (n < slots)
turn_in count place slots most n e l = let a = min-le_left (count - place) slots in let b = min-le_right (count - place) slots in (omega arith, omega arith)

turn_end : (count place slots most : ℕ) → most ≡ min (count - place) slots → (count ≤ place + most) ⊎ (slots ≤ most)
turn_end count place slots most e = go (dec_lt most slots) (dec_lt most (count - place))
  where
    go : Dec (most < slots) → Dec (most < count - place) → (count ≤ place + most) ⊎ (slots ≤ most)
    go (no l) d = inr (omega arith)
    go (yes l) (no k) = inl (omega arith)
    go (yes l) (yes k) = let z : most + 1 ≤ min (count - place) slots = le-min (omega arith) (omega arith) in absurd (omega (arith, z, e))

ended-there : {part : ℕ → List ℕ} (count place : ℕ) {lens₀ out₀ : List ℕ} {n at : ℕ} {lens out : List ℕ} → Filled part (λ m. leb count (place + m)) lens₀ out₀ n at lens out → (count ≤ place + n) ⊎ (length lens₀ ≤ n)
    → ends_in part (λ m. leb count (place + m)) (length lens₀) (length out₀) n ≡ true
ended-there count place h (inl l) = ends_all h (le-leb _ _ l)
ended-there count place h (inr l) = ends_slots h l

pub data_before-d-requires : goal.data_before-d-requires
data_before-d-requires c = let p = c.requires in omega (arith, p.there, p.few)

pub loop-n-init : goal.loop-n-init
loop-n-init c = let a = c.args in (omega (arith, c.requires.there), filled_none _ _ _ _, λ l. absurd (omega (arith, l)), c.data_before-d.ensures ∙ ap (data_in a.words.now) (sym (add-zero a.run.place)))

pub put_turn-size-requires : goal.put_turn-size-requires
put_turn-size-requires c =
    let p = c.requires in
    let i = c.loop-n.invariant in
    let t = turn_in _ _ _ _ _ c.min-most.ensures c.loop-n-test.true in
    let e = c.index_at.ensures ∙ ap (number_at c.args.list.now) i.3 in
    let m = made-now p i t.0 c.index_at.ensures c.action_at-o.ensures in (
      record {
        whole = p.whole;
        place = rw e (p.indices _);
        long = λ z. rw e (p.long (c.args.run.place + c.loop-n.n) t.0 (ap (λ (o : Action). held_of c.args.run.passed o) (sym c.action_at-o.ensures) ∙ z));
        small = rw m (p.small _);
        room = omega (arith, i.1.goes_in, filled_out i.1);
      },
      rw (m, c.then_some-before.ensures) (again-now p i t.0 _ c.repeats.ensures),
    )

pub returns-then-out-at-clause-ended : goal.returns-then-out-at-clause-ended
returns-then-out-at-clause-ended c = let i = c.loop-n.invariant in
    let t = turn_in _ _ _ _ _ c.min-most.ensures c.loop-n-test.true in
    let w = put_as c.put_turn-size.ensures (made-now c.requires i t.0 c.index_at.ensures c.action_at-o.ensures) refl refl in
    record { filled = filled_as i.1 _ (put_none w c.if-out-at.true); ends_there = ends_room i.1 (omega (arith, c.if-out-at.true, w.size_is, put_length w, filled_out i.1)) }

pub overflow_cast-lens : goal.overflow_cast-lens
overflow_cast-lens c = let i = c.loop-n.invariant in
    let t = turn_in _ _ _ _ _ c.min-most.ensures c.loop-n-test.true in
    let m = made-now c.requires i t.0 c.index_at.ensures c.action_at-o.ensures in
    omega (arith, c.put_turn-size.ensures.size_is, ap length m, c.requires.small (c.args.run.place + c.loop-n.n))

pub overflow_add-d : goal.overflow_add-d
overflow_add-d c = let n = c.loop-n.n in
    let t = turn_in _ _ _ _ _ c.min-most.ensures c.loop-n-test.true in
    let e : c.from-d.result ≡ one c.is_data.result = c.from-d.ensures ∙ from_one _ in
    omega (arith, e, one_small c.is_data.result, c.loop-n.invariant.3, data_small c.args.words.now (c.args.run.place + n), t.0, c.requires.few)

pub loop-n-preserved : goal.loop-n-preserved
loop-n-preserved c = let a = c.args in
    let i = c.loop-n.invariant in
    let n = c.loop-n.n in
    let t = turn_in _ _ _ _ _ c.min-most.ensures c.loop-n-test.true in
    let w = put_as c.put_turn-size.ensures (made-now c.requires i t.0 c.index_at.ensures c.action_at-o.ensures) refl refl in
    let h = i.1 in
    let s = w.size_is in
    let z : n ≡ n + 1 - 1 = omega arith in
    let m : a.run.place + n + 1 ≡ a.run.place + (n + 1) = omega arith in
    let e : c.from-d.result ≡ one (is_data (action_in a.words.now (a.run.place + n))) = c.from-d.ensures ∙ from_one _ ∙ ap one (c.is_data.ensures ∙ ap is_data c.action_at-o.ensures) in (
      omega (arith, t.0),
      rw s (filled_more h _ _ (lt-leb _ _ t.0) t.1 (omega (arith, s, c.if-out-at.false, h.goes_in, filled_out h, put_length w)) refl (put_done w c.if-out-at.false)),
      λ _. s ∙ ap (λ (j : ℕ). length (part_in (lent_in a.run a.words.now a.list.now a.s a.units) (a.run.place + j))) z,
      (λ y. i.3 y + e y) ∙ sym (data_more a.words.now (a.run.place + n)) ∙ ap (data_in a.words.now) m,
    )

pub returns-clause-ended : goal.returns-clause-ended
returns-clause-ended c = let e : c.loop-n.n ≡ c.min-most.result = omega arith in
    let h = rw e at c.loop-n.invariant.1 in
    record { filled = h; ends_there = ended-there _ _ h (turn_end _ _ _ _ c.min-most.ensures) }
