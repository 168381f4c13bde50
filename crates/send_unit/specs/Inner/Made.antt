-- An action with the unit that it sends, and the data that its message shows.
-- Assumes nothing.
use Rattle.std.specs.Prelude.{Option, Some, None, [], ⊤, ℕ, ◌+◌, ◌-◌, ◌*◌, ◌<◌, ◌≤◌, ◌≡◌, Bool, not, ◌&&◌, List, eqb, take, drop}
use Rattle.std.proofs.Math.Path.{refl}
use Rattle.std.proofs.Common.{◌∙◌}
use Rattle.std.proofs.Math.Bool.{true, false, cond}
use native.Mathlib.Omega.{arith}
use Rattle.std.proofs.Math.ListN.{length, length-drop}
use Rattle.std.proofs.Math.Seq.{length-take-le}
use Rattle.std.specs.Bool.{then_some}
use Rattle.laws.specs.Columns.{number_at}
use Rattle.rules_action.specs.declared.Action.{Action}
use Rattle.rules_event.specs.Sent.{is_data}
use Rattle.send_unit.specs.declared.Sent.{Sent}
use Rattle.send_unit.specs.declared.Extent.{Extent}
use Rattle.send_unit.specs.declared.Columns.{Columns}
use Rattle.send_unit.specs.Inner.Words.{said}

-- it sends a unit held
abbrev pub held_of : Bool → Action → Bool
held_of passed o = is_data o && not passed

pub held_said : (passed : Bool) (o : Action) → held_of passed (said o) ≡ held_of passed o
unfolding is_data
held_said passed o = refl

-- where the unit at index i lies in the hold, whose parameter has len bytes
abbrev pub lies_at : ℕ → ℕ → Extent
lies_at i len = record { from = i * 273; to = i * 273 + len - 4 }

-- the action with the unit at index i, of the columns of units
abbrev pub sent_of : List ℕ → List ℕ → List ℕ → List ℕ → Bool → ℕ → Action → Sent
sent_of tags lengths marks correlations passed i o =
    record {
      o = o;
      passed = passed;
      held = then_some (held_of passed o) (lies_at i (number_at lengths i));
      unit = record { tag = number_at tags i; correlation = then_some (eqb (number_at marks i) 1) (number_at correlations i) };
    }

abbrev pub sent_in : Columns → Bool → ℕ → Action → Sent
sent_in u passed i o = sent_of u.tags.now u.lengths.now u.marks.now u.correlations.now passed i o

-- a unit lies within the hold h; and its bytes, none where there is no unit
abbrev pub LiesIn : List ℕ → Option Extent → Type 0
LiesIn h None = ⊤
LiesIn h (Some e) = (e.from ≤ e.to) × (e.to ≤ length h)

unfoldable pub shown_of : List ℕ → Option Extent → List ℕ
shown_of h None = []
shown_of h (Some e) = take (e.to - e.from) (drop e.from h)

-- the data that its message shows, of the hold h
abbrev pub shown : List ℕ → Sent → List ℕ
shown h x = shown_of h x.held

-- ---- where what is shown lies

-- the length that the parameter of a unit has
pub record Long (n : ℕ) : Type 0 where
  pub least : 5 ≤ n
  pub longest : n ≤ 277

-- a unit of a length that a unit has lies in the hold; where none is sent nothing is asked
pub record Lies (h : List ℕ) (x : Sent) : Type 0 where
  pub inside : LiesIn h x.held
  pub short : length (shown h x) ≤ 273

module _ (h tags lengths marks correlations : List ℕ) (passed : Bool) (i : ℕ) (o : Action) where
  pub lies : length h ≡ 34944 → i < 128 → (held_of passed o ≡ true → Long (number_at lengths i)) → Lies h (sent_of tags lengths marks correlations passed i o)
  unfolding shown_of
  lies w l long = let p = go (held_of passed o) refl in record { inside = p.0; short = p.1 }
    where
      go : (b : Bool) → held_of passed o ≡ b
          → LiesIn h (then_some b (lies_at i (number_at lengths i))) × (length (shown_of h (then_some b (lies_at i (number_at lengths i)))) ≤ 273)
      go true e =
          let q = long e in
          let a = q.least in
          let b = q.longest in
          let d = length-drop (i * 273) h in
          let t = length-take-le (i * 273 + number_at lengths i - 4 - i * 273) (drop (i * 273) h) (omega arith) in
          ((omega arith, omega arith), omega arith)
      go false e = (tt, omega arith)
