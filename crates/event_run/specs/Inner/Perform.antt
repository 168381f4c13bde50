-- From what the code does to what every entry promises.
-- Assumes nothing.
use Rattle.std.specs.Prelude.{ℕ, ◌*◌, ◌≤◌, ◌≡◌, refl, Bool, true, false, cond, List, [], ◌++◌, eqb, length, drop}
use Rattle.std.proofs.Common.{◌∙◌, sym, arith, mul_comm, eq-eqb, ne_eqb}
use Rattle.rules_action.specs.Words.{words_of}
use Rattle.rules_action.specs.Inner.Words.{Written, place_first}
use Rattle.state_tables.specs.Sound.{is_sound}
use Rattle.state_tables.specs.declared.Gateway.{Gateway}
use Rattle.rules_event.specs.declared.Outcome.{Outcome}
use Rattle.rules_event.specs.Event.{EventKind, Event, message_of, lending}
use Rattle.rules_event.specs.Effect.{Effect, actions_of, state_after, hold_after}
use Rattle.rules_event.specs.Rules.{effect_of, in_plan, refusal_of, refusal}
use Rattle.rules_event.specs.Entry.{actions, next, next_hold, MeetsRules, Runs}
use Rattle.rules_event.specs.Inner.Few.{few_count}
use Rattle.event_asked.specs.Happened.{event_of}
use Rattle.rules_event.specs.Inner.Accepted.{accepted}

-- what a function that does the effect d on the state g hands back, and leaves of the words ws
pub record Performed (g : Gateway) (d : Effect) (ws ws' : List ℕ) (r : Outcome) : Type 0 where
  pub accepted : r.refusal ≡ 0
  pub wrote : Written ws 0 (actions_of g d) ws' r.count
  -- Rule 8.7
  pub few : length (actions_of g d) ≤ 386
  pub state : r.gateway ≡ state_after g d

-- ---- from both to what every entry promises

-- the refusal of an event on the state g, where known says that what it names is in the plan; size is the
-- hold's length
abbrev refusal_in : Gateway → Bool → ℕ → List ℕ → ℕ
refusal_in g known size ws = refusal_of (is_sound g) known (lending (length ws) size)

-- what is promised of the effect d: the equations of `MeetsRules`, but for the hold
pub record MeetsEffect (g : Gateway) (known : Bool) (size : ℕ) (d : Effect) (lent left : List ℕ) (r : Outcome) : Type 0 where
  pub refused : r.refusal ≡ refusal_in g known size lent
  pub count : r.count ≡ length (cond (eqb (refusal_in g known size lent) 0) (actions_of g d) [])
  pub state : r.gateway ≡ cond (eqb (refusal_in g known size lent) 0) (state_after g d) g
  pub words : left ≡ words_of (cond (eqb (refusal_in g known size lent) 0) (actions_of g d) []) ++ drop (4 * length (cond (eqb (refusal_in g known size lent) 0) (actions_of g d) [])) lent

does_no : (g : Gateway) (known : Bool) (size : ℕ) (d : Effect) {ws : List ℕ} {no : ℕ} → no ≡ refusal_in g known size ws → (no ≡ 0 → ⊥)
    → MeetsEffect g known size d ws ws (record { refusal = no; count = 0; gateway = g })
unfolding words_of
does_no g known size d {ws} {no} e h =
    record {
      refused = e;
      count = rw (← e, ne_eqb no 0 h);
      state = rw (← e, ne_eqb no 0 h);
      words = rw (← e, ne_eqb no 0 h);
    }

does_yes : (g : Gateway) (known : Bool) (size : ℕ) (d : Effect) {ws ws' : List ℕ} {no : ℕ} {r : Outcome}
    → no ≡ refusal_in g known size ws → no ≡ 0 → Performed g d ws ws' r
    → MeetsEffect g known size d ws ws' r
does_yes g known size d {ws} {ws'} {no} {r} e h p =
    let t = accepted (is_sound g) known (lending (length ws) size) (sym e ∙ h) in
    record {
      refused = p.accepted ∙ sym h ∙ e;
      count = rw (← e, eq-eqb no 0 h) (omega (arith, p.wrote.next));
      state = rw (← e, eq-eqb no 0 h) p.state;
      words = rw (← e, eq-eqb no 0 h) (p.wrote.words ∙ place_first ws (actions_of g d) (omega (arith, t.enough, p.few)) ∙ rw (mul_comm (length (actions_of g d)) 4));
    }

-- with any hold of the length that is told
handed : (g : Gateway) (k : EventKind) (size : ℕ) {ws ws' : List ℕ} {r : Outcome} → MeetsEffect g (in_plan g k) size (effect_of g k) ws ws' r
    → (hold : List ℕ) → length hold ≡ size → MeetsRules g (event_of k (length ws) size) ws ws' hold (next_hold g (event_of k (length ws) size) hold) r
unfolding actions next
handed g k size {ws = ws} h hold z =
    record {
      room = refl;
      lends = z;
      refused = h.refused;
      count = h.count;
      few = few_count g (event_of k (length ws) size) h.count;
      state = h.state;
      bytes = refl;
      words = h.words;
    }

same : (b : Bool) (h : List ℕ) → h ≡ cond b h h
same true h = refl
same false h = refl

-- a refused event leaves what it is lent of the hold
pub runs_no : (g : Gateway) (k : EventKind) (size : ℕ) {ws part : List ℕ} {no : ℕ} → no ≡ refusal g (event_of k (length ws) size) → (no ≡ 0 → ⊥)
    → Runs g (event_of k (length ws) size) ws ws part part (record { refusal = no; count = 0; gateway = g })
unfolding next_hold
runs_no g k size {ws} {part} {no} e h =
    record {
      meets = handed g k size (does_no g (in_plan g k) size (effect_of g k) e h);
      bytes = rw (← e, ne_eqb no 0 h) (same (eqb (length part) size) part);
    }

-- an accepted one does to it what its effect says, where it is lent whole
pub runs_yes : (g : Gateway) (k : EventKind) (size : ℕ) {ws ws' part part' : List ℕ} {d : Effect} {no : ℕ} {r : Outcome}
    → no ≡ refusal g (event_of k (length ws) size) → no ≡ 0 → d ≡ effect_of g k → Performed g d ws ws' r
    → part' ≡ cond (eqb (length part) size) (hold_after g (message_of k) d part) part
    → Runs g (event_of k (length ws) size) ws ws' part part' r
unfolding next_hold
runs_yes g k size {ws} {ws'} {part} {part'} {d} {no} {r} e h q p b =
    record {
      meets = handed g k size (does_yes g (in_plan g k) size (effect_of g k) e h (rw q at p));
      bytes = rw (← e, eq-eqb no 0 h, ← q) b;
    }

-- so the entry that is lent the hold whole meets the rules
pub runs_meets : {g : Gateway} {e : Event} {lent left part part' : List ℕ} {r : Outcome} → Runs g e lent left part part' r → length part ≡ e.lent.hold → MeetsRules g e lent left part part' r
runs_meets {g} {e} {lent} {left} {part} {part'} {r} h z =
    let b : part' ≡ next_hold g e part = h.bytes ∙ rw (eq-eqb (length part) e.lent.hold z) in
    rw b (h.meets part z)
