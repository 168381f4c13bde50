-- What an event gives, refused or not, and what every entry promises (Rule 6.2).
-- Assumes nothing.
use Rattle.std.specs.Prelude.{◌≡◌, ℕ, ◌*◌, ◌≤◌, cond, List, [], ◌++◌, length, drop, eqb}
use Rattle.rules_action.specs.declared.Action.{Action}
use Rattle.rules_action.specs.Words.{words_of}
use Rattle.state_tables.specs.declared.Gateway.{Gateway}
use Rattle.rules_event.specs.declared.Outcome.{Outcome}
use Rattle.rules_event.specs.Event.{Event, message_of}
use Rattle.rules_event.specs.Effect.{actions_of, state_after, hold_after}
use Rattle.rules_event.specs.Rules.{effect_of, refusal}

-- a refused event has no actions and leaves the state (Rule 6.3)
unfoldable pub actions : Gateway → Event → List Action
actions g e = cond (eqb (refusal g e) 0) (actions_of g (effect_of g e.kind)) []

unfoldable pub next : Gateway → Event → Gateway
next g e = cond (eqb (refusal g e) 0) (state_after g (effect_of g e.kind)) g

-- the hold h, of whatever length, after it
unfoldable pub next_hold : Gateway → Event → List ℕ → List ℕ
next_hold g e h = cond (eqb (refusal g e) 0) (hold_after g (message_of e.kind) (effect_of g e.kind) h) h

-- What every entry promises of the event e on the state g: `lent` is the list of words as it comes, `left` as
-- it is handed back; `hold` and `held` are the hold's bytes before and after. Words behind the actions' words
-- stay as they came (Rule 8.6).
pub record MeetsRules (g : Gateway) (e : Event) (lent left hold held : List ℕ) (r : Outcome) : Type 0 where
  pub room : length lent ≡ e.lent.room
  pub lends : length hold ≡ e.lent.hold
  pub refused : r.refusal ≡ refusal g e
  pub count : r.count ≡ length (actions g e)
  -- so 1,544 words are enough (Rule 8.7)
  pub few : r.count ≤ 386
  pub state : r.gateway ≡ next g e
  pub bytes : held ≡ next_hold g e hold
  pub words : left ≡ words_of (actions g e) ++ drop (4 * length (actions g e)) lent

-- What the one function of all events promises, which may be lent less than the hold, as where only the
-- actions are wanted: e.lent.hold is the hold's length. All that `MeetsRules` says of a hold of that
-- length; and the bytes are written where it is lent whole.
pub record Runs (g : Gateway) (e : Event) (lent left part part' : List ℕ) (r : Outcome) : Type 0 where
  pub meets : (hold : List ℕ) → length hold ≡ e.lent.hold → MeetsRules g e lent left hold (next_hold g e hold) r
  pub bytes : part' ≡ cond (eqb (length part) e.lent.hold) (next_hold g e part) part
