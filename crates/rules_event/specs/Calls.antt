-- Histories of calls: the state, and the hold that goes through them with it (Rules 10.2, 10.3).
-- Assumes nothing.
use Rattle.std.specs.Prelude.{◌≡◌, cond, List, [], ◌∷◌, map, ℕ, ◌*◌, eqb, length, take}
use Rattle.rules_action.specs.Words.{words_of}
use Rattle.state_tables.specs.declared.Gateway.{Gateway}
use Rattle.rules_event.specs.declared.Outcome.{Outcome}
use Rattle.rules_event.specs.Event.{Event}
use Rattle.rules_event.specs.Effect.{hold_bytes}
use Rattle.rules_event.specs.Rules.{refusal}
use Rattle.rules_event.specs.Entry.{actions, next, next_hold, MeetsRules}

-- the gateway's state and its hold
pub record Board : Type 0 where
  pub gateway : Gateway
  pub hold : List ℕ

-- both after an event, as the rules give them
abbrev pub next_board : Board → Event → Board
next_board b e = record { gateway = next b.gateway e; hold = next_hold b.gateway e b.hold }

-- One call of an entry: its event, the lent list of words as it comes and as it is handed back, the lent hold
-- as it comes and as it is handed back, and what is returned.
pub record Call : Type 0 where
  pub event : Event
  pub lent : List ℕ
  pub left : List ℕ
  pub hold : List ℕ
  pub held : List ℕ
  pub outcome : Outcome

abbrev pub events : List Call → List Event
events cs = map (λ (d : Call). d.event) cs

-- the hold that goes on: what a call hands back that was lent one of the right length; a call that was lent
-- some other leaves it
abbrev pub board_after : Board → Call → Board
board_after b d = record { gateway = d.outcome.gateway; hold = cond (eqb d.event.lent.hold hold_bytes) d.held b.hold }

-- A history of calls (Rule 10.2): each call keeps what the entries promise (`MeetsRules`), and the next one
-- gets the state that it hands back, and the hold.
pub data Calls : Board → List Call → Board → Type 0 where
  none : {b : Board} → Calls b [] b
  call : {b c : Board} {d : Call} {ds : List Call}
      → MeetsRules b.gateway d.event d.lent d.left d.hold d.held d.outcome → (d.event.lent.hold ≡ hold_bytes → d.hold ≡ b.hold)
      → Calls (board_after b d) ds c → Calls b (d ∷ ds) c

-- What a call gives (Rule 10.3): the refusal, or 0, the number of actions, and the actions, four words each.
pub record Answer : Type 0 where
  pub refusal : ℕ
  pub count : ℕ
  pub words : List ℕ

abbrev pub answer : Call → Answer
answer d =
    record {
      refusal = d.outcome.refusal;
      count = d.outcome.count;
      words = take (4 * d.outcome.count) d.left;
    }

-- What the rules give for an event on a state.
abbrev pub rules_answer : Board → Event → Answer
rules_answer b e =
    record { refusal = refusal b.gateway e; count = length (actions b.gateway e); words = words_of (actions b.gateway e) }
