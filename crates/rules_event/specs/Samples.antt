-- The samples that are proved, as one claim (Rules 11.1 to 11.4, 11.6, 11.8, 11.9).
-- Assumes nothing.
use Rattle.std.specs.Prelude.{◌≡◌, true, false, List, [], ◌∷◌, ◌++◌, ℕ, ◌+◌, set}
use Rattle.laws.specs.Below.{concat_below}
use Rattle.codec_put.specs.Bytes.{bytes16, bytes32}
use Rattle.state_plan.specs.Plan.{load_of}
use Rattle.state_tables.specs.declared.Gateway.{Gateway}
use Rattle.rules_action.specs.Words.{action, link_side}
use Rattle.codec_read.specs.Samples.{active, ReaderSamples}
use Rattle.rules_event.specs.Event.{EventKind, message, recovery, link_message, lending, Event, bare}
use Rattle.rules_event.specs.Effect.{send, set_link, hold_bytes, takes_in}
use Rattle.rules_event.specs.Entry.{actions, next}
use Rattle.rules_event.specs.Rules.{effect_of, least_room, refusal}
use Rattle.rules_event.specs.Calls.{answer, rules_answer}

-- ---- plan S (Rule 11.1)

-- a row of the ASPs: identifier, mask, rule for lists; of the ASes: traffic mode; of the links: identifier,
-- kind, owner (Rule 4.2)
abbrev pub asp_row : ℕ → ℕ → ℕ → List ℕ
asp_row id mask list = bytes32 id ++ (bytes16 mask ++ bytes16 list)

abbrev pub as_row : ℕ → List ℕ
as_row mode = bytes32 mode

abbrev pub link_row : ℕ → ℕ → ℕ → List ℕ
link_row id kind owner = bytes32 id ++ (bytes16 kind ++ bytes16 owner)

-- where the bodies begin and how many rows they have, then three ASPs, two ASes and seventeen links
unfoldable pub plan_s : List ℕ
plan_s =
    bytes32 24 ++ (bytes32 3 ++ (bytes32 48 ++ (bytes32 2 ++ (bytes32 56 ++ (bytes32 17
    ++ (asp_row 7 1 0 ++ (asp_row 8 1 0 ++ (asp_row 9 2 0
    ++ (as_row 1 ++ (as_row 2
    ++ (concat_below (λ l. link_row (100 + l) 0 0) 16 ++ link_row 200 0 1)))))))))))

unfoldable pub fresh_s : Gateway
fresh_s = (load_of plan_s).gateway

-- an event that is lent the least list of words and a hold
abbrev pub sample_event : EventKind → Event
sample_event k = record { kind = k; lent = lending least_room hold_bytes }

-- message M, and the states after each event of the sample
unfoldable pub m : List ℕ
m = active 1 0x64 0x73

-- after Up of ASP 0 on the fresh state
unfoldable pub g₁ : Gateway
g₁ = next fresh_s (sample_event (message 0 (bare 3 1)))

-- after M of ASP 0
unfoldable pub g₂ : Gateway
g₂ = next g₁ (sample_event (message 0 m))

-- after Up of ASP 1
unfoldable pub g₃ : Gateway
g₃ = next g₂ (sample_event (message 1 (bare 3 1)))

-- after its Active that names no identifiers
unfoldable pub g₄ : Gateway
g₄ = next g₃ (sample_event (message 1 (bare 4 1)))

-- after its Down
unfoldable pub g₅ : Gateway
g₅ = next g₄ (sample_event (message 1 (bare 3 2)))

-- Data of the link side, of the link with identifier 100: one byte
unfoldable pub unit : List ℕ
unit = 1 ∷ 0 ∷ 6 ∷ 1 ∷ 0 ∷ 0 ∷ 0 ∷ 24 ∷ 0 ∷ 1 ∷ 0 ∷ 8 ∷ 0 ∷ 0 ∷ 0 ∷ 100 ∷ 3 ∷ 0 ∷ 0 ∷ 5 ∷ 7 ∷ 0 ∷ 0 ∷ 0 ∷ []

-- after it, in the state after the Down
unfoldable pub g₆ : Gateway
g₆ = next g₅ (sample_event (link_message unit))

-- Retrieval Request for the messages behind number n, and Retrieval Confirm with n as the number of the last
-- one received: of the link with identifier 100, a plain one
unfoldable pub retrieval : ℕ → List ℕ
retrieval n =
    1 ∷ 0 ∷ 6 ∷ 10 ∷ 0 ∷ 0 ∷ 0 ∷ 32 ∷ 0 ∷ 1 ∷ 0 ∷ 8 ∷ 0 ∷ 0 ∷ 0 ∷ 100 ∷ 3 ∷ 6 ∷ 0 ∷ 8 ∷ 0 ∷ 0 ∷ 0 ∷ 2 ∷ 3 ∷ 7 ∷ 0 ∷ 8 ∷ 0 ∷ 0 ∷ 0 ∷ n ∷ []

unfoldable pub confirm : ℕ → List ℕ
confirm n =
    1 ∷ 0 ∷ 6 ∷ 11 ∷ 0 ∷ 0 ∷ 0 ∷ 40 ∷ 0 ∷ 1 ∷ 0 ∷ 8 ∷ 0 ∷ 0 ∷ 0 ∷ 100 ∷ 3 ∷ 6 ∷ 0 ∷ 8 ∷ 0 ∷ 0 ∷ 0 ∷ 1 ∷ 3 ∷ 8 ∷ 0 ∷ 8 ∷ 0 ∷ 0 ∷ 0 ∷ 0 ∷ 3 ∷ 7 ∷ 0 ∷ 8 ∷ 0 ∷ 0 ∷ 0 ∷ n ∷ []

-- M up to 116, which no link has
unfoldable pub m116 : List ℕ
m116 = active 1 0x64 0x74

-- after Up of ASP 0, on the fresh state of a plan that says of ASP 0 that its lists are taken whole
unfoldable pub g₇ : Gateway
g₇ = next (load_of (set plan_s 31 1)).gateway (sample_event (message 0 (bare 3 1)))

-- all starred samples, proved from the rules
pub record Samples : Type 0 where
  pub reader : ReaderSamples
  -- M of ASP 0: an Active Ack, and AS 0 is active
  pub takes_over : actions g₁ (sample_event (message 0 m)) ≡ action 0 1027 0 0 ∷ action 0 1 0 65539 ∷ []
  -- M up to 116: an Ack, Error 2 for 116, and AS 0 is active all the same; where ASP 0's lists are taken
  -- whole, the Error alone
  pub in_part : actions g₁ (sample_event (message 0 m116)) ≡ action 0 1027 0 0 ∷ action 0 0 116 2 ∷ action 0 1 0 65539 ∷ []
  pub whole : actions g₇ (sample_event (message 0 m116)) ≡ action 0 0 116 2 ∷ []
  -- Active of ASP 1: an Ack, and ASP 0 is overtaken
  pub overrides : actions g₃ (sample_event (message 1 (bare 4 1))) ≡ action 1 1027 0 0 ∷ action 0 1 0 131074 ∷ []
  -- Down of ASP 1: an Ack, and AS 0 is pending
  pub pends : actions g₄ (sample_event (message 1 (bare 3 2))) ≡ action 1 773 0 0 ∷ action 0 1 0 65540 ∷ []
  -- the recovery time is over: AS 0 is inactive
  pub recovers : actions g₅ (sample_event (recovery 0)) ≡ action 0 1 0 65538 ∷ []
  -- instead, Data comes in while AS 0 is pending: it is held
  pub holds : actions g₅ (sample_event (link_message unit)) ≡ []
  -- and goes out as ASP 0 takes AS 0 over: an Ack, the unit, and AS 0 is active
  pub sends_held : actions g₆ (sample_event (message 0 (bare 4 1))) ≡ action 0 1027 0 0 ∷ action 0 1537 100 0 ∷ action 0 1 0 65539 ∷ []
  -- a sequence number that a plain link can have, and one that it cannot: of ASP 0, and of the link side
  pub retrieves : actions g₂ (sample_event (message 0 (retrieval 127))) ≡ action link_side 1546 100 2 ∷ []
  pub too_large : actions g₂ (sample_event (message 0 (retrieval 128))) ≡ action 0 0 0 17 ∷ []
  pub confirms : actions g₂ (sample_event (link_message (confirm 127))) ≡ action 0 1547 100 0 ∷ []
  pub refuses : refusal g₂ (sample_event (link_message (confirm 128))) ≡ 102

-- ---- definitions that only theorems use, each pinned by a value that is computed
pub record Pinned : Type 0 where
  -- Data for AS 0 while that is pending is taken in; a message of ASP 0 is not
  pub taken : takes_in (effect_of g₅ (link_message unit)) ≡ true
  pub not_taken : takes_in (effect_of g₁ (message 0 m)) ≡ false
  -- nor are actions alone, or a link that comes to a state
  pub others : (takes_in (send []) ≡ false) × (takes_in (set_link 0 1 []) ≡ false)
  -- what M of ASP 0 gives, and a Retrieval Confirm that is refused
  pub given : rules_answer (record { gateway = g₁; hold = [] }) (sample_event (message 0 m)) ≡ record { refusal = 0; count = 2; words = 0 ∷ 1027 ∷ 0 ∷ 0 ∷ 0 ∷ 1 ∷ 0 ∷ 65539 ∷ [] }
  pub given_none : rules_answer (record { gateway = g₂; hold = [] }) (sample_event (link_message (confirm 128))) ≡ record { refusal = 102; count = 0; words = [] }
  -- of a call, the words of its actions, without what stands behind them
  pub handed :
      answer (record { event = sample_event (recovery 0); lent = []; left = 0 ∷ 1 ∷ 0 ∷ 65538 ∷ 7 ∷ []; hold = []; held = []; outcome = record { refusal = 0; count = 1; gateway = g₁ } })
      ≡ record { refusal = 0; count = 1; words = 0 ∷ 1 ∷ 0 ∷ 65538 ∷ [] }

-- ---- events of plan S that reach different ASes

-- in the state g₁: ASP 0 takes AS 0 over, by message M
unfoldable pub takes : Event
takes = sample_event (message 0 m)

-- in the state g₅: Data comes in for AS 0, and is held
unfoldable pub arrives : Event
arrives = sample_event (link_message unit)

-- in both: ASP 2 comes up
unfoldable pub comes_up : Event
comes_up = sample_event (message 2 (bare 3 1))
