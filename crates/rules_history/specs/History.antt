-- Demand 3: what is said of entire histories, as one statement (Rules 10.1 to 10.7).
-- Assumes nothing.
use Rattle.std.specs.Prelude.{◌≡◌, Bool, true, false, ◌&&◌, not, List, [], ◌∷◌, map, ℕ, ◌+◌, ◌*◌, ◌<◌, eqb, ltb, length, replicate}
use Rattle.laws.specs.Columns.{number_at}
use Rattle.state_tables.specs.Sound.{pair, unit_index}
use Rattle.state_tables.specs.declared.Gateway.{Gateway}
use Rattle.codec_read.specs.Verdict.{verdict}
use Rattle.codec_read.specs.Meaning.{reading_of}
use Rattle.rules_action.specs.Types.{asp_up}
use Rattle.rules_event.specs.Event.{Lent, Event, message}
use Rattle.rules_event.specs.Identifiers.{is_member}
use Rattle.rules_event.specs.Rules.{refusal, is_error, class_type_of}
use Rattle.rules_event.specs.Reach.{reach, from_controller}
use Rattle.rules_event.specs.Effect.{hold_bytes}
use Rattle.rules_event.specs.Calls.{Board, next_board, Call, events, board_after, Calls, answer, rules_answer}
use Rattle.rules_event.specs.Samples.{g₁, g₅, takes, arrives, comes_up}
use Rattle.rules_history.specs.Trade.{swaps, Trades, outs, last}

-- a link of the plan is reached with its owner (Rule 9.4)
abbrev pub reaches_link : Gateway → Event → ℕ → Bool
reaches_link g e l = ltb l g.links && reach g e (number_at g.owner l)

-- Rule 10.4: two neighbours may trade places if they are not both of one controller (ASP), and no server (AS)
-- is reached by both.
pub record Independent (b : Board) (e f : Event) : Type 0 where
  pub controllers : (q : ℕ) → from_controller e.kind q ≡ true → from_controller f.kind q ≡ true → ⊥
  pub servers : (a : ℕ) → reach b.gateway e a ≡ true → reach b.gateway f a ≡ true → ⊥

-- what no event changes
pub record Plan : Type 0 where
  pub asps : ℕ
  pub ases : ℕ
  pub links : ℕ
  pub spare : ℕ
  pub aspid : List ℕ
  pub member : List ℕ
  pub mode : List ℕ
  pub iid : List ℕ
  pub owner : List ℕ
  pub highspeed : List ℕ
  pub wholelists : List ℕ

abbrev pub plan_of : Gateway → Plan
plan_of g =
    record {
      asps = g.asps;
      ases = g.ases;
      links = g.links;
      spare = g.spare;
      aspid = g.aspid;
      member = g.member;
      mode = g.mode;
      iid = g.iid;
      owner = g.owner;
      highspeed = g.highspeed;
      wholelists = g.wholelists;
    }

-- What an event leaves as it was, number by number (Rules 9.5, 10.5): the plan; the waiting mark and the
-- activity of an AS out of reach; the state of a link out of reach.
pub record Untouched (g : Gateway) (e : Event) (c : Gateway) : Type 0 where
  pub plan : plan_of c ≡ plan_of g
  pub waiting : (a : ℕ) → a < 16 → reach g e a ≡ false → number_at c.waiting a ≡ number_at g.waiting a
  pub active : (a q : ℕ) → a < 16 → q < 16 → reach g e a ≡ false → number_at c.active (pair a q) ≡ number_at g.active (pair a q)
  pub state : (l : ℕ) → reaches_link g e l ≡ false → number_at c.state l ≡ number_at g.state l
  -- an ASP comes up or goes down by its own events alone
  pub up : (q : ℕ) → q < 16 → from_controller e.kind q ≡ false → number_at c.up q ≡ number_at g.up q
  -- and the members of an AS out of reach stay up, or down, whoever's event it is
  pub ups : (a q : ℕ) → a < 16 → q < 16 → reach g e a ≡ false → is_member g a q ≡ true → number_at c.up q ≡ number_at g.up q

-- column x has for each unit of an AS out of reach what column y has
abbrev pub SameUnits : Gateway → Event → List ℕ → List ℕ → Type 0
SameUnits g e x y = (a k : ℕ) → a < 16 → k < 8 → reach g e a ≡ false → number_at x (unit_index a k) ≡ number_at y (unit_index a k)

-- the units and the part of the hold of an AS out of reach: how many it has, what is kept of each, and every
-- byte
pub record UnitsStay (b : Board) (e : Event) (c : Board) : Type 0 where
  pub count : (a : ℕ) → a < 16 → reach b.gateway e a ≡ false → number_at c.gateway.held.count a ≡ number_at b.gateway.held.count a
  pub tag : SameUnits b.gateway e c.gateway.held.tag b.gateway.held.tag
  pub length : SameUnits b.gateway e c.gateway.held.length b.gateway.held.length
  pub marked : SameUnits b.gateway e c.gateway.held.marked b.gateway.held.marked
  pub id : SameUnits b.gateway e c.gateway.held.id b.gateway.held.id
  pub correlation : SameUnits b.gateway e c.gateway.held.correlation b.gateway.held.correlation
  pub bytes : (a j : ℕ) → a < 16 → j < 2184 → reach b.gateway e a ≡ false → number_at c.hold (a * 2184 + j) ≡ number_at b.hold (a * 2184 + j)

-- at every call of a history
abbrev pub Outside : Board → List Call → Type 0
Outside b [] = Unit {0}
Outside b (d ∷ ds) = Untouched b.gateway d.event d.outcome.gateway × UnitsStay b d.event (board_after b d) × Outside (board_after b d) ds

-- The statement: a history cs from b to c, and the same events after the trades at the places ts, ds from b
-- to c'.
pub record Demand3 (b : Board) (cs ds : List Call) (c c' : Board) (ts : List ℕ) : Type 0 where
  -- what the calls hand back is what the rules give, run from the first state on the events alone
  pub by_rules : map answer cs ≡ outs rules_answer next_board b (events cs)
  pub state_by_rules : c ≡ last rules_answer next_board b (events cs)
  -- after the trades every event hands back the same refusal or count and the same orders, word for word
  pub same_answers : map answer ds ≡ swaps ts (map answer cs)
  -- and the last state is the same in every field, the last hold in every byte
  pub same_state : c' ≡ c
  pub outside : Outside b cs

-- For every first state, sound or not, every hold, all calls, and any number of allowed trades one after the
-- other.
abbrev pub Statement : Type 0
Statement = (b c c' : Board) (cs ds : List Call) (ts : List ℕ) → Calls b cs c → Calls b ds c'
    → Trades next_board Independent b (events cs) ts → events ds ≡ swaps ts (events cs) → Demand3 b cs ds c c' ts

-- Stated beside it: a readable Up that is not refused reaches the ASes of its ASP, and no others (Rule 10.7).
unfoldable pub is_up : List ℕ → Bool
is_up s = not (is_error s) && (eqb (verdict s) 0 && eqb (class_type_of (reading_of s)) asp_up)

abbrev pub ReachOfUp : Type 0
ReachOfUp = (g : Gateway) (p : ℕ) (s : List ℕ) (lent : Lent) (a : ℕ) → refusal g (record { kind = message p s; lent = lent }) ≡ 0 → is_up s ≡ true
    → reach g (record { kind = message p s; lent = lent }) a ≡ (ltb a g.ases && is_member g a p)

-- lists to lend, of the lengths that the events have
abbrev pub Rooms : List Event → List (List ℕ) → Type 0
Rooms [] [] = Unit {0}
Rooms [] (l ∷ ls) = ⊥
Rooms (e ∷ h) [] = ⊥
Rooms (e ∷ h) (l ∷ ls) = (length l ≡ e.lent.room) × Rooms h ls

-- for instance lists of zeros
abbrev pub blanks : List Event → List (List ℕ)
blanks h = map (λ (e : Event). replicate e.lent.room 0) h

-- Such calls exist for every first state with a hold of the right length, every list of events and all lent
-- lists of their lengths: the statement is about something.
pub record Made (b : Board) (h : List Event) (ls : List (List ℕ)) : Type 0 where
  pub list : List Call
  pub end : Board
  pub are : Calls b list end
  pub of : events list ≡ h
  pub lend : map (λ (d : Call). d.lent) list ≡ ls

-- the board of a sample: a hold of zeros
abbrev pub sample_board : Gateway → Board
sample_board g = record { gateway = g; hold = replicate hold_bytes 0 }

-- everything that the statement asks for is there in a history of two events of plan S, which trade places;
-- each reaches an AS
pub record TradeExists (g : Gateway) (e f : Event) : Type 0 where
  pub calls : Made (sample_board g) (e ∷ f ∷ []) (replicate 1544 0 ∷ replicate 1544 0 ∷ [])
  pub traded : Made (sample_board g) (f ∷ e ∷ []) (replicate 1544 0 ∷ replicate 1544 0 ∷ [])
  pub trades : Trades next_board Independent (sample_board g) (e ∷ f ∷ []) (0 ∷ [])
  pub events_trade : f ∷ e ∷ [] ≡ swaps (0 ∷ []) (e ∷ f ∷ [])
  pub first : reach g e 0 ≡ true
  pub second : reach g f 1 ≡ true

-- Trades exist: ASP 0 takes AS 0 over, or a unit comes in for it and is held; and ASP 2 comes up.
abbrev pub TradesExist : Type 0
TradesExist = TradeExists g₁ takes comes_up × TradeExists g₅ arrives comes_up
