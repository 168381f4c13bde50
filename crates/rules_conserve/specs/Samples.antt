-- A history of plan S (Rule 11.1) in which all of it happens to units of AS 0: the statement is about
-- something.
-- Assumes nothing.
use Rattle.std.specs.Prelude.{◌≡◌, List, [], ◌∷◌, ◌++◌, map, replicate}
use Rattle.rules_event.specs.Event.{EventKind, message, recovery, link_message, bare}
use Rattle.rules_event.specs.Effect.{hold_bytes}
use Rattle.rules_event.specs.Calls.{Board, Call, events, Calls}
use Rattle.rules_event.specs.Samples.{fresh_s, sample_event, unit}
use Rattle.rules_conserve.specs.Conserve.{tally, holds, sum}

-- ASP 0 takes AS 0 over, and leaves it pending
unfoldable pub leaves : List EventKind
leaves = message 0 (bare 4 1) ∷ message 0 (bare 4 2) ∷ []

-- ASP 0 comes up; nine units come in, the ninth is turned away, eight go out; one comes in and is discarded;
-- one comes in and is held
unfoldable pub day : List EventKind
day =
    message 0 (bare 3 1) ∷ leaves
    ++ (replicate 9 (link_message unit) ++ (leaves ++ (link_message unit ∷ recovery 0 ∷ leaves ++ (link_message unit ∷ []))))

pub record Day : Type 0 where
  pub calls : List Call
  pub end : Board
  pub are : Calls (record { gateway = fresh_s; hold = replicate hold_bytes 0 }) calls end
  pub of : events calls ≡ map sample_event day
  pub counts : tally 0 0 fresh_s calls ≡ record { came = 11; sent = 8; discarded = 1; turned = 1 }
  pub left : holds end.gateway 0 ≡ 1

-- the sum over all ASes takes each of the sixteen once
pub record Sums : Type 0 where
  pub all : sum (λ a. record { came = a; sent = 1; discarded = 2; turned = 3 }) ≡ record { came = 120; sent = 16; discarded = 32; turned = 48 }
