-- Definitions that only the theorems on histories and on ranges use, each pinned by a value that is computed.
-- Assumes nothing.
use Rattle.std.specs.Prelude.{◌≡◌, true, false, List, [], ◌∷◌, ℕ, ◌+◌, ◌*◌}
use Rattle.state_ranges.specs.Places.{first_place, last_place, places_in, all_known}
use Rattle.rules_event.specs.Event.{bare}
use Rattle.rules_event.specs.Samples.{g₅, arrives}
use Rattle.rules_history.specs.Trade.{swaps, outs, last}
use Rattle.rules_history.specs.History.{reaches_link, is_up}

-- three links, with a gap between their identifiers
abbrev pub three_links : List ℕ
three_links = 100 ∷ 101 ∷ 103 ∷ []

pub record HistorySamples : Type 0 where
  -- Data of a link of AS 0 reaches the last link of AS 0; not that of AS 1, and no place beyond the links
  pub its_link : reaches_link g₅ arrives 15 ≡ true
  pub other_link : reaches_link g₅ arrives 16 ≡ false
  pub no_link : reaches_link g₅ arrives 17 ≡ false
  -- trades at the places 0 and 1, one after the other
  pub swapped : swaps {A = ℕ} (0 ∷ 1 ∷ []) (7 ∷ 8 ∷ 9 ∷ []) ≡ 8 ∷ 9 ∷ 7 ∷ []
  -- what each event gives, and the last state, where a state is a number and an event adds to it
  pub in_turn_lem : outs {B = ℕ} {E = ℕ} {O = ℕ} (λ b e. b * 10 + e) (λ b e. b + e) 1 (2 ∷ 3 ∷ []) ≡ 12 ∷ 33 ∷ []
  pub ends : last {B = ℕ} {E = ℕ} {O = ℕ} (λ b e. b * 10 + e) (λ b e. b + e) 1 (2 ∷ 3 ∷ []) ≡ 6
  -- an Up is one, a Down is none
  pub up : is_up (bare 3 1) ≡ true
  pub down : is_up (bare 3 2) ≡ false
  -- the places of the identifiers from 101 to 110, and of those from 104 on
  pub first_inside : first_place three_links 3 101 110 ≡ 1
  pub last_inside : last_place three_links 3 101 110 ≡ 2
  pub inside : places_in three_links 3 101 110 ≡ 2
  pub none_inside : places_in three_links 3 104 110 ≡ 0
  -- 100 and 101 are known, and so is 103, but not 102
  pub whole : all_known three_links 3 100 101 ≡ true
  pub gap : all_known three_links 3 100 103 ≡ false
