-- The values of specs/Samples, computed.
-- Assumes nothing.
use mathlib.Core.Path.{refl, ◌∙◌}
use mathlib.Core.Bool.{◌&&◌}
use lib.Dec.{ltb}
use Rattle.laws.specs.Columns.{number_at}
use Rattle.laws.specs.Below.{all_below, first_below, last_below}
use Rattle.codec_wire.specs.Number.{be}
use Rattle.codec_wire.specs.Walk.{step_at, walk_f, walk}
use Rattle.codec_parameter.specs.Table.{table, among, has_class, row_in, entries_in, use_in, usage}
use Rattle.codec_read.specs.Verdict.{has, head, number, is_none, in_turn, all_there, sequence_code, pars_code, last_checks, verdict}
use Rattle.codec_read.specs.Meaning.{meaning, outcome, reading_of}
use Rattle.state_lookup.specs.Links.{index_of, known}
use Rattle.state_ranges.specs.Places.{is_inside, first_place, last_place, places_in, all_known}
use Rattle.rules_event.specs.Rules.{is_error}
use Rattle.rules_event.specs.Reach.{reach}
use Rattle.rules_event.specs.Samples.{g₅, arrives}
use Rattle.rules_event.proofs.Samples.{held_apart}
use Rattle.rules_history.specs.History.{is_up}
use Rattle.rules_history.specs.Samples.{HistorySamples}

pub history_samples : HistorySamples
unfolding
    all_below first_below last_below be step_at walk_f walk table among has_class row_in entries_in use_in usage has head number is_none in_turn all_there sequence_code pars_code last_checks verdict
    meaning outcome reading_of index_of known is_inside first_place last_place places_in all_known is_error is_up
history_samples =
    let h = held_apart in
    record {
      its_link = (λ i. ltb 15 (h.links.0 i) && reach g₅ arrives (h.links.1 i)) ∙ h.first.0;
      other_link = (λ i. ltb 16 (h.links.0 i) && reach g₅ arrives (h.links.2 i)) ∙ h.first.1;
      no_link = λ i. ltb 17 (h.links.0 i) && reach g₅ arrives (number_at g₅.owner 17);
      swapped = refl;
      in_turn_lem = refl;
      ends = refl;
      up = refl;
      down = refl;
      first_inside = refl;
      last_inside = refl;
      inside = refl;
      none_inside = refl;
      whole = refl;
      gap = refl;
    }
