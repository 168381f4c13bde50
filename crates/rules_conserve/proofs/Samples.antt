-- The sample history, computed from the rules: every definition is unfolded.
-- Assumes nothing.
use mathlib.Core.Path.{◌≡◌, refl, ap}
use mathlib.Core.List.{List, [], ◌∷◌, map}
use Prim.Native.Nat.{ℕ}
use lib.ListN.{length, replicate, length-replicate}
use Rattle.laws.specs.Below.{any_below, all_below, concat_below, first_below, count_below}
use Rattle.laws.specs.Columns.{tabulate}
use Rattle.codec_wire.specs.Number.{be}
use Rattle.codec_wire.specs.Walk.{step_at, walk_f, walk, part_of}
use Rattle.codec_parameter.specs.Check.{text_code, allowed_code, par_code}
use Rattle.codec_parameter.specs.Table.{table, among, has_class, row_in, entries_in, use_in, usage}
use Rattle.codec_parameter.specs.Value.{limits_of, word_code, plain_code, id_code, body_code}
use Rattle.codec_read.specs.Meaning.{meaning, outcome, reading_of, body_in, found_in, data_of, data_tag, data_at}
use Rattle.codec_read.specs.Verdict.{has, head, number, is_none, in_turn, all_there, sequence_code, pars_code, last_checks, verdict}
use Rattle.state_tables.specs.Sound.{counts_in, blank_from, differs, under_within, sound_column, sound_columns, sound_asps, member_at, active_at, sound_row, active_in, mode_at, waiting_at, override_at, sound_as, sound_ases, ascends, all_under, sound_links, sound_kinds, sound_lists, is_link_of, unit_at, blank_at, units_ok, sized, all_units, sound_units, sound_tables, is_sound}
use Rattle.state_plan.specs.Plan.{offset, count, follow, layout_ok, column, asp_ids, masks, lists, modes, link_ids, owners, kinds, modes_ok, masks_ok, rows_ok, members, fresh, built, load_of}
use Rattle.state_lookup.specs.Links.{index_of, known}
use Rattle.rules_action.specs.Words.{words_of}
use Rattle.rules_server.specs.Change.{without, joined, activated, overtaken, nobody, record_with}
use Rattle.rules_server.specs.Notify.{is_notified, notifies_to, notifies, actions_in}
use Rattle.rules_server.specs.Units.{unit_out, units_out, let_out}
use Rattle.rules_server.specs.Record.{row, members_up, record_from, some, state_in}
use Rattle.rules_servers.specs.Changed.{column_of, with_flag, actions_at, new_active, new_waiting, cleared_from, lets_go, with_change, all_actions}
use Rattle.rules_event.specs.Asp.{up_effect, down_effect, other_mode, active_effect, inactive_effect, traffic_effect}
use Rattle.rules_event.specs.Entry.{actions, next}
use Rattle.rules_event.specs.Identifiers.{is_known, link_of}
use Rattle.rules_event.specs.Link.{can_have, is_pending, arrival, hold_effect, link_message_on, link_message_effect}
use Rattle.rules_event.specs.Reach.{owns_id}
use Rattle.rules_event.specs.Rules.{is_error, from_asp, read_effect, message_effect, from_link, refusal_of}
use Rattle.rules_event.specs.Samples.{plan_s, fresh_s, unit, sample_event}
use Rattle.rules_event.specs.Event.{EventKind, Event}
use Rattle.rules_event.specs.Effect.{hold_bytes}
use Rattle.rules_event.specs.Calls.{Board, Call, events, board_after, Calls, none, call}
use Rattle.rules_event.specs.Inner.Calls.{made, lend_same, made_meets}
use Rattle.rules_event.proofs.Calls.{made_hold}
use Rattle.rules_conserve.specs.Conserve.{came_in, is_data_at, sent_out, since, tally, holds, sum_below}
use Rattle.rules_conserve.specs.Samples.{leaves, day, Day, Sums}

-- ---- calls for events

-- lent a list of zeros
abbrev given : Board → EventKind → Call
given b k = made b (sample_event k) (replicate 1544 0)

unfoldable calls_of : Board → List EventKind → List Call
calls_of b [] = []
calls_of b (k ∷ ks) = given b k ∷ calls_of (board_after b (given b k)) ks

unfoldable end_of : Board → List EventKind → Board
end_of b [] = b
end_of b (k ∷ ks) = end_of (board_after b (given b k)) ks

are_calls : (b : Board) (ks : List EventKind) → length b.hold ≡ hold_bytes → Calls b (calls_of b ks) (end_of b ks)
unfolding calls_of end_of
are_calls b [] n = none
are_calls b (k ∷ ks) n =
    call {d = given b k} (made_meets b (sample_event k) n (replicate 1544 0) (length-replicate {A = ℕ} 1544 0)) (lend_same b (sample_event k))
    (are_calls (board_after b (given b k)) ks (made_hold b (sample_event k) n (replicate 1544 0)))

of_events : (b : Board) (ks : List EventKind) → events (calls_of b ks) ≡ map sample_event ks
unfolding calls_of
of_events b [] = refl
of_events b (k ∷ ks) = ap (λ (es : List Event). sample_event k ∷ es) (of_events (board_after b (given b k)) ks)

-- ---- the sample

abbrev first : Board
first = record { gateway = fresh_s; hold = replicate hold_bytes 0 }

computed : (tally 0 0 fresh_s (calls_of first day) ≡ record { came = 11; sent = 8; discarded = 1; turned = 1 }) × (holds (end_of first day).gateway 0 ≡ 1)
unfolding any_below all_below concat_below first_below count_below tabulate be step_at walk_f walk part_of text_code allowed_code par_code table among has_class row_in entries_in use_in usage limits_of word_code plain_code id_code body_code meaning outcome reading_of body_in found_in data_of data_tag data_at has head number is_none in_turn all_there sequence_code pars_code last_checks verdict counts_in blank_from differs under_within sound_column sound_columns sound_asps member_at active_at sound_row active_in mode_at waiting_at override_at sound_as ascends all_under sound_links sound_kinds sound_lists is_link_of unit_at blank_at units_ok sized all_units sound_units sound_tables is_sound sound_ases offset count follow layout_ok column asp_ids masks lists modes link_ids owners kinds modes_ok masks_ok rows_ok members fresh built load_of index_of known words_of without joined activated overtaken nobody record_with is_notified notifies_to notifies actions_in unit_out units_out let_out row members_up record_from some state_in column_of with_flag actions_at new_active new_waiting cleared_from lets_go with_change all_actions up_effect down_effect other_mode active_effect inactive_effect traffic_effect actions next is_known link_of can_have is_pending arrival hold_effect link_message_on link_message_effect owns_id is_error from_asp read_effect message_effect from_link refusal_of plan_s fresh_s unit came_in is_data_at sent_out since tally calls_of end_of leaves day
computed = (refl, refl)

pub sample_day : Day
sample_day =
    record {
      calls = calls_of first day;
      end = end_of first day;
      are = are_calls first day (length-replicate {A = ℕ} hold_bytes 0);
      of = of_events first day;
      counts = computed.0;
      left = computed.1;
    }

pub sums : Sums
unfolding sum_below
sums = record { all = refl }
