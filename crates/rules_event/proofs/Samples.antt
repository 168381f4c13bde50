-- The starred samples, computed from the rules: every definition is unfolded.
-- Assumes nothing.
use mathlib.Core.Path.{refl}
use Rattle.codec_read.proofs.Samples.{reader_samples}
use Rattle.rules_event.specs.Samples.{Samples, Pinned}
use Rattle.rules_event.specs.Inner.Samples.{ReachApart}
use Rattle.laws.specs.Below.{any_below, all_below, concat_below, first_below, count_below}
use Rattle.laws.specs.Columns.{tabulate}
use Rattle.codec_wire.specs.Number.{be}
use Rattle.codec_wire.specs.Walk.{step_at, walk_f, walk, part_of}
use Rattle.codec_parameter.specs.Check.{text_code, allowed_code, par_code}
use Rattle.codec_parameter.specs.Inner.Slot.{slot, tag_at, info_of, all_met, all_asked, row_bits}
use Rattle.codec_parameter.specs.Table.{table, among, has_class, row_in, entries_in, use_in, usage}
use Rattle.codec_parameter.specs.Value.{limits_of, word_code, plain_code, id_code, range_code, body_code}
use Rattle.codec_read.specs.Meaning.{meaning, outcome, reading_of, body_in, found_in, data_of, data_tag, data_at}
use Rattle.codec_read.specs.Samples.{active, up}
use Rattle.codec_read.specs.Inner.Seen.{there, word, sequence_at, end_at, meaning_at, outcome_at, row_outcome, checks_outcome}
use Rattle.codec_read.specs.Verdict.{has, head, number, is_none, in_turn, all_there, sequence_code, pars_code, last_checks, verdict}
use Rattle.state_tables.specs.Sound.{counts_in, blank_from, differs, under_within, sound_column, sound_columns, sound_asps, member_at, active_at, sound_row, active_in, mode_at, waiting_at, override_at, sound_as, sound_ases, ascends, all_under, sound_links, sound_kinds, sound_lists, is_link_of, unit_at, blank_at, units_ok, sized, all_units, sound_units, sound_tables, is_sound, zeros}
use Rattle.state_plan.specs.Plan.{offset, count, follow, layout_ok, column, asp_ids, masks, lists, modes, link_ids, owners, kinds, modes_ok, masks_ok, rows_ok, members, fresh, built, load_of}
use Rattle.state_lookup.specs.Links.{index_of, known}
use Rattle.state_lookup.specs.Inner.Links.{rank}
use Rattle.state_lookup.specs.Servers.{before, receives}
use Rattle.state_lookup.specs.Inner.Servers.{state_of}
use Rattle.state_ranges.specs.Named.{owner_by_id, is_refused, is_owned_by, first_in, some_in, start_at, stop_at, entries, first_of, refused_in, refused_entry, some_of, some_entry}
use Rattle.rules_action.specs.Words.{words_of, to_each, to_all}
use Rattle.rules_action.specs.Inner.Words.{put_at, place}
use Rattle.rules_server.specs.Change.{without, joined, activated, overtaken, nobody, record_with}
use Rattle.rules_server.specs.Notify.{is_notified, notifies_to, notifies, actions_in}
use Rattle.rules_server.specs.Units.{unit_out, units_out, let_out}
use Rattle.rules_server.specs.Inner.Notify.{announced, spoken}
use Rattle.rules_server.specs.Record.{row, members_up, record_from, some, state_in}
use Rattle.rules_server.specs.Inner.Record.{with_row}
use Rattle.rules_servers.specs.Changed.{column_of, with_flag, actions_at, new_active, new_waiting, cleared_from, lets_go, with_change, all_actions}
use Rattle.rules_event.specs.Asp.{up_effect, down_effect, lost_effect, other_mode, active_effect, inactive_effect, part_effect, traffic_effect}
use Rattle.rules_event.specs.Entry.{actions, next}
use Rattle.rules_event.specs.Identifiers.{first_refused, names_some, owns_good, owners_good, is_known, link_of}
use Rattle.rules_event.specs.Link.{establish, release, data_effect, can_have, link_effect, class_six_on, class_six_effect, recipients_of, to_recipients, link_up_on, link_up_effect, link_down_on, link_down_effect, is_pending, arrival, hold_effect, link_message_on, link_message_effect}
use Rattle.rules_event.specs.Reach.{owns_id, read_reach, message_reach, reach}
use Rattle.rules_event.specs.Rules.{is_error, from_asp, read_effect, message_effect, from_link, refusal_of}
use Rattle.rules_event.specs.Samples.{plan_s, fresh_s, m, g₁, g₂, g₃, g₄, g₅, unit, g₆, retrieval, confirm, m116, g₇, takes, arrives, comes_up}

computed : Samples × ReachApart g₁ takes comes_up × ReachApart g₅ arrives comes_up × Pinned
unfolding any_below all_below concat_below first_below count_below tabulate be step_at walk_f walk part_of text_code allowed_code par_code slot tag_at info_of all_met all_asked row_bits table among has_class row_in entries_in use_in usage limits_of word_code plain_code id_code range_code body_code meaning outcome reading_of body_in found_in data_of data_tag data_at active up there word sequence_at end_at meaning_at outcome_at row_outcome checks_outcome has head number is_none in_turn all_there sequence_code pars_code last_checks verdict counts_in blank_from differs under_within sound_column sound_columns sound_asps member_at active_at sound_row active_in mode_at waiting_at override_at sound_as ascends all_under sound_links sound_kinds sound_lists is_link_of unit_at blank_at units_ok sized all_units sound_units sound_tables is_sound sound_ases zeros offset count follow layout_ok column asp_ids masks lists modes link_ids owners kinds modes_ok masks_ok rows_ok members fresh built load_of index_of known rank state_of before receives owner_by_id is_refused is_owned_by first_in some_in start_at stop_at entries first_of refused_in refused_entry some_of some_entry words_of to_each to_all put_at place without joined activated overtaken nobody record_with is_notified notifies_to notifies actions_in unit_out units_out let_out announced spoken row members_up record_from some state_in with_row column_of with_flag actions_at new_active new_waiting cleared_from lets_go with_change all_actions up_effect down_effect lost_effect other_mode active_effect inactive_effect part_effect traffic_effect actions next first_refused names_some owns_good owners_good is_known link_of establish release data_effect can_have link_effect class_six_on class_six_effect recipients_of to_recipients link_up_on link_up_effect link_down_on link_down_effect is_pending arrival hold_effect link_message_on link_message_effect owns_id read_reach message_reach reach is_error from_asp read_effect message_effect from_link refusal_of plan_s fresh_s m g₁ g₂ g₃ g₄ g₅ unit g₆ retrieval confirm m116 g₇ takes arrives comes_up
computed = (
  record { reader = reader_samples; takes_over = refl; in_part = refl; whole = refl; overrides = refl; pends = refl; recovers = refl; holds = refl; sends_held = refl; retrieves = refl; too_large = refl; confirms = refl; refuses = refl },
  record { ases = refl; links = (refl, refl, refl); first = (refl, refl); second = (refl, refl) },
  record { ases = refl; links = (refl, refl, refl); first = (refl, refl); second = (refl, refl) },
  record { taken = refl; not_taken = refl; others = (refl, refl); given = refl; given_none = refl; handed = refl },
)

pub samples : Samples
samples = computed.0

-- and what events of the sample's plan reach
pub reach_apart : ReachApart g₁ takes comes_up
reach_apart = computed.1

pub held_apart : ReachApart g₅ arrives comes_up
held_apart = computed.2

pub pinned : Pinned
pinned = computed.3
