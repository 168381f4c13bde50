-- The starred samples of the reader, computed from the rules.
-- Assumes nothing.
use mathlib.Core.Path.{refl}
use Rattle.laws.specs.Below.{all_below}
use Rattle.codec_wire.specs.Number.{be}
use Rattle.codec_wire.specs.Walk.{step_at, walk_f, walk}
use Rattle.codec_parameter.specs.Table.{table, among, has_class, row_in, entries_in, use_in, usage}
use Rattle.codec_parameter.specs.Value.{limits_of, word_code, plain_code, id_code, range_code, body_code}
use Rattle.codec_parameter.specs.Check.{text_code, allowed_code, par_code}
use Rattle.codec_read.specs.Verdict.{has, head, number, is_none, in_turn, all_there, sequence_code, pars_code, last_checks, verdict}
use Rattle.codec_read.specs.Samples.{active, up, ReaderSamples}

pub reader_samples : ReaderSamples
unfolding
    active up all_below be step_at walk_f walk table among has_class row_in entries_in use_in usage limits_of word_code plain_code id_code range_code body_code text_code allowed_code par_code
    has head number is_none in_turn all_there sequence_code pars_code last_checks verdict
reader_samples =
    record { m_reads = refl; traded = refl; mode_4 = refl; no_bytes = refl; up_reads = refl; up_length_12 = refl; version_2 = refl }
