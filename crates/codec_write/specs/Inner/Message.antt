-- A lent message's parameters, and what a write hands back.
-- Assumes nothing.
use Rattle.std.specs.Prelude.{ℕ, List, Result, Ok, Err}
use Rattle.codec_wire.specs.Walk.{Par}
use Rattle.codec_wire.specs.Refusal.{number}
use Rattle.codec_write.specs.Encode.{pars_in}
use Rattle.codec_write.specs.declared.Written.{Written}
use Rattle.codec_write.specs.declared.WriteRefusal.{WriteRefusal}
use Rattle.codec_write.specs.declared.WriteRefusal.TheVariants.{Reader, ShortBuffer}
use Rattle.codec_write.specs.declared.message.Message.{Message}

abbrev pub pars_of : Message → List Par
pars_of m = pars_in m.tags.now m.lens.now m.values.now

-- the number of a refusal
abbrev pub write_number : WriteRefusal → ℕ
write_number (Reader r) = number r
write_number ShortBuffer = 103

abbrev pub written_of : Result ℕ WriteRefusal → Written
written_of (Ok n) = record { code = 0; length = n }
written_of (Err r) = record { code = write_number r; length = 0 }
