-- The numbers of the refusals: RFC 3331's error codes (Rules 1.5 and 2.1 to 2.8).
-- Assumes nothing.
use Rattle.std.specs.Prelude.{ℕ, Result, Ok, Err}
use Rattle.codec_wire.specs.declared.Refusal.{Refusal}
use Rattle.codec_wire.specs.declared.Refusal.TheVariants.{InvalidVersion, UnsupportedClass, UnsupportedType, UnsupportedMode, ProtocolError, UnsupportedIdentifier, InvalidValue, FieldError, UnexpectedParameter, MissingParameter}

-- the number of a refusal
abbrev pub number : Refusal → ℕ
number InvalidVersion = 1
number UnsupportedClass = 3
number UnsupportedType = 4
number UnsupportedMode = 5
number ProtocolError = 7
number UnsupportedIdentifier = 8
number InvalidValue = 17
number FieldError = 18
number UnexpectedParameter = 19
number MissingParameter = 22

-- the number of what a check gave: 0 where it found nothing
abbrev pub code : {A : Type 0} → Result A Refusal → ℕ
code (Ok x) = 0
code (Err r) = number r
