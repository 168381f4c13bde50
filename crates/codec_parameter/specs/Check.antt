-- Check 7 of one parameter (Rule 2.7).
-- Assumes nothing.
use Rattle.std.specs.Prelude.{ℕ, Bool, cond, List, eqb}
use Rattle.laws.specs.Choice.{◌or_else◌}
use Rattle.codec_parameter.specs.declared.Usage.{Usage}
use Rattle.codec_parameter.specs.declared.Usage.TheVariants.{Forbidden, Optional, Mandatory, Repeated}
use Rattle.codec_parameter.specs.Value.{body_code}

-- a text identifier (Rule 2.13), where identifiers stand in the message as said: among ids 8; in class 6, 8
-- at the first place alone; else 19
unfoldable pub text_code : Usage → Bool → ℕ
text_code Forbidden first = 19
text_code Optional first = 19
text_code Mandatory first = cond first 8 19
text_code Repeated first = 8

-- a tag that comes once (Rule 2.14): `again` says that it was there before. 0x1 only as the first parameter
-- (Rule 2.12)
abbrev pub once_code : Bool → Bool → ℕ → ℕ
once_code first again t = cond again 19 (cond (eqb t 0x1) (cond first 0 19) 0)

-- a tag that the row has as said
abbrev pub tag_code : Usage → Bool → Bool → ℕ → ℕ
tag_code Forbidden first again t = 19
tag_code Optional first again t = once_code first again t
tag_code Mandatory first again t = once_code first again t
tag_code Repeated first again t = 0

-- may it stand there? The row has 0x1 as u₁ says, and this tag as u says.
unfoldable pub allowed_code : Usage → Usage → Bool → Bool → ℕ → ℕ
allowed_code u₁ u first again t = cond (eqb t 0x3) (text_code u₁ first) (tag_code u first again t)

-- one parameter: may it stand there, then its length and value
unfoldable pub par_code : Usage → Usage → Bool → Bool → ℕ → List ℕ → ℕ
par_code u₁ u first again t v = allowed_code u₁ u first again t or_else body_code u t v
