-- The reader's samples that are proved (Rule 11.3), as one claim. It is a part of the claim on all proved
-- samples, in the crate rules_event.
-- Assumes nothing.
use Rattle.std.specs.Prelude.{◌≡◌, List, [], ◌∷◌, ℕ}
use Rattle.codec_read.specs.Verdict.{verdict}

-- message M (Rule 11.2), with its mode and the ends of its range
unfoldable pub active : ℕ → ℕ → ℕ → List ℕ
active mode start stop =
    0x01 ∷ 0x00 ∷ 0x04 ∷ 0x01 ∷ 0x00 ∷ 0x00 ∷ 0x00 ∷ 0x1c
    ∷ 0x00 ∷ 0x0b ∷ 0x00 ∷ 0x08 ∷ 0x00 ∷ 0x00 ∷ 0x00 ∷ mode
    ∷ 0x00 ∷ 0x08 ∷ 0x00 ∷ 0x0c ∷ 0x00 ∷ 0x00 ∷ 0x00 ∷ start ∷ 0x00 ∷ 0x00 ∷ 0x00 ∷ stop
    ∷ []

-- an Up without parameters, with its version and length field
unfoldable pub up : ℕ → ℕ → List ℕ
up version len = version ∷ 0x00 ∷ 0x03 ∷ 0x01 ∷ 0x00 ∷ 0x00 ∷ 0x00 ∷ len ∷ []

pub record ReaderSamples : Type 0 where
  -- M is accepted; not with its range turned around, and not with a mode that there is not
  pub m_reads : verdict (active 1 0x64 0x73) ≡ 0
  pub traded : verdict (active 1 0x73 0x64) ≡ 17
  pub mode_4 : verdict (active 4 0x64 0x73) ≡ 5
  -- nothing at all; an Up; one whose length field says more than there is; the same of another version
  pub no_bytes : verdict [] ≡ 7
  pub up_reads : verdict (up 1 8) ≡ 0
  pub up_length_12 : verdict (up 1 12) ≡ 7
  pub version_2 : verdict (up 2 12) ≡ 1
