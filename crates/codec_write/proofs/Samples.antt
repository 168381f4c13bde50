-- Two messages, worked out.
-- Assumes nothing.
use mathlib.Core.Path.{◌≡◌, refl}
use mathlib.Core.List.{[], ◌∷◌}
use Rattle.laws.specs.Columns.{tabulate}
use Rattle.codec_wire.specs.Number.{be}
use Rattle.codec_wire.specs.Walk.{step_at, walk_f, walk}
use Rattle.codec_put.specs.Bytes.{par_bytes, pars_bytes}
use Rattle.codec_write.specs.Encode.{size_of, encode, pars_in}
use Rattle.codec_write.specs.RoundTrip.{is_padding, plain}

-- message M (Rule 11.2), from its lent list
sample_m : encode 4 1 (pars_in (0xb ∷ 0x8 ∷ []) (4 ∷ 8 ∷ []) (0 ∷ 0 ∷ 0 ∷ 1 ∷ 0 ∷ 0 ∷ 0 ∷ 0x64 ∷ 0 ∷ 0 ∷ 0 ∷ 0x73 ∷ []))
    ≡ 1 ∷ 0 ∷ 4 ∷ 1 ∷ 0 ∷ 0 ∷ 0 ∷ 0x1c ∷ 0 ∷ 0xb ∷ 0 ∷ 8 ∷ 0 ∷ 0 ∷ 0 ∷ 1 ∷ 0 ∷ 8 ∷ 0 ∷ 0xc ∷ 0 ∷ 0 ∷ 0 ∷ 0x64 ∷ 0 ∷ 0 ∷ 0 ∷ 0x73 ∷ []
unfolding encode size_of pars_in pars_bytes par_bytes
sample_m = refl

-- an Up with a spare byte of 0xee, an info string of one byte whose padding is 0xaa, 0xbb, 0xcc, and an ASP
-- identifier behind it
sample_plain : plain (1 ∷ 0xee ∷ 3 ∷ 1 ∷ 0 ∷ 0 ∷ 0 ∷ 0x18 ∷ 0 ∷ 4 ∷ 0 ∷ 5 ∷ 0x41 ∷ 0xaa ∷ 0xbb ∷ 0xcc ∷ 0 ∷ 0x11 ∷ 0 ∷ 8 ∷ 9 ∷ 9 ∷ 9 ∷ 9 ∷ [])
    ≡ 1 ∷ 0 ∷ 3 ∷ 1 ∷ 0 ∷ 0 ∷ 0 ∷ 0x18 ∷ 0 ∷ 4 ∷ 0 ∷ 5 ∷ 0x41 ∷ 0 ∷ 0 ∷ 0 ∷ 0 ∷ 0x11 ∷ 0 ∷ 8 ∷ 9 ∷ 9 ∷ 9 ∷ 9 ∷ []
unfolding plain is_padding tabulate walk walk_f step_at be
sample_plain = refl
