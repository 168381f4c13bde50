use mathlib.Core.Path.{ap}
use Rattle.codec_read.specs.Meaning.{or_zeros, place_of, data_at}
use Rattle.codec_read.proofs.data_at.Goals as goal

pub returns-in-Some : goal.returns-in-Some
unfolding data_at
returns-in-Some c = ap (λ o. place_of (or_zeros o)) c.in-Some.ensures

pub returns-in-None : goal.returns-in-None
unfolding data_at
returns-in-None c = ap (λ o. place_of (or_zeros o)) c.in-None.ensures
