-- A message as bytes, and the list of tags and values that the writer is lent.
-- Assumes nothing.
use Rattle.std.specs.Prelude.{ℕ, ◌+◌, Bool, ◌&&◌, List, [], ◌∷◌, ◌++◌, length, take, drop, eqb}
use Rattle.codec_wire.specs.Walk.{Par}
use Rattle.codec_put.specs.Bytes.{par, head_bytes, pars_bytes}

-- the length of the message of a list (Rule 1.2)
unfoldable pub size_of : List Par → ℕ
size_of ps = 8 + length (pars_bytes ps)

-- The message of a class, a type and a list (Rule 3.1). It is defined for every list: one with a value that a
-- length of 16 bits cannot say is refused for its size (Rule 3.4).
unfoldable pub encode : ℕ → ℕ → List Par → List ℕ
encode c t ps = head_bytes c t (size_of ps) ++ pars_bytes ps

-- ---- the list as it is lent: the tags, the lengths of the values, and the values one after the other

unfoldable pub total : List ℕ → ℕ
total [] = 0
total (n ∷ ns) = n + total ns

unfoldable pub pars_in : List ℕ → List ℕ → List ℕ → List Par
pars_in [] ns vs = []
pars_in (t ∷ ts) [] vs = []
pars_in (t ∷ ts) (n ∷ ns) vs = par t (take n vs) ∷ pars_in ts ns (drop n vs)

-- the list is whole (Rule 3.2)
unfoldable pub whole : List ℕ → List ℕ → List ℕ → Bool
whole ts ns vs = eqb (length ns) (length ts) && eqb (total ns) (length vs)

-- a list of parameters in the lent form
unfoldable pub tags_of : List Par → List ℕ
tags_of [] = []
tags_of (p ∷ ps) = p.tag ∷ tags_of ps

unfoldable pub lens_of : List Par → List ℕ
lens_of [] = []
lens_of (p ∷ ps) = length p.body ∷ lens_of ps

unfoldable pub values_of : List Par → List ℕ
values_of [] = []
values_of (p ∷ ps) = p.body ++ values_of ps
