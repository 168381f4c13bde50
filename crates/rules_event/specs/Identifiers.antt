-- The identifiers that a message names, parameter by parameter in received order (Rule 7.8).
-- Assumes nothing.
use Rattle.std.specs.Prelude.{ℕ, Bool, false, cond, ◌&&◌, ◌||◌, List, [], ◌∷◌, eqb}
use Rattle.laws.specs.Columns.{number_at, is_set, tabulate}
use Rattle.codec_wire.specs.Walk.{Par}
use Rattle.state_tables.specs.Sound.{pair}
use Rattle.state_tables.specs.declared.Gateway.{Gateway}
use Rattle.state_lookup.specs.Links.{index_of, known}
use Rattle.state_ranges.specs.Named.{Refused, is_refused, is_owned_by, nothing, refused_in, some_of}

-- the AS that owns the link at an index
abbrev pub owner_at : Gateway → ℕ → ℕ
owner_at g l = number_at g.owner l

-- p has part in AS a
abbrev pub is_member : Gateway → ℕ → ℕ → Bool
is_member g a p = is_set g.member (pair a p)

-- ---- those of Active and Inactive

-- the tags of identifiers and of ranges (Rule 2.11)
abbrev pub is_ids : ℕ → Bool
is_ids t = eqb t 0x1 || eqb t 0x8

-- An identifier is refused to ASP p where it is unknown, or p is no member of the AS that owns it; any other
-- is good.

-- the first that is refused: parameters as received, in each its entries, in each range upwards
unfoldable pub first_refused : Gateway → ℕ → List Par → Refused
first_refused g p [] = nothing
first_refused g p (x ∷ ps) =
    let r : Refused = refused_in (is_refused g.iid g.owner g.member g.links p) (eqb x.tag 0x8) x.body in
    cond (is_ids x.tag) (cond r.found r (first_refused g p ps)) (first_refused g p ps)

-- whether the message names an identifier of which f says yes
unfoldable pub names_some : (ℕ → Bool) → List Par → Bool
names_some f [] = false
names_some f (x ∷ ps) = (is_ids x.tag && some_of f (eqb x.tag 0x8) x.body) || names_some f ps

-- whether AS a owns a good one: it owns a known one, and p is its member
unfoldable pub owns_good : Gateway → ℕ → List Par → ℕ → Bool
owns_good g p ps a = names_some (is_owned_by g.iid g.owner g.links a) ps && is_member g a p

-- the owners of the good ones
unfoldable pub owners_good : Gateway → ℕ → List Par → List Bool
owners_good g p ps = tabulate 16 (owns_good g p ps)

-- whether the identifier of the link at place l is a good one that the message names
unfoldable pub is_named_good : Gateway → ℕ → List Par → ℕ → Bool
is_named_good g p ps l = names_some (eqb (number_at g.iid l)) ps && is_member g (owner_at g l) p

-- ---- one identifier, as in class 6 (Rule 5.16)

unfoldable pub is_known : Gateway → ℕ → Bool
is_known g x = known g.iid g.links x

-- the index of its link
unfoldable pub link_of : Gateway → ℕ → ℕ
link_of g x = index_of g.iid g.links x
