-- What is refused and who owns what, of links as one value.
-- Assumes nothing.
use Rattle.std.specs.Prelude.{ℕ, Bool}
use Rattle.state_lookup.specs.declared.links.Links.{Links}
use Rattle.state_sets.specs.declared.AsSet.{AsSet}
use Rattle.state_sets.specs.Inner.Members.{members}
use Rattle.state_ranges.specs.Named.{is_owned_by}
use Rattle.state_ranges.specs.Inner.Refused.{refused_by}

-- x is unknown, or its AS not in the set mine
abbrev pub refused_of : Links → AsSet → ℕ → Bool
refused_of t mine = refused_by t.ids.iid.now t.owner.now t.ids.count (members mine)

-- x is known, and AS a owns it
abbrev pub owned_of : Links → ℕ → ℕ → Bool
owned_of t a = is_owned_by t.ids.iid.now t.owner.now t.ids.count a
