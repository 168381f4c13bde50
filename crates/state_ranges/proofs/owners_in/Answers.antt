use Rattle.state_sets.specs.Inner.Bits.{flags_long}
use Rattle.state_sets.specs.Inner.Members.{members}
use Rattle.state_lookup.specs.Inner.Table.{table_of}
use Rattle.state_ranges.proofs.Range.{no_owners, owners_range}
use Rattle.state_ranges.proofs.owners_in.Goals as goal

-- `state_ranges::owners_in`: the owners between the first and the last place inside. Assumes nothing.
pub returns-then-stop-start : goal.returns-then-stop-start
returns-then-stop-start c = (no_owners _ _ _ _ (flags_long _) c.if-stop-start.true, c.requires)

pub past_of-past-requires : goal.past_of-past-requires
past_of-past-requires c = (c.rank_at-first.ensures.1, c.if-stop-start.false)

pub owners_between-requires : goal.owners_between-requires
owners_between-requires c =
    (c.past_of-past.ensures.1, c.requires)

pub returns : goal.returns
returns c =
    let o = c.owners_between.ensures in
    (owners_range _ _ _ (table_of c.args.links) _ _ _ _ c.rank_at-first.ensures.0 c.past_of-past.ensures.0 (members c.args.set) _ o.0, o.1)
