use Prim.Native.Nat.{◌+◌}
use mathlib.Core.Path.{sym, ◌∙◌}
use native.Mathlib.Omega.{arith}
use Rattle.state_sets.specs.Inner.Bits.{flags_long}
use Rattle.state_sets.specs.Inner.Members.{members}
use Rattle.state_lookup.specs.Inner.Table.{table_of}
use Rattle.state_ranges.proofs.Places.{rank_up}
use Rattle.state_ranges.proofs.Range.{no_owners, owners_range, range_good}
use Rattle.state_ranges.specs.Inner.Refused.{empty_range}
use Rattle.state_ranges.proofs.of_range.Goals as goal

-- nothing is refused where there are as many places as identifiers and the owners between are all in mine;
-- else the walk tells
pub returns-then-stop-start : goal.returns-then-stop-start
returns-then-stop-start c = (record { refused = empty_range _ _ _ c.if-stop-start.true; set = no_owners _ _ _ _ (flags_long _) c.if-stop-start.true }, c.requires)

pub past_of-past-requires : goal.past_of-past-requires
past_of-past-requires c = (c.rank_at-first.ensures.1, c.if-stop-start.false)

pub owners_between-all-requires : goal.owners_between-all-requires
owners_between-all-requires c =
    (c.past_of-past.ensures.1, c.requires)

pub overflow_sub-past : goal.overflow_sub-past
overflow_sub-past c = omega (arith, c.past_of-past.ensures.0, c.rank_at-first.ensures.0, rank_up _ _ c.args.links.ids.order c.args.start (c.args.stop + 1) (omega (arith, c.if-stop-start.false)))

pub returns-then-is_within : goal.returns-then-is_within
returns-then-is_within c =
    let t = table_of c.args.links in
    let f = c.rank_at-first.ensures.0 in
    let p = c.past_of-past.ensures.0 in
    let o = c.owners_between-all.ensures in (
      record {
        refused = range_good _ _ _ t _ _ _ _ f p (members c.args.set) _ o.0 _ c.if-stop-start.false c.if-past-first.true (sym c.is_within.ensures ∙ c.if-is_within.true);
        set = owners_range _ _ _ t _ _ _ _ f p (members c.args.set) _ o.0;
      },
      o.1,
    )

pub first_refused-requires : goal.first_refused-requires
first_refused-requires c = (c.rank_at-first.ensures.0, c.if-stop-start.false)

pub returns : goal.returns
returns c =
    let o = c.owners_between-all.ensures in (
      record {
        refused = c.first_refused.ensures;
        set = owners_range _ _ _ (table_of c.args.links) _ _ _ _ c.rank_at-first.ensures.0 c.past_of-past.ensures.0 (members c.args.set) _ o.0;
      },
      o.1,
    )
