use mathlib.Core.Path.{sym, ap, ◌∙◌}
use Rattle.state_lookup.specs.Inner.Table.{table_of}
use Rattle.state_sets.specs.Inner.Bits.{flags_long}
use Rattle.state_sets.specs.Inner.Members.{members}
use Rattle.state_ranges.specs.Inner.Names.{earlier, as_refused, as_or}
use Rattle.state_ranges.specs.Inner.Alone.{alone_marked, absent_refused, absent_none, present_refusal, stands_at}
use Rattle.state_ranges.proofs.with_id.Goals as goal

-- one that stands nowhere is refused, and where it stands its owner is added and decides
pub returns-then-not-holds : goal.returns-then-not-holds
returns-then-not-holds c =
    let n = sym c.holds.ensures ∙ c.if-not-holds.true in
    let t = table_of c.args.links in
    let old = c.args.old in
    record {
      refused = ap as_refused c.or.ensures ∙ as_or old.refused _ ∙ ap (earlier (as_refused old.refused)) (absent_refused _ _ _ t _ _ c.requires n (members c.args.mine));
      set = absent_none _ _ _ t _ _ c.requires n _ (flags_long _);
    }

pub owner_at-a-requires : goal.owner_at-a-requires
owner_at-a-requires c = (stands_at c.args.links.ids.iid.now c.args.links.ids.count c.args.l c.args.x (sym c.holds.ensures ∙ c.if-not-holds.false)).0

pub returns : goal.returns
returns c =
    let h = stands_at c.args.links.ids.iid.now c.args.links.ids.count c.args.l c.args.x (sym c.holds.ensures ∙ c.if-not-holds.false) in
    let w = c.owner_at-a.ensures.0 in
    let t = table_of c.args.links in
    let old = c.args.old in
    record {
      refused =
          ap as_refused (rw c.then_some.ensures at c.or-2.ensures)
          ∙ as_or old.refused _
          ∙ ap (earlier (as_refused old.refused)) (present_refusal _ _ _ t (members c.args.mine) _ _ c.requires h.0 h.1 _ (rw w at c.has.ensures));
      set = c.with.ensures ∙ alone_marked _ _ _ t _ _ _ h.0 h.1 w (members old.set) (flags_long _);
    }
