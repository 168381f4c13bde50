use mathlib.Core.Path.{◌∙◌, sym}
use Rattle.state_ranges.specs.Inner.Names.{earlier_found, earlier_none, as_refused, as_found}
use Rattle.state_ranges.proofs.with_range.Goals as goal

-- one that was found before stays, else the range tells
pub returns-then-is_some : goal.returns-then-is_some
returns-then-is_some c =
    let old = c.args.old.refused in
    let o = c.owners_in.ensures in
    (record { refused = sym (earlier_found (as_refused old) _ (as_found old ∙ sym c.is_some.ensures ∙ c.if-is_some.true)); set = o.0 }, o.1)

pub returns : goal.returns
returns c =
    let old = c.args.old.refused in
    let o = c.of_range.ensures in
    (record { refused = o.0.refused ∙ sym (earlier_none (as_refused old) _ (as_found old ∙ sym c.is_some.ensures ∙ c.if-is_some.false)); set = o.0.set }, o.1)
