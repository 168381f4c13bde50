use mathlib.Core.Path.{sym}
use borrow.Author.Rules.{rules}
use Rattle.state_lookup.specs.Inner.Table.{table_of}
use Rattle.state_ranges.specs.Inner.Refused.{refused_here, refused_past}
use Rattle.state_ranges.proofs.is_refused.Goals as goal

-- `state_ranges::is_refused`: the link at l decides, and past the last link nothing is known. Assumes
-- nothing.
pub returns-then-links-l : goal.returns-then-links-l
returns-then-links-l c = sym (refused_past _ _ _ (table_of c.args.links) _ _ _ c.requires c.if-links-l.true)

pub returns : goal.returns
returns c = rw (c.has.ensures, c.owner_at.ensures.0) (refused_here _ _ _ (table_of c.args.links) _ _ _ c.requires (search rules))
