-- What the search for identifiers needs of the links; a sound state has it.
-- Assumes nothing.
use Rattle.std.specs.Prelude.{ℕ, ◌<◌, ◌≡◌, true, List}
use Rattle.laws.specs.Columns.{number_at}
use Rattle.state_tables.specs.Sound.{is_sound}
use Rattle.state_tables.specs.Inner.Laws.{parts, links_parts, counts_within}
use Rattle.state_tables.specs.Inner.Column.{column_all, under_at, under_wider}
use Rattle.state_lookup.specs.Inner.Table.{Table}
use Rattle.state_tables.specs.declared.Gateway.{Gateway}

-- a sound state has it
pub table : (g : Gateway) → is_sound g ≡ true → Table g.iid g.owner g.links
table g h =
    let c = counts_within g h in
    let p = links_parts g.iid g.owner g.state g.ases g.links (parts g h).in_links in
    record {
      few = c.links;
      order = p.order;
      owned = under_wider g.owner g.ases 16 g.links c.ases (column_all g.owner g.ases g.links 128 p.owned c.links);
    }

pub owner_small : (iid owner : List ℕ) (links : ℕ) → Table iid owner links → (l : ℕ) → l < links → number_at owner l < 16
owner_small iid owner links t = under_at owner 16 links t.owned
