use Prim.Native.Nat.{◌+◌}
use mathlib.Core.Path.{◌∙◌}
use lib.Dec.{ltb}
use Rattle.laws.specs.Columns.{number_at}
use borrow.Author.Rules.{rules}
use Rattle.state_tables.specs.Sound.{ascends}
use Rattle.state_tables.proofs.ascending.Goals as goal

pub every-requires : goal.every-requires
every-requires c = λ i b. search rules

pub returns : goal.returns
unfolding ascends
returns c = c.every.ensures.is (λ l. ltb (number_at c.args.iid.now l) (number_at c.args.iid.now (l + 1))) (λ i b l h. search rules) ∙ rw c.saturating_sub.ensures
