use mathlib.Core.Path.{◌∙◌}
use native.Mathlib.Omega.{arith}
use lib.Dec.{ltb}
use borrow.Author.Rules.{rules}
use Rattle.laws.specs.Columns.{number_at}
use Rattle.laws.specs.Inner.Every.{all_ext}
use Rattle.state_tables.specs.Sound.{under_within, sound_column}
use Rattle.state_tables.specs.Inner.Limits.{limit, place_at, under_limit}
use Rattle.state_tables.proofs.under_within.Goals as goal

pub every-requires : goal.every-requires
every-requires c = λ i b. search rules

-- the limits are by place, and the places hold their own index
pub returns : goal.returns
unfolding under_within sound_column
returns c =
    c.every.ensures.is (λ i. ltb (number_at c.args.c.now i) (limit (ltb (number_at c.args.place.now.index i) c.args.n) c.args.most)) (λ i b l h. search rules)
    ∙ all_ext _ _ _ (λ i l. rw (c.args.place.now.each, place_at i (omega (arith, c.requires.0)), under_limit))
