use Prim.Native.Nat.{ℕ}
use mathlib.Core.Path.{◌∙◌}
use mathlib.Core.Bool.{◌&&◌}
use native.Mathlib.Omega.{arith}
use lib.Dec.{ltb}
use borrow.Author.Rules.{rules}
use Rattle.laws.specs.Columns.{number_at}
use Rattle.laws.specs.Inner.Every.{all_ext}
use Rattle.state_tables.specs.Sound.{mode_at, waiting_at, override_at}
use Rattle.state_tables.specs.Inner.Limits.{place_at}
use Rattle.state_tables.specs.Inner.Rows.{sound_marks}
use Rattle.state_tables.proofs.marks_ok.Goals as goal

pub every-requires : goal.every-requires
every-requires c = λ i b. search rules

-- the places hold their own index
pub returns : goal.returns
unfolding sound_marks
returns c =
    let mode = c.args.mode.now in
    let count = c.args.count.now in
    let inside = λ (i : ℕ). ltb (number_at c.args.place.now.index i) c.args.ases in
    c.every.ensures.is (λ a. (mode_at (number_at mode a) (inside a) && waiting_at (number_at c.args.waiting.now a) (number_at count a) (inside a)) && override_at (number_at mode a) (number_at count a)) (λ i b l h. search rules)
    ∙ all_ext _ _ _ (λ i l. rw (c.args.place.now.each, place_at i (omega arith)))
