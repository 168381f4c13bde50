use mathlib.Core.Path.{◌≡◌, sym, ◌∙◌}
use mathlib.Core.Bool.{true, false}
use Rattle.state_plan.specs.Plan.{layout_ok}
use Rattle.state_plan.specs.Inner.Layout.{rows_in, rows_at, inside_of}
use Rattle.state_plan.proofs.rows_in.Goals as goal

-- `state_plan::rows_in`: the layout decides, then the rows. Assumes nothing.
pub returns-then-not-laid_out : goal.returns-then-not-laid_out
unfolding rows_in
returns-then-not-laid_out c = let e : layout_ok _ ≡ false = sym c.laid_out.ensures ∙ c.if-not-laid_out.true in rw e

pub places_of-t-requires : goal.places_of-t-requires
places_of-t-requires c = sym c.laid_out.ensures ∙ c.if-not-laid_out.false

pub rows_ok-requires : goal.rows_ok-requires
rows_ok-requires c = inside_of _ _ (sym c.laid_out.ensures ∙ c.if-not-laid_out.false) c.places_of-t.ensures

pub returns-then-not-rows_ok : goal.returns-then-not-rows_ok
unfolding rows_in
returns-then-not-rows_ok c =
    let e : layout_ok _ ≡ true = sym c.laid_out.ensures ∙ c.if-not-laid_out.false in
    let f : rows_at _ _ ≡ false = sym c.rows_ok.ensures ∙ c.if-not-rows_ok.true in
    rw (e, sym c.places_of-t.ensures, f)

pub returns : goal.returns
unfolding rows_in
returns c =
    let e : layout_ok _ ≡ true = sym c.laid_out.ensures ∙ c.if-not-laid_out.false in
    let f : rows_at _ _ ≡ true = sym c.rows_ok.ensures ∙ c.if-not-rows_ok.false in
    rw (e, sym c.places_of-t.ensures, f)
