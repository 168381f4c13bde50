use native.Mathlib.Omega.{arith}
use mathlib.Core.Path.{sym, refl, ◌∙◌}
use borrow.Author.Rules.{rules}
use Rattle.laws.specs.Below.{any_below, count_below}
use Rattle.laws.specs.Inner.Below.{at_end, any_none, any_more, count_none, count_more}
use Rattle.laws.specs.Columns.{number_at}
use Rattle.laws.specs.Inner.Choice.{at_yes, at_no}
use Rattle.state_tables.specs.Sound.{pair, active_in}
use Rattle.state_tables.specs.Inner.Rows.{least_min, row_fails, row_turn, next_fits, next_in, next_less, sum_fits, sum_next}
use Rattle.state_tables.proofs.row_count.Goals as goal

pub loop-q-init : goal.loop-q-init
loop-q-init c = (sym (any_none _), λ e. sym (count_none _), search rules, search rules, search rules, c.requires.1)

pub overflow_add-n : goal.overflow_add-n
overflow_add-n c = let i = c.loop-q.invariant in record { fits = sum_fits _ _ _ i.2 i.3 (omega arith) }

pub overflow_step-q : goal.overflow_step-q
overflow_step-q c = record { fits = next_fits _ c.loop-q-test.true }

pub loop-q-smaller : goal.loop-q-smaller
loop-q-smaller c = next_less _ c.loop-q-test.true

pub loop-q-preserved : goal.loop-q-preserved
loop-q-preserved c = (
  rw any_more (rw (c.loop-q.invariant.0, c.min.ensures, least_min)),
  λ h. rw (count_more, c.from-n.ensures) (row_turn (number_at c.args.top.now c.loop-q.q) (number_at c.args.member.now (pair c.args.a c.loop-q.q)) (number_at c.args.up.now c.loop-q.q) (number_at c.args.active.now (pair c.args.a c.loop-q.q)) c.loop-q.n _ c.loop-q.bad (c.loop-q.invariant.5 c.loop-q.q c.loop-q-test.true) c.loop-q.invariant.1 (rw (c.min.ensures, least_min) at h)),
  sum_next _ c.loop-q.q _ c.loop-q.invariant.2 (omega arith),
  next_in _ c.loop-q-test.true,
  c.loop-q.invariant.4,
  c.loop-q.invariant.5,
)

pub returns-then-bad : goal.returns-then-bad
unfolding row_fails
returns-then-bad c = at_yes _ _ _ (sym (at_end (any_below _) c.loop-q.invariant.0 c.loop-q-test.false c.loop-q.invariant.3) ∙ c.if-bad.true) refl

pub returns : goal.returns
unfolding row_fails active_in
returns c = at_no _ _ _ (sym (at_end (any_below _) c.loop-q.invariant.0 c.loop-q-test.false c.loop-q.invariant.3) ∙ c.if-bad.false) (at_end (count_below _) (c.loop-q.invariant.1 c.if-bad.false) c.loop-q-test.false c.loop-q.invariant.3)
