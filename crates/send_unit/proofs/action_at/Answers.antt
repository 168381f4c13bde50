use mathlib.Core.Path.{refl}
use Rattle.send_unit.specs.Inner.Words.{action_in}
use borrow.Author.Rules.{rules}
use Rattle.send_unit.proofs.action_at.Goals as goal

pub overflow_mul-at : goal.overflow_mul-at
overflow_mul-at c = search rules

pub offset_bounds-words-at : goal.offset_bounds-words-at
offset_bounds-words-at c = search rules

pub bounds-words-at : goal.bounds-words-at
bounds-words-at c = search rules

pub overflow_add-result : goal.overflow_add-result
overflow_add-result c = search rules

pub offset_bounds-words-at-2 : goal.offset_bounds-words-at-2
offset_bounds-words-at-2 c = search rules

pub bounds-words-at-2 : goal.bounds-words-at-2
bounds-words-at-2 c = search rules

pub overflow_add-result-2 : goal.overflow_add-result-2
overflow_add-result-2 c = search rules

pub offset_bounds-words-at-3 : goal.offset_bounds-words-at-3
offset_bounds-words-at-3 c = search rules

pub bounds-words-at-3 : goal.bounds-words-at-3
bounds-words-at-3 c = search rules

pub overflow_add-result-3 : goal.overflow_add-result-3
overflow_add-result-3 c = search rules

pub offset_bounds-words-at-4 : goal.offset_bounds-words-at-4
offset_bounds-words-at-4 c = search rules

pub bounds-words-at-4 : goal.bounds-words-at-4
bounds-words-at-4 c = search rules

pub returns : goal.returns
unfolding action_in
returns c = refl
