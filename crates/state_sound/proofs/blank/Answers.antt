use borrow.Author.Rules.{rules}
use Rattle.state_sound.specs.Inner.Sound.{narrow_at, narrow_blank, wide_at, wide_blank, blank_places}
use Rattle.state_sound.proofs.blank.Goals as goal

pub every-narrow-requires : goal.every-narrow-requires
every-narrow-requires c = λ i b. search rules

pub every-wide-requires : goal.every-wide-requires
every-wide-requires c = λ i b. search rules

pub returns : goal.returns
unfolding blank_places narrow_blank wide_blank
returns c = rw (c.every-narrow.ensures.is (narrow_at c.args.held.tag.now c.args.held.length.now c.args.held.marked.now c.args.from) (λ i b l h. search rules), c.every-wide.ensures.is (wide_at c.args.held.id.now c.args.held.correlation.now c.args.from) (λ i b l h. search rules))
