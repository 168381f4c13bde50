use native.Mathlib.Omega.{arith}
use mathlib.Core.Path.{ap, ◌∙◌}
use lib.ListN.{replicate, length-take, length-drop, length-replicate}
use Rattle.codec_put.proofs.Sets.{over_part}
use Rattle.codec_put.proofs.put_zeros.Goals as goal

pub returns : goal.returns
returns c =
    over_part _ (replicate c.args.n 0) _ _ _ (c.fill.ensures.after (λ y e. e) ∙ ap (λ k. replicate k 0) (rw (length-take, length-drop) (omega arith))) (rw length-replicate (omega arith)) (rw length-replicate c.requires)
