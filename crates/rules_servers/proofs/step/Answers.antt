use Rattle.laws.specs.Inner.Below.{from_one}
use mathlib.Core.Path.{ap}
use mathlib.Core.Bool.{not}
use mathlib.Core.Path.{◌∙◌}
use native.Mathlib.Omega.{arith}
use Rattle.rules_action.specs.Inner.Words.{written_length}
use Rattle.rules_servers.proofs.Turn.{out_room, stepped_not, stepped_on}
use Rattle.rules_servers.proofs.step.Goals as goal

-- `rules_servers::step`: cut out, changed, put back, told. Assumes nothing.
pub returns-then-not-named : goal.returns-then-not-named
returns-then-not-named c = stepped_not _ _ _ _ _ _ _ _ _ _ (ap not c.if-not-named.true)

pub let_out-m-requires : goal.let_out-m-requires
let_out-m-requires c = let p = c.requires in (p.0, omega (arith, p.1))

pub speak-requires : goal.speak-requires
speak-requires c = let p = c.requires in (p.0, out_room _ _ _ _ c.let_out-m.ensures p.1)

pub shape_of-words : goal.shape_of-words
shape_of-words c = written_length c.speak.ensures ∙ written_length c.let_out-m.ensures

pub returns : goal.returns
returns c = stepped_on _ _ _ (ap not c.if-not-named.false) c.record_of-s.ensures c.changed-t.ensures c.put_row.ensures (c.from.ensures ∙ from_one _) c.overtaken_in-lost.ensures c.let_out-m.ensures c.speak.ensures c.args.k.sane
