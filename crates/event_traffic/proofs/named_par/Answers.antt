use mathlib.Core.Path.{refl, sym}
use borrow.Author.Tests.{eq-eqb, ne_eqb}
use Rattle.state_ranges.specs.Inner.Names.{earlier_nothing, as_plain}
use Rattle.state_ranges.specs.Inner.Owners.{looked_or}
use Rattle.state_sets.specs.Inner.Bits.{flags_long}
use Rattle.event_traffic.specs.Inner.Named.{refused_par, with_par}
use Rattle.event_traffic.proofs.named_par.Goals as goal

pub returns-then-t-eq1 : goal.returns-then-t-eq1
unfolding refused_par with_par
returns-then-t-eq1 c = let e = c.of_ids.ensures in rw (eq-eqb _ 1 c.if-t-eq1.true) (e, looked_or _ c.requires (flags_long _) e.set)

pub returns-then-t-eq8 : goal.returns-then-t-eq8
unfolding refused_par with_par
returns-then-t-eq8 c = let e = c.of_ranges.ensures in rw (ne_eqb _ 1 c.if-t-eq1.false, eq-eqb _ 8 c.if-t-eq8.true) (e.0, e.1)

pub returns : goal.returns
unfolding refused_par with_par
returns c = rw (ne_eqb _ 1 c.if-t-eq1.false, ne_eqb _ 8 c.if-t-eq8.false) (record { refused = sym (earlier_nothing _ (as_plain _)); set = refl }, c.requires)
