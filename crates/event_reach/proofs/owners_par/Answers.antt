use Rattle.event_traffic.specs.Inner.Named.{with_par}
use borrow.Author.Tests.{eq-eqb, ne_eqb}
use mathlib.Core.Path.{refl}
use Rattle.event_reach.proofs.owners_par.Goals as goal

pub returns-then-t-eq1 : goal.returns-then-t-eq1
unfolding with_par
returns-then-t-eq1 c = rw (eq-eqb _ 1 c.if-t-eq1.true) c.owners_of.ensures

pub returns-then-t-eq8 : goal.returns-then-t-eq8
unfolding with_par
returns-then-t-eq8 c = rw (ne_eqb _ 1 c.if-t-eq1.false, eq-eqb _ 8 c.if-t-eq8.true) c.owners_of-then-t-eq8.ensures

pub returns : goal.returns
unfolding with_par
returns c = rw (ne_eqb _ 1 c.if-t-eq1.false, ne_eqb _ 8 c.if-t-eq8.false) (refl, c.requires)
