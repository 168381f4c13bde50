use Rattle.send_good_ids.specs.Inner.Marks.{par_ids, par_ranges, par_other}
use Rattle.send_good_ids.proofs.mark_par.Goals as goal

pub returns-then-t-eq1 : goal.returns-then-t-eq1
returns-then-t-eq1 c = par_ids _ _ c.if-t-eq1.true c.mark_ids.ensures

pub returns-then-t-eq8 : goal.returns-then-t-eq8
returns-then-t-eq8 c = par_ranges _ _ c.if-t-eq8.true c.mark_ranges.ensures

pub returns-else-t-eq8 : goal.returns-else-t-eq8
returns-else-t-eq8 c = par_other _ _ c.if-t-eq1.false c.if-t-eq8.false
