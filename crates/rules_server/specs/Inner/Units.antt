-- Laws of specs/Units.antt.
-- Assumes nothing.
use Rattle.std.specs.Prelude.{ℕ, ◌≤◌, List, ltb, length}
use Rattle.std.proofs.Common.{arith}
use Rattle.laws.specs.Inner.Below.{concat_short, when_short}
use Rattle.rules_server.specs.declared.Change.{Change}
use Rattle.rules_server.specs.declared.Change.TheVariants.{AspUp, AspDown, Deactivate, Activate, Recover}
use Rattle.rules_server.specs.Units.{unit_out, units_out, let_out}

pub unit_out_short : (p n : ℕ) (id : List ℕ) (a k : ℕ) → length (unit_out p n id a k) ≤ 1
unfolding unit_out
unit_out_short p n id a k = when_short (ltb k n) _

pub units_out_short : (p n : ℕ) (id : List ℕ) (a : ℕ) → length (units_out p n id a) ≤ 8
unfolding units_out
units_out_short p n id a = concat_short (unit_out p n id a) 1 (unit_out_short p n id a) 8

pub let_out_short : (k : Change) (n : ℕ) (id : List ℕ) (a : ℕ) → length (let_out k n id a) ≤ 8
unfolding let_out
let_out_short (AspUp p) n id a = omega arith
let_out_short (AspDown p) n id a = omega arith
let_out_short (Deactivate p) n id a = omega arith
let_out_short (Activate p) n id a = units_out_short p n id a
let_out_short Recover n id a = omega arith
