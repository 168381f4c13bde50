-- What the walk over a message's parameters finds.
-- Assumes nothing.
use Rattle.std.specs.Prelude.{ℕ, zero, suc, ◌+◌, ◌-◌, ◌*◌, ◌/◌, cond, List, [], ◌∷◌, length, take, drop, ltb, leb}
use Rattle.codec_wire.specs.Number.{be}
use Rattle.codec_wire.specs.declared.Step.{Step}
use Rattle.codec_wire.specs.declared.Step.TheVariants.{Param, End, Fault}

-- a length with its padding (Rule 1.4)
abbrev pub padded : ℕ → ℕ
padded n = (n + 3) / 4 * 4

-- What stands at a position (Rules 1.3 and 1.5): the end, a fault, or a parameter with its tag, its length
-- field and the position behind its padding.
unfoldable pub step_at : List ℕ → ℕ → Step
step_at s at =
    cond (leb (length s) at) End
    (cond (ltb (length s - at) 4) Fault
    (cond (ltb (be 2 s (at + 2)) 4) Fault
    (cond (leb (padded (be 2 s (at + 2))) (length s - at))
    (Param (be 2 s at) (be 2 s (at + 2)) (at + padded (be 2 s (at + 2))))
    Fault)))

-- a parameter: its tag and its value
pub record Par : Type 0 where
  pub tag : ℕ
  pub body : List ℕ

-- the number of a reading (Rule 1.5)
abbrev pub step_code : Step → ℕ
step_code (Param t l n) = 0
step_code End = 0
step_code Fault = 18

-- what a walk finds: the parameters up to the end or the fault that stops it, and the number of that
pub record Walk : Type 0 where
  pub pars : List Par
  pub code : ℕ

-- one reading, and the walk from the next position on. A value lies behind tag and length, without the
-- padding (Rule 1.6).
abbrev pub on_step : List ℕ → ℕ → Step → (ℕ → Walk) → Walk
on_step s at (Param t l n) rest =
    record { pars = record { tag = t; body = take (l - 4) (drop (at + 4) s) } ∷ (rest n).pars; code = (rest n).code }
on_step s at End rest = record { pars = []; code = step_code End }
on_step s at Fault rest = record { pars = []; code = step_code Fault }

-- the walk in at most so many readings
unfoldable pub walk_f : ℕ → List ℕ → ℕ → Walk
walk_f zero s at = record { pars = []; code = step_code Fault }
walk_f (suc f) s at = on_step s at (step_at s at) (walk_f f s)

-- the walk from a position on. Each parameter takes four bytes at least, so the count never runs out.
unfoldable pub walk : List ℕ → ℕ → Walk
walk s at = walk_f (suc (length s - at)) s at

-- the value of the parameter at a position, whose length field is len; nothing where it does not lie within
-- the message (Rule 1.6)
unfoldable pub part_of : List ℕ → ℕ → ℕ → List ℕ
part_of s at len =
    cond (ltb len 4) []
    (cond (ltb (length s) len) []
    (cond (ltb (length s - len) at) []
    (take (at + len - (at + 4)) (drop (at + 4) s))))
