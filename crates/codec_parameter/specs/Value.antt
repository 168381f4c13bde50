-- The lengths and values of parameters (Rules 2.15 and 2.16).
-- Assumes nothing.
use Rattle.std.specs.Prelude.{ℕ, ◌+◌, ◌-◌, ◌*◌, ◌/◌, ◌%◌, true, false, cond, not, List, length, ltb, leb, eqb}
use Rattle.laws.specs.Below.{all_below}
use Rattle.codec_wire.specs.Number.{be}
use Rattle.codec_parameter.specs.declared.Usage.{Usage}
use Rattle.codec_parameter.specs.declared.Usage.TheVariants.{Forbidden, Optional, Mandatory, Repeated}
use Rattle.codec_parameter.specs.declared.Limits.{Limits}

-- The lengths are those of the length field, which counts tag and length too; the limits are those of the
-- value.
abbrev pub bytes_of : ℕ → ℕ → Limits
bytes_of a b = record { least = a - 4; most = b - 4; word = false; low = 0; high = 0 }

-- a number of 32 bits
abbrev pub number_of : ℕ → ℕ → Limits
number_of a b = record { least = 8 - 4; most = 8 - 4; word = true; low = a; high = b }

-- the tables of Rules 2.15 and 2.16, but 0x1 and 0x8
unfoldable pub limits_of : ℕ → Limits
limits_of t =
    cond (eqb t 0x4) (bytes_of 4 259)
    (cond (eqb t 0x7) (bytes_of 4 65535)
    (cond (eqb t 0x9) (bytes_of 4 65535)
    (cond (eqb t 0x300) (bytes_of 5 277)
    (cond (eqb t 0x301) (bytes_of 5 277)
    (cond (eqb t 0xb) (number_of 1 3)
    (cond (eqb t 0x302) (number_of 0 10)
    (cond (eqb t 0x303) (number_of 1 4)
    (cond (eqb t 0x304) (number_of 0 3)
    (cond (eqb t 0x305) (number_of 0 3)
    (cond (eqb t 0x306) (number_of 1 2)
    (cond (eqb t 0x307) (number_of 0 4095)
    (cond (eqb t 0x308) (number_of 0 1)
    (bytes_of 8 8)))))))))))))

-- a wrong value: of a traffic mode 5 (Rule 2.7)
abbrev pub value_code : ℕ → ℕ
value_code t = cond (eqb t 0xb) 5 17

-- a number in its limits m: 0, or the refusal
unfoldable pub word_code : Limits → ℕ → ℕ → ℕ
word_code m t n = cond (ltb n m.low) (value_code t) (cond (ltb m.high n) (value_code t) 0)

-- the length, then the number
unfoldable pub plain_code : Limits → ℕ → List ℕ → ℕ
plain_code m t v =
    cond (ltb (length v) m.least) 18
    (cond (ltb m.most (length v)) 18
    (cond (not m.word) 0
    (cond (ltb (length v) 4) 18
    (word_code m t (be 4 v 0)))))

-- 0x1 where one identifier stands (Rule 2.12)
abbrev pub one_id : List ℕ → ℕ
one_id v = cond (eqb (length v) 4) 0 18

-- 0x1, which stands in the message as said; among ids it has one identifier or more (Rule 2.11)
unfoldable pub id_code : Usage → List ℕ → ℕ
id_code Forbidden v = one_id v
id_code Optional v = one_id v
id_code Mandatory v = one_id v
id_code Repeated v = cond (ltb (length v) 4) 18 (cond (eqb (length v % 4) 0) 0 18)

-- 0x8: one or more pairs, none of which stops below its start (Rules 2.11, 2.16)
unfoldable pub range_code : List ℕ → ℕ
range_code v =
    cond (ltb (length v) 8) 18
    (cond (eqb (length v % 8) 0)
    (cond (all_below (λ k. leb (be 4 v (k * 8)) (be 4 v (k * 8 + 4))) (length v / 8)) 0 17)
    18)

-- the length and value of a tag that stands in the message as u says
unfoldable pub body_code : Usage → ℕ → List ℕ → ℕ
body_code u t v = cond (eqb t 0x1) (id_code u v) (cond (eqb t 0x8) (range_code v) (plain_code (limits_of t) t v))
