-- Messages as text: the line of `read` (docs/SCRIPT.md) and the lines of `show` (Rule 12.1).
-- Assumes nothing.
use Rattle.std.specs.Prelude.{ℕ, ◌+◌, cond, List, [], ◌∷◌, ◌++◌, length, eqb}
use Rattle.codec_wire.specs.Walk.{Par, walk}
use Rattle.tool_text.specs.Digits.{decimal, hex}
use Rattle.codec_read.specs.Meaning.{reading_of}
use Rattle.tool_report.specs.declared.Style.{Style}
use Rattle.tool_report.specs.declared.Style.TheVariants.{Plain, Bars, Lines}

abbrev pub blank : ℕ
blank = 32

abbrev pub colon : ℕ
colon = 58

-- `param `, `message ` and `verdict `
abbrev pub param_word : List ℕ
param_word = 112 ∷ 97 ∷ 114 ∷ 97 ∷ 109 ∷ blank ∷ []

abbrev pub message_word : List ℕ
message_word = 109 ∷ 101 ∷ 115 ∷ 115 ∷ 97 ∷ 103 ∷ 101 ∷ blank ∷ []

abbrev pub verdict_word : List ℕ
verdict_word = 118 ∷ 101 ∷ 114 ∷ 100 ∷ 105 ∷ 99 ∷ 116 ∷ blank ∷ []

-- what stands before a parameter and before the verdict: a blank, ` | `, or the line's end
unfoldable pub joint : Style → List ℕ
joint Plain = blank ∷ []
joint Bars = blank ∷ 124 ∷ blank ∷ []
joint Lines = 10 ∷ []

-- two numbers with a character between them
unfoldable pub two : ℕ → ℕ → ℕ → List ℕ
two a c b = decimal a ++ ((c ∷ []) ++ decimal b)

-- a parameter in the line of `read`: tag, length field and value with colons between them, as 11:8:00000001
unfoldable pub fields : ℕ → List ℕ → List ℕ
fields t v = two t colon (4 + length v) ++ ((colon ∷ []) ++ hex v)

-- a value in a line of `show`: nothing for an empty one (Rule 12.2)
unfoldable pub value : List ℕ → List ℕ
value v = cond (eqb (length v) 0) [] ((blank ∷ []) ++ hex v)

-- a parameter in a line of `show`, as param 11 8 00000001
unfoldable pub named : ℕ → List ℕ → List ℕ
named t v = param_word ++ (two t blank (4 + length v) ++ value v)

abbrev pub fields_in : Style → ℕ → List ℕ → List ℕ
fields_in Plain t v = fields t v
fields_in Bars t v = named t v
fields_in Lines t v = named t v

unfoldable pub par_text : Style → Par → List ℕ
par_text style p = joint style ++ fields_in style p.tag p.body

unfoldable pub pars_text : Style → List Par → List ℕ
pars_text style [] = []
pars_text style (p ∷ ps) = par_text style p ++ pars_text style ps

unfoldable pub verdict_line : ℕ → List ℕ
verdict_line code = verdict_word ++ decimal code

-- class, type and number of bytes, as message 4 1 28
unfoldable pub head_line : ℕ → ℕ → ℕ → List ℕ
head_line class msgtype size = message_word ++ (two class blank msgtype ++ ((blank ∷ []) ++ decimal size))

unfoldable pub accepted_text : Style → ℕ → ℕ → List ℕ → List ℕ
accepted_text style class msgtype s = head_line class msgtype (length s) ++ (pars_text style (walk s 8).pars ++ (joint style ++ verdict_line 0))

-- what `show` says of any bytes (Rule 12.1)
unfoldable pub shown_text : Style → List ℕ → List ℕ
shown_text style s =
    cond (eqb (reading_of s).code 0) (accepted_text style (reading_of s).class (reading_of s).msgtype s) (verdict_line (reading_of s).code)

-- what `read` says of any bytes: the verdict, and the parameters of an accepted message
unfoldable pub read_text : List ℕ → List ℕ
read_text s = decimal (reading_of s).code ++ cond (eqb (reading_of s).code 0) (pars_text Plain (walk s 8).pars) []
