-- The answer to each line of a script.
-- Assumes nothing.
use Rattle.std.specs.Prelude.{cond, List, [], ◌∷◌, ◌++◌, ℕ, length, get_or, ltb, eqb, Option, Some, None}
use Rattle.tool_text.specs.Word.{word_in, rest_in, same}
use Rattle.tool_text.specs.Parse.{size_of, unhex}
use Rattle.tool_report.specs.Shown.{read_text, shown_text}
use Rattle.tool_report.specs.declared.Style.TheVariants.{Bars}
use Rattle.tool_script.specs.declared.Command.{Command}
use Rattle.tool_script.specs.declared.Command.TheVariants.{Read, Show}

-- `?`
abbrev pub bad_text : List ℕ
bad_text = 63 ∷ []

-- `read` and `show`
abbrev pub read_word : List ℕ
read_word = 114 ∷ 101 ∷ 97 ∷ 100 ∷ []

abbrev pub show_word : List ℕ
show_word = 115 ∷ 104 ∷ 111 ∷ 119 ∷ []

-- the command of a name
unfoldable pub command_in : List ℕ → Option Command
command_in name = cond (same name read_word) (Some Read) (cond (same name show_word) (Some Show) None)

abbrev pub on_size : Option ℕ → List ℕ → List ℕ → List ℕ
on_size (Some n) some none = some
on_size None some none = none

-- what is said of the bytes of a word; `?` where it is none of bytes
unfoldable pub on_bytes : (List ℕ → List ℕ) → List ℕ → List ℕ
on_bytes f w = on_size (size_of w) (f (unhex w)) bad_text

-- what a command says of bytes
abbrev pub said_by : Command → List ℕ → List ℕ
said_by Read = read_text
said_by Show = shown_text Bars

-- the answer of a command to what follows its name
abbrev pub answer_of : Option Command → List ℕ → List ℕ
answer_of (Some command) rest = on_bytes (said_by command) rest
answer_of None rest = bad_text

-- a line of more than 65,535 characters is no command
unfoldable pub answer_text : List ℕ → List ℕ
answer_text line = cond (ltb 65535 (length line)) bad_text (answer_of (command_in (word_in line)) (rest_in line))

-- a line with nothing in it, or a comment, has no answer
unfoldable pub line_text : List ℕ → List ℕ
line_text line = cond (eqb (length line) 0) [] (cond (eqb (get_or line 0 0) 35) [] (answer_text line ++ (10 ∷ [])))
