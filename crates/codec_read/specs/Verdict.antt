-- The verdict on a message: the checks of Rules 2.1 to 2.8 in this order. A check gives its number, or 0
-- where it finds nothing.
-- Assumes nothing.
use Rattle.std.specs.Prelude.{ℕ, ◌%◌, Bool, true, false, cond, not, ◌&&◌, ◌||◌, List, [], ◌∷◌, ◌++◌, length, get_or, ltb, eqb}
use Rattle.laws.specs.Choice.{◌or_else◌, ◌if◌}
use Rattle.codec_wire.specs.Number.{be}
use Rattle.codec_wire.specs.Walk.{Par, walk}
use Rattle.codec_parameter.specs.Table.{is_mandatory, Entry, table, has_class, row_in, entries_in, key, usage}
use Rattle.codec_parameter.specs.Check.{par_code}

-- the most bytes of a message (Rule 2.1)
abbrev pub most : ℕ
most = 2048

-- ---- what stands in a list of parameters

-- a parameter of the tag is there
unfoldable pub has : ℕ → List Par → Bool
has t [] = false
has t (p ∷ ps) = eqb (key p.tag) (key t) || has t ps

-- the number that a value of four bytes or more begins with
unfoldable pub head : List ℕ → ℕ
head v = cond (ltb (length v) 4) 0 (be 4 v 0)

-- the number of the first parameter of the tag; 0 where there is none
unfoldable pub number : ℕ → List Par → ℕ
number t [] = 0
number t (p ∷ ps) = cond (eqb (key p.tag) (key t)) (head p.body) (number t ps)

-- ---- check 7, of one parameter; `before` are the parameters before it

unfoldable pub is_none : List Par → Bool
is_none [] = true
is_none (p ∷ ps) = false

-- one parameter after the other (Rule 2.7): the row's index, the parameters before, and those left
unfoldable pub in_turn : ℕ → List Par → List Par → ℕ
in_turn i before [] = 0
in_turn i before (p ∷ ps) =
    par_code (usage i 0x1) (usage i p.tag) (is_none before) (has p.tag before) p.tag p.body
    or_else in_turn i (before ++ (p ∷ [])) ps

-- ---- check 8

-- each mandatory parameter of a row is there
unfoldable pub all_there : List Entry → List Par → Bool
all_there [] ps = true
all_there (e ∷ es) ps = cond (is_mandatory e.use_as) (has e.tag ps && all_there es ps) (all_there es ps)

-- a sequence number where one is wanted, and only there (Rule 2.17)
abbrev pub exactly : Bool → Bool → ℕ
exactly wanted there = cond wanted (cond there 0 22) (cond there 19 0)

-- 6.10, 6.11, and the two retrieval actions (Rule 2.16)
abbrev pub is_retrieval_request : ℕ → ℕ → Bool
is_retrieval_request c t = eqb c 6 && eqb t 10

abbrev pub is_retrieval_confirm : ℕ → ℕ → Bool
is_retrieval_confirm c t = eqb c 6 && eqb t 11

abbrev pub get_bsn : ℕ
get_bsn = 1

abbrev pub get_messages : ℕ
get_messages = 2

-- the sequence number of a Retrieval Request and of a Retrieval Confirm (Rule 2.17)
unfoldable pub sequence_code : ℕ → ℕ → List Par → ℕ
sequence_code c t ps =
    cond (is_retrieval_request c t) (exactly (eqb (number 0x306 ps) get_messages) (has 0x307 ps))
    (cond (is_retrieval_confirm c t) (exactly (eqb (number 0x306 ps) get_bsn && eqb (number 0x308 ps) 0) (has 0x307 ps))
    0)

-- ---- the checks on a whole message

-- 1. the size (Rule 2.1)
abbrev pub check1 : List ℕ → ℕ
check1 s = 7 if (ltb (length s) 8 || ltb most (length s))

-- 2. the version
abbrev pub check2 : List ℕ → ℕ
check2 s = 1 if not (eqb (get_or s 0 0) 1)

-- 3. the class
abbrev pub check3 : ℕ → ℕ
check3 c = 3 if not (has_class table c)

-- 4. the type: there is no row where the index is the number of rows
abbrev pub check4 : ℕ → ℕ
check4 i = 4 if eqb i (length table)

-- 5. the length field
abbrev pub check5 : List ℕ → ℕ
check5 s = 7 if (not (eqb (be 4 s 4) (length s)) || not (eqb (length s % 4) 0))

-- 6. the walk over the parameters
abbrev pub check6 : List ℕ → ℕ
check6 s = (walk s 8).code

-- 7. the parameters
abbrev pub check7 : ℕ → List Par → ℕ
check7 i ps = in_turn i [] ps

-- 8. what is mandatory, then the sequence number
abbrev pub check8 : ℕ → ℕ → ℕ → List Par → ℕ
check8 i c t ps = (22 if not (all_there (entries_in table i) ps)) or_else sequence_code c t ps

-- the checks 7 and 8 of a list of parameters, as the reader and the writer share them
unfoldable pub pars_code : ℕ → ℕ → List Par → ℕ
pars_code c t ps = check7 (row_in table c t) ps or_else check8 (row_in table c t) c t ps

-- the checks 6 to 8
unfoldable pub last_checks : List ℕ → ℕ
last_checks s = check6 s or_else pars_code (get_or s 2 0) (get_or s 3 0) (walk s 8).pars

-- the number of the first check that finds something, or 0 (Rule 2.9)
unfoldable pub verdict : List ℕ → ℕ
verdict s =
    check1 s
    or_else check2 s
    or_else check3 (get_or s 2 0)
    or_else check4 (row_in table (get_or s 2 0) (get_or s 3 0))
    or_else check5 s
    or_else last_checks s
