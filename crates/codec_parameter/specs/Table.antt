-- The table of message types (Rule 2.10): which parameters a message has.
-- Assumes nothing.
use Rattle.std.specs.Prelude.{ℕ, zero, suc, Bool, true, false, cond, ◌&&◌, ◌||◌, List, [], ◌∷◌, eqb}
use Rattle.codec_parameter.specs.declared.Usage.{Usage}
use Rattle.codec_parameter.specs.declared.Usage.TheVariants.{Forbidden, Optional, Mandatory, Repeated}

abbrev pub is_mandatory : Usage → Bool
is_mandatory Forbidden = false
is_mandatory Optional = false
is_mandatory Mandatory = true
is_mandatory Repeated = false

pub record Entry : Type 0 where
  pub tag : ℕ
  pub use_as : Usage

abbrev pub ◌is◌ : ℕ → Usage → Entry
◌is◌ t u = record { tag = t; use_as = u }

infix 20 ◌is◌
-- a row: the class, its types, and their parameters
pub record Row : Type 0 where
  pub class : ℕ
  pub types : List ℕ
  pub entries : List Entry

abbrev pub row : ℕ → List ℕ → List Entry → Row
row c ts es = record { class = c; types = ts; entries = es }

-- the two tags of Rule 2.11, and what else the row has
abbrev pub ids : List Entry → List Entry
ids es = (0x1 is Repeated) ∷ (0x8 is Repeated) ∷ es

-- a message of class 6: its identifier (Rule 2.12), and what else the row has
abbrev pub link : List Entry → List Entry
link es = (0x1 is Mandatory) ∷ es

-- 0x300 stands for itself and for 0x301 (`key`)
unfoldable pub table : List Row
table =
    -- Error
    row 0 (0 ∷ []) ((0xc is Mandatory) ∷ ids ((0x7 is Optional) ∷ []))
    -- Notify
    ∷ row 0 (1 ∷ []) ((0xd is Mandatory) ∷ (0x11 is Optional) ∷ ids ((0x4 is Optional) ∷ []))
    -- ASP Up
    ∷ row 3 (1 ∷ []) ((0x11 is Optional) ∷ (0x4 is Optional) ∷ [])
    -- ASP Down, Up Ack, Down Ack
    ∷ row 3 (2 ∷ 4 ∷ 5 ∷ []) ((0x4 is Optional) ∷ [])
    -- Heartbeat, Heartbeat Ack
    ∷ row 3 (3 ∷ 6 ∷ []) ((0x9 is Optional) ∷ [])
    -- ASP Active, Active Ack
    ∷ row 4 (1 ∷ 3 ∷ []) ((0xb is Optional) ∷ ids ((0x4 is Optional) ∷ []))
    -- ASP Inactive, Inactive Ack
    ∷ row 4 (2 ∷ 4 ∷ []) (ids ((0x4 is Optional) ∷ []))
    -- Data
    ∷ row 6 (1 ∷ []) (link ((0x300 is Mandatory) ∷ (0x13 is Optional) ∷ []))
    -- Establish Request and Confirm, Release Request, Confirm and Indication
    ∷ row 6 (2 ∷ 3 ∷ 4 ∷ 5 ∷ 6 ∷ []) (link [])
    -- State Request, State Confirm
    ∷ row 6 (7 ∷ 8 ∷ []) (link ((0x302 is Mandatory) ∷ []))
    -- State Indication
    ∷ row 6 (9 ∷ []) (link ((0x303 is Mandatory) ∷ []))
    -- Retrieval Request
    ∷ row 6 (10 ∷ []) (link ((0x306 is Mandatory) ∷ (0x307 is Optional) ∷ []))
    -- Retrieval Confirm
    ∷ row 6 (11 ∷ []) (link ((0x306 is Mandatory) ∷ (0x308 is Mandatory) ∷ (0x307 is Optional) ∷ []))
    -- Retrieval Indication
    ∷ row 6 (12 ∷ []) (link ((0x300 is Mandatory) ∷ []))
    -- Retrieval Complete
    ∷ row 6 (13 ∷ []) (link ((0x300 is Optional) ∷ []))
    -- Congestion
    ∷ row 6 (14 ∷ []) (link ((0x304 is Mandatory) ∷ (0x305 is Optional) ∷ []))
    -- Data Ack
    ∷ row 6 (15 ∷ []) (link ((0x13 is Mandatory) ∷ []))
    ∷ []

unfoldable pub among : ℕ → List ℕ → Bool
among x [] = false
among x (y ∷ ys) = eqb x y || among x ys

-- the class has a row
unfoldable pub has_class : List Row → ℕ → Bool
has_class [] c = false
has_class (r ∷ rs) c = eqb c r.class || has_class rs c

-- the index of the row of a class and type, from 0; where there is none, the number of rows
unfoldable pub row_in : List Row → ℕ → ℕ → ℕ
row_in [] c t = 0
row_in (r ∷ rs) c t = cond (eqb c r.class && among t r.types) 0 (suc (row_in rs c t))

-- the parameters of the row at an index
unfoldable pub entries_in : List Row → ℕ → List Entry
entries_in [] i = []
entries_in (r ∷ rs) zero = r.entries
entries_in (r ∷ rs) (suc i) = entries_in rs i

-- the tag that a tag counts as: 0x301 is another 0x300 (Rule 2.14)
abbrev pub key : ℕ → ℕ
key t = cond (eqb t 0x301) 0x300 t

-- how a tag stands among the parameters of a row
unfoldable pub use_in : List Entry → ℕ → Usage
use_in [] t = Forbidden
use_in (e ∷ es) t = cond (eqb (key t) e.tag) e.use_as (use_in es t)

-- how a tag stands in the messages of the row at an index
unfoldable pub usage : ℕ → ℕ → Usage
usage i t = use_in (entries_in table i) t
