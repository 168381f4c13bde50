-- The plan file: what it says (Rules 4.1 to 4.3), and which files are refused (Rules 4.4, 4.5).
-- Assumes nothing.
use Rattle.std.specs.Prelude.{ℕ, ◌+◌, ◌*◌, ◌/◌, ◌%◌, ◌^◌, Bool, ◌&&◌, cond, List, [], ◌∷◌, eqb, leb, ltb, length, replicate}
use Rattle.laws.specs.Below.{all_below}
use Rattle.laws.specs.Columns.{number_at, tabulate}
use Rattle.codec_wire.specs.Number.{be}
use Rattle.state_tables.specs.Sound.{zeros, no_units, differs, ascends, all_under}
use Rattle.state_tables.specs.declared.Gateway.{Gateway}
use Rattle.state_plan.specs.declared.Loaded.{Loaded}

-- A body: the size of its rows, its least and its most rows.
pub record Body : Type 0 where
  pub row : ℕ
  pub least : ℕ
  pub most : ℕ

-- ASPs: identifier, mask, list rule. ASes: mode. Links: identifier, kind, owner. (Rule 4.2)
abbrev pub asp_body : Body
asp_body = record { row = 8; least = 1; most = 16 }

abbrev pub as_body : Body
as_body = record { row = 4; least = 1; most = 16 }

abbrev pub link_body : Body
link_body = record { row = 8; least = 0; most = 128 }

abbrev pub bodies : List Body
bodies = asp_body ∷ as_body ∷ link_body ∷ []

-- the bytes in front of the bodies: an offset and a count for each (Rule 4.1)
abbrev pub contents : ℕ
contents = 24

-- those of body i
unfoldable pub offset : List ℕ → ℕ → ℕ
offset s i = be 4 s (i * 8)

unfoldable pub count : List ℕ → ℕ → ℕ
count s i = be 4 s (i * 8 + 4)

-- Each body starts where the one before it ends, and the last ends with the file: the bodies from number i
-- on, the first of which starts at a position.
unfoldable pub follow : List Body → List ℕ → ℕ → ℕ → Bool
follow [] s i at = eqb at (length s)
follow (b ∷ bs) s i at =
    (eqb (offset s i) at && (leb b.least (count s i) && leb (count s i) b.most))
    && follow bs s (i + 1) (at + b.row * count s i)

-- else 201 (Rule 4.4)
unfoldable pub layout_ok : List ℕ → Bool
layout_ok s = leb contents (length s) && follow bodies s 0 contents

-- a table of some places with what n rows say, and zeros beyond them
unfoldable pub column : ℕ → ℕ → (ℕ → ℕ) → List ℕ
column places n f = tabulate places (λ i. cond (ltb i n) (f i) 0)

-- a word of each of n rows, which stands at a position in the first of them: of ASP rows, AS rows and link
-- rows
abbrev pub asp_words : List ℕ → ℕ → ℕ → List ℕ
asp_words s at n = column 16 n (λ p. be 4 s (at + asp_body.row * p))

abbrev pub as_words : List ℕ → ℕ → ℕ → List ℕ
as_words s at n = column 16 n (λ a. be 4 s (at + as_body.row * a))

abbrev pub link_words : List ℕ → ℕ → ℕ → List ℕ
link_words s at n = column 128 n (λ l. be 4 s (at + link_body.row * l))

-- the fields of ASPs
unfoldable pub asp_ids : List ℕ → List ℕ
asp_ids s = asp_words s (offset s 0) (count s 0)

-- the second word of an ASP's row: a mask of 16 bits, and the rule for its lists; that of a link's row: its
-- kind, and its owner
abbrev pub high : ℕ → ℕ
high x = x / 65536

abbrev pub low : ℕ → ℕ
low x = x % 65536

unfoldable pub masks : List ℕ → List ℕ
masks s = column 16 (count s 0) (λ p. high (be 4 s (offset s 0 + 4 + asp_body.row * p)))

unfoldable pub lists : List ℕ → List ℕ
lists s = column 16 (count s 0) (λ p. low (be 4 s (offset s 0 + 4 + asp_body.row * p)))

-- the field of ASes
unfoldable pub modes : List ℕ → List ℕ
modes s = as_words s (offset s 1) (count s 1)

-- the fields of links
unfoldable pub link_ids : List ℕ → List ℕ
link_ids s = link_words s (offset s 2) (count s 2)

unfoldable pub owners : List ℕ → List ℕ
owners s = column 128 (count s 2) (λ l. low (be 4 s (offset s 2 + 4 + link_body.row * l)))

unfoldable pub kinds : List ℕ → List ℕ
kinds s = column 128 (count s 2) (λ l. high (be 4 s (offset s 2 + 4 + link_body.row * l)))

-- what a file says: how many ASPs, ASes and links, and a column for each field of their rows
pub record Tables : Type 0 where
  pub asps : ℕ
  pub ases : ℕ
  pub links : ℕ
  pub aspid : List ℕ
  pub mask : List ℕ
  pub list : List ℕ
  pub mode : List ℕ
  pub iid : List ℕ
  pub owner : List ℕ
  pub kind : List ℕ

abbrev pub tables_of : List ℕ → Tables
tables_of s =
    record {
      asps = count s 0;
      ases = count s 1;
      links = count s 2;
      aspid = asp_ids s;
      mask = masks s;
      list = lists s;
      mode = modes s;
      iid = link_ids s;
      owner = owners s;
      kind = kinds s;
    }

-- bit a of a mask, 0 or 1, and the bits from a on as one number
abbrev pub bit : ℕ → ℕ → ℕ
bit mask a = mask / 2 ^ a % 2

abbrev pub bits_from : ℕ → ℕ → ℕ
bits_from mask a = mask / 2 ^ a

-- each AS has one of the three modes
unfoldable pub modes_ok : List ℕ → ℕ → Bool
modes_ok mode ases = all_below (λ a. leb 1 (number_at mode a) && leb (number_at mode a) 3) ases

-- no mask has a bit for an AS that the plan has not
unfoldable pub masks_ok : List ℕ → ℕ → ℕ → Bool
masks_ok mask asps ases = all_below (λ p. eqb (bits_from (number_at mask p) ases) 0) asps

-- the kinds of a link: 0 plain, 1 high-speed
abbrev pub link_kinds : ℕ
link_kinds = 2

-- the rules for an ASP's lists: 0 part may succeed, 1 whole or not at all
abbrev pub list_rules : ℕ
list_rules = 2

-- else 202 (Rule 4.5): besides, no two ASPs share an identifier, those of links ascend, and owners are the
-- plan's
unfoldable pub rows_ok : Tables → Bool
rows_ok t =
    (modes_ok t.mode t.ases && (masks_ok t.mask t.asps t.ases && all_under t.list list_rules t.asps))
    && (all_below (differs t.aspid) t.asps
    && (ascends t.iid t.links && (all_under t.owner t.ases t.links && all_under t.kind link_kinds t.links)))

-- member or not, pair by pair, of the masks
unfoldable pub members : List ℕ → List ℕ
members mask = tabulate 256 (λ i. bit (number_at mask (i % 16)) (i / 16))

-- the state with the plan's tables in which nothing has happened yet (Rule 4.6)
unfoldable pub fresh : Tables → Gateway
fresh t =
    record {
      asps = t.asps;
      ases = t.ases;
      links = t.links;
      spare = 0;
      aspid = t.aspid;
      up = replicate 16 0;
      member = members t.mask;
      active = replicate 256 0;
      mode = t.mode;
      waiting = replicate 16 0;
      iid = t.iid;
      owner = t.owner;
      state = replicate 128 0;
      highspeed = t.kind;
      wholelists = t.list;
      held = no_units;
    }

abbrev pub refused : ℕ → Loaded
refused n = record { code = n; gateway = zeros }

abbrev pub accepted : Gateway → Loaded
accepted g = record { code = 0; gateway = g }

-- the answer to a file that is laid out well, from what it says
unfoldable pub built : Tables → Loaded
built t = cond (rows_ok t) (accepted (fresh t)) (refused 202)

unfoldable pub load_of : List ℕ → Loaded
load_of s = cond (layout_ok s) (built (tables_of s)) (refused 201)
