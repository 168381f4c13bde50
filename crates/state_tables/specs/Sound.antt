-- Which states of the gateway are sound (Rule 5.4), group of columns by group of columns.
-- Assumes nothing.
use Rattle.std.specs.Prelude.{ℕ, ◌+◌, ◌*◌, ◌-◌, Bool, ◌||◌, ◌&&◌, cond, not, List, length, replicate, eqb, leb, ltb}
use Rattle.laws.specs.Below.{all_below, any_below, count_below}
use Rattle.laws.specs.Columns.{number_at, is_set}
use Rattle.state_tables.specs.declared.Gateway.{Gateway}
use Rattle.state_tables.specs.declared.Units.{Units}

-- The places of each table, and the largest state of a link: 0 idle, 1 starting, 2 in service, 3 stopping.
abbrev pub asp_places : ℕ
asp_places = 16

abbrev pub as_places : ℕ
as_places = 16

abbrev pub link_places : ℕ
link_places = 128

abbrev pub link_states : ℕ
link_states = 4

-- the index of the pair of AS a and ASP q
abbrev pub pair : ℕ → ℕ → ℕ
pair a q = a * 16 + q

-- The counts fit the tables (Rule 5.5).
unfoldable pub counts_in : ℕ → ℕ → ℕ → Bool
counts_in asps ases links =
    ((leb 1 asps && leb asps asp_places) && (leb 1 ases && leb ases as_places)) && leb links link_places

-- Places that the plan does not use hold 0: those from n up to an end.
unfoldable pub blank_from : List ℕ → ℕ → ℕ → Bool
blank_from c n end = all_below (λ i. ltb i n || eqb (number_at c i) 0) end

-- A flag is 0 or 1 (Rule 5.6), and 1 only where b holds.
abbrev pub flag_if : ℕ → Bool → Bool
flag_if x b = eqb x 0 || (eqb x 1 && b)

-- Place i of a column of n holds a number below a bound, and a place beyond these 0. Of flags the bound is 2.
unfoldable pub under_within : List ℕ → ℕ → ℕ → ℕ → Bool
under_within c most n i = cond (ltb i n) (ltb (number_at c i) most) (eqb (number_at c i) 0)

unfoldable pub sound_column : List ℕ → ℕ → ℕ → ℕ → Bool
sound_column c most n places = all_below (under_within c most n) places

-- ---- ASPs (Rule 5.7)

-- the identifier of place p differs from those before it
unfoldable pub differs : List ℕ → ℕ → Bool
differs aspid p = all_below (λ q. not (eqb (number_at aspid q) (number_at aspid p))) p

-- only an ASP of the plan is up
unfoldable pub sound_asps : List ℕ → List ℕ → ℕ → Bool
sound_asps aspid up asps =
    (all_below (differs aspid) asps && blank_from aspid asps asp_places) && sound_column up 2 asps asp_places

-- ---- ASes and pairs

-- a member is an ASP of the plan, in an AS of the plan (Rule 5.8)
unfoldable pub member_at : List ℕ → ℕ → ℕ → ℕ → ℕ → Bool
member_at member asps ases a q = flag_if (number_at member (pair a q)) (ltb q asps && ltb a ases)

-- who is active is a member and is up (Rule 5.9)
unfoldable pub active_at : List ℕ → List ℕ → List ℕ → ℕ → ℕ → Bool
active_at up member active a q = flag_if (number_at active (pair a q)) (is_set member (pair a q) && is_set up q)

-- the members and the active members of AS a
unfoldable pub sound_row : List ℕ → List ℕ → List ℕ → ℕ → ℕ → ℕ → Bool
sound_row up member active asps ases a =
    all_below (λ q. member_at member asps ases a q && active_at up member active a q) asp_places

-- how many members of AS a are active
unfoldable pub active_in : List ℕ → ℕ → ℕ
active_in active a = count_below (λ q. is_set active (pair a q)) asp_places

-- an AS of the plan has one of the three modes, another place none (Rule 5.10)
unfoldable pub mode_at : ℕ → Bool → Bool
mode_at mode inside = cond inside (leb 1 mode && leb mode 3) (eqb mode 0)

-- an AS waits only where nobody is active (Rule 5.11)
unfoldable pub waiting_at : ℕ → ℕ → Bool → Bool
waiting_at waiting n inside = flag_if waiting (inside && eqb n 0)

-- in override one member at most is active (Rule 5.12)
unfoldable pub override_at : ℕ → ℕ → Bool
override_at mode n = not (eqb mode 1) || leb n 1

unfoldable pub sound_as : List ℕ → List ℕ → List ℕ → List ℕ → List ℕ → ℕ → ℕ → ℕ → Bool
sound_as up member active mode waiting asps ases a =
    sound_row up member active asps ases a
    && ((mode_at (number_at mode a) (ltb a ases) && waiting_at (number_at waiting a) (active_in active a) (ltb a ases))
    && override_at (number_at mode a) (active_in active a))

unfoldable pub sound_ases : List ℕ → List ℕ → List ℕ → List ℕ → List ℕ → ℕ → ℕ → Bool
sound_ases up member active mode waiting asps ases = all_below (sound_as up member active mode waiting asps ases) as_places

-- ---- links (Rule 5.13)

-- each identifier is below the next
unfoldable pub ascends : List ℕ → ℕ → Bool
ascends iid links = all_below (λ l. ltb (number_at iid l) (number_at iid (l + 1))) (links - 1)

-- the first n places hold numbers below a bound
unfoldable pub all_under : List ℕ → ℕ → ℕ → Bool
all_under c most n = all_below (λ l. ltb (number_at c l) most) n

unfoldable pub sound_links : List ℕ → List ℕ → List ℕ → ℕ → ℕ → Bool
sound_links iid owner state ases links =
    (ascends iid links && blank_from iid links link_places)
    && (sound_column owner ases links link_places && sound_column state link_states links link_places)

-- only a link of the plan is a high-speed one (Rule 5.24)
unfoldable pub sound_kinds : List ℕ → ℕ → Bool
sound_kinds highspeed links = sound_column highspeed 2 links link_places

-- only an ASP of the plan has its lists taken whole (Rule 5.26)
unfoldable pub sound_lists : List ℕ → ℕ → Bool
sound_lists wholelists asps = sound_column wholelists 2 asps asp_places

-- the columns that are asked by themselves: a further one joins here
unfoldable pub sound_columns : Gateway → Bool
sound_columns g = sound_kinds g.highspeed g.links && sound_lists g.wholelists g.asps

-- ---- units held (Rule 5.21)

-- an AS holds at most 8; unit k of AS a, the oldest first, has this index
abbrev pub most_held : ℕ
most_held = 8

abbrev pub unit_places : ℕ
unit_places = 128

abbrev pub unit_index : ℕ → ℕ → ℕ
unit_index a k = a * 8 + k

-- x is the identifier of a link of AS a
unfoldable pub is_link_of : List ℕ → List ℕ → ℕ → ℕ → ℕ → Bool
is_link_of iid owner links a x = any_below (λ l. eqb (number_at iid l) x && eqb (number_at owner l) a) links

-- a unit of AS a: the tag and the length of protocol data, a link of that AS, and a correlation id only where
-- it is marked
unfoldable pub unit_at : Units → List ℕ → List ℕ → ℕ → ℕ → ℕ → Bool
unit_at u iid owner links a i =
    ((eqb (number_at u.tag i) 0x300 || eqb (number_at u.tag i) 0x301)
    && (leb 5 (number_at u.length i) && leb (number_at u.length i) 277))
    && (is_link_of iid owner links a (number_at u.id i)
    && (eqb (number_at u.marked i) 1 || (eqb (number_at u.marked i) 0 && eqb (number_at u.correlation i) 0)))

-- no unit: zeros
unfoldable pub blank_at : Units → ℕ → Bool
blank_at u i =
    (eqb (number_at u.tag i) 0 && eqb (number_at u.length i) 0)
    && (eqb (number_at u.marked i) 0 && (eqb (number_at u.id i) 0 && eqb (number_at u.correlation i) 0))

-- AS a holds units only while it waits
unfoldable pub units_ok : Units → List ℕ → List ℕ → List ℕ → ℕ → ℕ → Bool
units_ok u waiting iid owner links a =
    (leb (number_at u.count a) most_held && (eqb (number_at u.count a) 0 || is_set waiting a))
    && all_below (λ k. cond (ltb k (number_at u.count a)) (unit_at u iid owner links a (unit_index a k)) (blank_at u (unit_index a k))) most_held

-- the columns have their places; in the code they do by their type
unfoldable pub sized : Units → Bool
sized u =
    (eqb (length u.count) as_places && (eqb (length u.tag) unit_places && eqb (length u.length) unit_places))
    && (eqb (length u.marked) unit_places && (eqb (length u.id) unit_places && eqb (length u.correlation) unit_places))

unfoldable pub all_units : Units → List ℕ → List ℕ → List ℕ → ℕ → Bool
all_units u waiting iid owner links = all_below (units_ok u waiting iid owner links) as_places

unfoldable pub sound_units : Units → List ℕ → List ℕ → List ℕ → ℕ → Bool
sound_units u waiting iid owner links = sized u && all_units u waiting iid owner links

-- ---- the whole

-- The tables of ASPs, ASes and links; the byte behind the counts is 0 (Rule 5.20).
unfoldable pub sound_tables : Gateway → Bool
sound_tables g =
    (counts_in g.asps g.ases g.links && eqb g.spare 0)
    && (sound_asps g.aspid g.up g.asps
    && (sound_ases g.up g.member g.active g.mode g.waiting g.asps g.ases
    && (sound_links g.iid g.owner g.state g.ases g.links && sound_columns g)))

unfoldable pub is_sound : Gateway → Bool
is_sound g = sound_tables g && sound_units g.held g.waiting g.iid g.owner g.links

-- ---- the state that comes with a refused plan (Rule 4.7)

-- no units anywhere
abbrev pub no_units : Units
no_units =
    record {
      count = replicate 16 0;
      tag = replicate 128 0;
      length = replicate 128 0;
      marked = replicate 128 0;
      id = replicate 128 0;
      correlation = replicate 128 0;
    }

unfoldable pub zeros : Gateway
zeros =
    record {
      asps = 0;
      ases = 0;
      links = 0;
      spare = 0;
      aspid = replicate 16 0;
      up = replicate 16 0;
      member = replicate 256 0;
      active = replicate 256 0;
      mode = replicate 16 0;
      waiting = replicate 16 0;
      iid = replicate 128 0;
      owner = replicate 128 0;
      state = replicate 128 0;
      highspeed = replicate 128 0;
      wholelists = replicate 16 0;
      held = no_units;
    }
