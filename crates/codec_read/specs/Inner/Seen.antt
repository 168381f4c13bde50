-- What the reader keeps of the parameters passed: by slot, whether a tag of the slot is there, and the number
-- of the first. The checks and the meaning, asked of that.
-- Assumes nothing.
use Rattle.std.specs.Prelude.{◌≡◌, ℕ, Option, is_none, ◌%◌, ◌<◌, Bool, true, false, cond, not, ◌&&◌, ◌||◌, List, [], ◌∷◌, length, get_or, set, replicate, ltb, leb, eqb}
use Rattle.laws.specs.Choice.{◌or_else◌, ◌if◌}
use Rattle.codec_wire.specs.Number.{be}
use Rattle.codec_wire.specs.Walk.{Par}
use Rattle.codec_parameter.specs.Table.{table, has_class, row_in}
use Rattle.codec_parameter.specs.Inner.Slot.{slot, all_asked, listed}
use Rattle.codec_read.specs.Verdict.{head, exactly, get_bsn, get_messages, most, last_checks}
use Rattle.laws.specs.Below.{one}
use Rattle.codec_read.specs.Meaning.{unreadable, outcome}
use Rattle.codec_read.specs.declared.Reading.{Reading}
use Rattle.codec_read.specs.declared.Seen.{Seen}

-- a tag of the slot is there
unfoldable pub there : ℕ → List Par → Bool
there k [] = false
there k (p ∷ ps) = eqb (slot p.tag) k || there k ps

-- the number of the first tag of the slot
unfoldable pub word : ℕ → List Par → ℕ
word k [] = 0
word k (p ∷ ps) = cond (eqb (slot p.tag) k) (head p.body) (word k ps)

-- the two tables say so of the parameters
pub record Tells (met : List Bool) (words : List ℕ) (ps : List Par) : Type 0 where
  pub met_is : (k : ℕ) → k < 32 → get_or met k false ≡ there k ps
  pub words_is : (k : ℕ) → k < 32 → get_or words k 0 ≡ word k ps

-- what is kept before the first parameter
abbrev pub none : Seen
none = record { met = replicate 32 false; words = replicate 32 0; first = true }

-- and after one parameter more, of a tag's slot and a value
abbrev pub after_at : Seen → ℕ → List ℕ → Seen
after_at z k v =
    record {
      met = set z.met k true;
      words = set z.words k (cond (get_or z.met k false) (get_or z.words k 0) (head v));
      first = false;
    }

-- of a tag and a value
abbrev pub after : Seen → ℕ → List ℕ → Seen
after z t v = after_at z (slot t) v

-- the sequence number rules, of an action, a result, and whether there is a sequence number
unfoldable pub sequence_at : ℕ → ℕ → ℕ → ℕ → Bool → ℕ
sequence_at c t retrieval result given =
    cond (eqb c 6)
    (cond (eqb t 10) (exactly (eqb retrieval get_messages) given)
    (cond (eqb t 11) (cond (eqb retrieval get_bsn) (exactly (eqb result 0) given) (exactly false given))
    0))
    0

-- check 8, of a row whose mandatory slots are packed
unfoldable pub end_at : ℕ → ℕ → ℕ → List Bool → List ℕ → ℕ
end_at musts c t met words =
    (22 if not (all_asked musts met)) or_else sequence_at c t (get_or words (slot 0x306) 0) (get_or words (slot 0x308) 0) (get_or met (slot 0x307) false)

-- the meaning of an accepted message
unfoldable pub meaning_at : ℕ → ℕ → List Bool → List ℕ → Reading
meaning_at c t met words =
    record {
      code = 0;
      class = c;
      msgtype = t;
      ids = one (get_or met (slot 0x1) false || get_or met (slot 0x8) false);
      id = get_or words (slot 0x1) 0;
      mode = get_or words (slot 0xb) 0;
      identified = one (get_or met (slot 0x11) false);
      aspid = get_or words (slot 0x11) 0;
      correlated = one (get_or met (slot 0x13) false);
      correlation = get_or words (slot 0x13) 0;
      state = get_or words (slot 0x302) 0;
      retrieval = get_or words (slot 0x306) 0;
      sequenced = one (get_or met (slot 0x307) false);
      sequence = get_or words (slot 0x307) 0;
    }

-- what a number hands back: the meaning, or the refusal
unfoldable pub outcome_at : ℕ → ℕ → ℕ → List Bool → List ℕ → Reading
outcome_at n c t met words = cond (eqb n 0) (meaning_at c t met words) (unreadable n)

-- The checks in the order in which the code asks: 3 to 5, of whether the class is listed, the row, the length
-- field and the number of bytes
unfoldable pub row_code : Bool → Option ℕ → ℕ → ℕ → ℕ
row_code listed row n len = cond (not listed) 3 (cond (is_none row) 4 (cond (eqb n len) (cond (eqb (len % 4) 0) 0 7) 7))

-- 3 to 8, of what they gave
unfoldable pub row_outcome : ℕ → List ℕ → Reading
row_outcome n s = cond (eqb n 0) (outcome (last_checks s) s) (unreadable n)

abbrev pub kind_outcome : List ℕ → Reading
kind_outcome s = row_outcome (row_code (has_class table (get_or s 2 0)) (listed (row_in table (get_or s 2 0) (get_or s 3 0))) (be 4 s 4) (length s)) s

-- and all of them
unfoldable pub checks_outcome : List ℕ → Reading
checks_outcome s =
    cond (ltb (length s) 8) (unreadable 7)
    (cond (ltb most (length s)) (unreadable 7)
    (cond (eqb (get_or s 0 0) 1) (kind_outcome s) (unreadable 1)))

-- a message of the class and type may have no parameter
unfoldable pub needs_none : ℕ → ℕ → Bool
needs_none c t = (eqb c 3 && (leb 1 t && leb t 6)) || (eqb c 4 && (leb 1 t && leb t 4))

-- a message of its header alone that is accepted
unfoldable pub is_bare : List ℕ → Bool
is_bare s = cond (eqb (length s) 8) ((eqb (get_or s 0 0) 1 && eqb (be 4 s 4) 8) && needs_none (get_or s 2 0) (get_or s 3 0)) false
