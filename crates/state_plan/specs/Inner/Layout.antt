-- Where the bodies of a file start and how many rows they have: what the code carries along. The answer to a
-- file from there: a number, and the state of the rows that are taken over.
-- Assumes nothing.
use Rattle.std.specs.Prelude.{ℕ, ◌+◌, ◌*◌, ◌≤◌, ◌%◌, ◌/◌, ◌≡◌, refl, Bool, true, false, cond, List, length, replicate, Result, Ok, Err}
use Rattle.std.specs.Result.{result_unwrap_or}
use Rattle.std.proofs.Common.{ap, sym, ◌∙◌, arith}
use Rattle.std.proofs.lemmas.Nat.{shr_le}
use Rattle.std.proofs.lemmas.List.{length-replicate, get_or-replicate}
use Rattle.laws.specs.Columns.{number_at}
use Rattle.laws.specs.Inner.Columns.{is_tabulate}
use Rattle.codec_wire.specs.Number.{be}
use Rattle.state_tables.specs.Sound.{zeros}
use Rattle.state_tables.specs.declared.Gateway.{Gateway}
use Rattle.state_plan.specs.declared.Loaded.{Loaded}
use Rattle.state_plan.specs.declared.Places.{Places}
use Rattle.state_plan.specs.declared.PlanRefusal.{PlanRefusal}
use Rattle.state_plan.specs.declared.PlanRefusal.TheVariants.{Layout, Row}
use Rattle.state_plan.specs.Plan.{offset, count, layout_ok, column, asp_words, as_words, link_words, high, low, bit, members, link_kinds, list_rules, Tables, rows_ok, fresh, refused, accepted, built, load_of, asp_ids, masks, lists, modes, link_ids, owners, kinds}
use Rattle.state_plan.specs.Inner.Laws.{layout, rows}
use Rattle.state_plan.specs.Inner.Tables.{word_of, byte_of, Same, Bytes, column_zero, word_byte, low_byte, high_byte, same_bytes, mode_bytes, under_bytes}

unfoldable pub places_of : List ℕ → Places
places_of s = record { asps = count s 0; ases = count s 1; links = count s 2; x = offset s 0; y = offset s 1; z = offset s 2 }

unfoldable pub nowhere : Places
nowhere = record { asps = 0; ases = 0; links = 0; x = 0; y = 0; z = 0 }

-- the counts are within limits, and the bodies within a file of some length
pub record Inside (t : Places) (long : ℕ) : Type 0 where
  pub asps : t.asps ≤ 16
  pub ases : t.ases ≤ 16
  pub links : t.links ≤ 128
  pub in_asps : t.x + 8 * t.asps ≤ long
  pub in_ases : t.y + 4 * t.ases ≤ long
  pub in_links : t.z + 8 * t.links ≤ long
  pub first : t.x ≤ 4096
  pub second : t.y ≤ 4096
  pub third : t.z ≤ 4096

-- masks and rules for lists of the rows there
abbrev masks_at : List ℕ → Places → List ℕ
masks_at s t = column 16 t.asps (λ p. high (word_of s (t.x + 4) 8 p))

abbrev lists_at : List ℕ → Places → List ℕ
lists_at s t = column 16 t.asps (λ p. low (word_of s (t.x + 4) 8 p))

-- owners and kinds
abbrev owners_at : List ℕ → Places → List ℕ
owners_at s t = column 128 t.links (λ l. low (word_of s (t.z + 4) 8 l))

abbrev kinds_at : List ℕ → Places → List ℕ
kinds_at s t = column 128 t.links (λ l. high (word_of s (t.z + 4) 8 l))

-- what the rows there say
abbrev tables_at : List ℕ → Places → Tables
tables_at s t =
    record {
      asps = t.asps;
      ases = t.ases;
      links = t.links;
      aspid = asp_words s t.x t.asps;
      mask = masks_at s t;
      list = lists_at s t;
      mode = as_words s t.y t.ases;
      iid = link_words s t.z t.links;
      owner = owners_at s t;
      kind = kinds_at s t;
    }

-- whether they are in order, and the state that they give
unfoldable pub rows_at : List ℕ → Places → Bool
rows_at s t = rows_ok (tables_at s t)

unfoldable pub state_at : List ℕ → Places → Gateway
state_at s t = fresh (tables_at s t)

-- modes, rules for lists, owners and kinds there are bytes: the last of a word, and those of its halves
pub record AllBytes (s : List ℕ) (t : Places) : Type 0 where
  pub modes : Same (byte_of s (t.y + 3) 4) (word_of s t.y 4) t.ases
  pub lists : Same (byte_of s (t.x + 7) 8) (λ p. low (word_of s (t.x + 4) 8 p)) t.asps
  pub owners : Same (byte_of s (t.z + 7) 8) (λ l. low (word_of s (t.z + 4) 8 l)) t.links
  pub kinds : Same (byte_of s (t.z + 5) 8) (λ l. high (word_of s (t.z + 4) 8 l)) t.links

-- the rows of a file, or why it is refused
unfoldable pub rows_in : List ℕ → Result Places PlanRefusal
rows_in s = cond (layout_ok s) (cond (rows_at s (places_of s)) (Ok (places_of s)) (Err Row)) (Err Layout)

-- the number of an answer
abbrev pub number : PlanRefusal → ℕ
number Layout = 201
number Row = 202

abbrev pub code_of : Result Places PlanRefusal → ℕ
code_of (Ok t) = 0
code_of (Err r) = number r

-- the rows that are taken over: none of a refused file
abbrev pub taken : Result Places PlanRefusal → Places
taken (Ok t) = t
taken (Err r) = nowhere

abbrev pub made : ℕ → Gateway → Loaded
made code g = record { code = code; gateway = g }

-- ---- laws

-- as the library takes them over
pub taken_over : (r : Result Places PlanRefusal) → result_unwrap_or r (record { asps = 0; ases = 0; links = 0; x = 0; y = 0; z = 0 }) ≡ taken r
unfolding nowhere
taken_over (Ok t) = refl
taken_over (Err r) = refl

pub inside : (s : List ℕ) → layout_ok s ≡ true → Inside (places_of s) (length s)
unfolding places_of
inside s h =
    let l = layout s h in
    record {
      asps = l.asps;
      ases = l.ases;
      links = l.links;
      in_asps = omega arith;
      in_ases = omega arith;
      in_links = omega arith;
      first = omega arith;
      second = omega arith;
      third = omega arith;
    }

pub inside_of : (s : List ℕ) (t : Places) → layout_ok s ≡ true → t ≡ places_of s → Inside t (length s)
inside_of s t h e = rw e (inside s h)

inside_nowhere : (long : ℕ) → Inside nowhere long
unfolding nowhere
inside_nowhere long =
    record {
      asps = omega arith;
      ases = omega arith;
      links = omega arith;
      in_asps = omega arith;
      in_ases = omega arith;
      in_links = omega arith;
      first = omega arith;
      second = omega arith;
      third = omega arith;
    }

bytes_nowhere : (s : List ℕ) → AllBytes s nowhere
unfolding nowhere
bytes_nowhere s = record { modes = λ i b. absurd (omega arith); lists = λ i b. absurd (omega arith); owners = λ i b. absurd (omega arith); kinds = λ i b. absurd (omega arith) }

bytes_of_lem : (s : List ℕ) (t : Places) → Bytes s → Inside t (length s) → rows_at s t ≡ true → AllBytes s t
unfolding rows_at
bytes_of_lem s t z i h =
    let r = rows (tables_at s t) h in
    record {
      modes = same_bytes s t.ases t.y 3 4 (t.y + 3) (λ x. x) refl (word_byte s) (mode_bytes t.ases (word_of s t.y 4) i.ases r.traffic);
      lists = same_bytes s t.asps (t.x + 4) 3 8 (t.x + 7) low (omega arith) (low_byte s z) (under_bytes 16 t.asps list_rules (λ p. low (word_of s (t.x + 4) 8 p)) i.asps (omega arith) r.ruled);
      owners = same_bytes s t.links (t.z + 4) 3 8 (t.z + 7) low (omega arith) (low_byte s z) (under_bytes 128 t.links t.ases (λ l. low (word_of s (t.z + 4) 8 l)) i.links i.ases r.owned);
      kinds = same_bytes s t.links (t.z + 4) 1 8 (t.z + 5) high (omega arith) (high_byte s z) (under_bytes 128 t.links link_kinds (λ l. high (word_of s (t.z + 4) 8 l)) i.links (omega arith) r.sorted);
    }

-- what is taken over lies within the file, and is bytes
pub whole : (s : List ℕ) → Bytes s → Inside (taken (rows_in s)) (length s) × AllBytes s (taken (rows_in s))
unfolding rows_in
whole s z = outer (layout_ok s) refl
  where
    inner : layout_ok s ≡ true → (v : Bool) → rows_at s (places_of s) ≡ v → Inside (taken (cond v (Ok (places_of s)) (Err Row))) (length s) × AllBytes s (taken (cond v (Ok (places_of s)) (Err Row)))
    inner h true e = (inside s h, bytes_of_lem s (places_of s) z (inside s h) e)
    inner h false e = (inside_nowhere (length s), bytes_nowhere s)

    outer : (u : Bool) → layout_ok s ≡ u → Inside (taken (cond u (cond (rows_at s (places_of s)) (Ok (places_of s)) (Err Row)) (Err Layout))) (length s) × AllBytes s (taken (cond u (cond (rows_at s (places_of s)) (Ok (places_of s)) (Err Row)) (Err Layout)))
    outer true h = inner h (rows_at s (places_of s)) refl
    outer false h = (inside_nowhere (length s), bytes_nowhere s)

-- no row gives the state of zeros
zero_bit : (a : ℕ) → bit 0 a ≡ 0
zero_bit a = omega (arith, shr_le 0 a)

no_members : (f : ℕ → ℕ) → members (column 16 0 f) ≡ replicate 256 0
unfolding members
no_members f =
    rw (column_zero 16 f)
    (sym (is_tabulate 0 (replicate 256 0) 256 (λ i. bit (number_at (replicate 16 0) (i % 16)) (i / 16)) (length-replicate {A = ℕ} 256 0) (λ i b. get_or-replicate 256 i 0 0 b ∙ sym (ap (λ x. bit x (i / 16)) (get_or-replicate {A = ℕ} 16 (i % 16) 0 0 (omega arith)) ∙ zero_bit (i / 16)))))

state_nowhere : (s : List ℕ) → state_at s nowhere ≡ zeros
unfolding state_at fresh nowhere zeros
state_nowhere s =
    rw (column_zero 16 (λ p. be 4 s (0 + 8 * p)), no_members (λ p. high (be 4 s (0 + 4 + 8 * p))), column_zero 16 (λ p. low (be 4 s (0 + 4 + 8 * p))), column_zero 16 (λ a. be 4 s (0 + 4 * a)), column_zero 128 (λ l. be 4 s (0 + 8 * l)), column_zero 128 (λ l. low (be 4 s (0 + 4 + 8 * l))), column_zero 128 (λ l. high (be 4 s (0 + 4 + 8 * l))))

-- the state of columns is that of the rows where they are the rows'
pub of_rows : (code asps ases links : ℕ) {aspid mask list mode iid owner kind aspid' mask' list' mode' iid' owner' kind' : List ℕ}
    → aspid ≡ aspid' → mask ≡ mask' → list ≡ list' → mode ≡ mode' → iid ≡ iid' → owner ≡ owner' → kind ≡ kind'
    → made code (fresh (record { asps = asps; ases = ases; links = links; aspid = aspid; mask = mask; list = list; mode = mode; iid = iid; owner = owner; kind = kind }))
    ≡ made code (fresh (record { asps = asps; ases = ases; links = links; aspid = aspid'; mask = mask'; list = list'; mode = mode'; iid = iid'; owner = owner'; kind = kind' }))
of_rows code asps ases links p q r s t u v = rw (p, q, r, s, t, u, v)

-- the answer is that of the rules
pub answer : (s : List ℕ) → made (code_of (rows_in s)) (state_at s (taken (rows_in s))) ≡ load_of s
unfolding load_of built rows_in state_at rows_at places_of asp_ids masks lists modes link_ids owners kinds
answer s = go (layout_ok s) (rows_at s (places_of s))
  where
    picked : Bool → Bool → Result Places PlanRefusal
    picked u v = cond u (cond v (Ok (places_of s)) (Err Row)) (Err Layout)

    go : (u v : Bool) → made (code_of (picked u v)) (state_at s (taken (picked u v))) ≡ cond u (cond v (accepted (state_at s (places_of s))) (refused 202)) (refused 201)
    go true true = refl
    go true false = ap (made 202) (state_nowhere s)
    go false v = ap (made 201) (state_nowhere s)
