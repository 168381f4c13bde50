-- The lists of parameters of the Acks that repeat some of what they answer: the reader accepts their messages
-- where it accepted what they answer.
-- Assumes nothing.
use mathlib.Core.Path.{◌≡◌, refl, sym, ◌∙◌}
use mathlib.Core.Bool.{Bool, true, false, cond, ◌||◌, false≢true}
use mathlib.Core.List.{List, [], ◌∷◌, ◌++◌, append_assoc, append-nil}
use mathlib.Core.Logic.{inl, inr}
use Prim.Native.Nat.{ℕ, ◌+◌, ◌*◌, ◌≤◌}
use native.Mathlib.Omega.{arith}
use lib.Dec.{eqb}
use lib.ListN.{length, length-append}
use borrow.Author.Tests.{le-ltb, eqb-true, eqb-false}
use Rattle.codec_wire.specs.Walk.{Par}
use Rattle.codec_parameter.specs.Table.{table, among, has_class, row_in, entries_in, key, use_in, usage}
use Rattle.codec_parameter.specs.declared.Usage.TheVariants.{Repeated}
use Rattle.codec_parameter.specs.Value.{body_code}
use Rattle.codec_parameter.specs.Check.{allowed_code, par_code}
use Rattle.codec_read.specs.Verdict.{most, has, is_none, in_turn, all_there, sequence_code, pars_code}
use Rattle.codec_put.specs.Bytes.{par, par_bytes, pars_bytes}
use Rattle.codec_put.proofs.Round.{length_par}
use Rattle.codec_write.specs.Encode.{size_of}
use Rattle.codec_write.proofs.Writes.{or_none}
use Rattle.codec_write.proofs.Verdicts.{list_code}
use Rattle.codec_select.specs.Only.{only}
use Rattle.state_tables.specs.declared.Gateway.{Gateway}
use Rattle.rules_event.specs.Identifiers.{is_ids, first_refused}
use Rattle.send_message.specs.Message.{list_par, good_ids, traffic_ack_pars, beat_ack_pars}
use Rattle.send_message.specs.Inner.Stands.{is_mode, mode_other}
use Rattle.send_reads.proofs.Numbers.{Fours, good_fours, ids_code}
use Rattle.send_reads.proofs.Modes.{active_mode, inactive_mode}
use Rattle.send_reads.proofs.Part.{Anywhere, in_turn_part, length_pars, size_parts}

-- ---- the tags that are repeated

other : (i t k : ℕ) → eqb k 0x3 ≡ false → eqb k 0x1 ≡ false → eqb t k ≡ true → Anywhere i t
other i t k a b e = let z = eqb-true t k e in rw z (record { no_text = a; no_first = inl b })

ids_free : (i t : ℕ) → usage i 0x1 ≡ Repeated → is_ids t ≡ true → Anywhere i t
ids_free i t u e = go (eqb t 0x1) refl e
  where
    go : (b : Bool) → eqb t 0x1 ≡ b → (b || eqb t 0x8) ≡ true → Anywhere i t
    go true z e = let q = eqb-true t 0x1 z in rw q (record { no_text = refl; no_first = inr u })
    go false z e = other i t 0x8 refl refl e

-- no traffic mode is among them
ids_other : (t : ℕ) → is_ids t ≡ true → eqb 0xb (key t) ≡ false
ids_other t e = go (eqb t 0x1) refl e
  where
    go : (b : Bool) → eqb t 0x1 ≡ b → (b || eqb t 0x8) ≡ true → eqb 0xb (key t) ≡ false
    go true z e = let q = eqb-true t 0x1 z in rw q
    go false z e = let q = eqb-true t 0x8 e in rw q

modes_only : (ps : List Par) (t : ℕ) → is_ids t ≡ true → has t (only is_mode ps) ≡ false
unfolding has only
modes_only [] t e = refl
modes_only (p ∷ ps) t e = go (eqb p.tag 0xb) refl (modes_only ps t e)
  where
    go : (b : Bool) → eqb p.tag 0xb ≡ b → has t (only is_mode ps) ≡ false → has t (cond b (p ∷ only is_mode ps) (only is_mode ps)) ≡ false
    go true z ih = let q = eqb-true p.tag 0xb z in rw (q, ids_other t e, ih)
    go false z ih = ih

-- ---- the checks, in the rows of those Acks

in_turn_append : (i : ℕ) (before xs ys : List Par) → in_turn i before xs ≡ 0 → in_turn i (before ++ xs) ys ≡ 0 → in_turn i before (xs ++ ys) ≡ 0
unfolding in_turn
in_turn_append i before [] ys a b = rw append-nil at b
in_turn_append i before (x ∷ xs) ys a b =
    let o = or_none (par_code (usage i 0x1) (usage i x.tag) (is_none before) (has x.tag before) x.tag x.body) _ a in
    rw o.0 (in_turn_append i (before ++ (x ∷ [])) xs ys o.1 (rw (append_assoc before (x ∷ []) xs) b))

beat_turn : (i : ℕ) (ps : List Par) → in_turn i [] ps ≡ 0 → in_turn i [] (beat_ack_pars ps) ≡ 0
unfolding beat_ack_pars
beat_turn i ps e = in_turn_part i (λ t. eqb t 0x9) (λ t z. other i t 0x9 refl refl z) ps [] [] (λ t a b. b) e

-- where a mode may stand at any place, and identifiers as often as one likes
module _ (i : ℕ) (u : usage i 0x1 ≡ Repeated) (ps : List Par) (e : in_turn i [] ps ≡ 0) where
  mode_turn : in_turn i [] (only is_mode ps) ≡ 0
  unfolding has
  mode_turn = in_turn_part i is_mode (λ t z. other i t 0xb refl refl z) ps [] [] (λ t a b. b) e

  ids_turn : in_turn i (only is_mode ps) (only is_ids ps) ≡ 0
  unfolding has
  ids_turn = in_turn_part i is_ids (λ t z. ids_free i t u z) ps [] (only is_mode ps) (λ t a b. absurd (false≢true (sym (modes_only ps t a) ∙ b))) e

  list_turn : (before : List Par) (n : ℕ) (v : List ℕ) → Fours n v → in_turn i before (list_par v) ≡ 0
  unfolding in_turn par_code allowed_code body_code
  list_turn before n v f = go (eqb (length v) 0) refl
    where
      go : (b : Bool) → eqb (length v) 0 ≡ b → in_turn i before (cond b [] (par 0x1 v ∷ [])) ≡ 0
      go true z = refl
      go false z = rw (u, ids_code n v f (eqb-false _ _ z))

  traffic_turn : (g : Gateway) (p : ℕ) → in_turn i [] (traffic_ack_pars g p ps) ≡ 0
  unfolding traffic_ack_pars
  traffic_turn g p = in_turn_append i [] (only is_mode ps) _ mode_turn (go (first_refused g p ps).found)
    where
      go : (b : Bool) → in_turn i (only is_mode ps) (cond b (list_par (good_ids g p ps)) (only is_ids ps)) ≡ 0
      go true = list_turn (only is_mode ps) g.links (good_ids g p ps) (good_fours g p ps)
      go false = ids_turn

-- ---- the whole lists

-- a list of identifiers takes a parameter of so many bytes
list_size : (n : ℕ) (v : List ℕ) → Fours n v → length (pars_bytes (list_par v)) ≤ 4 + n * 4
unfolding pars_bytes
list_size n v f = go (eqb (length v) 0)
  where
    go : (b : Bool) → length (pars_bytes (cond b [] (par 0x1 v ∷ []))) ≤ 4 + n * 4
    go true = omega arith
    go false = omega (arith, length-append (par_bytes (par 0x1 v)) [], length_par (par 0x1 v), f.multiple, f.most)

traffic_size : (g : Gateway) (p : ℕ) (ps : List Par) → g.links ≤ 128 → length (pars_bytes (only is_mode ps)) ≤ 8 → size_of ps ≤ most → size_of (traffic_ack_pars g p ps) ≤ most
unfolding traffic_ack_pars size_of
traffic_size g p ps b m h = go (first_refused g p ps).found
  where
    go : (u : Bool) → 8 + length (pars_bytes (only is_mode ps ++ cond u (list_par (good_ids g p ps)) (only is_ids ps))) ≤ most
    go true = omega (arith, length_pars (only is_mode ps) (list_par (good_ids g p ps)), list_size g.links (good_ids g p ps) (good_fours g p ps), b, m)
    go false = omega (arith, length_pars (only is_mode ps) (only is_ids ps), size_parts is_mode is_ids mode_other ps, h)

beat_size : (ps : List Par) → size_of (beat_ack_pars ps) ≤ size_of ps
unfolding beat_ack_pars size_of
beat_size ps = omega (arith, size_parts (λ t. eqb t 0x9) (λ t. false) (λ t z. refl) ps)

-- an Ack has the row of what it answers: Beat Ack (Rule 8.12)
pub beat_list : (ps : List Par) → in_turn (row_in table 3 3) [] ps ≡ 0 → size_of ps ≤ most → list_code 3 6 (beat_ack_pars ps) ≡ 0
unfolding list_code table among has_class row_in entries_in all_there sequence_code pars_code
beat_list ps e h = rw (le-ltb most (size_of (beat_ack_pars ps)) (omega (arith, beat_size ps)), beat_turn 4 ps e)

-- Active Ack and Inactive Ack (Rule 8.11)
pub active_list : (g : Gateway) (p : ℕ) (ps : List Par) → g.links ≤ 128 → in_turn (row_in table 4 1) [] ps ≡ 0 → size_of ps ≤ most → list_code 4 3 (traffic_ack_pars g p ps) ≡ 0
unfolding list_code table among has_class row_in entries_in use_in usage all_there sequence_code pars_code
active_list g p ps b e h = rw (le-ltb most (size_of (traffic_ack_pars g p ps)) (traffic_size g p ps b (active_mode ps e) h), traffic_turn 5 refl ps e g p)

pub inactive_list : (g : Gateway) (p : ℕ) (ps : List Par) → g.links ≤ 128 → in_turn (row_in table 4 2) [] ps ≡ 0 → size_of ps ≤ most → list_code 4 4 (traffic_ack_pars g p ps) ≡ 0
unfolding list_code table among has_class row_in entries_in use_in usage all_there sequence_code pars_code
inactive_list g p ps b e h = rw (le-ltb most (size_of (traffic_ack_pars g p ps)) (traffic_size g p ps b (inactive_mode ps e) h), traffic_turn 6 refl ps e g p)
