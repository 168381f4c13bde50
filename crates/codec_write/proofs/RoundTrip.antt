-- The laws of the round trip, stated in specs/RoundTrip.antt.
-- Assumes nothing.
use mathlib.Core.Path.{◌≡◌, refl, sym, ap, ◌∙◌, subst}
use mathlib.Core.Bool.{true, false, cond, not, ◌||◌}
use mathlib.Core.List.{List, [], ◌∷◌, ◌++◌}
use Prim.Native.Nat.{ℕ, suc, ◌+◌, ◌-◌, ◌<◌, ◌≤◌}
use native.Mathlib.Omega.{arith}
use lib.ListN.{length, get_or, take}
use lib.Dec.{eqb}
use borrow.Author.Tests.{eq-eqb, ne_eqb, le-ltb, ltb-false}
use Rattle.laws.specs.Columns.{tabulate}
use Rattle.laws.specs.Inner.Columns.{tabulate_ext}
use Rattle.codec_wire.specs.Walk.{Par, Walk, walk}
use Rattle.codec_wire.proofs.Number.{be_two, be_four}
use Rattle.laws.specs.Choice.{◌if◌}
use Rattle.codec_read.specs.Verdict.{most, verdict}
use Rattle.codec_read.specs.Meaning.{meaning, outcome, reading_of}
pub use Rattle.codec_read.proofs.Accepted.{Accepted, accepted}
use Rattle.codec_put.specs.Bytes.{overlay, bytes32, head_bytes, pars_bytes}
use Rattle.codec_put.proofs.Sets.{take_over}
use Rattle.codec_write.specs.Encode.{size_of, encode, pars_in, whole, tags_of, lens_of}
use Rattle.codec_write.specs.Write.{write_code, Writes}
use Rattle.codec_write.specs.RoundTrip.{ReadsBack, is_padding, plain, Bytes, WalkGivesList, ReadingGivesList, WritingGivesBytes, WriteGivesBytes, EveryListLent}
use Rattle.codec_write.specs.declared.Written.{Written}
use Rattle.codec_write.proofs.Lists.{lent_pars, lent_whole}
use Rattle.codec_write.proofs.Verdicts.{list_code, length_encode, walk_encode, verdict_encode}
use Rattle.codec_write.proofs.Writes.{or_none, if_none, encode_sized}
use Rattle.codec_write.proofs.Plain.{length_walked, tabulate_append, four_of, pad_before, pars_plain, zeroed}

-- ---- reading what was written

pub walk_gives_list : WalkGivesList
walk_gives_list = walk_encode

-- an encoding that is accepted reads as its list
means_list : (c t : ℕ) (ps : List Par) → verdict (encode c t ps) ≡ 0 → reading_of (encode c t ps) ≡ meaning c t ps
unfolding reading_of outcome encode
means_list c t ps e =
    ap (λ (n : ℕ). outcome n (encode c t ps)) e
    ∙ ap (λ (x : Walk). meaning (get_or (encode c t ps) 2 0) (get_or (encode c t ps) 3 0) x.pars) (walk_encode c t ps)

pub reads_back : (c t : ℕ) (ps : List Par) → verdict (encode c t ps) ≡ 0 → ReadsBack c t ps (encode c t ps)
reads_back c t ps e = record { walked = walk_encode c t ps; accepted = e; means = means_list c t ps e }

-- a write whose number is 0
module _ (c t : ℕ) (ts ns vs out : List ℕ) (r : Written) (out' : List ℕ) (w : Writes c t ts ns vs out r out') (z : r.code ≡ 0) where
  abbrev e : List ℕ
  e = encode c t (pars_in ts ns vs)

  length_written : r.length ≡ length e
  length_written = w.length_is ∙ rw (eq-eqb r.code 0 z)

  bytes_written : out' ≡ overlay out 0 e
  bytes_written = w.bytes_are ∙ rw (eq-eqb r.code 0 z)

  all_none : (verdict e ≡ 0) × (length e ≤ length out)
  unfolding write_code
  all_none =
      let o₁ = or_none (7 if not (whole ts ns vs)) _ (sym w.code_is ∙ z) in
      let o₂ = or_none (verdict e) _ o₁.1 in
      (o₂.0, ltb-false (length out) (length e) (if_none 102 _ o₂.1))

  at_start : e ≡ take r.length out'
  at_start = sym (ap (λ (n : ℕ). take n out') length_written ∙ ap (take (length e)) bytes_written ∙ take_over out e all_none.1)

pub reading_gives_list : ReadingGivesList
reading_gives_list c t ts ns vs out r out' w z =
    subst (ReadsBack c t (pars_in ts ns vs)) (at_start c t ts ns vs out r out' w z)
    (reads_back c t (pars_in ts ns vs) (all_none c t ts ns vs out r out' w z).0)

-- ---- writing what was read

-- its parameters take all of it but the header
pub size_accepted : (s : List ℕ) → Accepted s → size_of (walk s 8).pars ≡ length s
unfolding size_of
size_accepted s a =
    let l = length_walked s (suc (length s - 8)) 8 (omega arith) a.long a.walked in
    let h = a.long in
    omega arith

module _ (s : List ℕ) (b : Bytes s) (a : Accepted s) where
  abbrev c : ℕ
  c = get_or s 2 0

  abbrev t : ℕ
  t = get_or s 3 0

  abbrev ps : List Par
  ps = (walk s 8).pars

  -- the parameters, and their length
  pars_are : pars_bytes ps ≡ tabulate (length s - 8) (λ k. zeroed s b 8 ps (8 + k))
  pars_are = pars_plain s b (suc (length s - 8)) 8 (omega arith) a.long a.walked

  size_is : size_of ps ≡ length s
  size_is = size_accepted s a

  -- each byte as `plain` has it
  abbrev g : ℕ → ℕ
  g i = cond (eqb i 1 || is_padding 8 ps i) 0 (get_or s i 0)

  field_bytes : bytes32 (length s) ≡ get_or s 4 0 ∷ get_or s 5 0 ∷ get_or s 6 0 ∷ get_or s 7 0 ∷ []
  field_bytes =
      let h = a.long in
      four_of (length s) (get_or s 4 0) (get_or s 5 0) (get_or s 6 0) (get_or s 7 0)
      (sym a.field ∙ be_four s 4 ∙ rw (be_two s 4, be_two s 6))
      (b.below 5 (omega arith)) (b.below 6 (omega arith)) (b.below 7 (omega arith))

  -- no position of the header is padding
  head_is : (i : ℕ) → i < 8 → (eqb i 1 ≡ false) → g i ≡ get_or s i 0
  head_is i h e = rw (e, pad_before ps 8 i h)

  header : head_bytes c t (length s) ≡ tabulate 8 g
  unfolding tabulate
  header =
      let h₀ : g 0 ≡ 1 = head_is 0 (omega arith) refl ∙ a.version in
      let h₂ = head_is 2 (omega arith) refl in
      let h₃ = head_is 3 (omega arith) refl in
      let h₄ = head_is 4 (omega arith) refl in
      let h₅ = head_is 5 (omega arith) refl in
      let h₆ = head_is 6 (omega arith) refl in
      let h₇ = head_is 7 (omega arith) refl in
      ap (λ (l : List ℕ). 1 ∷ 0 ∷ c ∷ t ∷ l) field_bytes ∙ cc

  rest : (i : ℕ) → zeroed s b 8 ps (8 + i) ≡ g (8 + i)
  rest i = rw (ne_eqb (8 + i) 1 (λ e. omega arith))

  same : encode c t ps ≡ plain s
  unfolding plain
  same =
      let h = a.long in
      let l : 8 + (length s - 8) ≡ length s = omega arith in
      sym (encode_sized c t ps (length s) (sym size_is))
      ∙ ap (λ (x : List ℕ). x ++ pars_bytes ps) header
      ∙ ap (λ (x : List ℕ). tabulate 8 g ++ x) (pars_are ∙ tabulate_ext 0 (length s - 8) (λ k. zeroed s b 8 ps (8 + k)) (λ k. g (8 + k)) (λ i q. rest i))
      ∙ sym (tabulate_append 8 (length s - 8) g)
      ∙ ap (λ (m : ℕ). tabulate m g) l

  still_accepted : verdict (encode c t ps) ≡ 0
  unfolding list_code
  still_accepted = verdict_encode c t ps ∙ rw (size_is, le-ltb most (length s) a.small, a.listed, a.known) a.pars_ok

pub writing_gives_bytes : WritingGivesBytes
writing_gives_bytes s b e =
    let a = accepted s e in
    record { same = same s b a; same_length = length_encode _ _ _ ∙ size_is s b a; accepted = still_accepted s b a }

-- a whole list of the parameters read, and room: nothing refuses
not_refused : (c t : ℕ) (ts ns vs : List ℕ) (n : ℕ) → whole ts ns vs ≡ true → verdict (encode c t (pars_in ts ns vs)) ≡ 0 → length (encode c t (pars_in ts ns vs)) ≤ n
    → write_code c t ts ns vs n ≡ 0
unfolding write_code
not_refused c t ts ns vs n w v h = rw (w, v, le-ltb n (length (encode c t (pars_in ts ns vs))) h)

pub write_gives_bytes : WriteGivesBytes
write_gives_bytes s ts ns vs out r out' b e w p h m =
    let c = get_or s 2 0 in
    let t = get_or s 3 0 in
    let k = writing_gives_bytes s b e in
    let l : length (encode c t (pars_in ts ns vs)) ≡ length s = ap (λ (x : List Par). length (encode c t x)) p ∙ k.same_length in
    let v : verdict (encode c t (pars_in ts ns vs)) ≡ 0 = ap (λ (x : List Par). verdict (encode c t x)) p ∙ k.accepted in
    let z : r.code ≡ 0 = m.code_is ∙ not_refused c t ts ns vs (length out) w v (omega arith) in
    record {
      code_is = z;
      length_is = length_written c t ts ns vs out r out' m z ∙ l;
      bytes_are = bytes_written c t ts ns vs out r out' m z ∙ ap (λ (x : List Par). overlay out 0 (encode c t x)) p ∙ ap (overlay out 0) k.same;
    }

pub every_list_lent : EveryListLent
unfolding whole
every_list_lent ps =
    let l = lent_whole ps in
    (rw (eq-eqb (length (lens_of ps)) (length (tags_of ps)) l.lengths, eq-eqb _ _ l.values), lent_pars ps)
