-- The lists of parameters of the replies that say numbers, kind by kind: the reader accepts their messages.
-- Assumes nothing.
use mathlib.Core.Path.{◌≡◌, refl}
use mathlib.Core.Bool.{Bool, true, false, cond, ◌||◌}
use mathlib.Core.List.{List, [], ◌∷◌}
use mathlib.Core.Logic.{◌⊎◌, inl, inr}
use Prim.Native.Nat.{ℕ, ◌+◌, ◌≤◌}
use native.Mathlib.Omega.{arith}
use lib.Dec.{eqb}
use lib.ListN.{length, length-append}
use borrow.Author.Tests.{le-ltb, eqb-true}
use Rattle.codec_wire.specs.Walk.{Par}
use Rattle.codec_parameter.specs.Table.{table, among, has_class, row_in, entries_in, use_in, usage}
use Rattle.codec_parameter.specs.Value.{bytes_of, limits_of, plain_code, id_code, body_code}
use Rattle.codec_parameter.specs.Check.{allowed_code, par_code}
use Rattle.codec_read.specs.Verdict.{most, has, is_none, in_turn, all_there, sequence_code, pars_code}
use Rattle.codec_put.specs.Bytes.{par, par_bytes, pars_bytes}
use Rattle.codec_put.proofs.Round.{length_par}
use Rattle.codec_write.specs.Encode.{size_of}
use Rattle.codec_write.proofs.Verdicts.{list_code}
use Rattle.send_message.specs.Message.{number_par}
use Rattle.send_reads.proofs.Numbers.{largest, number_code, Fours, ids_code}

-- ---- Error and Notify

pub error_list : (x n : ℕ) (b : Bool) → n ≤ largest → list_code 0 0 (number_par 0xc n ∷ cond b (number_par 0x1 x ∷ []) []) ≡ 0
unfolding list_code size_of pars_bytes par_bytes table among has_class row_in entries_in use_in usage limits_of id_code body_code allowed_code par_code has is_none in_turn all_there sequence_code pars_code
error_list x n true h = rw (number_code 0xc n refl)
error_list x n false h = rw (number_code 0xc n refl)

pub notify_none : (n : ℕ) → n ≤ largest → list_code 0 1 (number_par 0xd n ∷ []) ≡ 0
unfolding list_code size_of pars_bytes par_bytes table among has_class row_in entries_in use_in usage limits_of id_code body_code allowed_code par_code has is_none in_turn all_there sequence_code pars_code
notify_none n h = rw (number_code 0xd n refl)

pub notify_ids : (n k : ℕ) (v : List ℕ) → n ≤ largest → Fours k v → k ≤ 128 → (length v ≡ 0 → ⊥) → list_code 0 1 (number_par 0xd n ∷ par 0x1 v ∷ []) ≡ 0
unfolding list_code size_of pars_bytes table among has_class row_in entries_in use_in usage limits_of body_code allowed_code par_code has is_none in_turn all_there sequence_code pars_code
notify_ids n k v h f b ne =
    let a = length-append (par_bytes (number_par 0xd n)) (pars_bytes (par 0x1 v ∷ [])) in
    let c = length-append (par_bytes (par 0x1 v)) [] in
    let l₁ = length_par (number_par 0xd n) in
    let l₂ = length_par (par 0x1 v) in
    let e : 8 + length (pars_bytes (number_par 0xd n ∷ par 0x1 v ∷ [])) ≤ most = omega arith in
    rw (le-ltb most _ e, number_code 0xd n refl, ids_code k v f ne)

-- ---- Acks without parameters, and one identifier

pub up_list : list_code 3 4 [] ≡ 0
unfolding list_code size_of pars_bytes table among has_class row_in entries_in in_turn all_there sequence_code pars_code
up_list = refl

pub down_list : list_code 3 5 [] ≡ 0
unfolding list_code size_of pars_bytes table among has_class row_in entries_in in_turn all_there sequence_code pars_code
down_list = refl

-- Establish Confirm, Release Confirm, Release Indication
pub link_list : (x t : ℕ) → (t ≡ 3) ⊎ ((t ≡ 5) ⊎ (t ≡ 6)) → list_code 6 t (number_par 0x1 x ∷ []) ≡ 0
unfolding list_code size_of pars_bytes par_bytes table among has_class row_in entries_in use_in usage limits_of id_code body_code allowed_code par_code has is_none in_turn all_there sequence_code pars_code
link_list x t (inl e) = rw e
link_list x t (inr (inl e)) = rw e
link_list x t (inr (inr e)) = rw e

pub data_list : (x n : ℕ) → list_code 6 15 (number_par 0x1 x ∷ number_par 0x13 n ∷ []) ≡ 0
unfolding list_code size_of pars_bytes par_bytes table among has_class row_in entries_in use_in usage limits_of id_code body_code allowed_code par_code has is_none in_turn all_there sequence_code pars_code
data_list x n = rw (number_code 0x13 n refl)

-- ---- a unit that was held: Data

data_code : (t : ℕ) (v : List ℕ) → limits_of t ≡ bytes_of 5 277 → 1 ≤ length v → length v ≤ 273 → plain_code (limits_of t) t v ≡ 0
unfolding plain_code
data_code t v e a b = rw (e, le-ltb (length v) 1 a, le-ltb 273 (length v) b)

abbrev pub unit_list : ℕ → ℕ → List ℕ → Bool → ℕ → List Par
unit_list x t v marked n = number_par 0x1 x ∷ par t v ∷ cond marked (number_par 0x13 n ∷ []) []

pub unit_size : (x t : ℕ) (v : List ℕ) (marked : Bool) (n : ℕ) → length v ≤ 273 → size_of (unit_list x t v marked n) ≤ most
unfolding size_of pars_bytes
unit_size x t v marked n h =
    let a = length-append (par_bytes (number_par 0x1 x)) (pars_bytes (par t v ∷ cond marked (number_par 0x13 n ∷ []) [])) in
    let b = length-append (par_bytes (par t v)) (pars_bytes (cond marked (number_par 0x13 n ∷ []) [])) in
    let l₁ = length_par (number_par 0x1 x) in
    let l₂ = length_par (par t v) in
    let l₃ = last marked in
    omega arith
  where
    last : (u : Bool) → length (pars_bytes (cond u (number_par 0x13 n ∷ []) [])) ≤ 8
    last true = let c = length-append (par_bytes (number_par 0x13 n)) [] in let l = length_par (number_par 0x13 n) in omega arith
    last false = omega arith

pub unit_list_lem : (x t : ℕ) (v : List ℕ) (marked : Bool) (n : ℕ) → (eqb t 0x300 || eqb t 0x301) ≡ true → 1 ≤ length v → length v ≤ 273 → list_code 6 1 (unit_list x t v marked n) ≡ 0
unfolding list_code table among has_class row_in entries_in use_in usage limits_of id_code body_code allowed_code par_code has is_none in_turn all_there sequence_code pars_code
unit_list_lem x t v marked n e a b = rw (le-ltb most (size_of (unit_list x t v marked n)) (unit_size x t v marked n b)) (go (eqb t 0x300) refl e marked)
  where
    go : (u : Bool) → eqb t 0x300 ≡ u → (u || eqb t 0x301) ≡ true → (m : Bool) → pars_code 6 1 (unit_list x t v m n) ≡ 0
    go true z y true = let q = eqb-true t 0x300 z in rw (q, data_code 0x300 v refl a b, number_code 0x13 n refl)
    go true z y false = let q = eqb-true t 0x300 z in rw (q, data_code 0x300 v refl a b)
    go false z y true = let q = eqb-true t 0x301 y in rw (q, data_code 0x301 v refl a b, number_code 0x13 n refl)
    go false z y false = let q = eqb-true t 0x301 y in rw (q, data_code 0x301 v refl a b)
