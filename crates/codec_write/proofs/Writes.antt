-- From what the writer's parts do to what `write` promises.
-- Assumes nothing.
use mathlib.Core.Path.{◌≡◌, refl, sym, ap, ◌∙◌}
use mathlib.Core.Bool.{not, false≢true}
use mathlib.Core.List.{List, ◌++◌}
use Prim.Native.Nat.{ℕ, zero, suc, ◌<◌, ◌≤◌}
use native.Mathlib.Omega.{arith}
use lib.ListN.{length}
use lib.Dec.{ltb}
use borrow.Author.Tests.{ne_eqb, lt-ltb, le-ltb}
use Rattle.std.specs.Prelude.{Result, Ok, Err, IsErr, IsErrAnd}
use Rattle.codec_wire.specs.Walk.{Par}
use Rattle.codec_wire.specs.Refusal.{number, code}
use Rattle.codec_wire.specs.declared.Refusal.{Refusal}
use Rattle.laws.specs.Choice.{◌or_else◌, ◌if◌}
use Rattle.laws.specs.Inner.Choice.{or_not}
use Rattle.codec_read.specs.Verdict.{verdict}
pub use Rattle.codec_read.proofs.Accepted.{or_none, if_none}
use Rattle.codec_put.specs.Bytes.{overlay, head_bytes, pars_bytes}
use Rattle.codec_write.specs.Encode.{size_of, encode, pars_in, whole}
use Rattle.codec_write.specs.Write.{write_code, Writes}
use Rattle.codec_write.specs.Inner.Write.{size_code, kind_code, Sized}
use Rattle.codec_write.specs.declared.WriteRefusal.{WriteRefusal}
use Rattle.codec_write.specs.declared.WriteRefusal.TheVariants.{Reader}
use Rattle.codec_write.specs.Inner.Message.{written_of}
use Rattle.codec_write.proofs.Lists.{size_none}
use Rattle.codec_write.proofs.Verdicts.{length_encode, size_list, code_lem}

-- what a `?` hands on
pub err_code : {A : Type 0} (r : Result A Refusal) (e : Refusal) → IsErr r × IsErrAnd r (λ x. x ≡ e) → code r ≡ number e
err_code (Ok x) e h = absurd (false≢true h.0)
err_code (Err x) e h = ap number h.1

pub err_written : (r : Result ℕ WriteRefusal) (e : Refusal) → IsErr r × IsErrAnd r (λ x. x ≡ Reader e) → written_of r ≡ record { code = number e; length = 0 }
err_written (Ok n) e h = absurd (false≢true h.0)
err_written (Err x) e h = ap (λ (y : WriteRefusal). written_of (Err y)) h.1

or_assoc : (a b c : ℕ) → ((a or_else b) or_else c) ≡ a or_else (b or_else c)
or_assoc zero b c = refl
or_assoc (suc a) b c = refl

-- a header with the right length, and the parameters
pub encode_sized : (c t : ℕ) (ps : List Par) (n : ℕ) → n ≡ size_of ps → head_bytes c t n ++ pars_bytes ps ≡ encode c t ps
unfolding encode
encode_sized c t ps n e = rw e

-- the length found is that of the message
pub size_of_sized : {ts ns vs : List ℕ} {n : ℕ} → Sized ts ns vs n → n ≡ size_of (pars_in ts ns vs)
size_of_sized {ts} {ns} {vs} {n} s =
    let l = s.lent in s.size_is ∙ sym (size_list ts ns vs l.lengths (omega arith))

module _ (c t : ℕ) (ts ns vs out : List ℕ) where
  abbrev e : List ℕ
  e = encode c t (pars_in ts ns vs)

  abbrev promised : ℕ
  promised = write_code c t ts ns vs (length out)

  -- the number of the promise, in the code's order
  promised_is : promised ≡ size_code ts ns vs or_else (kind_code c t (pars_in ts ns vs) or_else (103 if ltb (length out) (length e)))
  unfolding write_code
  promised_is =
      sym (or_assoc (7 if not (whole ts ns vs)) (verdict e) (103 if ltb (length out) (length e)))
      ∙ ap (λ (x : ℕ). x or_else (103 if ltb (length out) (length e))) (sym (code_lem c t ts ns vs))
      ∙ or_assoc (size_code ts ns vs) (kind_code c t (pars_in ts ns vs)) _

  -- a number that is not 0, and nothing written
  writes_none : (k : ℕ) → (k ≡ 0 → ⊥) → promised ≡ k → Writes c t ts ns vs out (record { code = k; length = 0 }) out
  writes_none k ne p = record { code_is = sym p; length_is = rw (ne_eqb k 0 ne); bytes_are = rw (ne_eqb k 0 ne) }

  -- the list is refused
  pub writes_size : (k : ℕ) → (k ≡ 0 → ⊥) → k ≡ size_code ts ns vs → Writes c t ts ns vs out (record { code = k; length = 0 }) out
  writes_size k ne q = writes_none k ne (promised_is ∙ rw (← q) (or_not k (kind_code c t (pars_in ts ns vs) or_else (103 if ltb (length out) (length e))) ne))

  module _ (n : ℕ) (s : Sized ts ns vs n) where
    length_is : n ≡ length e
    length_is = size_of_sized s ∙ sym (length_encode c t (pars_in ts ns vs))

    sized_is : promised ≡ kind_code c t (pars_in ts ns vs) or_else (103 if ltb (length out) n)
    sized_is = promised_is ∙ rw (← size_none ts ns vs n s, ← length_is)

    -- the reader would refuse the message
    pub writes_kind : (k : ℕ) → (k ≡ 0 → ⊥) → k ≡ kind_code c t (pars_in ts ns vs) → Writes c t ts ns vs out (record { code = k; length = 0 }) out
    writes_kind k ne q = writes_none k ne (sized_is ∙ ap (λ (x : ℕ). x or_else (103 if ltb (length out) n)) (sym q) ∙ or_not k _ ne)

    module _ (z : 0 ≡ kind_code c t (pars_in ts ns vs)) where
      room_is : promised ≡ (103 if ltb (length out) n)
      room_is = sized_is ∙ ap (λ (x : ℕ). x or_else (103 if ltb (length out) n)) (sym z)

      -- the buffer is short
      pub writes_short : length out < n → Writes c t ts ns vs out (record { code = 103; length = 0 }) out
      writes_short h = writes_none 103 (λ q. omega (arith, q)) (room_is ∙ ap (λ b. 103 if b) (lt-ltb (length out) n h))

      -- the message is written
      pub writes_all : n ≤ length out → (out' : List ℕ) → out' ≡ overlay out 0 e → Writes c t ts ns vs out (record { code = 0; length = n }) out'
      writes_all h out' b =
          record { code_is = sym (room_is ∙ ap (λ b. 103 if b) (le-ltb (length out) n h)); length_is = length_is; bytes_are = b }
