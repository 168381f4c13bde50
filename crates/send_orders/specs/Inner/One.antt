-- One action: what the entry for many actions promises, of a list of one length.
-- Assumes nothing.
use Rattle.std.specs.Prelude.{Ok, Err, ℕ, ◌+◌, ◌<◌, ◌≤◌, ◌≡◌, Bool, cond, not, ◌||◌, List, [], eqb, leb, ltb}
use Rattle.std.proofs.Math.Path.{refl, sym, ap}
use Rattle.std.proofs.Common.{◌∙◌, arith, add-zero}
use Rattle.std.proofs.Math.Bool.{true, false}
use Rattle.std.proofs.Math.Decide.{ℕ_discrete, dec_lt}
use Rattle.std.proofs.Math.ListN.{length}
use borrow.Author.Tests.{eq-eqb, ne_eqb, lt-leb, le-leb, le-ltb, ltb-true}
use Rattle.laws.specs.Choice.{◌or_else◌, ◌if◌}
use Rattle.laws.specs.Below.{first_below}
use Rattle.laws.specs.Inner.Below.{concat_more, concat_none, first_none, first_more, first_at}
use Rattle.laws.specs.Inner.Every.{and_left}
use Rattle.codec_put.specs.Bytes.{overlay}
use Rattle.codec_write.specs.Encode.{size_of}
use Rattle.codec_write.proofs.Verdicts.{length_encode}
use Rattle.state_tables.specs.Sound.{is_sound}
use Rattle.state_tables.specs.declared.Gateway.{Gateway}
use Rattle.rules_event.specs.Event.{EventKind}
use Rattle.rules_event.specs.Effect.{hold_bytes}
use Rattle.rules_event.specs.Rules.{in_plan}
use Rattle.rules_event.specs.Sent.{actions_on, is_sent}
use Rattle.send_message.specs.Message.{sent_bytes}
use Rattle.send_message.specs.Send.{message_at, send_code, Sends, part_at, parts, ends_at, fitting, batch_code, SendsMany}
use Rattle.send_message.specs.declared.Batch.{Batch}
use Rattle.send_orders.specs.declared.Refusal.TheVariants.{Event, NoSuchAction}
use Rattle.send_orders.specs.Inner.Refusals.{sent_of, written_of}
use Rattle.send_orders.specs.Inner.There.{is_sent_lem, not_sent}

-- the first of at least one number that a test holds for, where it holds for 1
first_one : (f : ℕ → Bool) (m : ℕ) → 0 < m → f 1 ≡ true → first_below f m ≡ cond (f 0) 0 1
first_one f m l h = go (f 0) refl
  where
    at_one : Dec (1 < m) → f 0 ≡ false → first_below f m ≡ 1
    at_one (yes b) e = first_at f 1 m (first_more f 0 (first_none f) e) h b
    at_one (no b) e = let z : m ≡ 1 = omega arith in ap (first_below f) z ∙ first_more f 0 (first_none f) e

    go : (b : Bool) → f 0 ≡ b → first_below f m ≡ cond b 0 1
    go true e = first_at f 0 m (first_none f) e l
    go false e = at_one (dec_lt 1 m) e

-- the refusals of the event come first
abbrev behind_event : Gateway → EventKind → List ℕ → ℕ → ℕ
behind_event g k h rest = 105 if not (is_sound g) or_else 102 if not (in_plan g k) or_else 106 if not (eqb (length h) hold_bytes) or_else rest

-- where one of them comes, what stands behind does not matter; else that is the code
same_behind : (g : Gateway) (k : EventKind) (h : List ℕ) (rest : ℕ) → (behind_event g k h 0 ≡ 0 → ⊥) → behind_event g k h 0 ≡ behind_event g k h rest
same_behind g k h rest = go (is_sound g) (in_plan g k) (eqb (length h) hold_bytes)
  where
    go : (u v w : Bool) → (◌≡◌ {A = ℕ} (105 if not u or_else 102 if not v or_else 106 if not w or_else 0) 0 → ⊥)
        → (105 if not u or_else 102 if not v or_else 106 if not w or_else 0) ≡ (105 if not u or_else 102 if not v or_else 106 if not w or_else rest)
    go true true true z = absurd (z refl)
    go true true false z = refl
    go true false w z = refl
    go false v w z = refl

rest_behind : (g : Gateway) (k : EventKind) (h : List ℕ) (x y : ℕ) → behind_event g k h x ≡ 0 → (x ≡ 0) × (behind_event g k h y ≡ y)
rest_behind g k h x y = go (is_sound g) (in_plan g k) (eqb (length h) hold_bytes)
  where
    go : (u v w : Bool) → ◌≡◌ {A = ℕ} (105 if not u or_else 102 if not v or_else 106 if not w or_else x) 0
        → (x ≡ 0) × ((105 if not u or_else 102 if not v or_else 106 if not w or_else y) ≡ y)
    go true true true z = (z, refl)
    go true true false z = let n : ⊥ = omega (arith, z) in absurd n
    go true false w z = let n : ⊥ = omega (arith, z) in absurd n
    go false v w z = let n : ⊥ = omega (arith, z) in absurd n

module _ (g : Gateway) (h : List ℕ) (k : EventKind) (n : ℕ) where
  part_first : parts g h k n 1 ≡ part_at g h k n
  unfolding parts
  part_first = concat_more (λ j. part_at g h k (n + j)) 0 ∙ rw (concat_none (λ j. part_at g h k (n + j)), add-zero)

  none_first : parts g h k n 0 ≡ []
  unfolding parts
  none_first = concat_none (λ j. part_at g h k (n + j))

  or_right : (u : Bool) {v : Bool} → v ≡ true → (u || v) ≡ true
  or_right true e = refl
  or_right false e = e

  fits_one : (room : ℕ) → n < length (actions_on g k) → fitting g h k n 1 room ≡ cond (ltb room (length (part_at g h k n))) 0 1
  unfolding fitting ends_at
  fits_one room l =
      first_one (ends_at g h k n 1 room) (length (actions_on g k)) (omega (arith, l)) (or_right (leb (length (actions_on g k)) (n + 1)) refl)
      ∙ rw (add-zero n, lt-leb (length (actions_on g k)) n l, part_first)

  -- a message has a header
  message_long : 8 ≤ length (message_at g h k n)
  unfolding message_at sent_bytes size_of
  message_long = rw length_encode (omega arith)

  is_there : is_sent (actions_on g k) n ≡ true → n < length (actions_on g k)
  unfolding is_sent
  is_there e = ltb-true n _ (and_left (ltb n (length (actions_on g k))) _ e)

  not_zero : (b : Bool) → eqb (cond b 0 1) 0 ≡ b
  not_zero true = refl
  not_zero false = refl

  -- the code of many, of one length: of an action to an ASP that of one; else 104 stands behind the event's
  -- refusals
  code_sent : (room : ℕ) → is_sent (actions_on g k) n ≡ true → batch_code g h k n 1 room ≡ send_code g h k n room
  unfolding batch_code send_code
  code_sent room e =
      let l = is_there e in
      rw (e, lt-leb (length (actions_on g k)) n l, fits_one room l, not_zero (ltb room (length (part_at g h k n))), is_sent_lem g h k n e)

  code_beyond : (room : ℕ) → length (actions_on g k) ≤ n → batch_code g h k n 1 room ≡ behind_event g k h 104
  unfolding batch_code
  code_beyond room l = rw (le-leb (length (actions_on g k)) n l)

  code_side : (room : ℕ) → is_sent (actions_on g k) n ≡ false → n < length (actions_on g k) → batch_code g h k n 1 room ≡ behind_event g k h 0
  unfolding batch_code
  code_side room e l =
      rw (lt-leb (length (actions_on g k)) n l, fits_one room l, not_zero (ltb room (length (part_at g h k n))), not_sent g h k n e, le-ltb room 0 (omega arith))

  code_full : (room : ℕ) → n < length (actions_on g k) → ltb room (length (part_at g h k n)) ≡ true → batch_code g h k n 1 room ≡ behind_event g k h 103
  unfolding batch_code
  code_full room l e = rw (lt-leb (length (actions_on g k)) n l, fits_one room l, e)

  code_unsent : (room : ℕ) → is_sent (actions_on g k) n ≡ false → send_code g h k n room ≡ behind_event g k h 104
  unfolding send_code
  code_unsent room e = rw e

module _ (g : Gateway) (h : List ℕ) (k : EventKind) (n : ℕ) (out : List ℕ) {b : Batch} {lens lens' out' : List ℕ} (one : length lens ≡ 1) (s : SendsMany g h k n lens out b lens' out') where
  code_is : b.code ≡ batch_code g h k n 1 (length out)
  code_is = s.code_is ∙ ap (λ (m : ℕ). batch_code g h k n m (length out)) one

  -- refused: by the event, beyond the actions, or the buffer is short
  pub one_refused : (b.code ≡ 0 → ⊥) → Sends g h k n out (record { code = b.code; length = 0 }) out'
  unfolding overlay
  one_refused z =
      record {
        code_is = go (is_sent (actions_on g k) n) refl;
        length_is = rw (ne_eqb b.code 0 z);
        bytes_are = s.bytes_are ∙ ap (λ (m : ℕ). overlay out 0 (parts g h k n m)) s.count_is ∙ rw (ne_eqb b.code 0 z, none_first g h k n);
      }
    where
      unsent : Dec (n < length (actions_on g k)) → is_sent (actions_on g k) n ≡ false → b.code ≡ behind_event g k h 104
      unsent (yes l) e = let q = code_is ∙ code_side g h k n (length out) e l in q ∙ same_behind g k h 104 (λ y. z (q ∙ y))
      unsent (no l) e = code_is ∙ code_beyond g h k n (length out) (omega arith)

      go : (u : Bool) → is_sent (actions_on g k) n ≡ u → b.code ≡ send_code g h k n (length out)
      go true e = code_is ∙ code_sent g h k n (length out) e
      go false e = unsent (dec_lt n (length (actions_on g k))) e ∙ sym (code_unsent g h k n (length out) e)

  module _ (z : b.code ≡ 0) where
    there : Dec (n < length (actions_on g k)) → n < length (actions_on g k)
    there (yes l) = l
    there (no l) = let q = (rest_behind g k h 104 0 (sym (code_is ∙ code_beyond g h k n (length out) (omega arith)) ∙ z)).0 in let y : ⊥ = omega (arith, q) in absurd y

    below : n < length (actions_on g k)
    below = there (dec_lt n (length (actions_on g k)))

    -- the one part
    count_one : b.count ≡ 1
    count_one = s.count_is ∙ rw (eq-eqb b.code 0 z, one, fits_one g h k n (length out) below) (go (ltb (length out) (length (part_at g h k n))) refl)
      where
        go : (u : Bool) → ltb (length out) (length (part_at g h k n)) ≡ u → ◌≡◌ {A = ℕ} (cond u 0 1) 1
        go true e =
            let y = (rest_behind g k h 103 0 (sym (code_full g h k n (length out) below e) ∙ sym code_is ∙ z)).0 in
            let w : ⊥ = omega (arith, y) in absurd w
        go false e = refl

    length_one : b.length ≡ length (part_at g h k n)
    length_one = s.length_is ∙ ap (λ (m : ℕ). length (parts g h k n m)) count_one ∙ ap length (part_first g h k n)

    bytes_one : out' ≡ overlay out 0 (part_at g h k n)
    bytes_one = s.bytes_are ∙ ap (λ (m : ℕ). overlay out 0 (parts g h k n m)) count_one ∙ ap (overlay out 0) (part_first g h k n)

    -- nothing was written: it goes to the link side
    pub one_side : b.length ≡ 0 → Sends g h k n out (record { code = 104; length = 0 }) out'
    unfolding overlay
    one_side y = go (is_sent (actions_on g k) n) refl
      where
        go : (u : Bool) → is_sent (actions_on g k) n ≡ u → Sends g h k n out (record { code = 104; length = 0 }) out'
        go true e = let q = length_one ∙ ap length (is_sent_lem g h k n e) in let w : ⊥ = omega (arith, q, y, message_long g h k n) in absurd w
        go false e =
            record {
              code_is = sym (code_unsent g h k n (length out) e ∙ (rest_behind g k h _ 104 (sym (code_is ∙ code_side g h k n (length out) e below) ∙ z)).1);
              length_is = refl;
              bytes_are = bytes_one ∙ ap (overlay out 0) (not_sent g h k n e);
            }

    pub one_sent : (b.length ≡ 0 → ⊥) → Sends g h k n out (record { code = 0; length = b.length }) out'
    one_sent y = go (is_sent (actions_on g k) n) refl
      where
        go : (u : Bool) → is_sent (actions_on g k) n ≡ u → Sends g h k n out (record { code = 0; length = b.length }) out'
        go true e =
            record {
              code_is = sym z ∙ code_is ∙ code_sent g h k n (length out) e;
              length_is = length_one ∙ ap length (is_sent_lem g h k n e);
              bytes_are = bytes_one ∙ ap (overlay out 0) (is_sent_lem g h k n e);
            }
        go false e = absurd (y (length_one ∙ ap length (not_sent g h k n e)))

  -- in each case
  pub one_written : Sends g h k n out (written_of (sent_of b)) out'
  unfolding sent_of
  one_written = go (ℕ_discrete b.code 0) (ℕ_discrete b.length 0)
    where
      go : Dec (b.code ≡ 0) → Dec (b.length ≡ 0) → Sends g h k n out (written_of (cond (eqb b.code 0) (cond (eqb b.length 0) (Err NoSuchAction) (Ok b.length)) (Err (Event b.code)))) out'
      go (no z) d = rw (ne_eqb b.code 0 z) (one_refused z)
      go (yes z) (yes y) = rw (eq-eqb b.code 0 z, eq-eqb b.length 0 y) (one_side z y)
      go (yes z) (no y) = rw (eq-eqb b.code 0 z, ne_eqb b.length 0 y) (one_sent z y)
