use Prim.Native.Nat.{ℕ, ◌≤◌}
use mathlib.Core.Path.{◌≡◌, sym, ap, ◌∙◌, subst}
use mathlib.Core.List.{List}
use native.Mathlib.Omega.{arith}
use lib.ListN.{length}
use Rattle.codec_wire.specs.Walk.{walk}
use Rattle.codec_put.specs.Bytes.{overlay}
use Rattle.codec_write.specs.Encode.{size_of, encode}
use Rattle.send_message.specs.declared.Form.{Form}
use Rattle.send_message.specs.Inner.Form.{form_pars, form_of}
use Rattle.send_unit.specs.declared.Sent.{Sent}
use Rattle.send_unit.specs.Inner.Made.{sent_of, shown, Lies, lies}
use Rattle.send_orders.specs.declared.Turn.{Turn}
use Rattle.send_orders.specs.Inner.Part.{Fits, form_in, part_of, part_made, put_short, put_fits, side_put, asp_part, asp_size}
use Rattle.send_orders.proofs.put_new.Goals as goal

-- x is the action with its unit, b the bytes of the unit that it shows: the message made of them is the one
-- that is asked for
module _ {iid owner : List ℕ} {n : ℕ} {tags lengths marks correlations : List ℕ} {t : Turn} {s h out : List ℕ} (p : Fits iid owner n tags lengths marks correlations t s h out) {x : Sent} (e : x ≡ sent_of tags lengths marks correlations t.passed t.index t.o) where
  lies_at : Lies h x
  lies_at = subst (λ (y : Sent). Lies h y) (sym e) (lies h tags lengths marks correlations t.passed t.index t.o p.whole p.place p.long)

  module _ {b : List ℕ} (q : b ≡ shown h x) where
    short-at : length b ≤ 273
    short-at = rw q lies_at.short

    made_at : part_of iid owner n s b x ≡ part_made iid owner tags lengths marks correlations n s h t.passed t.index t.o
    made_at =
        (λ y. part_of iid owner n s (q y) x)
        ∙ (λ y. part_of iid owner n s (shown h (e y)) (e y))

    module _ {f : Form} (z : f ≡ form_of x.passed t.o x.unit) (side : t.o.to ≡ 255 → ⊥) where
      form-at : f ≡ form_in (sent_of tags lengths marks correlations t.passed t.index t.o)
      form-at = z ∙ (λ y. form_of (e y).passed t.o (e y).unit)

      whole-at : b ≡ shown h (sent_of tags lengths marks correlations t.passed t.index t.o)
      whole-at = q ∙ ap (shown h) e

      long-at : length (part_made iid owner tags lengths marks correlations n s h t.passed t.index t.o) ≡ size_of (form_pars iid owner n (walk s 8).pars b f)
      long-at =
          asp_size _ _ _ _ _ (sent_of tags lengths marks correlations t.passed t.index t.o) side
          ∙ (λ y. size_of (form_pars iid owner n (walk s 8).pars (sym whole-at y) (sym form-at y)))

      bytes-at : encode f.class f.msgtype (form_pars iid owner n (walk s 8).pars b f) ≡ part_made iid owner tags lengths marks correlations n s h t.passed t.index t.o
      bytes-at =
          (λ y. encode (form-at y).class (form-at y).msgtype (form_pars iid owner n (walk s 8).pars (whole-at y) (form-at y)))
          ∙ sym (asp_part _ _ _ _ _ (sent_of tags lengths marks correlations t.passed t.index t.o) side)

pub sent_at-x-requires : goal.sent_at-x-requires
sent_at-x-requires c = let p = c.requires in (p.place, λ e. omega (arith, (p.long e).least))

pub shown-shown-requires : goal.shown-shown-requires
shown-shown-requires c = let l = lies_at c.requires c.sent_at-x.ensures in l.inside

pub part_size-size-requires : goal.part_size-size-requires
part_size-size-requires c =
    let p = c.requires in
    (short-at p c.sent_at-x.ensures c.shown-shown.ensures, rw (made_at p c.sent_at-x.ensures c.shown-shown.ensures) p.small)

pub overflow_sub-out : goal.overflow_sub-out
overflow_sub-out c = c.requires.room

pub returns-then-out-t : goal.returns-then-out-t
returns-then-out-t c =
    put_short _ _ _ (c.part_size-size.ensures ∙ ap length (made_at c.requires c.sent_at-x.ensures c.shown-shown.ensures)) c.if-out-t.true

pub returns-then-o-eq-LINK_SIDE : goal.returns-then-o-eq-LINK_SIDE
returns-then-o-eq-LINK_SIDE c =
    put_fits _ _ _ (c.part_size-size.ensures ∙ ap length (made_at c.requires c.sent_at-x.ensures c.shown-shown.ensures)) c.if-out-t.false
    (side_put _ _ _ _ _ _ _ _ c.if-o-eq-LINK_SIDE.true)

pub put_form-requires : goal.put_form-requires
put_form-requires c =
    let p = c.requires in
    let z = c.part_size-size.ensures ∙ ap length (made_at p c.sent_at-x.ensures c.shown-shown.ensures) in
    record {
      short = omega (arith, short-at p c.sent_at-x.ensures c.shown-shown.ensures);
      size_is = z ∙ long-at p c.sent_at-x.ensures c.shown-shown.ensures c.form_of-form.ensures c.if-o-eq-LINK_SIDE.false;
      small = omega (arith, z, p.small);
      room = omega (arith, c.if-out-t.false, p.room);
    }

pub returns : goal.returns
returns c =
    let p = c.requires in
    put_fits _ _ _ (c.part_size-size.ensures ∙ ap length (made_at p c.sent_at-x.ensures c.shown-shown.ensures)) c.if-out-t.false
    (c.put_form.ensures.1 ∙ ap (overlay _ _) (bytes-at p c.sent_at-x.ensures c.shown-shown.ensures c.form_of-form.ensures c.if-o-eq-LINK_SIDE.false))
