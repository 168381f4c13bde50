-- What is written for an action, in the code's words; and that it is what specs/Send.antt of crate
-- send_message says.
-- Assumes nothing.
use Rattle.std.specs.Prelude.{⊤, Option, Some, None, ℕ, ◌+◌, ◌-◌, ◌*◌, ◌/◌, ◌%◌, ◌<◌, ◌≤◌, ◌≡◌, refl, Bool, true, false, cond, not, ◌&&◌, List, [], eqb, ltb, length}
use Rattle.std.proofs.Math.Path.{sym}
use Rattle.std.proofs.Common.{ap, ◌∙◌, eq-eqb, ne_eqb, lt-ltb, le-ltb}
use native.Mathlib.Omega.{arith}
use Rattle.laws.specs.Columns.{number_at}
use Rattle.laws.specs.Inner.Choice.{at_lt, at_ge}
use Rattle.codec_wire.specs.Walk.{Par, walk}
use Rattle.codec_put.specs.Bytes.{overlay}
use Rattle.codec_put.proofs.Sets.{length_over}
use Rattle.codec_write.specs.Encode.{size_of, encode}
use Rattle.codec_write.proofs.Verdicts.{length_encode}
use Rattle.state_tables.specs.declared.Gateway.{Gateway}
use Rattle.rules_action.specs.declared.Action.{Action}
use Rattle.rules_action.specs.Types.{user_data}
use Rattle.rules_action.specs.Words.{link_side}
use Rattle.rules_event.specs.Event.{EventKind}
use Rattle.rules_event.specs.Sent.{is_data, is_passed}
use Rattle.send_message.specs.Message.{held_body, sent_pars, sent_bytes}
use Rattle.send_message.specs.Inner.Stands.{Lends}
use Rattle.send_message.specs.Inner.Form.{form_pars, class_of, type_of, form_of, unit_of, sent_form, form_cases, form_class, other_form, other_pars}
use Rattle.send_message.specs.declared.Form.{Form}
use Rattle.send_orders.specs.Inner.Batch.{StandsBefore}
use Rattle.send_orders.specs.declared.Run.{Run}
use Rattle.send_orders.specs.declared.Sources.{Sources}
use Rattle.send_orders.specs.declared.Turn.{Turn}
use Rattle.send_unit.specs.declared.Columns.{Columns}
use Rattle.send_unit.specs.declared.Sent.{Sent}
use Rattle.send_unit.specs.Inner.Words.{action_in, said, data_in}
use Rattle.send_unit.specs.Inner.Made.{held_of, sent_of, shown_of, shown, Long}

-- ---- what is written for an action

abbrev pub form_in : Sent → Form
form_in x = form_of x.passed x.o x.unit

unfoldable pub part_of : List ℕ → List ℕ → ℕ → List ℕ → List ℕ → Sent → List ℕ
part_of iid owner n s body x =
    cond (eqb x.o.to link_side) [] (encode (form_in x).class (form_in x).msgtype (form_pars iid owner n (walk s 8).pars body (form_in x)))

-- of the columns of links and units: n links, the message s, the hold h, and the action o with the unit at
-- index i
abbrev pub part_made : List ℕ → List ℕ → List ℕ → List ℕ → List ℕ → List ℕ → ℕ → List ℕ → List ℕ → Bool → ℕ → Action → List ℕ
part_made iid owner tags lengths marks correlations n s h passed i o =
    part_of iid owner n s (shown h (sent_of tags lengths marks correlations passed i o)) (sent_of tags lengths marks correlations passed i o)

-- of the state g with the hold h: n links, the message s, and the action o with the unit at index i
abbrev pub sent_from : Gateway → Bool → ℕ → Action → Sent
sent_from g passed i o = sent_of g.held.tag g.held.length g.held.marked g.held.correlation passed i o

abbrev pub part_from : Gateway → List ℕ → ℕ → List ℕ → Bool → ℕ → Action → List ℕ
part_from g h n s passed i o = part_made g.iid g.owner g.held.tag g.held.length g.held.marked g.held.correlation n s h passed i o

-- the words of an action are enough for it
pub said_part : (g : Gateway) (h : List ℕ) (n : ℕ) (s : List ℕ) (passed : Bool) (i : ℕ) (o : Action) → part_from g h n s passed i (said o) ≡ part_from g h n s passed i o
unfolding part_of shown_of is_data form_of
said_part g h n s passed i o = refl

-- the bytes p are written over out at a position where they go in: how many they are, and the whole buffer
pub record PutIf (out : List ℕ) (at : ℕ) (p : List ℕ) (r : ℕ) (out' : List ℕ) : Type 0 where
  pub size_is : r ≡ length p
  pub bytes : out' ≡ cond (ltb (length out - at) r) out (overlay out at p)

module _ (out : List ℕ) (at : ℕ) (p : List ℕ) {r : ℕ} (e : r ≡ length p) where
  pub put_short : length out - at < r → PutIf out at p r out
  put_short l = record { size_is = e; bytes = at_lt _ _ (length out - at) r l refl }

  pub put_fits : {out' : List ℕ} → r ≤ length out - at → out' ≡ overlay out at p → PutIf out at p r out'
  put_fits l q = record { size_is = e; bytes = at_ge _ _ (length out - at) r l q }

-- a buffer keeps its length
pub put_length : {out : List ℕ} {at : ℕ} {p : List ℕ} {r : ℕ} {out' : List ℕ} → PutIf out at p r out' → length out' ≡ length out
put_length {out} {at} {p} {r} w = ap length w.bytes ∙ go (ltb (length out - at) r)
  where
    go : (b : Bool) → length (cond b out (overlay out at p)) ≡ length out
    go true = refl
    go false = length_over out at p

module _ {out : List ℕ} {at : ℕ} {p : List ℕ} {r : ℕ} {out' : List ℕ} (w : PutIf out at p r out') where
  pub put_as : {q : List ℕ} {r₁ : ℕ} {out₁ : List ℕ} → p ≡ q → r₁ ≡ r → out₁ ≡ out' → PutIf out at q r₁ out₁
  put_as e f o = record { size_is = f ∙ w.size_is ∙ ap length e; bytes = o ∙ w.bytes ∙ (λ y. cond (ltb (length out - at) (sym f y)) out (overlay out at (e y))) }

  -- told by what is left of the buffer after it
  pub put_none : length out' - at < r → out' ≡ out
  put_none l = w.bytes ∙ rw (lt-ltb (length out - at) r (omega (arith, l, put_length w)))

  pub put_done : r ≤ length out' - at → out' ≡ overlay out at p
  put_done l = w.bytes ∙ rw (le-ltb (length out - at) r (omega (arith, l, put_length w)))

-- what the writer of one asks for, of n links
pub record Fits (iid owner : List ℕ) (n : ℕ) (tags lengths marks correlations : List ℕ) (t : Turn) (s h out : List ℕ) : Type 0 where
  pub whole : length h ≡ 34944
  pub place : t.index < 128
  pub long : held_of t.passed t.o ≡ true → Long (number_at lengths t.index)
  pub small : length (part_made iid owner tags lengths marks correlations n s h t.passed t.index t.o) ≤ 2048
  pub room : t.at ≤ length out

-- the same of what is lent
abbrev pub made_from : Sources → Columns → Turn → List ℕ
made_from v u t = part_made v.owners.iid.now v.owners.owner.now u.tags.now u.lengths.now u.marks.now u.correlations.now v.owners.links v.msg.now v.hold.now t.passed t.index t.o

abbrev pub FitsIn : Sources → Columns → Turn → List ℕ → Type 0
FitsIn v u t out = Fits v.owners.iid.now v.owners.owner.now v.owners.links u.tags.now u.lengths.now u.marks.now u.correlations.now t v.msg.now v.hold.now out

-- the same bytes stand before the position, where the action before it has them
abbrev pub Again : List ℕ → ℕ → List ℕ → Option ℕ → Type 0
Again out at p None = ⊤
Again out at p (Some size) = (size ≡ length p) × StandsBefore out at p

-- ---- what is lent to the writer of many

pub record Lent : Type 0 where
  pub run : Run
  pub words : List ℕ
  pub list : List ℕ
  pub msg : List ℕ
  pub hold : List ℕ
  pub iid : List ℕ
  pub owner : List ℕ
  pub links : ℕ
  pub tags : List ℕ
  pub lengths : List ℕ
  pub marks : List ℕ
  pub correlations : List ℕ

abbrev pub lent_of : Run → List ℕ → List ℕ → List ℕ → List ℕ → List ℕ → List ℕ → ℕ → List ℕ → List ℕ → List ℕ → List ℕ → Lent
lent_of run words list msg hold iid owner links tags lengths marks correlations =
    record {
      run = run;
      words = words;
      list = list;
      msg = msg;
      hold = hold;
      iid = iid;
      owner = owner;
      links = links;
      tags = tags;
      lengths = lengths;
      marks = marks;
      correlations = correlations;
    }

abbrev pub lent_in : Run → List ℕ → List ℕ → Sources → Columns → Lent
lent_in run words list v u = lent_of run words list v.msg.now v.hold.now v.owners.iid.now v.owners.owner.now v.owners.links u.tags.now u.lengths.now u.marks.now u.correlations.now

-- the unit that the action at a place sends
abbrev pub index_in : Lent → ℕ → ℕ
index_in v j = number_at v.list (data_in v.words j)

-- what is written for it; nothing beyond the actions
abbrev pub made_in : Lent → ℕ → Action → List ℕ
made_in v i o = part_made v.iid v.owner v.tags v.lengths v.marks v.correlations v.links v.msg v.hold v.run.passed i o

unfoldable pub part_in : Lent → ℕ → List ℕ
part_in v j = cond (ltb j v.run.count) (made_in v (index_in v j) (action_in v.words j)) []

pub part_of_lem : (v : Lent) (j i : ℕ) (o : Action) → j < v.run.count → i ≡ index_in v j → o ≡ action_in v.words j → made_in v i o ≡ part_in v j
unfolding part_in
part_of_lem v j i o h e q = rw (lt-ltb j v.run.count h) (λ y. made_in v (e y) (q y))

-- all that the loop asks for
pub record Ready (v : Lent) : Type 0 where
  pub few : v.run.count ≤ 386
  pub there : v.run.place ≤ v.run.count
  pub whole : length v.hold ≡ 34944
  pub indices : (d : ℕ) → number_at v.list d < 128
  pub long : (j : ℕ) → j < v.run.count → held_of v.run.passed (action_in v.words j) ≡ true → Long (number_at v.lengths (index_in v j))
  pub small : (j : ℕ) → length (part_in v j) ≤ 2048

-- ---- in the words of the writer's two functions

module _ (iid owner : List ℕ) (n : ℕ) (s body : List ℕ) (x : Sent) where
  pub to_side : eqb x.o.to link_side ≡ true → part_of iid owner n s body x ≡ []
  unfolding part_of
  to_side e = rw e

  pub side_size : x.o.to ≡ 255 → 0 ≡ length (part_of iid owner n s body x)
  side_size e = sym (ap length (to_side (eq-eqb x.o.to 255 e)))

  pub side_put : (out : List ℕ) (at : ℕ) → x.o.to ≡ 255 → out ≡ overlay out at (part_of iid owner n s body x)
  unfolding overlay
  side_put out at e = sym (ap (overlay out at) (to_side (eq-eqb x.o.to 255 e)))

  module _ (h : x.o.to ≡ 255 → ⊥) where
    pub asp_part : part_of iid owner n s body x ≡ encode (form_in x).class (form_in x).msgtype (form_pars iid owner n (walk s 8).pars body (form_in x))
    unfolding part_of
    asp_part = rw (ne_eqb x.o.to 255 h)

    pub asp_size : length (part_of iid owner n s body x) ≡ size_of (form_pars iid owner n (walk s 8).pars body (form_in x))
    asp_size = ap length asp_part ∙ length_encode _ _ _

-- ---- what the message has

-- class and type of a form are the action's
abbrev HeadOf : ℕ → Form → Type 0
HeadOf ct f = (f.class ≡ class_of ct) × (f.msgtype ≡ type_of ct)

form_head : (x : Sent) → HeadOf x.o.classtype (form_in x)
form_head x = form_cases (HeadOf x.o.classtype) x.passed x.o x.unit (λ a b. (refl, refl)) (λ one two. (refl, refl)) (λ one a. (refl, refl)) (λ e. (refl, refl))

no_data : (a b c : Bool) → b ≡ false → ((a && not b) && not c) ≡ false → (a && not c) ≡ false
no_data true b c e h = rw e at h
no_data false b c e h = refl

-- o is an action of the event k that goes to an ASP, x the message lent for it, and u the index of the unit
-- that it sends; the code has i, which may be another number where it sends none
module _ (g : Gateway) (h : List ℕ) (k : EventKind) (x : List ℕ) (u i : ℕ) (o : Action) (lends : Lends g k x o) (asp : eqb o.to link_side ≡ false) (unit : held_of (is_passed k) o ≡ true → i ≡ u) where
  abbrev y : Sent
  y = sent_from g (is_passed k) i o

  abbrev on : List ℕ → Form → List Par
  on b f = form_pars g.iid g.owner g.links (walk x 8).pars b f

  shown_held : held_of (is_passed k) o ≡ true → shown h y ≡ held_body g h i
  unfolding shown_of held_body
  shown_held e =
      let f : i / 8 * 2184 + i % 8 * 273 ≡ i * 273 = omega arith in
      let t : i * 273 + number_at g.held.length i - 4 - i * 273 ≡ number_at g.held.length i - 4 = omega arith in
      rw (e, f, t)

  plain : held_of (is_passed k) o ≡ false → (eqb o.classtype user_data && not (is_passed k)) ≡ false
  unfolding is_data
  plain e = no_data (eqb o.classtype user_data) (eqb o.to link_side) (is_passed k) asp e

  pars_are : on (shown h y) (form_of (is_passed k) o (unit_of g i)) ≡ sent_pars g h k u o
  pars_are = go (held_of (is_passed k) o) refl ∙ sym (sent_form g h u o x k lends)
    where
      go : (b : Bool) → held_of (is_passed k) o ≡ b → on (shown h y) (form_of (is_passed k) o (unit_of g i)) ≡ on (held_body g h u) (form_of (is_passed k) o (unit_of g u))
      go true e = ap (λ (b : List ℕ). on b (form_of (is_passed k) o (unit_of g i))) (shown_held e) ∙ ap (λ (j : ℕ). on (held_body g h j) (form_of (is_passed k) o (unit_of g j))) (unit e)
      go false e =
          let z = plain e in
          other_pars (is_passed k) o z g.iid g.owner g.links (walk x 8).pars (shown h y) (held_body g h u) (unit_of g i)
          ∙ ap (λ (f : Form). on (held_body g h u) f) (other_form (is_passed k) o z (unit_of g i) (unit_of g u))

  pub sent_part : o.classtype < 65536 → part_from g h g.links x (is_passed k) i o ≡ sent_bytes g h k u o
  unfolding part_of sent_bytes unit_of
  sent_part small =
      let p = form_head y in
      let c : (form_in y).class ≡ o.classtype / 256 = p.0 ∙ form_class o.classtype small in
      rw asp (λ w. encode (c w) (p.1 w) (pars_are w))
