-- What the message of an action is made of, in the order in which the code asks; and that this is what
-- specs/Message.antt says.
-- Assumes nothing.
use Rattle.std.specs.Prelude.{◌≡◌, ℕ, ◌+◌, ◌*◌, ◌/◌, ◌%◌, ◌<◌, ◌≤◌, Bool, ◌||◌, ◌&&◌, length}
use Rattle.std.proofs.Math.Path.{refl}
use Rattle.std.proofs.Common.{sym, ap, ◌∙◌, arith}
use Rattle.std.proofs.Math.Bool.{true, false, cond, not}
use Rattle.std.proofs.lemmas.Bool.{false≢true}
use mathlib.Core.List.{List, [], ◌∷◌, ◌++◌, append-nil}
use Rattle.std.proofs.Math.Dec.{eqb}
use Rattle.std.specs.Prelude.{Option, Some, None}
use Rattle.std.specs.Bool.{then_some}
use Rattle.std.specs.Option.{option_map}
use Rattle.laws.specs.Below.{concat_below, count_below}
use Rattle.laws.specs.Columns.{number_at}
use Rattle.codec_wire.specs.Walk.{Par, step_at, walk_f, walk}
use Rattle.codec_put.specs.Bytes.{par, par_size, bytes32}
use Rattle.codec_write.specs.Encode.{size_of}
use Rattle.codec_select.specs.Only.{only}
use Rattle.codec_select.specs.Inner.Picks.{picks, only_none, only_all}
use Rattle.codec_select.specs.declared.Which.{Which}
use Rattle.codec_select.specs.declared.Which.TheVariants.{Nothing, All, Mode, Ids, Heartbeat}
use Rattle.state_tables.specs.declared.Gateway.{Gateway}
use Rattle.rules_action.specs.declared.Action.{Action}
use Rattle.rules_action.specs.Types.{mgmt_error, mgmt_notify, beat_ack, asp_up_ack, asp_down_ack, asp_active_ack, asp_inactive_ack, user_data, data_ack}
use Rattle.rules_event.specs.Event.{EventKind, message, lost, recovery, link_up, link_down, link_message}
use Rattle.rules_event.specs.Sent.{is_passed}
use Rattle.send_message.specs.Message.{number_par, list_par, ids_of, ids_par, error_pars, notify_pars, traffic_ack_pars, beat_ack_pars, link_pars, held_body, unit_pars, reply_pars, sent_pars}
use Rattle.send_message.specs.Inner.Stands.{is_traffic_ack, StandsFor, stands_none, Lends}
use Rattle.send_message.specs.declared.Form.{Form}
use Rattle.send_message.specs.declared.Number.{Number}
use Rattle.send_message.specs.declared.Unit.{Unit}

-- ---- the parameters of a form

-- whether AS a owns the link at a place, and that link's identifier as bytes where it does
abbrev pub owns : List ℕ → ℕ → ℕ → Bool
owns owner a l = eqb (number_at owner l) a

abbrev pub id_at : List ℕ → List ℕ → ℕ → ℕ → List ℕ
id_at iid owner a l = cond (owns owner a l) (bytes32 (number_at iid l)) []

-- the identifiers of AS a's links, of the first n
unfoldable pub ids_in : List ℕ → List ℕ → ℕ → ℕ → List ℕ
ids_in iid owner n a = concat_below (id_at iid owner a) n

unfoldable pub ids_par_in : List ℕ → List ℕ → ℕ → ℕ → List Par
ids_par_in iid owner n a = list_par (ids_in iid owner n a)

-- a parameter of one number, where there is one
abbrev pub number_pars : Option Number → List Par
number_pars None = []
number_pars (Some n) = number_par n.tag n.value ∷ []

-- the data of a unit, by their tag, where there is one; its body is lent
abbrev pub data_pars : List ℕ → Option ℕ → List Par
data_pars body None = []
data_pars body (Some t) = par t body ∷ []

-- the identifiers of an AS's links, where there is one
abbrev pub as_pars : List ℕ → List ℕ → ℕ → Option ℕ → List Par
as_pars iid owner n None = []
as_pars iid owner n (Some a) = ids_par_in iid owner n a

-- the data of a unit and the second number
unfoldable pub held_pars : List ℕ → Form → List Par
held_pars body f = data_pars body f.held ++ number_pars f.two

unfoldable pub said_pars : List ℕ → Form → List Par
said_pars body f = number_pars f.one ++ held_pars body f

unfoldable pub listed_pars : List ℕ → List ℕ → ℕ → Form → List Par
listed_pars iid owner n f = as_pars iid owner n f.listed

unfoldable pub copied_pars : List Par → Form → List Par
copied_pars ps f = only (picks f.first) ps ++ only (picks f.after) ps

unfoldable pub form_pars : List ℕ → List ℕ → ℕ → List Par → List ℕ → Form → List Par
form_pars iid owner n ps body f = said_pars body f ++ (listed_pars iid owner n f ++ copied_pars ps f)

-- the message of a form goes into a buffer at a position
pub record FormFits (iid owner : List ℕ) (n : ℕ) (ps : List Par) (body : List ℕ) (f : Form) (size at : ℕ) (out : List ℕ) : Type 0 where
  pub short : length body ≤ 65531
  pub size_is : size ≡ size_of (form_pars iid owner n ps body f)
  pub small : size ≤ 2048
  pub room : at + size ≤ length out

-- the bytes that a unit's data take in their parameter
unfoldable pub data_size : Option ℕ → ℕ → ℕ
data_size None n = 0
data_size (Some t) n = par_size n

-- the bytes that the identifiers take in their parameter, from how many there are
abbrev pub list_size : ℕ → ℕ
list_size k = cond (eqb k 0) 0 (4 + 4 * k)

unfoldable pub listed_size : List ℕ → ℕ → Option ℕ → ℕ
listed_size owner n None = 0
listed_size owner n (Some a) = list_size (count_below (owns owner a) n)

-- ---- the form of an action

abbrev pub class_of : ℕ → ℕ
class_of ct = ct / 256 % 256

abbrev pub type_of : ℕ → ℕ
type_of ct = ct % 256

abbrev pub made : ℕ → Option Number → Option ℕ → Option Number → Option ℕ → Which → Which → Form
made ct one held two listed first after =
    record {
      class = class_of ct;
      msgtype = type_of ct;
      one = one;
      held = held;
      two = two;
      listed = listed;
      first = first;
      after = after;
    }

-- no parameters
abbrev pub bare : ℕ → Form
bare ct = made ct None None None None Nothing Nothing

-- one number, or two
abbrev pub saying : ℕ → Number → Option Number → Form
saying ct one two = made ct (Some one) None two None Nothing Nothing

-- one number, and the identifiers of an AS
abbrev pub listing : ℕ → Number → ℕ → Form
listing ct one a = made ct (Some one) None None (Some a) Nothing Nothing

abbrev pub number : ℕ → ℕ → Number
number t n = record { tag = t; value = n }

-- the identifier of a link, and a unit of it
abbrev pub releasing : ℕ → ℕ → Unit → Form
releasing ct link u = made ct (Some (number 0x1 link)) (Some u.tag) (option_map (number 0x13) u.correlation) None Nothing Nothing

-- parameters of the received message
abbrev pub copying : ℕ → Which → Which → Form
copying ct first after = made ct None None None None first after

-- of an action that passes a message on, or of one that the gateway makes; u is the unit that it sends, if it
-- sends one
unfoldable pub form_of : Bool → Action → Unit → Form
form_of passed o u =
    cond passed (copying o.classtype All Nothing)
    (cond (eqb o.classtype mgmt_error) (saying o.classtype (number 0xc o.value) (then_some (eqb o.value 2) (number 0x1 o.subject)))
    (cond (eqb o.classtype mgmt_notify) (listing o.classtype (number 0xd o.value) o.subject)
    (cond (eqb o.classtype asp_up_ack || eqb o.classtype asp_down_ack) (copying o.classtype Nothing Nothing)
    (cond (eqb o.classtype beat_ack) (copying o.classtype Heartbeat Nothing)
    (cond (eqb o.classtype asp_active_ack || eqb o.classtype asp_inactive_ack) (copying o.classtype Mode Ids)
    (cond (eqb o.classtype user_data) (releasing o.classtype o.subject u)
    (saying o.classtype (number 0x1 o.subject) (then_some (eqb o.classtype data_ack) (number 0x13 o.value)))))))))

-- the unit at an index
unfoldable pub unit_of : Gateway → ℕ → Unit
unit_of g i = record { tag = number_at g.held.tag i; correlation = then_some (eqb (number_at g.held.marked i) 1) (number_at g.held.correlation i) }

-- ---- it says what the message has

-- a number that is said where a test holds
then_pars : (b : Bool) (t n : ℕ) → number_pars (then_some b (number t n)) ≡ cond b (number_par t n ∷ []) []
then_pars true t n = refl
then_pars false t n = refl

marked_pars : (b : Bool) (t n : ℕ) → number_pars (option_map (number t) (then_some b n)) ≡ cond b (number_par t n ∷ []) []
marked_pars true t n = refl
marked_pars false t n = refl

-- nothing is copied
none_twice : (ps : List Par) → only (picks Nothing) ps ++ only (picks Nothing) ps ≡ []
none_twice ps = rw (only_none ps)

none_after : (ps qs : List Par) → qs ++ only (picks Nothing) ps ≡ qs
none_after ps qs = rw (only_none ps) (append-nil qs)

module _ (iid owner : List ℕ) (n : ℕ) (ps : List Par) (body : List ℕ) where
  abbrev pars : Form → List Par
  pars f = form_pars iid owner n ps body f

  pub copying_pars : (ct : ℕ) (a b : Which) → pars (copying ct a b) ≡ only (picks a) ps ++ only (picks b) ps
  unfolding form_pars said_pars held_pars listed_pars copied_pars
  copying_pars ct a b = refl

  pub saying_pars : (ct : ℕ) (one : Number) (two : Option Number) → pars (saying ct one two) ≡ number_par one.tag one.value ∷ number_pars two
  unfolding form_pars said_pars held_pars listed_pars copied_pars
  saying_pars ct one two = rw (none_twice ps) (ap (λ (x : List Par). number_par one.tag one.value ∷ x) (append-nil (number_pars two)))

  pub releasing_pars : (ct m : ℕ) (u : Unit) → pars (releasing ct m u) ≡ number_par 0x1 m ∷ par u.tag body ∷ number_pars (option_map (number 0x13) u.correlation)
  unfolding form_pars said_pars held_pars listed_pars copied_pars
  releasing_pars ct m u = rw (none_twice ps) (ap (λ (x : List Par). number_par 0x1 m ∷ par u.tag body ∷ x) (append-nil (number_pars (option_map (number 0x13) u.correlation))))

  pub listing_pars : (ct : ℕ) (one : Number) (a : ℕ) → pars (listing ct one a) ≡ number_par one.tag one.value ∷ ids_par_in iid owner n a
  unfolding form_pars said_pars held_pars listed_pars copied_pars
  listing_pars ct one a = rw (none_twice ps) (ap (λ (x : List Par). number_par one.tag one.value ∷ x) (append-nil (ids_par_in iid owner n a)))

pub form_passed : (g : Gateway) (ps : List Par) (body : List ℕ) (o : Action) (u : Unit) → form_pars g.iid g.owner g.links ps body (form_of true o u) ≡ ps
unfolding form_of
form_passed g ps body o u = copying_pars g.iid g.owner g.links ps body o.classtype All Nothing ∙ none_after ps (only (picks All) ps) ∙ only_all ps

-- each answer of the gateway, by its message; i is the index of the unit that it sends, and the parameters ps
-- that are lent stand for those received, rs
module _ (g : Gateway) (h : List ℕ) (rs ps : List Par) (i : ℕ) (o : Action) (w : StandsFor g rs ps o) where
  abbrev on : Form → List Par
  on f = form_pars g.iid g.owner g.links ps (held_body g h i) f

  error_is : on (saying o.classtype (number 0xc o.value) (then_some (eqb o.value 2) (number 0x1 o.subject))) ≡ error_pars o
  unfolding error_pars
  error_is = saying_pars g.iid g.owner g.links ps (held_body g h i) o.classtype _ _ ∙ ap (λ (x : List Par). number_par 0xc o.value ∷ x) (then_pars (eqb o.value 2) 0x1 o.subject)

  notify_is : on (listing o.classtype (number 0xd o.value) o.subject) ≡ notify_pars g o
  unfolding notify_pars ids_par ids_of ids_par_in ids_in
  notify_is = listing_pars g.iid g.owner g.links ps (held_body g h i) o.classtype _ o.subject

  none_is : on (copying o.classtype Nothing Nothing) ≡ []
  none_is = copying_pars g.iid g.owner g.links ps (held_body g h i) o.classtype Nothing Nothing ∙ none_twice ps

  beat_is : eqb o.classtype beat_ack ≡ true → on (copying o.classtype Heartbeat Nothing) ≡ beat_ack_pars rs
  unfolding beat_ack_pars
  beat_is e = copying_pars g.iid g.owner g.links ps (held_body g h i) o.classtype Heartbeat Nothing ∙ none_after ps (only (picks Heartbeat) ps) ∙ w.beats e

  traffic_is : is_traffic_ack o.classtype ≡ true → on (copying o.classtype Mode Ids) ≡ traffic_ack_pars g o.to rs
  traffic_is e = copying_pars g.iid g.owner g.links ps (held_body g h i) o.classtype Mode Ids ∙ w.traffics e

  unit_is : on (releasing o.classtype o.subject (unit_of g i)) ≡ unit_pars g h i o
  unfolding unit_pars unit_of
  unit_is =
      releasing_pars g.iid g.owner g.links ps (held_body g h i) o.classtype o.subject (unit_of g i)
      ∙ ap (λ (x : List Par). number_par 0x1 o.subject ∷ par (number_at g.held.tag i) (held_body g h i) ∷ x) (marked_pars (eqb (number_at g.held.marked i) 1) 0x13 (number_at g.held.correlation i))

  link_is : on (saying o.classtype (number 0x1 o.subject) (then_some (eqb o.classtype data_ack) (number 0x13 o.value))) ≡ link_pars o
  unfolding link_pars
  link_is = saying_pars g.iid g.owner g.links ps (held_body g h i) o.classtype _ _ ∙ ap (λ (x : List Par). number_par 0x1 o.subject ∷ x) (then_pars (eqb o.classtype data_ack) 0x13 o.value)

  pub form_reply : form_pars g.iid g.owner g.links ps (held_body g h i) (form_of false o (unit_of g i)) ≡ reply_pars g h rs i o
  unfolding form_of reply_pars
  form_reply = go (eqb o.classtype mgmt_error) (eqb o.classtype mgmt_notify) (eqb o.classtype asp_up_ack || eqb o.classtype asp_down_ack) (eqb o.classtype beat_ack) (is_traffic_ack o.classtype) (eqb o.classtype user_data) refl refl
    where
      go : (e n u b a d : Bool) → eqb o.classtype beat_ack ≡ b → is_traffic_ack o.classtype ≡ a
          → on
          (cond e (saying o.classtype (number 0xc o.value) (then_some (eqb o.value 2) (number 0x1 o.subject)))
          (cond n (listing o.classtype (number 0xd o.value) o.subject)
          (cond u (copying o.classtype Nothing Nothing)
          (cond b (copying o.classtype Heartbeat Nothing)
          (cond a (copying o.classtype Mode Ids)
          (cond d (releasing o.classtype o.subject (unit_of g i))
          (saying o.classtype (number 0x1 o.subject) (then_some (eqb o.classtype data_ack) (number 0x13 o.value)))))))))
          ≡ cond e (error_pars o) (cond n (notify_pars g o) (cond u [] (cond b (beat_ack_pars rs) (cond a (traffic_ack_pars g o.to rs) (cond d (unit_pars g h i o) (link_pars o))))))
      go true n u b a d x y = error_is
      go false true u b a d x y = notify_is
      go false false true b a d x y = none_is
      go false false false true a d x y = beat_is x
      go false false false false true d x y = traffic_is y
      go false false false false false true x y = unit_is
      go false false false false false false x y = link_is

-- ---- each form that an action may have, and what it depends on

module _ (P : Form → Type 0) (passed : Bool) (o : Action) (u : Unit) where
  pub form_cases : ((a b : Which) → P (copying o.classtype a b)) → ((one : Number) (two : Option Number) → P (saying o.classtype one two)) → ((one : Number) (a : ℕ) → P (listing o.classtype one a))
      → ((eqb o.classtype user_data && not passed) ≡ true → P (releasing o.classtype o.subject u)) → P (form_of passed o u)
  unfolding form_of
  form_cases c s l r = go passed (eqb o.classtype mgmt_error) (eqb o.classtype mgmt_notify) (eqb o.classtype asp_up_ack || eqb o.classtype asp_down_ack) (eqb o.classtype beat_ack) (eqb o.classtype asp_active_ack || eqb o.classtype asp_inactive_ack) (eqb o.classtype user_data) r
    where
      go : (p e n v b a d : Bool) → ((d && not p) ≡ true → P (releasing o.classtype o.subject u))
          → P
          (cond p (copying o.classtype All Nothing)
          (cond e (saying o.classtype (number 0xc o.value) (then_some (eqb o.value 2) (number 0x1 o.subject)))
          (cond n (listing o.classtype (number 0xd o.value) o.subject)
          (cond v (copying o.classtype Nothing Nothing)
          (cond b (copying o.classtype Heartbeat Nothing)
          (cond a (copying o.classtype Mode Ids)
          (cond d (releasing o.classtype o.subject u)
          (saying o.classtype (number 0x1 o.subject) (then_some (eqb o.classtype data_ack) (number 0x13 o.value))))))))))
      go true e n v b a d q = c _ _
      go false true n v b a d q = s _ _
      go false false true v b a d q = l _ _
      go false false false true b a d q = c _ _
      go false false false false true a d q = c _ _
      go false false false false false true d q = c _ _
      go false false false false false false true q = q refl
      go false false false false false false false q = s _ _

and_true : (b : Bool) → (b && true) ≡ false → b ≡ false
and_true true e = e
and_true false e = e

-- the unit and its bytes are in the message of Data that is not passed on, and in no other
module _ (passed : Bool) (o : Action) (h : (eqb o.classtype user_data && not passed) ≡ false) where
  no_unit : (u : Unit) → (form_of passed o u).held ≡ None
  no_unit u = form_cases (λ f. f.held ≡ None) passed o u (λ a b. refl) (λ one two. refl) (λ one a. refl) (λ e. absurd (false≢true (sym h ∙ e)))

  pub other_form : (u v : Unit) → form_of passed o u ≡ form_of passed o v
  unfolding form_of
  other_form u v = go passed h
    where
      go : (p : Bool) → (eqb o.classtype user_data && not p) ≡ false → form_of p o u ≡ form_of p o v
      go true q = refl
      go false q = rw (and_true (eqb o.classtype user_data) q)

  pub other_pars : (iid owner : List ℕ) (n : ℕ) (ps : List Par) (b c : List ℕ) (u : Unit) → form_pars iid owner n ps b (form_of passed o u) ≡ form_pars iid owner n ps c (form_of passed o u)
  unfolding form_pars said_pars held_pars
  other_pars iid owner n ps b c u = rw (no_unit u)

-- ---- of an event: the message lent

pub no_pars : (walk [] 8).pars ≡ []
unfolding walk walk_f step_at
no_pars = refl

module _ (g : Gateway) (h : List ℕ) (i : ℕ) (o : Action) (x : List ℕ) where
  no_message : x ≡ [] → reply_pars g h [] i o ≡ form_pars g.iid g.owner g.links (walk x 8).pars (held_body g h i) (form_of false o (unit_of g i))
  no_message e = rw (e, no_pars) (sym (form_reply g h [] [] i o (stands_none g o)))

  pub sent_form : (k : EventKind) → Lends g k x o → sent_pars g h k i o ≡ form_pars g.iid g.owner g.links (walk x 8).pars (held_body g h i) (form_of (is_passed k) o (unit_of g i))
  sent_form (message p s) w = sym (form_reply g h (walk s 8).pars (walk x 8).pars i o w)
  sent_form (lost p) e = no_message e
  sent_form (recovery a) e = no_message e
  sent_form (link_up l) e = no_message e
  sent_form (link_down l) e = no_message e
  sent_form (link_message s) e = rw e (sym (form_passed g (walk s 8).pars (held_body g h i) o (unit_of g i)))

-- the class of a form is the action's, whose classes are below 256
pub form_class : (ct : ℕ) → ct < 65536 → class_of ct ≡ ct / 256
form_class ct h = omega arith
