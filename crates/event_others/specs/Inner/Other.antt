-- A message by its class and type: which method answers it, and what those do that have none of their own.
-- Assumes nothing.
use Rattle.std.specs.Prelude.{◌≡◌, Bool, ◌&&◌, List, [], ℕ, ◌<◌, eqb, get_or}
use Rattle.std.proofs.Math.Path.{refl}
use Rattle.std.proofs.Common.{sym, ap, ◌∙◌, arith}
use Rattle.std.proofs.Math.Bool.{true, false, cond}
use borrow.Author.Tests.{eq-eqb, ne_eqb, eqb-true}
use Rattle.codec_wire.specs.Walk.{walk}
use Rattle.codec_read.specs.Verdict.{verdict}
use Rattle.codec_read.specs.Meaning.{meaning, outcome, unreadable, reading_of}
use Rattle.codec_read.specs.declared.Reading.{Reading}
use Rattle.state_tables.specs.declared.Gateway.{Gateway}
use Rattle.rules_action.specs.Types.{beat, beat_ack, asp_up, asp_down, asp_active, asp_inactive}
use Rattle.rules_event.specs.Effect.{Effect, send, error, one_action}
use Rattle.rules_event.specs.Asp.{up_effect, down_effect, traffic_effect, active_effect, inactive_effect}
use Rattle.rules_event.specs.Link.{class_six_on, class_six_effect}
use Rattle.rules_event.specs.Rules.{is_error, class_type_of, from_asp, read_effect, message_effect}
use Rattle.state_lookup.specs.Links.{index_of}
use Rattle.rules_event.specs.Identifiers.{link_of, owner_at}
use Rattle.rules_event.specs.declared.Link.{Link}
use Rattle.rules_event.specs.declared.Sender.{Sender}
use Rattle.rules_event.specs.Records.{link_at, sender_of}
use Rattle.event_links.specs.Inner.Records.{Placed, link_in}
use Rattle.event_links.specs.Inner.Six.{six_in}
use Rattle.event_links.specs.Inner.Side.{code_is}

-- the class and type as one number; 0 of an Error (wrong) and of what cannot be read
unfoldable pub type_in : Bool → Reading → ℕ
type_in wrong r = cond wrong 0 (cond (eqb r.code 0) (class_type_of r) 0)

-- Beat, Beat Ack, class 6 and any other (Rules 7.7, 7.14, 7.23); d is what one of class 6 does
unfoldable pub other_read : Effect → ℕ → Reading → Effect
other_read d p r =
    cond (eqb (class_type_of r) beat) (send (one_action p beat_ack 0 0))
    (cond (eqb (class_type_of r) beat_ack) (send [])
    (cond (eqb r.class 6 && from_asp r.msgtype) d (send (error p 6))))

-- nothing for an Error, and an Error for what cannot be read
unfoldable pub other_effect : Gateway → ℕ → Bool → Reading → Effect
other_effect g p wrong r =
    cond wrong (send []) (cond (eqb r.code 0) (other_read (class_six_effect g p r) p r) (send (error p r.code)))

-- the same of the records: there says that there is the link that the message names, which is k at l; s is
-- its sender
unfoldable pub other_in : Bool → ℕ → ℕ → Link → Sender → Bool → Reading → Effect
other_in there p l k s wrong r =
    cond wrong (send []) (cond (eqb r.code 0) (other_read (class_six_on there p l k s r) p r) (send (error p r.code)))

pub other_in_lem : (g : Gateway) (p : ℕ) (wrong : Bool) (r : Reading) (there : Bool) (i : ℕ) → Placed g.links (link_in g.links g.iid r) there i
    → other_in there p i (link_at g i) (sender_of g (owner_at g i) p) wrong r ≡ other_effect g p wrong r
unfolding other_in other_effect other_read link_of
other_in_lem g p wrong r there i h =
    ap (λ (d : Effect). cond wrong (send []) (cond (eqb r.code 0) (cond (eqb (class_type_of r) beat) (send (one_action p beat_ack 0 0)) (cond (eqb (class_type_of r) beat_ack) (send []) d)) (send (error p r.code))))
    (go (eqb r.class 6) h)
  where
    tree : Bool → Effect → Effect
    tree u d = cond (u && from_asp r.msgtype) d (send (error p 6))

    go : (u : Bool) → Placed g.links (cond u (index_of g.iid g.links r.id) g.links) there i
        → tree u (class_six_on there p i (link_at g i) (sender_of g (owner_at g i) p) r) ≡ tree u (class_six_effect g p r)
    go true q = ap (tree true) (six_in g p r there i q)
    go false q = refl

-- ---- a readable message, by its type

module _ (g : Gateway) (p : ℕ) (s : List ℕ) (r : Reading) where
  read_up : class_type_of r ≡ asp_up → read_effect g p s r ≡ up_effect g p r
  unfolding read_effect
  read_up e = rw e

  read_down : class_type_of r ≡ asp_down → read_effect g p s r ≡ down_effect g p
  unfolding read_effect
  read_down e = rw e

  read_active : class_type_of r ≡ asp_active → read_effect g p s r ≡ traffic_effect g p r (walk s 8).pars (active_effect g p r.mode)
  unfolding read_effect
  read_active e = rw e

  read_inactive : class_type_of r ≡ asp_inactive → read_effect g p s r ≡ traffic_effect g p r (walk s 8).pars (inactive_effect p)
  unfolding read_effect
  read_inactive e = rw e

  read_other : (class_type_of r ≡ asp_up → ⊥) → (class_type_of r ≡ asp_down → ⊥) → (class_type_of r ≡ asp_active → ⊥) → (class_type_of r ≡ asp_inactive → ⊥) → read_effect g p s r ≡ other_read (class_six_effect g p r) p r
  unfolding read_effect other_read
  read_other up down on off =
      rw (ne_eqb (class_type_of r) asp_up up, ne_eqb (class_type_of r) asp_down down, ne_eqb (class_type_of r) asp_active on, ne_eqb (class_type_of r) asp_inactive off)

-- ---- any message, by its type

-- a type is that of a message that is no Error and can be read
pub record Typed (wrong : Bool) (r : Reading) (t : ℕ) : Type 0 where
  pub right : wrong ≡ false
  pub code : r.code ≡ 0
  pub type : class_type_of r ≡ t

pub typed : (wrong : Bool) (r : Reading) (t : ℕ) → type_in wrong r ≡ t → (0 ≡ t → ⊥) → Typed wrong r t
unfolding type_in
typed wrong r t = go wrong (eqb r.code 0) refl
  where
    go : (u v : Bool) → eqb r.code 0 ≡ v → cond u 0 (cond v (class_type_of r) 0) ≡ t → (0 ≡ t → ⊥) → Typed u r t
    go true v f e n = absurd (n e)
    go false true f e n = record { right = refl; code = eqb-true r.code 0 f; type = e }
    go false false f e n = absurd (n e)

module _ (g : Gateway) (p : ℕ) (s : List ℕ) where
  message_read : (t : ℕ) → type_in (is_error s) (reading_of s) ≡ t → (0 ≡ t → ⊥) → message_effect g p s ≡ read_effect g p s (reading_of s)
  unfolding message_effect
  message_read t e n = let y = typed (is_error s) (reading_of s) t e n in rw (y.right, ← code_is s, eq-eqb (reading_of s).code 0 y.code)

  pub message_up : type_in (is_error s) (reading_of s) ≡ asp_up → message_effect g p s ≡ up_effect g p (reading_of s)
  message_up e = message_read asp_up e (λ z. omega arith) ∙ read_up g p s (reading_of s) (typed _ _ asp_up e (λ z. omega arith)).type

  pub message_down : type_in (is_error s) (reading_of s) ≡ asp_down → message_effect g p s ≡ down_effect g p
  message_down e = message_read asp_down e (λ z. omega arith) ∙ read_down g p s (reading_of s) (typed _ _ asp_down e (λ z. omega arith)).type

  pub message_active : type_in (is_error s) (reading_of s) ≡ asp_active → message_effect g p s ≡ traffic_effect g p (reading_of s) (walk s 8).pars (active_effect g p (reading_of s).mode)
  message_active e = message_read asp_active e (λ z. omega arith) ∙ read_active g p s (reading_of s) (typed _ _ asp_active e (λ z. omega arith)).type

  pub message_inactive : type_in (is_error s) (reading_of s) ≡ asp_inactive → message_effect g p s ≡ traffic_effect g p (reading_of s) (walk s 8).pars (inactive_effect p)
  message_inactive e = message_read asp_inactive e (λ z. omega arith) ∙ read_inactive g p s (reading_of s) (typed _ _ asp_inactive e (λ z. omega arith)).type

  pub message_other : (type_in (is_error s) (reading_of s) ≡ asp_up → ⊥) → (type_in (is_error s) (reading_of s) ≡ asp_down → ⊥) → (type_in (is_error s) (reading_of s) ≡ asp_active → ⊥) → (type_in (is_error s) (reading_of s) ≡ asp_inactive → ⊥) → message_effect g p s ≡ other_effect g p (is_error s) (reading_of s)
  unfolding message_effect other_effect type_in
  message_other = rw (← code_is s) (go (is_error s) (eqb (reading_of s).code 0))
    where
      go : (u v : Bool) → (cond u 0 (cond v (class_type_of (reading_of s)) 0) ≡ asp_up → ⊥) → (cond u 0 (cond v (class_type_of (reading_of s)) 0) ≡ asp_down → ⊥) → (cond u 0 (cond v (class_type_of (reading_of s)) 0) ≡ asp_active → ⊥) → (cond u 0 (cond v (class_type_of (reading_of s)) 0) ≡ asp_inactive → ⊥)
          → cond u (send []) (cond v (read_effect g p s (reading_of s)) (send (error p (reading_of s).code))) ≡ cond u (send []) (cond v (other_read (class_six_effect g p (reading_of s)) p (reading_of s)) (send (error p (reading_of s).code)))
      go true v a b c d = refl
      go false true a b c d = read_other g p s (reading_of s) a b c d
      go false false a b c d = refl

-- ---- class and type are bytes

pub class_small : (s : List ℕ) → get_or s 2 0 < 256 → (reading_of s).class < 256
unfolding reading_of outcome meaning
class_small s h = go (eqb (verdict s) 0)
  where
    go : (u : Bool) → (cond u (meaning (get_or s 2 0) (get_or s 3 0) (walk s 8).pars) (unreadable (verdict s))).class < 256
    go true = h
    go false = omega arith

pub type_small : (s : List ℕ) → get_or s 3 0 < 256 → (reading_of s).msgtype < 256
unfolding reading_of outcome meaning
type_small s h = go (eqb (verdict s) 0)
  where
    go : (u : Bool) → (cond u (meaning (get_or s 2 0) (get_or s 3 0) (walk s 8).pars) (unreadable (verdict s))).msgtype < 256
    go true = h
    go false = omega arith
