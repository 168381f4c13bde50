-- The parameters lent to the writer, where they are not those of the received message: what an answer repeats
-- of the one list is the same of the other.
-- Assumes nothing.
use Rattle.std.specs.Prelude.{◌≡◌, ℕ, Bool, ◌||◌, length, eqb}
use Rattle.std.proofs.Math.Path.{refl, ap}
use Rattle.std.proofs.Common.{◌∙◌, eqb-true}
use Rattle.std.proofs.Math.Bool.{true, false, cond}
use mathlib.Core.List.{List, [], ◌∷◌, ◌++◌, append-nil}
use Rattle.laws.specs.Inner.Every.{clash}
use Rattle.codec_wire.specs.Walk.{Par, walk}
use Rattle.codec_put.specs.Bytes.{par}
use Rattle.codec_select.specs.Only.{only}
use Rattle.state_tables.specs.declared.Gateway.{Gateway}
use Rattle.rules_action.specs.declared.Action.{Action}
use Rattle.rules_action.specs.Types.{beat_ack, asp_active_ack, asp_inactive_ack}
use Rattle.rules_event.specs.Event.{EventKind, message, lost, recovery, link_up, link_down, link_message}
use Rattle.rules_event.specs.Identifiers.{is_ids, first_refused}
use Rattle.send_message.specs.Message.{list_par, good_ids, traffic_ack_pars, beat_ack_pars}

-- ---- some of a list's parameters

abbrev pub is_mode : ℕ → Bool
is_mode t = eqb t 0xb

pub mode_other : (t : ℕ) → is_mode t ≡ true → is_ids t ≡ false
mode_other t e = let q = eqb-true t 0xb e in rw q

module _ (f : ℕ → Bool) where
  pub only_append : (xs ys : List Par) → only f (xs ++ ys) ≡ only f xs ++ only f ys
  unfolding only
  only_append [] ys = refl
  only_append (x ∷ xs) ys = go (f x.tag) (only_append xs ys)
    where
      go : (b : Bool) → only f (xs ++ ys) ≡ only f xs ++ only f ys → cond b (x ∷ only f (xs ++ ys)) (only f (xs ++ ys)) ≡ cond b (x ∷ only f xs) (only f xs) ++ only f ys
      go true e = ap (λ (l : List Par). x ∷ l) e
      go false e = e

  pub only_again : (ps : List Par) → only f (only f ps) ≡ only f ps
  unfolding only
  only_again [] = refl
  only_again (p ∷ ps) = go (f p.tag) refl (only_again ps)
    where
      go : (b : Bool) → f p.tag ≡ b → only f (only f ps) ≡ only f ps → only f (cond b (p ∷ only f ps) (only f ps)) ≡ cond b (p ∷ only f ps) (only f ps)
      go true z e = rw z (ap (λ (l : List Par). p ∷ l) e)
      go false z e = e

  -- of those, the ones that pass a test which no such tag passes
  pub only_other : (h : ℕ → Bool) → ((t : ℕ) → f t ≡ true → h t ≡ false) → (ps : List Par) → only h (only f ps) ≡ []
  unfolding only
  only_other h d [] = refl
  only_other h d (p ∷ ps) = go (f p.tag) refl (only_other h d ps)
    where
      go : (b : Bool) → f p.tag ≡ b → only h (only f ps) ≡ [] → only h (cond b (p ∷ only f ps) (only f ps)) ≡ []
      go true z e = rw (d p.tag z) e
      go false z e = e

-- a list of identifiers in one parameter, and behind it a traffic mode
module _ (v : List ℕ) (ps : List Par) where
  list_modes : only is_mode (list_par v) ≡ []
  unfolding only
  list_modes = go (eqb (length v) 0)
    where
      go : (b : Bool) → only is_mode (cond b [] (par 0x1 v ∷ [])) ≡ []
      go true = refl
      go false = refl

  list_ids : only is_ids (list_par v) ≡ list_par v
  unfolding only
  list_ids = go (eqb (length v) 0)
    where
      go : (b : Bool) → only is_ids (cond b [] (par 0x1 v ∷ [])) ≡ cond b [] (par 0x1 v ∷ [])
      go true = refl
      go false = refl

  pub modes_of : only is_mode (list_par v ++ only is_mode ps) ≡ only is_mode ps
  modes_of = only_append is_mode (list_par v) (only is_mode ps) ∙ rw list_modes (only_again is_mode ps)

  pub ids_of_lem : only is_ids (list_par v ++ only is_mode ps) ≡ list_par v
  ids_of_lem = only_append is_ids (list_par v) (only is_mode ps) ∙ rw (list_ids, only_other is_mode is_ids mode_other ps) (append-nil (list_par v))

-- ---- lists that stand for the received one

-- the Acks of class 4 (Rule 8.11)
abbrev pub is_traffic_ack : ℕ → Bool
is_traffic_ack ct = eqb ct asp_active_ack || eqb ct asp_inactive_ack

-- in the answer o, qs stand for the received ps
pub record StandsFor (g : Gateway) (ps qs : List Par) (o : Action) : Type 0 where
  pub beats : eqb o.classtype beat_ack ≡ true → beat_ack_pars qs ≡ beat_ack_pars ps
  pub traffics : is_traffic_ack o.classtype ≡ true → only is_mode qs ++ only is_ids qs ≡ traffic_ack_pars g o.to ps

-- they do so themselves, but in an Ack of class 4 where an identifier was refused
pub stands_self : (g : Gateway) (ps : List Par) (o : Action) → (is_traffic_ack o.classtype ≡ true → (first_refused g o.to ps).found ≡ false) → StandsFor g ps ps o
unfolding traffic_ack_pars
stands_self g ps o h = record { beats = λ e. refl; traffics = λ e. rw (h e) }

-- and there it is the good ones, with the traffic mode
pub stands_good : (g : Gateway) (p : ℕ) (ps qs : List Par) (o : Action) → qs ≡ list_par (good_ids g p ps) ++ only is_mode ps → eqb o.classtype beat_ack ≡ false
    → (is_traffic_ack o.classtype ≡ true → (o.to ≡ p) × ((first_refused g p ps).found ≡ true)) → StandsFor g ps qs o
unfolding traffic_ack_pars
stands_good g p ps qs o e b h =
    record {
      beats = λ z. clash (eqb o.classtype beat_ack) b z;
      traffics = λ z. rw (e, (h z).0, modes_of (good_ids g p ps) ps, ids_of_lem (good_ids g p ps) ps, (h z).1);
    }

-- a message without parameters stands for itself in every answer
pub stands_none : (g : Gateway) (o : Action) → StandsFor g [] [] o
unfolding first_refused
stands_none g o = stands_self g [] o (λ e. refl)

-- the message x lent to the writer of the action o of an event: what the link side sent as it is; another
-- event's message, or what stands for it
abbrev pub Lends : Gateway → EventKind → List ℕ → Action → Type 0
Lends g (message p s) x o = StandsFor g (walk s 8).pars (walk x 8).pars o
Lends g (lost p) x o = x ≡ []
Lends g (recovery a) x o = x ≡ []
Lends g (link_up l) x o = x ≡ []
Lends g (link_down l) x o = x ≡ []
Lends g (link_message s) x o = x ≡ s
