-- How the actions of an ASP's message begin: where an Ack of class 4 is among them it is the first, and an
-- Error stands behind it just where identifiers were refused. So what is lent to the writer stands for the
-- received parameters.
-- Assumes nothing.
use mathlib.Core.Path.{◌≡◌, refl, sym, ◌∙◌}
use mathlib.Core.Bool.{Bool, true, false, cond, ◌&&◌}
use mathlib.Core.List.{List, [], ◌∷◌, ◌++◌}
use Prim.Native.Nat.{ℕ, zero, suc, ◌<◌, ◌≤◌}
use native.Mathlib.Omega.{arith}
use lib.Dec.{eqb, ltb}
use lib.ListN.{length}
use borrow.Author.Tests.{lt-ltb, eqb-true}
use Rattle.laws.specs.Inner.Every.{or_case, clash}
use Rattle.laws.specs.Inner.Choice.{by_cond}
use Rattle.codec_wire.specs.Walk.{Par, walk}
use Rattle.codec_read.specs.Verdict.{verdict}
use Rattle.codec_read.specs.Meaning.{reading_of}
use Rattle.codec_put.specs.Bytes.{pars_bytes}
use Rattle.codec_select.specs.Only.{only}
use Rattle.state_tables.specs.declared.Gateway.{Gateway}
use Rattle.rules_action.specs.declared.Action.{Action}
use Rattle.rules_action.specs.Types.{mgmt_error, beat_ack, asp_active_ack, asp_inactive_ack}
use Rattle.rules_action.specs.Words.{action}
use Rattle.rules_server.specs.declared.Change.{Change}
use Rattle.rules_event.specs.Event.{message}
use Rattle.rules_event.specs.Identifiers.{first_refused}
use Rattle.rules_event.specs.Effect.{Effect, change_in, error2, actions_of}
use Rattle.rules_event.specs.Asp.{other_mode, active_effect, inactive_effect, traffic_effect}
use Rattle.rules_event.specs.Rules.{read_effect}
use Rattle.rules_event.specs.Sent.{actions_on, action_at}
use Rattle.send_message.specs.Message.{list_par, good_ids}
use Rattle.send_message.specs.Inner.Stands.{is_mode, is_traffic_ack, StandsFor, stands_self, stands_good, Lends}
use Rattle.send_reads.proofs.Each.{Each, each_more, each_at}
use Rattle.send_reads.proofs.Header.{and_none}
use Rattle.send_reads.proofs.Modes.{active_mode, inactive_mode}
use Rattle.send_reads.proofs.Effects.{Holds, each_change}
use Rattle.send_reads.proofs.Events.{Fine, say_none, say_one, says, fine_up, fine_down, six, by_names, by_type, by_message, row, unnamed}

-- ---- the actions

-- the first is an Ack of class 4, and the second an Error
unfoldable pub is_part : List Action → Bool
is_part os = (ltb 1 (length os) && is_traffic_ack (action_at os 0).classtype) && eqb (action_at os 1).classtype mgmt_error

-- no Ack of class 4
abbrev Plain : Action → Type 0
Plain o = is_traffic_ack o.classtype ≡ false

-- what the ASes' actions are: no such Ack, no Error, and no Beat Ack
record Quiet (o : Action) : Type 0 where
  ack : is_traffic_ack o.classtype ≡ false
  right : eqb o.classtype mgmt_error ≡ false
  beat : eqb o.classtype beat_ack ≡ false

plain : Holds Plain
plain =
    record {
      errors = λ p x n h. refl;
      notes = λ p a n h. refl;
      units = λ p id i. refl;
      sides = λ k x v e. e;
      up_acked = λ p. refl;
      down_acked = λ p. refl;
      data_acked = λ p x n. refl;
      established = λ p x v. refl;
      released = λ p x v. refl;
      stopped = λ p x v. refl;
    }

-- the traffic mode is short
abbrev Short : List Par → Type 0
Short ps = length (pars_bytes (only is_mode ps)) ≤ 8

-- of a message of p with the parameters ps: no such Ack; such an Ack, where none of its identifiers is
-- refused; or such an Ack and an Error, where one is
data Begins (g : Gateway) (p : ℕ) (ps : List Par) : List Action → Type 0 where
  no_ack : {os : List Action} → Each Plain os → Begins g p ps os
  acked : {k : ℕ} {os : List Action} → is_traffic_ack k ≡ true → (first_refused g p ps).found ≡ false → Each Quiet os → Begins g p ps (action p k 0 0 ∷ os)
  parted : {k x : ℕ} {os : List Action} → is_traffic_ack k ≡ true → (first_refused g p ps).found ≡ true → Short ps → Each Quiet os → Begins g p ps (action p k 0 0 ∷ action p mgmt_error x 2 ∷ os)

-- ---- every message begins so

module _ (g : Gateway) (p : ℕ) (ps : List Par) where
  unfoldable Starts : Effect → Type 0
  Starts d = Begins g p ps (actions_of g d)

  others : (d : Effect) → Fine Plain g d → Starts d
  unfolding Fine Starts
  others d h = no_ack h

  -- what is told beside the Ack
  data Told : List Action → Type 0 where
    nothing_told : (first_refused g p ps).found ≡ false → Told []
    first_told : {x : ℕ} → (first_refused g p ps).found ≡ true → Told (error2 p x)

  calm : (k : Change) (named : List Bool) → Each Quiet (actions_of g (change_in [] k named))
  calm k named = each_change (λ q a n h. record { ack = refl; right = refl; beat = refl }) (λ q id i. record { ack = refl; right = refl; beat = refl }) g k named

  starts : (k : ℕ) → is_traffic_ack k ≡ true → Short ps → (told : List Action) → Told told → (c : Change) (named : List Bool) → Starts (change_in (action p k 0 0 ∷ told) c named)
  unfolding Starts
  starts k a m told (nothing_told f) c named = acked a f (calm c named)
  starts k a m told (first_told f) c named = parted a f m (calm c named)

  module _ (m : Short ps) (told : List Action) (named : List Bool) (t : Told told) where
    on : (mode : ℕ) → Starts (active_effect g p mode told named)
    unfolding active_effect
    on mode = by_cond (other_mode g mode named) Starts (λ _. others _ (says plain g p 0 5 refl)) (λ _. starts asp_active_ack refl m told t _ named)

    off : Starts (inactive_effect p told named)
    unfolding inactive_effect
    off = starts asp_inactive_ack refl m told t _ named

module _ (g : Gateway) (p : ℕ) (s : List ℕ) where
  abbrev ps : List Par
  ps = (walk s 8).pars

  traffic : (act : List Action → List Bool → Effect) → verdict s ≡ 0 → ((told : List Action) (named : List Bool) → Told g p ps told → Starts g p ps (act told named)) → Starts g p ps (traffic_effect g p (reading_of s) ps act)
  traffic act e h =
      by_names (Starts g p ps) (Told g p ps) g p (reading_of s) ps act (unnamed s e g p)
      (others g p ps _ (says plain g p 0 6 refl)) (λ x. others g p ps _ (says plain g p x 2 refl)) (λ f. nothing_told f) (λ x f. first_told f) h

  read : verdict s ≡ 0 → Starts g p ps (read_effect g p s (reading_of s))
  read e =
      by_type (Starts g p ps) g p s (others g p ps _ (fine_up plain g p (reading_of s))) (others g p ps _ (fine_down plain g p))
      (λ h. others g p ps _ (say_one plain g _ refl)) (others g p ps _ (say_none plain g))
      (λ h. traffic (active_effect g p (reading_of s).mode) e (λ told named t. on g p ps (active_mode ps (row s e 4 1 (omega arith) h)) told named t (reading_of s).mode))
      (λ h. traffic (inactive_effect p) e (λ told named t. off g p ps (inactive_mode ps (row s e 4 2 (omega arith) h)) told named t))
      (others g p ps _ (six plain g p (reading_of s))) (others g p ps _ (says plain g p 0 6 refl))

  begins : Begins g p ps (actions_on g (message p s))
  unfolding Starts
  begins = by_message (Starts g p ps) g p s (others g p ps _ (say_none plain g)) (others g p ps _ (say_one plain g _ refl)) read

-- ---- what follows of each action

plain_part : (os : List Action) → Each Plain os → is_part os ≡ false
unfolding is_part action_at
plain_part [] h = refl
plain_part (o ∷ os) (each_more a h) = rw (a, and_none (ltb 1 (length (o ∷ os))))

acked_part : (o : Action) (os : List Action) → Each Quiet os → is_part (o ∷ os) ≡ false
unfolding is_part action_at
acked_part o [] h = refl
acked_part o (x ∷ os) (each_more q h) = rw (q.right, and_none)

parted_part : (p k x : ℕ) (os : List Action) → is_traffic_ack k ≡ true → is_part (action p k 0 0 ∷ action p mgmt_error x 2 ∷ os) ≡ true
unfolding is_part action_at
parted_part p k x os a = rw (lt-ltb 1 (length (action p k 0 0 ∷ action p mgmt_error x 2 ∷ os)) (omega arith), a)

ack_beat : (k : ℕ) → is_traffic_ack k ≡ true → eqb k beat_ack ≡ false
ack_beat k a = or_case (eqb k asp_active_ack) (eqb k asp_inactive_ack) a (λ e. let q = eqb-true k asp_active_ack e in rw q) (λ e. let q = eqb-true k asp_inactive_ack e in rw q)

module _ {g : Gateway} {p : ℕ} {ps : List Par} where
  ack_at : {os : List Action} → Begins g p ps os → (n : ℕ) → n < length os → is_traffic_ack (action_at os n).classtype ≡ true → ((action_at os n).to ≡ p) × ((first_refused g p ps).found ≡ is_part os)
  unfolding action_at
  ack_at {os} (no_ack h) n l t = clash _ (each_at os n _ h l) t
  ack_at (acked {k} {os} a f h) zero l t = (refl, f ∙ sym (acked_part (action p k 0 0) os h))
  ack_at (acked {k} {os} a f h) (suc n) l t = clash _ (each_at os n _ h (omega arith)).ack t
  ack_at (parted {k} {x} {os} a f m h) zero l t = (refl, f ∙ sym (parted_part p k x os a))
  ack_at (parted {k} {x} {os} a f m h) (suc zero) l t = clash _ refl t
  ack_at (parted {k} {x} {os} a f m h) (suc (suc n)) l t = clash _ (each_at os n _ h (omega arith)).ack t

  beat_at : {os : List Action} → Begins g p ps os → is_part os ≡ true → (n : ℕ) → n < length os → eqb (action_at os n).classtype beat_ack ≡ false
  unfolding action_at
  beat_at {os} (no_ack h) e n l = clash _ (plain_part os h) e
  beat_at (acked {k} {os} a f h) e n l = clash _ (acked_part (action p k 0 0) os h) e
  beat_at (parted {k} {x} {os} a f m h) e zero l = ack_beat k a
  beat_at (parted {k} {x} {os} a f m h) e (suc zero) l = refl
  beat_at (parted {k} {x} {os} a f m h) e (suc (suc n)) l = (each_at os n _ h (omega arith)).beat

  mode_of : {os : List Action} → Begins g p ps os → is_part os ≡ true → Short ps
  mode_of {os} (no_ack h) e = clash _ (plain_part os h) e
  mode_of (acked {k} {os} a f h) e = clash _ (acked_part (action p k 0 0) os h) e
  mode_of (parted a f m h) e = m

  -- qs are lent
  stands : {os : List Action} → Begins g p ps os → (qs : List Par) → qs ≡ cond (is_part os) (list_par (good_ids g p ps) ++ only is_mode ps) ps → (n : ℕ) → n < length os → StandsFor g ps qs (action_at os n)
  stands {os} b qs e n l = go (is_part os) refl e
    where
      go : (u : Bool) → is_part os ≡ u → qs ≡ cond u (list_par (good_ids g p ps) ++ only is_mode ps) ps → StandsFor g ps qs (action_at os n)
      go true z e = stands_good g p ps qs (action_at os n) e (beat_at b z n l) (λ t. ((ack_at b n l t).0, (ack_at b n l t).1 ∙ z))
      go false z e = rw e (stands_self g ps (action_at os n) (λ t. rw (ack_at b n l t).0 ((ack_at b n l t).1 ∙ z)))

-- ---- of a message of p

module _ (g : Gateway) (p : ℕ) (s : List ℕ) where
  -- such an Ack tells whether identifiers were refused
  pub ack_tells : (n : ℕ) → n < length (actions_on g (message p s)) → is_traffic_ack (action_at (actions_on g (message p s)) n).classtype ≡ true → (first_refused g p (walk s 8).pars).found ≡ is_part (actions_on g (message p s))
  ack_tells n l t = (ack_at (begins g p s) n l t).1

  -- the traffic mode of one whose identifiers were refused in part
  pub mode_short : is_part (actions_on g (message p s)) ≡ true → length (pars_bytes (only is_mode (walk s 8).pars)) ≤ 8
  mode_short e = mode_of (begins g p s) e

  -- in such a case a message that names the good ones is lent, else its own
  pub lends_message : (x : List ℕ) → (walk x 8).pars ≡ cond (is_part (actions_on g (message p s))) (list_par (good_ids g p (walk s 8).pars) ++ only is_mode (walk s 8).pars) (walk s 8).pars
      → (n : ℕ) → n < length (actions_on g (message p s)) → Lends g (message p s) x (action_at (actions_on g (message p s)) n)
  lends_message x e n l = stands (begins g p s) (walk x 8).pars e n l
