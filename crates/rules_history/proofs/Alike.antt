-- What an accepted event does hangs on what it reads alone: the plan, its own controller's up flag, and the
-- records, link states and units of the ASes that it reaches. Kind by kind: g with the contents of g', which
-- are alike there.
-- Assumes nothing.
use mathlib.Core.Path.{◌≡◌, refl, sym, ap, ◌∙◌}
use mathlib.Core.Bool.{Bool, true, false, ◌&&◌, ◌||◌, not, cond}
use mathlib.Core.List.{List, [], ◌∷◌, ◌++◌}
use Prim.Native.Nat.{ℕ, ◌+◌, ◌*◌, ◌%◌, ◌<◌}
use native.Mathlib.Omega.{arith}
use lib.Dec.{eqb, ltb}
use borrow.Author.Tests.{ltb-true, eq-eqb, not-false}
use Rattle.laws.specs.Below.{count_below}
use Rattle.laws.specs.Inner.Below.{any_ext}
use Rattle.laws.specs.Inner.Count.{count_ext}
use Rattle.laws.specs.Inner.Every.{and_left, and_both, clash, false_of}
use Rattle.laws.specs.Columns.{is_set, number_at}
use Rattle.laws.specs.Inner.Columns.{tabulate_ext}
use Rattle.codec_wire.specs.Walk.{Par, walk}
use Rattle.codec_read.specs.Verdict.{verdict}
use Rattle.codec_read.specs.Meaning.{reading_of}
use Rattle.codec_read.specs.declared.Reading.{Reading}
use Rattle.state_tables.specs.Sound.{pair, most_held, is_sound}
use Rattle.state_tables.specs.Sound as sound
use Rattle.state_tables.specs.Inner.Laws.{active_is_member, counts_within}
use Rattle.state_tables.specs.declared.Gateway.{Gateway}
use Rattle.state_lookup.specs.Servers.{receives, before}
use Rattle.state_ranges.specs.Named.{Refused}
use Rattle.rules_server.specs.declared.Change.TheVariants.{AspUp, Activate}
use Rattle.rules_action.specs.Words.{to_all}
use Rattle.rules_action.specs.Types.{asp_active_ack, asp_up_ack, asp_up, asp_down, beat, beat_ack, asp_active, asp_inactive, establish_confirm, release_confirm, release_indication}
use Rattle.rules_server.specs.declared.AsRecord.{AsRecord}
use Rattle.rules_server.specs.Record.{some, record_of, state_in}
use Rattle.rules_event.specs.Event.{EventKind, message, lost, recovery, link_up, link_down, link_message}
use Rattle.rules_event.specs.Identifiers.{first_refused, owns_good, owners_good, is_known, link_of, owner_at, is_member}
use Rattle.rules_action.specs.declared.Action.{Action}
use Rattle.rules_event.specs.Effect.{Effect, send, set_link, change_in, take_in, one_action, error, error2}
use Rattle.rules_event.specs.Asp.{ases_of, active_ases, up_effect, down_effect, lost_effect, other_mode, active_effect, part_effect, traffic_effect}
use Rattle.rules_event.specs.Records.{link_at, owner_of}
use Rattle.rules_event.specs.Link.{can_have, link_effect, class_six_on, class_six_effect, recipients_of, recipients_at, to_recipients, link_up_on, link_up_effect, link_down_on, link_down_effect, is_pending, arrival, hold_effect, link_message_on, link_message_effect, starting, idle, in_service, stopping}
use Rattle.rules_event.specs.Inner.TakeIn.{planned}
use Rattle.rules_event.specs.Rules.{is_error, class_type_of, from_asp, read_effect, message_effect, effect_of, in_plan}
use Rattle.rules_event.specs.Reach.{owns_id, read_reach, message_reach, kind_reach, from_controller}
use Rattle.rules_keeps.proofs.Next.{known_below}
use Rattle.rules_history.proofs.Bits.{cond_same, cond_both}
use Rattle.rules_servers.specs.Inner.Records.{column_at}
use Rattle.rules_history.proofs.Servers.{dyn, same_record}
use Rattle.rules_history.proofs.Units.{Column, counts, column, as_of}
use Rattle.rules_history.proofs.Within.{Reaches, owner_in, member_in, asps_16, reach_up, reach_six, neither}

-- g' has what g has, at an event's own controller and in the ASes of R
pub record Alike (g : Gateway) (R own : ℕ → Bool) (g' : Gateway) : Type 0 where
  pub mine : (q : ℕ) → q < 16 → own q ≡ true → number_at g'.up q ≡ number_at g.up q
  pub ups : (a q : ℕ) → a < 16 → q < 16 → R a ≡ true → is_member g a q ≡ true → number_at g'.up q ≡ number_at g.up q
  pub acts : (a q : ℕ) → a < 16 → q < 16 → R a ≡ true → number_at g'.active (pair a q) ≡ number_at g.active (pair a q)
  pub waits : (a : ℕ) → a < 16 → R a ≡ true → number_at g'.waiting a ≡ number_at g.waiting a
  pub lines : (l : ℕ) → R (owner_at g l) ≡ true → number_at g'.state l ≡ number_at g.state l
  pub units : (c : Column) (i : ℕ) → R (as_of c i) ≡ true → number_at (column c g'.held) i ≡ number_at (column c g.held) i

flag : {x y : ℕ} → x ≡ y → eqb x 1 ≡ eqb y 1
flag e = ap (λ (x : ℕ). eqb x 1) e

-- ---- what hangs on the plan alone

module _ (g : Gateway) (g' : Gateway) where
  pub refused_plan : (p : ℕ) (ps : List Par) → first_refused (dyn g g') p ps ≡ first_refused g p ps
  unfolding first_refused
  refused_plan p [] = refl
  refused_plan p (x ∷ ps) = rw (refused_plan p ps)

  pub owns_plan : (p : ℕ) (ps : List Par) (a : ℕ) → owns_good (dyn g g') p ps a ≡ owns_good g p ps a
  unfolding owns_good
  owns_plan p ps a = refl

  owners_plan : (p : ℕ) (ps : List Par) → owners_good (dyn g g') p ps ≡ owners_good g p ps
  unfolding owners_good
  owners_plan p ps = tabulate_ext false 16 _ _ (λ a b. owns_plan p ps a)

  other_plan : (mode : ℕ) (named : List Bool) → other_mode (dyn g g') mode named ≡ other_mode g mode named
  unfolding other_mode
  other_plan mode named = refl

  active_plan : (p mode : ℕ) (told : List Action) (n : List Bool) → active_effect (dyn g g') p mode told n ≡ active_effect g p mode told n
  unfolding active_effect
  active_plan p mode told n = ap (λ (t : Bool). cond t (send (error p 5)) (change_in (one_action p asp_active_ack 0 0 ++ told) (Activate p) n)) (other_plan mode n)

  pub in_plan_lem : (k : EventKind) → in_plan (dyn g g') k ≡ in_plan g k
  unfolding is_known link_of can_have
  in_plan_lem (message p m) = refl
  in_plan_lem (lost p) = refl
  in_plan_lem (recovery a) = refl
  in_plan_lem (link_up l) = refl
  in_plan_lem (link_down l) = refl
  in_plan_lem (link_message m) = refl

  pub reach_plan : (k : EventKind) (a : ℕ) → kind_reach (dyn g g') k a ≡ kind_reach g k a
  unfolding is_known link_of owns_id message_reach read_reach
  reach_plan (message p m) a = rw (owns_plan p (walk m 8).pars a)
  reach_plan (lost p) a = refl
  reach_plan (recovery b) a = refl
  reach_plan (link_up l) a = refl
  reach_plan (link_down l) a = refl
  reach_plan (link_message m) a = refl

-- a known identifier's owner owns it
owns_own : (g : Gateway) (x : ℕ) → is_known g x ≡ true → owns_id g x (owner_at g (link_of g x)) ≡ true
unfolding owns_id
owns_own g x y = and_both (is_known g x) (eqb (owner_at g (link_of g x)) (owner_at g (link_of g x))) y (eq-eqb (owner_at g (link_of g x)) (owner_at g (link_of g x)) refl)

-- fewer ASes
narrow : (g : Gateway) (R R' own : ℕ → Bool) (g' : Gateway) → ((a : ℕ) → R a ≡ true → R' a ≡ true) → Alike g R' own g' → Alike g R own g'
narrow g R R' own g' h k =
    record {
      mine = k.mine;
      ups = λ a q b d e. k.ups a q b d (h a e);
      acts = λ a q b d e. k.acts a q b d (h a e);
      waits = λ a b e. k.waits a b (h a e);
      lines = λ l e. k.lines l (h (owner_at g l) e);
      units = λ c i e. k.units c i (h (as_of c i) e);
    }

-- the record of an AS reached
pub record_alike : (g : Gateway) (R own : ℕ → Bool) (g' : Gateway) → Alike g R own g' → (a : ℕ) → a < 16 → R a ≡ true → record_of (dyn g g') a ≡ record_of g a
record_alike g R own g' k a b r =
    same_record g'.up g.up g.member g'.active g.active g'.waiting g.waiting g.mode a (λ q d m. k.ups a q b d r m) (λ q d. k.acts a q b d r) (k.waits a b r)

-- ---- what hangs on the rest

module _ (g : Gateway) (g' : Gateway) (ok : is_sound g ≡ true) (ok' : is_sound (dyn g g') ≡ true) where
  -- an ASP is active in its own ASes alone
  active_alike : (R own : ℕ → Bool) → Alike g R own g' → (p : ℕ) → p < 16 → ((a : ℕ) → a < 16 → is_member g a p ≡ true → R a ≡ true) → some (active_ases (dyn g g') p) ≡ some (active_ases g p)
  unfolding some
  active_alike R own k p b h =
      any_ext _ _ 16 (λ a d. column_at g'.active p a d ∙ go a d (is_member g a p) refl ∙ sym (column_at g.active p a d))
    where
      go : (a : ℕ) → a < 16 → (t : Bool) → is_member g a p ≡ t → is_set g'.active (pair a p) ≡ is_set g.active (pair a p)
      go a d true m = flag (k.acts a p d b (h a d m))
      go a d false m =
          false_of (is_set g'.active (pair a p)) (λ e. clash (is_member g a p) m (active_is_member (dyn g g') ok' a p d b e).0)
          ∙ sym (false_of (is_set g.active (pair a p)) (λ e. clash (is_member g a p) m (active_is_member g ok a p d b e).0))

  -- the recipients of a link reached
  recipients_alike : (R own : ℕ → Bool) → Alike g R own g' → (l : ℕ) → owner_at g l < 16 → R (owner_at g l) ≡ true → recipients_at (dyn g g') l ≡ recipients_at g l
  unfolding recipients_of receives before sound.active_in
  recipients_alike R own k l b r =
      tabulate_ext false 16 _ _
      (λ q d j. at_q q d j && (not (eqb (number_at g.mode (owner_at g l)) 2) || eqb (below q d j) (number_at g.iid l % every j)))
    where
      at_q : (q : ℕ) → q < 16 → is_set g'.active (pair (owner_at g l) q) ≡ is_set g.active (pair (owner_at g l) q)
      at_q q d = flag (k.acts (owner_at g l) q b d r)

      below : (q : ℕ) → q < 16 → count_below (λ i. is_set g'.active (pair (owner_at g l) i)) q ≡ count_below (λ i. is_set g.active (pair (owner_at g l) i)) q
      below q d = count_ext _ _ q (λ i e. at_q i (omega arith))

      every : count_below (λ i. is_set g'.active (pair (owner_at g l) i)) 16 ≡ count_below (λ i. is_set g.active (pair (owner_at g l) i)) 16
      every = count_ext _ _ 16 at_q

  told_alike : (R own : ℕ → Bool) → Alike g R own g' → (l n : ℕ) → owner_at g l < 16 → R (owner_at g l) ≡ true → to_recipients (recipients_at (dyn g g') l) (link_at (dyn g g') l) n ≡ to_recipients (recipients_at g l) (link_at g l) n
  unfolding to_recipients
  told_alike R own k l n b r = ap (λ (x : List Bool). to_all x n (number_at g.iid l) 0) (recipients_alike R own k l b r)

  owner_16 : (l : ℕ) → l < g.links → owner_at g l < 16
  owner_16 l b = omega (arith, (counts_within g ok).ases, ltb-true (owner_at g l) g.ases (owner_in g ok l b))

  module _ (p : ℕ) (b : p < g.asps) where
    up_alike : (R : ℕ → Bool) → Alike g R (eqb p) g' → ((a : ℕ) → a < 16 → is_member g a p ≡ true → R a ≡ true) → (r : Reading) → up_effect (dyn g g') p r ≡ up_effect g p r
    unfolding up_effect
    up_alike R k h r =
        cond_same (eqb r.identified 1 && not (eqb r.aspid (number_at g.aspid p))) (λ _. refl)
        (λ _. ap (λ (t : Bool). change_in (one_action p asp_up_ack 0 0 ++ cond t (error p 6) []) (AspUp p) (ases_of g p)) (active_alike R (eqb p) k p (asps_16 g ok p b) h))

    mine_alike : (R : ℕ → Bool) → Alike g R (eqb p) g' → is_set g'.up p ≡ is_set g.up p
    mine_alike R k = flag (k.mine p (asps_16 g ok p b) (eq-eqb p p refl))

    part_alike : (act' act : List Action → List Bool → Effect) → ((told : List Action) (n : List Bool) → act' told n ≡ act told n) → (x : ℕ) {good' good : List Bool} → good' ≡ good → part_effect (dyn g g') p x good' act' ≡ part_effect g p x good act
    unfolding part_effect
    part_alike act' act h x {good'} {good} e =
        ap (λ (n : List Bool). cond (is_set g.wholelists p || not (some n)) (send (error2 p x)) (act' (error2 p x) n)) e
        ∙ cond_same (is_set g.wholelists p || not (some good)) (λ _. refl) (λ _. h (error2 p x) good)

    traffic_alike : (R : ℕ → Bool) → Alike g R (eqb p) g' → (r : Reading) (ps : List Par) (act' act : List Action → List Bool → Effect) → ((told : List Action) (n : List Bool) → act' told n ≡ act told n) → traffic_effect (dyn g g') p r ps act' ≡ traffic_effect g p r ps act
    unfolding traffic_effect
    traffic_alike R k r ps act' act h =
        cond_both (not (is_set g.up p)) (ap not (mine_alike R k)) (λ _. refl)
        (λ _. cond_same (eqb r.ids 1)
        (λ _. cond_both (first_refused g p ps).found (ap (λ (x : Refused). x.found) (refused_plan g g' p ps))
        (λ _. ap (λ (x : Refused). part_effect (dyn g g') p x.id (owners_good (dyn g g') p ps) act') (refused_plan g g' p ps) ∙ part_alike act' act h (first_refused g p ps).id (owners_plan g g' p ps))
        (λ _. ap (act' []) (owners_plan g g' p ps) ∙ h [] (owners_good g p ps)))
        (λ _. cond_same (some (ases_of g p)) (λ _. h [] (ases_of g p)) (λ _. refl)))

    six_alike : (R : ℕ → Bool) → Alike g R (eqb p) g' → (r : Reading) → (is_known g r.id ≡ true → R (owner_at g (link_of g r.id)) ≡ true) → class_six_effect (dyn g g') p r ≡ class_six_effect g p r
    unfolding class_six_effect class_six_on can_have is_known link_of
    six_alike R k r h =
        cond_both (not (is_set g.up p)) (ap not (mine_alike R k)) (λ _. refl)
        (λ _. cond_same (not (is_known g r.id && is_member g (owner_at g (link_of g r.id)) p)) (λ _. refl)
        (λ n.
        let y = and_left (is_known g r.id) _ (not-false (is_known g r.id && is_member g (owner_at g (link_of g r.id)) p) n) in
        let o = owner_16 (link_of g r.id) (known_below g ok r.id y) in
        cond_both (not (is_set g.active (pair (owner_at g (link_of g r.id)) p))) (ap not (flag (k.acts (owner_at g (link_of g r.id)) p o (asps_16 g ok p b) (h y))))
        (λ _. refl)
        (λ _. cond_same (not (can_have (link_at g (link_of g r.id)) r.sequence)) (λ _. refl)
        (λ _. ap (λ (x : ℕ). link_effect p r.id (link_of g r.id) (record { id = number_at g.iid (link_of g r.id); owner = owner_at g (link_of g r.id); state = x; highspeed = number_at g.highspeed (link_of g r.id) }) r) (k.lines (link_of g r.id) (h y))))))

    read_alike : (m : List ℕ) (r : Reading) → Alike g (λ a. ltb a g.ases && read_reach g p m r a) (eqb p) g' → read_effect (dyn g g') p m r ≡ read_effect g p m r
    unfolding read_effect down_effect
    read_alike m r k =
        cond_same (eqb (class_type_of r) asp_up) (λ t. up_alike R k (λ a d e. and_both (ltb a g.ases) (read_reach g p m r a) (member_in g ok p a b d e) (reach_up g ok p b m r a t e)) r)
        (λ n₁. cond_same (eqb (class_type_of r) asp_down) (λ _. refl)
        (λ n₂. cond_same (eqb (class_type_of r) beat) (λ _. refl)
        (λ _. cond_same (eqb (class_type_of r) beat_ack) (λ _. refl)
        (λ _. cond_same (eqb (class_type_of r) asp_active) (λ _. traffic_alike R k r (walk m 8).pars _ _ (active_plan g g' p r.mode))
        (λ n₃. cond_same (eqb (class_type_of r) asp_inactive) (λ _. traffic_alike R k r (walk m 8).pars _ _ (λ t n. refl))
        (λ n₄. cond_same (eqb r.class 6 && from_asp r.msgtype)
        (λ t. six_alike R k r
        (λ y.
        let o = owner_at g (link_of g r.id) in
        and_both (ltb o g.ases) (read_reach g p m r o) (owner_in g ok (link_of g r.id) (known_below g ok r.id y))
        (reach_six g ok p b m r o (neither (eqb (class_type_of r) asp_up) (eqb (class_type_of r) asp_down) n₁ n₂) (neither (eqb (class_type_of r) asp_active) (eqb (class_type_of r) asp_inactive) n₃ n₄) (and_left (eqb r.class 6) _ t) (owns_own g r.id y))))
        (λ _. refl)))))))
      where
        R : ℕ → Bool
        R = λ a. ltb a g.ases && read_reach g p m r a

    message_alike : (m : List ℕ) → Alike g (Reaches g (message p m)) (eqb p) g' → message_effect (dyn g g') p m ≡ message_effect g p m
    unfolding message_effect message_reach
    message_alike m k =
        cond_same (is_error m) (λ _. refl)
        (λ n. cond_same (eqb (verdict m) 0)
        (λ v. read_alike m (reading_of m) (narrow g _ (Reaches g (message p m)) (eqb p) g' (λ a e. rw (n, v) e) k)) (λ _. refl))

  -- ---- units

  pending_alike : (R own : ℕ → Bool) → Alike g R own g' → (a : ℕ) → a < 16 → R a ≡ true → is_pending (dyn g g') a ≡ is_pending g a
  unfolding is_pending
  pending_alike R own k a b r = ap (λ (z : AsRecord). eqb (state_in z) 4) (record_alike g R own g' k a b r)

  hold_alike : (R own : ℕ → Bool) → Alike g R own g' → (m : List ℕ) (z : Reading) (a : ℕ) → R a ≡ true → hold_effect m z a (owner_of (dyn g g') a) ≡ hold_effect m z a (owner_of g a)
  unfolding hold_effect
  hold_alike R own k m z a r = ap (λ (n : ℕ). cond (ltb n most_held) (take_in a (arrival m z)) (send [])) (k.units counts a r)

  -- ---- every kind

  link_reached : (l : ℕ) → l < g.links → (ltb (owner_at g l) g.ases && eqb (owner_at g l) (owner_at g l)) ≡ true
  link_reached l b = and_both (ltb (owner_at g l) g.ases) (eqb (owner_at g l) (owner_at g l)) (owner_in g ok l b) (eq-eqb (owner_at g l) (owner_at g l) refl)

  pub effect_alike : (k : EventKind) → in_plan g k ≡ true → Alike g (Reaches g k) (from_controller k) g' → effect_of (dyn g g') k ≡ effect_of g k
  unfolding lost_effect link_up_effect link_up_on link_down_effect link_down_on link_message_effect link_message_on link_of
  effect_alike (message p m) i h = message_alike p (ltb-true p g.asps i) m h
  effect_alike (lost p) i h = refl
  effect_alike (recovery a) i h = refl
  effect_alike (link_up l) i h =
      let b = ltb-true l g.links i in
      cond_both (eqb (number_at g.state l) starting) (ap (λ (x : ℕ). eqb x starting) (h.lines l (link_reached l b)))
      (λ _. ap (set_link l in_service) (told_alike (Reaches g (link_up l)) (λ q. false) h l establish_confirm (owner_16 l b) (link_reached l b))) (λ _. refl)
  effect_alike (link_down l) i h =
      let b = ltb-true l g.links i in
      let e = h.lines l (link_reached l b) in
      cond_both (eqb (number_at g.state l) idle) (ap (λ (x : ℕ). eqb x idle) e) (λ _. refl)
      (λ _. ap (λ (x : ℕ). set_link l idle (to_recipients (recipients_at (dyn g g') l) (link_at (dyn g g') l) (cond (eqb x stopping) release_confirm release_indication))) e
      ∙ ap (set_link l idle) (told_alike (Reaches g (link_down l)) (λ q. false) h l (cond (eqb (number_at g.state l) stopping) release_confirm release_indication) (owner_16 l b) (link_reached l b)))
  effect_alike (link_message m) i h =
      let x = (reading_of m).id in
      let y = (planned g m i).known in
      let b = known_below g ok x y in
      let o = owner_at g (link_of g x) in
      let d = owner_16 (link_of g x) b in
      let r = and_both (ltb o g.ases) (owns_id g x o) (owner_in g ok (link_of g x) b) (owns_own g x y) in
      cond_both (eqb (reading_of m).msgtype 1 && is_pending g o)
      (ap (λ (t : Bool). eqb (reading_of m).msgtype 1 && t) (pending_alike (Reaches g (link_message m)) (λ q. false) h o d r))
      (λ _. hold_alike (Reaches g (link_message m)) (λ q. false) h m (reading_of m) o r)
      (λ _. ap send (told_alike (Reaches g (link_message m)) (λ q. false) h (link_of g x) ((reading_of m).class * 256 + (reading_of m).msgtype) d r))
