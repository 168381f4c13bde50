-- What an accepted event may do lies within its reach: the ASes that its change names, the link that it
-- turns, the AS that takes its unit in. Kind by kind.
-- Assumes nothing.
use mathlib.Core.Path.{◌≡◌, refl, sym, ◌∙◌}
use mathlib.Core.Bool.{Bool, true, false, ◌&&◌, ◌||◌, not}
use mathlib.Core.List.{List, []}
use Prim.Native.Nat.{ℕ, ◌<◌, ◌≤◌}
use native.Mathlib.Omega.{arith}
use lib.Dec.{eqb, ltb}
use borrow.Author.Tests.{lt-ltb, ltb-true, eqb-true, eq-eqb, not-false}
use Rattle.laws.specs.Inner.Every.{and_left, and_right, and_both, clash}
use Rattle.laws.specs.Inner.Choice.{by_cond}
use Rattle.laws.specs.Columns.{flag_at, is_set, number_at, tabulate}
use Rattle.laws.specs.Inner.Columns.{get_d_tabulate}
use Rattle.codec_wire.specs.Walk.{Par, walk}
use Rattle.codec_read.specs.Verdict.{verdict}
use Rattle.codec_read.specs.Meaning.{reading_of}
use Rattle.codec_read.specs.declared.Reading.{Reading}
use Rattle.state_tables.specs.Sound.{pair, is_sound}
use Rattle.state_tables.specs.Inner.Laws.{counts_within, owner_within, member_within}
use Rattle.state_tables.specs.declared.Gateway.{Gateway}
use Rattle.state_ranges.specs.Named.{is_owned_by}
use Rattle.rules_action.specs.declared.Action.{Action}
use Rattle.rules_action.specs.Types.{asp_up, asp_down, asp_active, asp_inactive, beat, beat_ack}
use Rattle.rules_server.specs.declared.Arrival.{Arrival}
use Rattle.rules_server.specs.declared.Change.{Change}
use Rattle.rules_server.specs.declared.Change.TheVariants.{AspUp, AspDown, Recover}
use Rattle.rules_server.specs.Record.{some}
use Rattle.rules_servers.specs.Inner.Records.{moves, NamesOwn, names_own, column_at}
use Rattle.rules_event.specs.Event.{EventKind, message, lost, recovery, link_up, link_down, link_message}
use Rattle.rules_event.specs.Identifiers.{names_some, first_refused, owns_good, owners_good, is_known, link_of, owner_at, is_member}
use Rattle.rules_event.specs.Effect.{Effect, send, set_link, change_in, take_in, error2}
use Rattle.rules_event.specs.Asp.{ases_of, up_effect, down_effect, lost_effect, other_mode, active_effect, inactive_effect, part_effect, traffic_effect}
use Rattle.rules_event.specs.Link.{starting, in_service, stopping, idle, establish, release, data_effect, can_have, link_effect, class_six_on, class_six_effect, link_up_on, link_up_effect, link_down_on, link_down_effect}
use Rattle.rules_event.specs.Records.{link_at}
use Rattle.rules_event.specs.Rules.{is_error, class_type_of, from_asp, read_effect, message_effect, effect_of, in_plan}
use Rattle.rules_event.specs.Reach.{owns_id, read_reach, message_reach, kind_reach, from_controller}
use Rattle.rules_event.specs.Inner.TakeIn.{Takes, link_cases, taken_in}
use Rattle.rules_keeps.proofs.Next.{known_below}
use Rattle.rules_history.proofs.Bits.{or_left, or_right}

-- A change in the ASes named, by an event that reaches the ASes of R and is of the controllers of `own`: it
-- names only what it reaches; whom it sets up or down is its own controller, and all ASes of that one are
-- named.
pub record In (g : Gateway) (R own : ℕ → Bool) (k : Change) (named : List Bool) : Type 0 where
  pub reached : (a : ℕ) → a < 16 → flag_at named a ≡ true → R a ≡ true
  pub mine : (q : ℕ) → moves k q ≡ true → own q ≡ true
  pub whole : NamesOwn k g.member named

-- A unit that comes in for AS a, which is reached and has room.
pub record Into (g : Gateway) (R : ℕ → Bool) (a : ℕ) (x : Arrival) : Type 0 where
  pub reached : R a ≡ true
  pub room : number_at g.held.count a < 8
  pub most : x.length ≤ 277

-- the same of all that an event does; a link that it turns is the plan's, and its owner is reached
abbrev pub Within : Gateway → (ℕ → Bool) → (ℕ → Bool) → Effect → Type 0
Within g R own (send os) = Unit {0}
Within g R own (set_link l v os) = (l < g.links) × (R (owner_at g l) ≡ true)
Within g R own (change_in os k named) = In g R own k named
Within g R own (take_in a x) = Into g R a x

-- the ASes that an accepted event reaches
abbrev pub Reaches : Gateway → EventKind → ℕ → Bool
Reaches g k a = ltb a g.ases && kind_reach g k a

pub neither : (t u : Bool) → t ≡ false → u ≡ false → (t || u) ≡ false
neither t u x y = rw (x, y)

widen : (g : Gateway) (R R' own : ℕ → Bool) (d : Effect) → ((a : ℕ) → R a ≡ true → R' a ≡ true) → Within g R own d → Within g R' own d
widen g R R' own (send os) h w = tt
widen g R R' own (set_link l v os) h w = (w.0, h (owner_at g l) w.1)
widen g R R' own (change_in os k named) h w =
    record { reached = λ a b e. h a (w.reached a b e); mine = w.mine; whole = w.whole }
widen g R R' own (take_in a x) h w =
    record { reached = h a w.reached; room = w.room; most = w.most }

-- ---- what a sound state says of the ASes reached

module _ (g : Gateway) (ok : is_sound g ≡ true) where
  pub asps_16 : (p : ℕ) → p < g.asps → p < 16
  asps_16 p b = omega (arith, (counts_within g ok).asps)

  -- the owner of a link in the plan
  pub owner_in : (l : ℕ) → l < g.links → ltb (owner_at g l) g.ases ≡ true
  owner_in l b = lt-ltb (owner_at g l) g.ases (owner_within g ok l b)

  pub member_in : (p a : ℕ) → p < g.asps → a < 16 → is_member g a p ≡ true → ltb a g.ases ≡ true
  member_in p a b c h = lt-ltb a g.ases (member_within g ok a p c (asps_16 p b) h).1

  -- ---- an ASP's messages

  module _ (p : ℕ) (b : p < g.asps) where
    -- all ASes of p
    all_of_p : (K : ℕ → Bool) → ((a : ℕ) → is_member g a p ≡ true → K a ≡ true) → (a : ℕ) → a < 16 → flag_at (ases_of g p) a ≡ true → (ltb a g.ases && K a) ≡ true
    all_of_p K h a c e =
        let m = sym (column_at g.member p a c) ∙ e in
        and_both (ltb a g.ases) (K a) (member_in p a b c m) (h a m)

    mine_p : (q : ℕ) → eqb q p ≡ true → eqb p q ≡ true
    mine_p q e = eq-eqb p q (sym (eqb-true q p e))

    up_in : (K : ℕ → Bool) → ((a : ℕ) → is_member g a p ≡ true → K a ≡ true) → In g (λ a. ltb a g.ases && K a) (eqb p) (AspUp p) (ases_of g p)
    up_in K h = record { reached = all_of_p K h; mine = mine_p; whole = names_own (AspUp p) g.member p (λ q m. eqb-true q p m) }

    down_in : (K : ℕ → Bool) → ((a : ℕ) → is_member g a p ≡ true → K a ≡ true) → In g (λ a. ltb a g.ases && K a) (eqb p) (AspDown p) (ases_of g p)
    down_in K h = record { reached = all_of_p K h; mine = mine_p; whole = names_own (AspDown p) g.member p (λ q m. eqb-true q p m) }

    -- an AS that owns a good identifier has p as a member
    good_member : (ps : List Par) (a : ℕ) → owns_good g p ps a ≡ true → is_member g a p ≡ true
    unfolding owns_good
    good_member ps a h = and_right (names_some (is_owned_by g.iid g.owner g.links a) ps) (is_member g a p) h

    -- Active and Inactive: the owners of the good ones named by identifiers, or all ASes of p
    traffic_in : (K : ℕ → Bool) (r : Reading) (ps : List Par) (act : List Action → List Bool → Effect)
        → ((told : List Action) (named : List Bool) → ((a : ℕ) → a < 16 → flag_at named a ≡ true → (ltb a g.ases && K a) ≡ true) → Within g (λ a. ltb a g.ases && K a) (eqb p) (act told named))
        → (eqb r.ids 1 ≡ true → (a : ℕ) → owns_good g p ps a ≡ true → K a ≡ true)
        → (eqb r.ids 1 ≡ false → (a : ℕ) → is_member g a p ≡ true → K a ≡ true)
        → Within g (λ a. ltb a g.ases && K a) (eqb p) (traffic_effect g p r ps act)
    unfolding traffic_effect part_effect owners_good
    traffic_in K r ps act h ids all =
        by_cond (not (is_set g.up p)) W (λ _. tt)
        (λ _. by_cond (eqb r.ids 1) W
        (λ i. by_cond (first_refused g p ps).found W
        (λ _. by_cond (is_set g.wholelists p || not (some (tabulate 16 (owns_good g p ps)))) W (λ _. tt) (λ _. h (error2 p (first_refused g p ps).id) (tabulate 16 (owns_good g p ps)) (good_in i)))
        (λ _. h [] (tabulate 16 (owns_good g p ps)) (good_in i)))
        (λ i. by_cond (some (ases_of g p)) W
        (λ _. h [] (ases_of g p) (all_of_p K (all i))) (λ _. tt)))
      where
        W : Effect → Type 0
        W = Within g (λ a. ltb a g.ases && K a) (eqb p)

        own : (a : ℕ) → a < 16 → flag_at (tabulate 16 (owns_good g p ps)) a ≡ true → owns_good g p ps a ≡ true
        own a c e = sym (get_d_tabulate 16 (owns_good g p ps) a false c) ∙ e

        good_in : eqb r.ids 1 ≡ true → (a : ℕ) → a < 16 → flag_at (tabulate 16 (owns_good g p ps)) a ≡ true → (ltb a g.ases && K a) ≡ true
        good_in i a c e = and_both (ltb a g.ases) (K a) (member_in p a b c (good_member ps a (own a c e))) (ids i a (own a c e))

    active_in_lem : (K : ℕ → Bool) (mode : ℕ) (told : List Action) (named : List Bool) → ((a : ℕ) → a < 16 → flag_at named a ≡ true → (ltb a g.ases && K a) ≡ true) → Within g (λ a. ltb a g.ases && K a) (eqb p) (active_effect g p mode told named)
    unfolding active_effect
    active_in_lem K mode told named h =
        by_cond (other_mode g mode named) (Within g (λ a. ltb a g.ases && K a) (eqb p)) (λ _. tt)
        (λ _. record { reached = h; mine = λ q e. clash false refl e; whole = λ q a e c. clash false refl e })

    inactive_in : (K : ℕ → Bool) (told : List Action) (named : List Bool) → ((a : ℕ) → a < 16 → flag_at named a ≡ true → (ltb a g.ases && K a) ≡ true) → Within g (λ a. ltb a g.ases && K a) (eqb p) (inactive_effect p told named)
    unfolding inactive_effect
    inactive_in K told named h = record { reached = h; mine = λ q e. clash false refl e; whole = λ q a e c. clash false refl e }

    -- class 6: the owner of a known identifier
    six_in : (K : ℕ → Bool) (r : Reading) → ((a : ℕ) → owns_id g r.id a ≡ true → K a ≡ true) → Within g (λ a. ltb a g.ases && K a) (eqb p) (class_six_effect g p r)
    unfolding class_six_effect class_six_on link_effect data_effect establish release owns_id
    six_in K r h =
        by_cond (not (is_set g.up p)) W (λ _. tt)
        (λ _. by_cond (not (is_known g x && is_member g (owner_at g l) p)) W (λ _. tt)
        (λ k. by_cond (not (is_set g.active (pair (owner_at g l) p))) W (λ _. tt)
        (λ _. by_cond (not (can_have (link_at g l) r.sequence)) W (λ _. tt)
        (λ _. by_cond (eqb r.msgtype 1) W (λ _. by_cond (eqb st in_service) W (λ _. tt) (λ _. tt))
        (λ _. by_cond (eqb r.msgtype 2) W
        (λ _. by_cond (eqb st in_service) W (λ _. tt) (λ _. by_cond (eqb st starting) W (λ _. tt) (λ _. turned k)))
        (λ _. by_cond (eqb r.msgtype 4) W
        (λ _. by_cond (eqb st idle) W (λ _. tt) (λ _. by_cond (eqb st stopping) W (λ _. tt) (λ _. turned k)))
        (λ _. by_cond (eqb r.msgtype 7) W (λ _. tt) (λ _. by_cond (eqb r.msgtype 10) W (λ _. tt) (λ _. tt)))))))))
      where
        W : Effect → Type 0
        W = Within g (λ a. ltb a g.ases && K a) (eqb p)

        x : ℕ
        x = r.id

        l : ℕ
        l = link_of g r.id

        st : ℕ
        st = number_at g.state (link_of g r.id)

        turned : not (is_known g r.id && is_member g (owner_at g (link_of g r.id)) p) ≡ false
            → (link_of g r.id < g.links) × ((ltb (owner_at g (link_of g r.id)) g.ases && K (owner_at g (link_of g r.id))) ≡ true)
        turned k =
            let n = and_left (is_known g r.id) _ (not-false (is_known g r.id && is_member g (owner_at g (link_of g r.id)) p) k) in
            let j = known_below g ok r.id n in
            let o = owner_at g (link_of g r.id) in
            (j, and_both (ltb o g.ases) (K o) (owner_in (link_of g r.id) j) (h o (and_both (is_known g r.id) (eqb o o) n (eq-eqb o o refl))))

    -- ---- what a readable message reaches, type by type

    module _ (s : List ℕ) (r : Reading) (a : ℕ) where
      pub reach_up : eqb (class_type_of r) asp_up ≡ true → is_member g a p ≡ true → read_reach g p s r a ≡ true
      unfolding read_reach
      reach_up t m = rw t m

      reach_down : eqb (class_type_of r) asp_up ≡ false → eqb (class_type_of r) asp_down ≡ true → is_member g a p ≡ true → read_reach g p s r a ≡ true
      unfolding read_reach
      reach_down u t m = rw (u, t) m

      reach_ids : (eqb (class_type_of r) asp_up || eqb (class_type_of r) asp_down) ≡ false → (eqb (class_type_of r) asp_active || eqb (class_type_of r) asp_inactive) ≡ true → eqb r.ids 1 ≡ true → owns_good g p (walk s 8).pars a ≡ true → read_reach g p s r a ≡ true
      unfolding read_reach
      reach_ids u v i m = rw (u, v, i) m

      reach_all : (eqb (class_type_of r) asp_up || eqb (class_type_of r) asp_down) ≡ false → (eqb (class_type_of r) asp_active || eqb (class_type_of r) asp_inactive) ≡ true → eqb r.ids 1 ≡ false → is_member g a p ≡ true → read_reach g p s r a ≡ true
      unfolding read_reach
      reach_all u v i m = rw (u, v, i) m

      pub reach_six : (eqb (class_type_of r) asp_up || eqb (class_type_of r) asp_down) ≡ false → (eqb (class_type_of r) asp_active || eqb (class_type_of r) asp_inactive) ≡ false → eqb r.class 6 ≡ true → owns_id g r.id a ≡ true → read_reach g p s r a ≡ true
      unfolding read_reach
      reach_six u v c m = rw (u, v, c) m

    read_in : (s : List ℕ) (r : Reading) → Within g (λ a. ltb a g.ases && read_reach g p s r a) (eqb p) (read_effect g p s r)
    unfolding read_effect up_effect down_effect
    read_in s r =
        by_cond (eqb (class_type_of r) asp_up) W
        (λ t. by_cond (eqb r.identified 1 && not (eqb r.aspid (number_at g.aspid p))) W (λ _. tt) (λ _. up_in K (λ a. reach_up s r a t)))
        (λ n₁. by_cond (eqb (class_type_of r) asp_down) W (λ t. down_in K (λ a. reach_down s r a n₁ t))
        (λ n₂. by_cond (eqb (class_type_of r) beat) W (λ _. tt)
        (λ _. by_cond (eqb (class_type_of r) beat_ack) W (λ _. tt)
        (λ _. by_cond (eqb (class_type_of r) asp_active) W
        (λ t.
        let u = neither (eqb (class_type_of r) asp_up) (eqb (class_type_of r) asp_down) n₁ n₂ in
        let v = or_left (eqb (class_type_of r) asp_inactive) t in
        traffic_in K r (walk s 8).pars (active_effect g p r.mode) (active_in_lem K r.mode) (λ i a. reach_ids s r a u v i) (λ i a. reach_all s r a u v i))
        (λ n₃. by_cond (eqb (class_type_of r) asp_inactive) W
        (λ t.
        let u = neither (eqb (class_type_of r) asp_up) (eqb (class_type_of r) asp_down) n₁ n₂ in
        let v = or_right (eqb (class_type_of r) asp_active) t in
        traffic_in K r (walk s 8).pars (inactive_effect p) (inactive_in K) (λ i a. reach_ids s r a u v i) (λ i a. reach_all s r a u v i))
        (λ n₄. by_cond (eqb r.class 6 && from_asp r.msgtype) W
        (λ t. six_in K r (λ a. reach_six s r a (neither (eqb (class_type_of r) asp_up) (eqb (class_type_of r) asp_down) n₁ n₂) (neither (eqb (class_type_of r) asp_active) (eqb (class_type_of r) asp_inactive) n₃ n₄) (and_left (eqb r.class 6) _ t)))
        (λ _. tt)))))))
      where
        K : ℕ → Bool
        K = read_reach g p s r

        W : Effect → Type 0
        W = Within g (λ a. ltb a g.ases && K a) (eqb p)

    message_in : (s : List ℕ) → Within g (Reaches g (message p s)) (eqb p) (message_effect g p s)
    unfolding message_effect message_reach
    message_in s =
        by_cond (is_error s) W (λ _. tt)
        (λ n. by_cond (eqb (verdict s) 0) W
        (λ v. widen g (λ a. ltb a g.ases && read_reach g p s (reading_of s) a) (Reaches g (message p s)) (eqb p) (read_effect g p s (reading_of s)) (λ a e. rw (n, v) e) (read_in s (reading_of s)))
        (λ _. tt))
      where
        W : Effect → Type 0
        W = Within g (Reaches g (message p s)) (eqb p)

  -- ---- link events

  link_turn : (l v : ℕ) (os : List Action) (own : ℕ → Bool) → l < g.links → Within g (λ a. ltb a g.ases && eqb (owner_at g l) a) own (set_link l v os)
  link_turn l v os own b =
      (b, and_both (ltb (owner_at g l) g.ases) (eqb (owner_at g l) (owner_at g l)) (owner_in l b) (eq-eqb (owner_at g l) (owner_at g l) refl))

  recover_in : (a : ℕ) → a < g.ases → In g (λ c. ltb c g.ases && eqb a c) (λ q. false) Recover (tabulate 16 (λ c. eqb c a))
  recover_in a b =
      record {
        reached = λ c d e.
            let z : c ≡ a = eqb-true c a (sym (get_d_tabulate 16 (λ c. eqb c a) c false d) ∙ e) in
            rw z (and_both (ltb a g.ases) (eqb a a) (lt-ltb a g.ases b) (eq-eqb a a refl));
        mine = λ q e. clash false refl e;
        whole = λ q c e d. clash false refl e;
      }

  -- ---- a unit of the link side

  into : (s : List ℕ) → in_plan g (link_message s) ≡ true → (a : ℕ) (x : Arrival) → Takes g s a x → Into g (Reaches g (link_message s)) a x
  unfolding owns_id
  into s i a x h =
      let t = taken_in g s a x ok i h in
      let o = owner_at g (link_of g (reading_of s).id) in
      record {
        reached = and_both (ltb a g.ases) _ (lt-ltb a g.ases t.as_below) (and_both (is_known g (reading_of s).id) (eqb o a) t.is_known_lem (eq-eqb o a (sym h.owner)));
        room = h.room;
        most = t.longest;
      }

  -- ---- every kind

  pub within : (k : EventKind) → in_plan g k ≡ true → Within g (Reaches g k) (from_controller k) (effect_of g k)
  unfolding lost_effect link_up_effect link_up_on link_down_effect link_down_on
  within (message p s) i = message_in p (ltb-true p g.asps i) s
  within (lost p) i = down_in p (ltb-true p g.asps i) (λ a. is_member g a p) (λ a m. m)
  within (recovery a) i = recover_in a (ltb-true a g.ases i)
  within (link_up l) i =
      by_cond (eqb (number_at g.state l) starting) (Within g (Reaches g (link_up l)) (λ q. false))
      (λ _. link_turn l in_service [] (λ q. false) (ltb-true l g.links i)) (λ _. tt)
  within (link_down l) i =
      by_cond (eqb (number_at g.state l) idle) (Within g (Reaches g (link_down l)) (λ q. false)) (λ _. tt)
      (λ _. link_turn l idle [] (λ q. false) (ltb-true l g.links i))
  within (link_message s) i = link_cases g s (Within g (Reaches g (link_message s)) (λ q. false)) (λ os. tt) (into s i)
