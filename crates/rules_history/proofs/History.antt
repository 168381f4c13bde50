-- Demand 3, proved.
-- Assumes nothing.
use mathlib.Core.Path.{◌≡◌, refl, sym, ap, ◌∙◌, subst}
use mathlib.Core.Bool.{Bool, true, false, ◌&&◌, not, cond, false≢true}
use mathlib.Core.List.{List, [], ◌∷◌, map}
use Prim.Native.Nat.{ℕ, zero, suc, ◌+◌, ◌*◌, ◌/◌, ◌<◌}
use native.Mathlib.Omega.{arith}
use lib.Dec.{eqb, ltb}
use lib.ListN.{length, take, drop, length-replicate}
use lib.Seq.{take_at}
use borrow.Author.Tests.{not-true, eq-eqb, eqb-true, ltb-true}
use Rattle.laws.specs.Inner.Every.{and_left, and_right, clash, false_of}
use Rattle.laws.specs.Columns.{number_at}
use Rattle.rules_action.specs.declared.Action.{Action}
use Rattle.rules_action.specs.Words.{words_of}
use Rattle.rules_action.specs.Inner.Words.{length_words_of}
use Rattle.codec_read.specs.Verdict.{verdict}
use Rattle.codec_read.specs.Meaning.{reading_of}
use Rattle.state_tables.specs.Sound.{is_sound}
use Rattle.state_tables.specs.declared.Gateway.{Gateway}
use Rattle.rules_action.specs.Types.{asp_up}
use Rattle.rules_event.specs.Event.{EventKind, Event, message}
use Rattle.rules_event.specs.Identifiers.{is_member}
use Rattle.rules_event.specs.Effect.{hold_bytes}
use Rattle.rules_event.specs.Rules.{is_error, class_type_of, in_plan, refusal}
use Rattle.rules_event.specs.Reach.{reach, message_reach, read_reach, from_controller}
use Rattle.rules_event.specs.Entry.{actions, next, next_hold, MeetsRules}
use Rattle.rules_event.specs.Calls.{Board, next_board, Call, events, board_after, Calls, none, call, answer, rules_answer}
use Rattle.rules_event.specs.Inner.Accepted.{accepted}
use Rattle.rules_event.specs.Inner.Calls.{made, lend_same, made_meets}
use Rattle.rules_event.proofs.Calls.{made_hold}
use Rattle.rules_event.specs.Samples.{sample_event, g₁, g₅, takes, arrives, comes_up}
use Rattle.rules_event.specs.Inner.Samples.{ReachApart}
use Rattle.rules_event.proofs.Samples.{reach_apart, held_apart}
use Rattle.rules_history.specs.Trade.{swaps, outs, last}
use Rattle.rules_history.specs.Inner.Trade.{traded_outs, traded_last}
use Rattle.rules_history.specs.History.{Independent, Untouched, UnitsStay, Outside, Statement, is_up, ReachOfUp, Rooms, blanks, Made, sample_board, TradeExists, TradesExist}
use Rattle.rules_history.proofs.Units.{Column, counts, tags, lengths, marks, ids, correlations, column, place_of, as_place}
use Rattle.rules_history.proofs.Frame.{plan, wait, act, line, up, unit, live, not_mine, not_reached, reach_next}
use Rattle.rules_history.proofs.Boards.{gate, byte, hold_dead, untouched, free_commute}

-- ---- what the calls hand back is what the rules give

one_given : (b : Board) (d : Call) → MeetsRules b.gateway d.event d.lent d.left d.hold d.held d.outcome → answer d ≡ rules_answer b d.event
one_given b d h = λ j. record { refusal = h.refused j; count = h.count j; words = words j }
  where
    os : List Action
    os = actions b.gateway d.event

    long : length (words_of os) ≡ 4 * length os
    long = let z = length_words_of os in omega arith

    words : take (4 * d.outcome.count) d.left ≡ words_of os
    words = (λ j. take (4 * h.count j) (h.words j)) ∙ take_at (words_of os) (drop (4 * length os) d.lent) (4 * length os) long

-- an event with a hold of another length is refused
short_dead : (g : Gateway) (e : Event) → eqb e.lent.hold hold_bytes ≡ false → live g e ≡ false
short_dead g e n =
    false_of (live g e)
    (λ l. clash (eqb e.lent.hold hold_bytes) n (eq-eqb e.lent.hold hold_bytes (accepted (is_sound g) (in_plan g e.kind) e.lent (eqb-true (refusal g e) 0 l)).whole))

-- so the hold that goes on is the rules', whatever was lent
one_hold : (b : Board) (d : Call) → d.held ≡ next_hold b.gateway d.event d.hold → (d.event.lent.hold ≡ hold_bytes → d.hold ≡ b.hold)
    → cond (eqb d.event.lent.hold hold_bytes) d.held b.hold ≡ next_hold b.gateway d.event b.hold
one_hold b d h s = go (eqb d.event.lent.hold hold_bytes) refl
  where
    go : (t : Bool) → eqb d.event.lent.hold hold_bytes ≡ t → cond t d.held b.hold ≡ next_hold b.gateway d.event b.hold
    go true e = h ∙ ap (next_hold b.gateway d.event) (s (eqb-true d.event.lent.hold hold_bytes e))
    go false e = sym (hold_dead b.gateway d.event b.hold (short_dead b.gateway d.event e))

one_after : (b : Board) (d : Call) → MeetsRules b.gateway d.event d.lent d.left d.hold d.held d.outcome → (d.event.lent.hold ≡ hold_bytes → d.hold ≡ b.hold)
    → board_after b d ≡ next_board b d.event
one_after b d h s = λ j. record { gateway = h.state j; hold = one_hold b d h.bytes s j }

by_rules : {b c : Board} {cs : List Call} → Calls b cs c → map answer cs ≡ outs rules_answer next_board b (events cs)
by_rules none = refl
by_rules (call {b} {d = d} {ds} h s t) =
    λ j. one_given b d h j ∷ (by_rules t ∙ ap (λ (x : Board). outs rules_answer next_board x (events ds)) (one_after b d h s)) j

state_by_rules : {b c : Board} {cs : List Call} → Calls b cs c → c ≡ last rules_answer next_board b (events cs)
state_by_rules none = refl
state_by_rules (call {b} {d = d} {ds} h s t) = state_by_rules t ∙ ap (λ (x : Board). last rules_answer next_board x (events ds)) (one_after b d h s)

-- ---- what lies outside the reach is as before

one_outside : (b : Board) (e : Event) → Untouched b.gateway e (next b.gateway e)
one_outside b e =
    record {
      plan = untouched b e (gate plan) refl;
      waiting = λ a l r. untouched b e (gate (wait a l)) r;
      active = λ a q l m r. untouched b e (gate (act a q l m)) r;
      state = λ l r. untouched b e (gate (line l)) r;
      up = λ q l n. untouched b e (gate (up q l)) (not_mine b.gateway e q l n);
      ups = λ a q k l n m. untouched b e (gate (up q l)) (not_reached b.gateway e a q k l n m);
    }

one_stays : (b : Board) (e : Event) → UnitsStay b e (next_board b e)
one_stays b e =
    record {
      count = λ a l r. untouched b e (gate (unit counts a)) r;
      tag = λ a k l m r. place tags a k m r;
      length = λ a k l m r. place lengths a k m r;
      marked = λ a k l m r. place marks a k m r;
      id = λ a k l m r. place ids a k m r;
      correlation = λ a k l m r. place correlations a k m r;
      bytes = λ a j l m r. let z : (a * 2184 + j) / 2184 ≡ a = omega arith in untouched b e (byte (a * 2184 + j)) (rw z r);
    }
  where
    place : (c : Column) (a k : ℕ) → k < 8 → reach b.gateway e a ≡ false
        → number_at (column c (next b.gateway e).held) (place_of c a k) ≡ number_at (column c b.gateway.held) (place_of c a k)
    place c a k m r = untouched b e (gate (unit c (place_of c a k))) (ap (reach b.gateway e) (as_place c a k m) ∙ r)

outside : {b c : Board} {cs : List Call} → Calls b cs c → Outside b cs
outside none = tt
outside (call {b} {d = d} h s t) =
    (subst (Untouched b.gateway d.event) (sym h.state) (one_outside b d.event), subst (UnitsStay b d.event) (sym (one_after b d h s)) (one_stays b d.event), outside t)

-- ---- the theorem

pub demand_3 : Statement
demand_3 b c c' cs ds ts C D t e =
    record {
      by_rules = by_rules C;
      state_by_rules = state_by_rules C;
      same_answers = by_rules D ∙ ap (outs rules_answer next_board b) e ∙ traded_outs rules_answer next_board Independent free_commute b (events cs) ts t ∙ ap (swaps ts) (sym (by_rules C));
      same_state = state_by_rules D ∙ ap (last rules_answer next_board b) e ∙ traded_last rules_answer next_board Independent free_commute b (events cs) ts t ∙ sym (state_by_rules C);
      outside = outside C;
    }

-- ---- and it is about something

-- for every board with a hold of the right length
pub some_calls : (b : Board) → length b.hold ≡ hold_bytes → (h : List Event) (ls : List (List ℕ)) → Rooms h ls → Made b h ls
some_calls b n [] [] r = record { list = []; end = b; are = none; of = refl; lend = refl }
some_calls b n [] (l ∷ ls) r = absurd r
some_calls b n (e ∷ h) [] r = absurd r
some_calls b n (e ∷ h) (l ∷ ls) r =
    let m = some_calls (board_after b (made b e l)) (made_hold b e n l) h ls r.1 in
    record {
      list = made b e l ∷ m.list;
      end = m.end;
      are = call {d = made b e l} (made_meets b e n l r.0) (lend_same b e) m.are;
      of = ap (λ (x : List Event). e ∷ x) m.of;
      lend = ap (λ (x : List (List ℕ)). l ∷ x) m.lend;
    }

-- there are such lists
pub some_rooms : (h : List Event) → Rooms h (blanks h)
some_rooms [] = tt
some_rooms (e ∷ h) = (length-replicate e.lent.room 0, some_rooms h)

-- ---- and trades exist

-- events that reach different ASes, and are not of one controller
apart_events : (g : Gateway) (e f : Event) → ReachApart g e f → ((q : ℕ) → from_controller e.kind q ≡ true → from_controller f.kind q ≡ true → ⊥) → Independent (sample_board g) e f
unfolding reach
apart_events g e f r n = record { controllers = n; servers = go }
  where
    go : (a : ℕ) → reach g e a ≡ true → reach g f a ≡ true → ⊥
    go zero x y = false≢true (sym r.second.0 ∙ y)
    go (suc zero) x y = false≢true (sym r.first.1 ∙ x)
    go (suc (suc a)) x y =
        let w = ltb-true (suc (suc a)) g.ases (and_left _ _ (and_right (eqb (refusal g e) 0) _ x)) in
        let z : ⊥ = omega (arith, w, r.ases) in
        absurd z

trade_exists : (g : Gateway) (k m : EventKind) → (let e : Event = sample_event k in let f : Event = sample_event m in ReachApart g e f → Independent (sample_board g) e f → TradeExists g e f)
trade_exists g k m r i =
    record {
      calls = some_calls (sample_board g) (length-replicate {A = ℕ} hold_bytes 0) (sample_event k ∷ sample_event m ∷ []) _ (some_rooms (sample_event k ∷ sample_event m ∷ []));
      traded = some_calls (sample_board g) (length-replicate {A = ℕ} hold_bytes 0) (sample_event m ∷ sample_event k ∷ []) _ (some_rooms (sample_event m ∷ sample_event k ∷ []));
      trades = (i, tt);
      events_trade = refl;
      first = r.first.0;
      second = r.second.1;
    }

pub trades_exist : TradesExist
unfolding takes arrives comes_up
trades_exist = (
  trade_exists g₁ _ _ reach_apart (apart_events g₁ takes comes_up reach_apart (λ q x y. let z : ⊥ = omega (arith, eqb-true 0 q x, eqb-true 2 q y) in absurd z)),
  trade_exists g₅ _ _ held_apart (apart_events g₅ arrives comes_up held_apart (λ q x y. false≢true x)),
)

-- ---- reach

-- it does not change along a history: whether two events may trade can be read off the first state
pub reach_stays : (g : Gateway) (e f : Event) (a : ℕ) → reach (next g e) f a ≡ reach g f a
reach_stays g e f a = reach_next g e f a

pub up_reach : ReachOfUp
unfolding is_up reach message_reach read_reach
up_reach g p s n a r u = λ j. eq-eqb (refusal g (record { kind = message p s; lent = n })) 0 r j && (ltb a g.ases && inside j)
  where
    inside : message_reach g p s a ≡ is_member g a p
    inside =
        let x = not-true (is_error s) (and_left (not (is_error s)) _ u) in
        let y = and_right (not (is_error s)) (eqb (verdict s) 0 && eqb (class_type_of (reading_of s)) asp_up) u in
        let v = and_left (eqb (verdict s) 0) (eqb (class_type_of (reading_of s)) asp_up) y in
        let t = and_right (eqb (verdict s) 0) (eqb (class_type_of (reading_of s)) asp_up) y in
        rw (x, v, t)
