-- Calls that keep what the entries promise: for every event there is one.
-- Assumes nothing.
use Rattle.std.specs.Prelude.{ℕ, ◌*◌, ◌≡◌, refl, cond, List, ◌++◌, eqb, length, drop, replicate}
use Rattle.std.proofs.Common.{sym, ◌∙◌, eq-eqb, eqb-true}
use Rattle.std.proofs.lemmas.List.{length-replicate}
use Rattle.laws.specs.Inner.Choice.{by_cond, at_yes}
use Rattle.rules_action.specs.Words.{words_of}
use Rattle.rules_event.specs.Event.{Event}
use Rattle.rules_event.specs.Effect.{hold_bytes}
use Rattle.rules_event.specs.Rules.{refusal}
use Rattle.rules_event.specs.Entry.{actions, next, next_hold, MeetsRules}
use Rattle.rules_event.specs.Calls.{Board, Call}
use Rattle.rules_event.specs.Inner.Few.{few_actions}

-- the hold to lend: the board's, or zeros where the event has another length
abbrev pub lend : Board → Event → List ℕ
lend b e = cond (eqb e.lent.hold hold_bytes) b.hold (replicate e.lent.hold 0)

-- the call of an event that is lent the list l, as the rules give it
abbrev pub made : Board → Event → List ℕ → Call
made b e l =
    record {
      event = e;
      lent = l;
      left = words_of (actions b.gateway e) ++ drop (4 * length (actions b.gateway e)) l;
      hold = lend b e;
      held = next_hold b.gateway e (lend b e);
      outcome = record { refusal = refusal b.gateway e; count = length (actions b.gateway e); gateway = next b.gateway e };
    }

module _ (b : Board) (e : Event) where
  pub lend_same : e.lent.hold ≡ hold_bytes → lend b e ≡ b.hold
  lend_same t = sym (at_yes b.hold (replicate e.lent.hold 0) (eqb e.lent.hold hold_bytes) (eq-eqb e.lent.hold hold_bytes t) refl)

  module _ (n : length b.hold ≡ hold_bytes) (l : List ℕ) where
    pub lend_length : length (lend b e) ≡ e.lent.hold
    lend_length =
        by_cond (eqb e.lent.hold hold_bytes) (λ (x : List ℕ). length x ≡ e.lent.hold) (λ t. n ∙ sym (eqb-true e.lent.hold hold_bytes t)) (λ _. length-replicate e.lent.hold 0)

    pub made_meets : length l ≡ e.lent.room → MeetsRules b.gateway e l (made b e l).left (made b e l).hold (made b e l).held (made b e l).outcome
    made_meets r =
        record {
          room = r;
          lends = lend_length;
          refused = refl;
          count = refl;
          few = few_actions b.gateway e;
          state = refl;
          bytes = refl;
          words = refl;
        }
