-- The message of a method that is lent parameters: as it is written, and where it is too long to read.
-- Assumes nothing.
use Rattle.std.specs.Prelude.{ℕ, ◌+◌, ◌*◌, ◌<◌, ◌≤◌, ◌≡◌, refl, Bool, true, false, ◌||◌, ◌&&◌, eqb, ltb, leb, length, take, drop}
use Rattle.std.proofs.Common.{sym, ap, ◌∙◌, arith, lt-ltb, ne_eqb}
use Rattle.std.proofs.Math.Bool.{cond}
use mathlib.Core.List.{List, [], ◌∷◌, ◌++◌}
use Rattle.laws.specs.Choice.{◌or_else◌, ◌if◌}
use Rattle.codec_put.specs.Bytes.{overlay, head_bytes}
use Rattle.codec_put.proofs.Sets.{over_append, take_over}
use Rattle.codec_read.specs.Verdict.{verdict}
use Rattle.state_tables.specs.declared.Gateway.{Gateway}
use Rattle.rules_action.specs.declared.Action.{Action}
use Rattle.rules_action.specs.Words.{words_of}
use Rattle.rules_event.specs.declared.Outcome.{Outcome}
use Rattle.rules_event.specs.Event.{message}
use Rattle.rules_event.specs.Effect.{send, error, actions_of, state_after, hold_after}
use Rattle.rules_event.specs.Rules.{is_error, message_effect, effect_of, refusal}
use Rattle.rules_event.specs.Entry.{actions, next, next_hold, MeetsRules}
use Rattle.event_asked.specs.Happened.{event}
use Rattle.abi_node.specs.Next.{headed}

-- the header and the parameters, written at the start of a buffer
pub headed_is : (l pars l₁ l₂ : List ℕ) (c t size : ℕ) → size ≡ 8 + length pars → size ≤ length l → l₁ ≡ overlay l 0 (head_bytes c t size) → l₂ ≡ overlay l₁ 8 pars → take size l₂ ≡ headed c t pars
headed_is l pars l₁ l₂ c t size e b p q =
    let n : length (headed c t pars) ≡ 8 + length pars = omega arith in
    let m : l₂ ≡ overlay l 0 (headed c t pars) = q ∙ ap (λ (x : List ℕ). overlay x 8 pars) p ∙ ap (λ (x : ℕ). overlay (overlay l 0 (head_bytes c t x)) 8 pars) e ∙ over_append l (head_bytes c t (8 + length pars)) pars 0 in
    (λ i. take ((e ∙ sym n) i) (m i)) ∙ take_over l (headed c t pars) (omega (arith, e, b, n))

-- ---- a message that is too long is refused as one that is too short

long_7 : (s : List ℕ) → 2048 < length s → verdict s ≡ 7
unfolding verdict
long_7 s h = rw (lt-ltb 2048 (length s) h) (go (ltb (length s) 8) _)
  where
    go : (u : Bool) (v : ℕ) → ((7 if (u || true)) or_else v) ≡ 7
    go true v = refl
    go false v = refl

-- what the reader refuses with 7, and is no Error
refused_7 : (g : Gateway) (p : ℕ) (s : List ℕ) → is_error s ≡ false → verdict s ≡ 7 → effect_of g (message p s) ≡ send (error p 7)
unfolding message_effect
refused_7 g p s e v = rw (e, v)

short_7 : (g : Gateway) (p : ℕ) → effect_of g (message p (0 ∷ [])) ≡ send (error p 7)
unfolding is_error verdict
short_7 g p = refused_7 g p (0 ∷ []) refl refl

none : (u : Bool) → (u && false) ≡ false
none true = refl
none false = refl

no_error : (c t : ℕ) (pars : List ℕ) → 0 < c → is_error (headed c t pars) ≡ false
unfolding is_error
no_error c t pars h = rw (ne_eqb c 0 (λ e. omega (arith, e, h))) (none (leb 4 (length (headed c t pars))))

module _ (g : Gateway) (p : ℕ) (s : List ℕ) (e : effect_of g (message p s) ≡ send (error p 7)) (ws h : List ℕ) where
  same : effect_of g (message p (0 ∷ [])) ≡ effect_of g (message p s)
  same = short_7 g p ∙ sym e

  abbrev fine : Bool
  fine = eqb (refusal g (event (message p s) ws h)) 0

  same_actions : actions g (event (message p (0 ∷ [])) ws h) ≡ actions g (event (message p s) ws h)
  unfolding actions
  same_actions = λ i. cond fine (actions_of g (same i)) []

  same_state : next g (event (message p (0 ∷ [])) ws h) ≡ next g (event (message p s) ws h)
  unfolding next
  same_state = λ i. cond fine (state_after g (same i)) g

  same_hold : next_hold g (event (message p (0 ∷ [])) ws h) h ≡ next_hold g (event (message p s) ws h) h
  unfolding next_hold
  same_hold = (λ i. cond fine (hold_after g (0 ∷ []) (short_7 g p i) h) h) ∙ (λ i. cond fine (hold_after g s (sym e i) h) h)

  pub meets_alike : {ws' h' : List ℕ} {r : Outcome} → MeetsRules g (event (message p (0 ∷ [])) ws h) ws ws' h h' r → MeetsRules g (event (message p s) ws h) ws ws' h h' r
  meets_alike m =
      record {
        room = m.room;
        lends = m.lends;
        refused = m.refused;
        count = m.count ∙ ap (λ (x : List Action). length x) same_actions;
        few = m.few;
        state = m.state ∙ same_state;
        bytes = m.bytes ∙ same_hold;
        words = m.words ∙ (λ i. words_of (same_actions i) ++ drop (4 * length (same_actions i)) ws);
      }

pub too_long : (g : Gateway) (p c t : ℕ) (pars : List ℕ) → 0 < c → 2040 < length pars → effect_of g (message p (headed c t pars)) ≡ send (error p 7)
too_long g p c t pars h b =
    let n : length (headed c t pars) ≡ 8 + length pars = omega arith in
    refused_7 g p (headed c t pars) (no_error c t pars h) (long_7 (headed c t pars) (omega (arith, n, b)))
