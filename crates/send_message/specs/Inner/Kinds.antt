-- The message lent to the writer, by the number of the event's kind.
-- Assumes nothing.
use Rattle.std.specs.Prelude.{◌≡◌, refl, ℕ, false, cond, List, []}
use Rattle.std.proofs.Math.Decide.{ℕ_discrete}
use Rattle.std.proofs.Math.Dec.{eqb}
use Rattle.std.proofs.Common.{ne_eqb}
use Rattle.state_tables.specs.declared.Gateway.{Gateway}
use Rattle.rules_action.specs.declared.Action.{Action}
use Rattle.event_asked.specs.Happened.{message_kind, link_message_kind, happened}
use Rattle.rules_event.specs.Event.{EventKind, message, lost, recovery, link_up, link_down, link_message, message_of}
use Rattle.rules_event.specs.Sent.{is_passed}
use Rattle.send_message.specs.Inner.Stands.{Lends}

-- the message of a call of the kind k that is lent a message s: s where the event is a message
unfoldable pub lent_by : ℕ → List ℕ → List ℕ
lent_by k s = cond (eqb k message_kind) s (cond (eqb k link_message_kind) s [])

-- what holds of the number of a kind and its event, from each kind; any other number is no kind
by_kind : (P : ℕ → EventKind → Type 0) (k i : ℕ) (s : List ℕ) → P 0 (message i s) → P 1 (lost i) → P 2 (recovery i) → P 3 (link_up i) → P 4 (link_down i) → P 5 (link_message s)
    → (eqb k 0 ≡ false → eqb k 5 ≡ false → P k (lost 65536)) → P k (happened k i s)
by_kind P k i s a b c d e f g = go (ℕ_discrete k 0) (ℕ_discrete k 1) (ℕ_discrete k 2) (ℕ_discrete k 3) (ℕ_discrete k 4) (ℕ_discrete k 5)
  where
    go : Dec (k ≡ 0) → Dec (k ≡ 1) → Dec (k ≡ 2) → Dec (k ≡ 3) → Dec (k ≡ 4) → Dec (k ≡ 5) → P k (happened k i s)
    go (yes z) _ _ _ _ _ = rw z a
    go (no x) (yes z) _ _ _ _ = rw z b
    go (no x) (no y) (yes z) _ _ _ = rw z c
    go (no x) (no y) (no u) (yes z) _ _ = rw z d
    go (no x) (no y) (no u) (no v) (yes z) _ = rw z e
    go (no x) (no y) (no u) (no v) (no w) (yes z) = rw z f
    go (no x) (no y) (no u) (no v) (no w) (no q) = rw (ne_eqb k 0 x, ne_eqb k 1 y, ne_eqb k 2 u, ne_eqb k 3 v, ne_eqb k 4 w, ne_eqb k 5 q) (g (ne_eqb k 0 x) (ne_eqb k 5 q))

module _ (k i : ℕ) (s : List ℕ) where
  pub kinds : (message_of (happened k i s) ≡ lent_by k s) × (is_passed (happened k i s) ≡ eqb k link_message_kind)
  unfolding lent_by
  kinds = by_kind (λ n e. (message_of e ≡ lent_by n s) × (is_passed e ≡ eqb n link_message_kind)) k i s (refl, refl) (refl, refl) (refl, refl) (refl, refl) (refl, refl) (refl, refl) (λ a b. rw (a, b) (refl, refl))

  -- where the event is no message of an ASP, its own message is lent
  pub lends_other : (g : Gateway) (x : List ℕ) (o : Action) → (k ≡ message_kind → ⊥) → x ≡ message_of (happened k i s) → Lends g (happened k i s) x o
  lends_other g x o = by_kind (λ n e. (n ≡ message_kind → ⊥) → x ≡ message_of e → Lends g e x o) k i s (λ n e. absurd (n refl)) (λ n e. e) (λ n e. e) (λ n e. e) (λ n e. e) (λ n e. e) (λ a b n e. e)
