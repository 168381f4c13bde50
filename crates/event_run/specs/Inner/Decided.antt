-- What is decided of an event before anything is done.
-- Assumes nothing.
use Rattle.std.specs.Prelude.{ℕ, ◌+◌, ◌*◌, ◌-◌, ◌<◌, ◌≤◌, ◌≡◌, refl, Bool, true, false, cond, List, eqb, length, Result, Ok, Err}
use Rattle.std.proofs.Common.{sym, ap, ◌∙◌, arith}
use Rattle.std.proofs.lemmas.Bool.{false≢true}
use Rattle.laws.specs.Columns.{number_at}
use Rattle.codec_read.specs.Meaning.{data_at}
use Rattle.state_tables.specs.Sound.{is_sound}
use Rattle.state_tables.specs.declared.Gateway.{Gateway}
use Rattle.rules_server.specs.declared.Arrival.{Arrival}
use Rattle.rules_event.specs.declared.Decision.{Decision}
use Rattle.rules_event.specs.declared.Decision.TheVariants.{TakeIn}
use Rattle.rules_event.specs.Event.{message, lost, recovery, link_up, link_down, link_message, message_of, lending}
use Rattle.rules_event.specs.Link.{arrival}
use Rattle.rules_event.specs.Rules.{effect_of, in_plan, refusal}
use Rattle.rules_event.specs.Sent.{is_passed}
use Rattle.rules_event.specs.Inner.Accepted.{Accepted, accepted}
use Rattle.rules_event.specs.Inner.TakeIn.{take_in_lem}
use Rattle.event_decision.specs.Inner.Decides.{Decides}
use Rattle.event_asked.specs.Happened.{happened, event_of}
use Rattle.event_asked.specs.Inner.Refusal.{refusal_number}
use Rattle.event_asked.specs.declared.EventRefusal.{EventRefusal}

-- an event on the state g that is not refused does w
pub record Does (g : Gateway) (kind i : ℕ) (msg : List ℕ) (size room : ℕ) (w : Decision) : Type 0 where
  pub accepted : 0 ≡ refusal g (event_of (happened kind i msg) room size)
  pub decides : Decides w (effect_of g (happened kind i msg))

-- it is refused as the rules say, or does what they say
abbrev pub Decided : Gateway → ℕ → ℕ → List ℕ → ℕ → ℕ → Result Decision EventRefusal → Type 0
Decided g kind i msg size room (Ok w) = Does g kind i msg size room w
Decided g kind i msg size room (Err r) = refusal_number r ≡ refusal g (event_of (happened kind i msg) room size)

module _ {g : Gateway} {kind i : ℕ} {msg : List ℕ} {size room : ℕ} {w : Decision} where
  -- what an event has that is not refused
  pub whole : Does g kind i msg size room w → Accepted (is_sound g) (in_plan g (happened kind i msg)) (lending room size)
  whole d = accepted _ _ _ (sym d.accepted)

-- ---- a unit that comes in

-- its AS has a place, and its bytes lie in the message
pub record Taken (a : ℕ) (x : Arrival) (n kind i : ℕ) (s : List ℕ) : Type 0 where
  pub as_16 : a < 16
  pub few : n < 8
  pub least : 4 ≤ x.length
  pub most : x.length ≤ 277
  pub within : x.start + (x.length - 4) ≤ length s
  pub said : message_of (happened kind i s) ≡ s

-- the event of the link side has the message that was given
said_by : (k i : ℕ) (s : List ℕ) → is_passed (happened k i s) ≡ true → message_of (happened k i s) ≡ s
said_by k i s = go (eqb k 0) (eqb k 1) (eqb k 2) (eqb k 3) (eqb k 4) (eqb k 5)
  where
    go : (x y z t u v : Bool)
        → is_passed (cond x (message i s) (cond y (lost i) (cond z (recovery i) (cond t (link_up i) (cond u (link_down i) (cond v (link_message s) (lost 65536))))))) ≡ true
        → message_of (cond x (message i s) (cond y (lost i) (cond z (recovery i) (cond t (link_up i) (cond u (link_down i) (cond v (link_message s) (lost 65536))))))) ≡ s
    go true y z t u v h = absurd (false≢true h)
    go false true z t u v h = absurd (false≢true h)
    go false false true t u v h = absurd (false≢true h)
    go false false false true u v h = absurd (false≢true h)
    go false false false false true v h = absurd (false≢true h)
    go false false false false false true h = refl
    go false false false false false false h = absurd (false≢true h)

pub taken : {g : Gateway} {kind i : ℕ} {s : List ℕ} {size room a : ℕ} {x : Arrival} → Does g kind i s size room (TakeIn a x) → Taken a x (number_at g.held.count a) kind i s
unfolding arrival
taken {g} {kind} {i} {s} {size} {room} {a} {x} d =
    let t = take_in_lem g (event_of (happened kind i s) room size) a x (sym d.accepted) (sym d.decides.is) in
    let n = t.taken in
    let e : message_of (happened kind i s) ≡ s = said_by kind i s (ap is_passed t.kind) in
    let f : t.from ≡ s = sym (ap message_of t.kind) ∙ e in
    let u = n.takes.unit in
    let b : x.length ≡ (data_at t.from).length + 4 = ap (λ (y : Arrival). y.length) u in
    let c : x.start ≡ (data_at t.from).start = ap (λ (y : Arrival). y.start) u in
    let l : length t.from ≡ length s = ap length f in
    record {
      as_16 = n.as_16;
      few = n.takes.room;
      least = omega (arith, n.least);
      most = n.longest;
      within = omega (arith, n.good.within, b, c, l);
      said = e;
    }
