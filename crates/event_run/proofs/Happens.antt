-- What `decide` reads tells of the event on the state that it is lent: that it is refused as the rules say,
-- and what is decided of one that is not.
use Rattle.std.specs.Prelude.{ℕ, ◌<◌, ◌≤◌, ◌≡◌, Bool, true, List, refl, Result}
use Rattle.std.proofs.Common.{◌∙◌, sym}
use Rattle.laws.specs.Columns.{number_at}
use Rattle.state_tables.specs.Sound.{is_sound}
use Rattle.state_tables.specs.declared.Gateway.{Gateway}
use Rattle.rules_event.specs.Event.{lending}
use Rattle.rules_event.specs.Records.{link_at, owner_of, asp_at}
use Rattle.rules_event.specs.Rules.{refusal_of, refusal, in_plan, effect_of}
use Rattle.rules_event.specs.Inner.Accepted.{Accepted, accepted}
use Rattle.rules_event.specs.declared.Decision.{Decision}
use Rattle.rules_event.specs.declared.Link.{Link}
use Rattle.event_decision.specs.Inner.Decides.{Decides, DecidesOn, decided}
use Rattle.event_asked.specs.Happened.{happened, event_of}
use Rattle.event_asked.specs.Inner.Ask.{Asks, ask_effect}
use Rattle.event_asked.specs.Inner.Place.{asp_in, asp_named, known_in, Named, refusal_in_lem}
use Rattle.event_asked.specs.Inner.Refusal.{refusal_code}
use Rattle.event_asked.specs.declared.Ask.{Ask}
use Rattle.event_asked.specs.declared.EventRefusal.{EventRefusal}
use Rattle.event_asked.specs.declared.Place.{Place}
use Rattle.event_run.specs.Inner.Columns.{AskColumns, owner_any}
use Rattle.event_run.specs.Inner.Decided.{Does}

-- what is read: what the event asks, whether the state is sound, the places, and whether it is refused
pub record Read (g : Gateway) (kind i : ℕ) (msg : List ℕ) (room size : ℕ) (ask : Ask) (sound : Bool) (at : Place) (no : Result (Unit {0}) EventRefusal) : Type 0 where
  pub sound_is : sound ≡ is_sound g
  pub asks : Asks kind i msg ask
  pub near : at.index < 128
  pub named : sound ≡ true → Named g.links g.iid ask at.there at.index
  pub asp_is : sound ≡ true → at.asp ≡ asp_in (asp_named ask)
  pub code_is : refusal_code no ≡ refusal_of sound (known_in g.asps g.ases at.there (link_at g at.index) ask) (lending room size)

-- by what the calls ensure
pub asked_of : (kind i : ℕ) {g : Gateway} {msg : List ℕ} {room size : ℕ} {ask : Ask} {sound : Bool} {at : Place} {k : Link} {no : Result (Unit {0}) EventRefusal}
    → sound ≡ is_sound g → Asks kind i msg ask
    → (at.index < 128) × (sound ≡ true → Named g.links g.iid ask at.there at.index) × (at.asp < 16) × (sound ≡ true → at.asp ≡ asp_in (asp_named ask))
    → k ≡ link_at g at.index → refusal_code no ≡ refusal_of sound (known_in g.asps g.ases at.there k ask) (lending room size)
    → Read g kind i msg room size ask sound at no
asked_of kind i s a p e c = record { sound_is = s; asks = a; near = p.0; named = p.1; asp_is = p.3; code_is = rw e at c }

module _ {g : Gateway} {kind i : ℕ} {msg : List ℕ} {room size : ℕ} {ask : Ask} {sound : Bool} {at : Place} {no : Result (Unit {0}) EventRefusal} (r : Read g kind i msg room size ask sound at no) where
  pub refusal_is : refusal_code no ≡ refusal g (event_of (happened kind i msg) room size)
  refusal_is =
      r.code_is
      ∙ refusal_in_lem g ask _ _ _ (lending room size) r.sound_is r.named
      ∙ (λ j. refusal_of (is_sound g) (r.asks.known g j) (lending room size))

  -- of an event that is not refused
  module _ (h : refusal_code no ≡ 0) where
    pub whole_is : Accepted (is_sound g) (in_plan g (happened kind i msg)) (lending room size)
    whole_is = accepted _ _ _ (sym refusal_is ∙ h)

    pub sound_yes : sound ≡ true
    sound_yes = r.sound_is ∙ whole_is.sound_yes

    pub owner_16 : number_at g.owner at.index < 16
    owner_16 = owner_any g whole_is.sound_yes _ r.near

    -- what is decided is the rules' effect
    pub does : {w : Decision}
        → DecidesOn (AskColumns at.index (link_at g at.index) (owner_of g (number_at g.owner at.index)) at.asp (asp_at g at.asp) g.links g.member g.active g.mode g.iid g.owner) (λ e. ask_effect e msg ask) w
        → Does g kind i msg size room w
    does d =
        record {
          accepted = sym h ∙ refusal_is;
          decides =
              decided
              (d.on g (record { link_is = refl; owned_by = refl; asp_is = refl; links_is = refl; member_is = refl; active_is = refl; mode_is = refl; iid_is = refl; owner_is = refl }))
              (r.asks.effect g);
        }
