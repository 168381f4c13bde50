-- What an event asks of the gateway, as the code passes it: the rules' effect of it, and whether it is in the
-- plan.
-- Assumes nothing.
use Rattle.std.specs.Prelude.{ℕ, ◌<◌, ◌≡◌, refl, Bool, true, false, cond, ◌||◌, List, [], eqb, ltb}
use Rattle.std.proofs.Common.{sym, ◌∙◌, arith, ltb-true, eqb-true, ne_eqb}
use Rattle.std.proofs.lemmas.Bool.{false≢true, eqb-false}
use Rattle.laws.specs.Columns.{tabulate}
use Rattle.codec_read.specs.Meaning.{reading_of}
use Rattle.codec_read.specs.declared.Reading.{Reading}
use Rattle.state_tables.specs.Laws.{Limits}
use Rattle.state_tables.specs.declared.Gateway.{Gateway}
use Rattle.rules_server.specs.declared.Change.TheVariants.{Recover}
use Rattle.rules_event.specs.Event.{EventKind, message, link_message}
use Rattle.rules_event.specs.Effect.{Effect, change_in}
use Rattle.codec_wire.specs.Walk.{walk}
use Rattle.rules_action.specs.Types.{asp_up, asp_down, asp_active, asp_inactive}
use Rattle.rules_event.specs.Asp.{up_effect, down_effect, lost_effect, traffic_effect}
use Rattle.rules_event.specs.Link.{link_up_effect, link_down_effect, link_message_effect}
use Rattle.rules_event.specs.Rules.{is_error, effect_of, in_plan}
use Rattle.rules_event.specs.Identifiers.{owner_at, is_member}
use Rattle.rules_event.specs.Reach.{owns_id, kind_reach}
use Rattle.event_decision.specs.Inner.Decides.{act}
use Rattle.event_others.specs.Inner.Other.{other_effect, type_in, message_up, message_down, message_active, message_inactive, message_other}
use Rattle.event_links.specs.Inner.Side.{passes, Side, side, Fits, fits, in_plan_lem}
use Rattle.event_asked.specs.Happened.{happened}
use Rattle.event_asked.specs.Inner.Reach.{named_reach, other_reach, reach_up, reach_down, reach_active, reach_inactive, reach_other}
use Rattle.event_asked.specs.declared.Ask.{Ask}
use Rattle.event_asked.specs.declared.Ask.TheVariants.{Up, Down, Traffic, Other, Lost, Recovery, LinkUp, LinkDown, LinkMessage}

-- the rules' effect, where s is the message
abbrev pub ask_effect : Gateway → List ℕ → Ask → Effect
ask_effect g s (Up p r) = up_effect g p r
ask_effect g s (Down p) = down_effect g p
ask_effect g s (Traffic p r on) = traffic_effect g p r (walk s 8).pars (act g p on r.mode)
ask_effect g s (Other p r wrong) = other_effect g p wrong r
ask_effect g s (Lost p) = lost_effect g p
ask_effect g s (Recovery a) = change_in [] Recover (tabulate 16 (λ c. eqb c a))
ask_effect g s (LinkUp l) = link_up_effect g l
ask_effect g s (LinkDown l) = link_down_effect g l
ask_effect g s (LinkMessage r) = link_message_effect g s r

-- the ASes that it reaches
abbrev pub ask_reach : Gateway → List ℕ → Ask → ℕ → Bool
ask_reach g s (Up p r) a = is_member g a p
ask_reach g s (Down p) a = is_member g a p
ask_reach g s (Traffic p r on) a = named_reach g p s r.ids a
ask_reach g s (Other p r wrong) a = other_reach g wrong r a
ask_reach g s (Lost p) a = is_member g a p
ask_reach g s (Recovery c) a = eqb c a
ask_reach g s (LinkUp l) a = eqb (owner_at g l) a
ask_reach g s (LinkDown l) a = eqb (owner_at g l) a
ask_reach g s (LinkMessage r) a = owns_id g r.id a

-- what it names is in the plan
abbrev pub ask_known : Gateway → Ask → Bool
ask_known g (Up p r) = ltb p g.asps
ask_known g (Down p) = ltb p g.asps
ask_known g (Traffic p r on) = ltb p g.asps
ask_known g (Other p r wrong) = ltb p g.asps
ask_known g (Lost p) = ltb p g.asps
ask_known g (Recovery a) = ltb a g.ases
ask_known g (LinkUp l) = ltb l g.links
ask_known g (LinkDown l) = ltb l g.links
ask_known g (LinkMessage r) = passes g r

-- class and type are bytes, and what the link side sends is as it was read
abbrev pub AskSmall : List ℕ → Ask → Type 0
AskSmall s (Up p r) = ◌≡◌ {A = ℕ} 0 0
AskSmall s (Down p) = ◌≡◌ {A = ℕ} 0 0
AskSmall s (Traffic p r on) = ◌≡◌ {A = ℕ} 0 0
AskSmall s (Other p r wrong) = (r.class < 256) × (r.msgtype < 256)
AskSmall s (Lost p) = ◌≡◌ {A = ℕ} 0 0
AskSmall s (Recovery a) = ◌≡◌ {A = ℕ} 0 0
AskSmall s (LinkUp l) = ◌≡◌ {A = ℕ} 0 0
AskSmall s (LinkDown l) = ◌≡◌ {A = ℕ} 0 0
AskSmall s (LinkMessage r) = r ≡ reading_of s

-- a message of ASP p by its class and type t; wrong says that it is an Error
unfoldable pub ask_of : ℕ → ℕ → Bool → Reading → Ask
ask_of p t wrong r =
    cond (eqb t asp_up) (Up p r)
    (cond (eqb t asp_down) (Down p)
    (cond (eqb t asp_active || eqb t asp_inactive) (Traffic p r (eqb t asp_active))
    (Other p r wrong)))

-- what it names is within the tables, class and type are bytes, and protocol data fits its place
abbrev pub AskFits : ℕ → List ℕ → List ℕ → Ask → Type 0
AskFits links iid s (Up p r) = p < 16
AskFits links iid s (Down p) = p < 16
AskFits links iid s (Traffic p r on) = p < 16
AskFits links iid s (Other p r wrong) = (p < 16) × (r.class < 256) × (r.msgtype < 256)
AskFits links iid s (Lost p) = p < 16
AskFits links iid s (Recovery a) = ◌≡◌ {A = ℕ} 0 0
AskFits links iid s (LinkUp l) = l < links
AskFits links iid s (LinkDown l) = l < links
AskFits links iid s (LinkMessage r) = Side iid links r × (r.msgtype ≡ 1 → Fits s r)

-- what is asked is that event
pub record AsksKind (e : EventKind) (s : List ℕ) (ask : Ask) : Type 0 where
  pub effect : (g : Gateway) → ask_effect g s ask ≡ effect_of g e
  pub reach : (g : Gateway) (a : ℕ) → ask_reach g s ask a ≡ kind_reach g e a
  pub known : (g : Gateway) → ask_known g ask ≡ in_plan g e
  pub small : AskSmall s ask

abbrev pub Asks : ℕ → ℕ → List ℕ → Ask → Type 0
Asks k i s ask = AsksKind (happened k i s) s ask

-- ---- laws

-- what is in the plan is within the tables
ask_fits : (g : Gateway) (s : List ℕ) (ask : Ask) → Limits g.asps g.ases g.links → ask_known g ask ≡ true
    → AskSmall s ask → AskFits g.links g.iid s ask
ask_fits g s (Up p r) c h q = omega (arith, ltb-true p g.asps h, c.asps)
ask_fits g s (Down p) c h q = omega (arith, ltb-true p g.asps h, c.asps)
ask_fits g s (Traffic p r on) c h q = omega (arith, ltb-true p g.asps h, c.asps)
ask_fits g s (Other p r wrong) c h q = (omega (arith, ltb-true p g.asps h, c.asps), q.0, q.1)
ask_fits g s (Lost p) c h q = omega (arith, ltb-true p g.asps h, c.asps)
ask_fits g s (Recovery a) c h q = refl
ask_fits g s (LinkUp l) c h q = ltb-true l g.links h
ask_fits g s (LinkDown l) c h q = ltb-true l g.links h
ask_fits g s (LinkMessage r) c h q = (side g r h, fits g s r q h)

pub ask_fits_at : (g : Gateway) (s : List ℕ) (ask : Ask) {n : ℕ} → n ≡ g.links → Limits g.asps g.ases g.links → ask_known g ask ≡ true → AskSmall s ask → AskFits n g.iid s ask
ask_fits_at g s ask e c h q = rw e (ask_fits g s ask c h q)

-- ---- what is asked is the event

pub asks_message : (p : ℕ) (s : List ℕ) → (reading_of s).class < 256 → (reading_of s).msgtype < 256 → AsksKind (message p s) s (ask_of p (type_in (is_error s) (reading_of s)) (is_error s) (reading_of s))
unfolding ask_of act
asks_message p s c k =
    let t = type_in (is_error s) (reading_of s) in
    go t refl (eqb t asp_up) (eqb t asp_down) (eqb t asp_active) (eqb t asp_inactive) refl refl refl refl
  where
    go : (t : ℕ) → type_in (is_error s) (reading_of s) ≡ t → (u v x y : Bool) → eqb t asp_up ≡ u → eqb t asp_down ≡ v → eqb t asp_active ≡ x → eqb t asp_inactive ≡ y
        → AsksKind (message p s) s (cond u (Up p (reading_of s)) (cond v (Down p) (cond (x || y) (Traffic p (reading_of s) x) (Other p (reading_of s) (is_error s)))))
    go t e true v x y a b c₁ d = record { effect = λ g. sym (message_up g p s (e ∙ eqb-true t asp_up a)); reach = λ g b. sym (reach_up g p s b (e ∙ eqb-true t asp_up a)); known = λ g. refl; small = refl }
    go t e false true x y a b c₁ d = record { effect = λ g. sym (message_down g p s (e ∙ eqb-true t asp_down b)); reach = λ g a. sym (reach_down g p s a (e ∙ eqb-true t asp_down b)); known = λ g. refl; small = refl }
    go t e false false true y a b c₁ d = record { effect = λ g. sym (message_active g p s (e ∙ eqb-true t asp_active c₁)); reach = λ g a. sym (reach_active g p s a (e ∙ eqb-true t asp_active c₁)); known = λ g. refl; small = refl }
    go t e false false false true a b c₁ d = record { effect = λ g. sym (message_inactive g p s (e ∙ eqb-true t asp_inactive d)); reach = λ g a. sym (reach_inactive g p s a (e ∙ eqb-true t asp_inactive d)); known = λ g. refl; small = refl }
    go t e false false false false a b c₁ d =
        record {
          effect = λ g. sym (message_other g p s (λ z. eqb-false t asp_up a (sym e ∙ z)) (λ z. eqb-false t asp_down b (sym e ∙ z)) (λ z. eqb-false t asp_active c₁ (sym e ∙ z)) (λ z. eqb-false t asp_inactive d (sym e ∙ z)));
          reach = λ g x. sym (reach_other g p s x (λ z. eqb-false t asp_up a (sym e ∙ z)) (λ z. eqb-false t asp_down b (sym e ∙ z)) (λ z. eqb-false t asp_active c₁ (sym e ∙ z)) (λ z. eqb-false t asp_inactive d (sym e ∙ z)));
          known = λ g. refl;
          small = (c, k);
        }

-- a message of the link side asks what it is
pub asks_link_message : (s : List ℕ) → AsksKind (link_message s) s (LinkMessage (reading_of s))
asks_link_message s = record { effect = λ g. refl; reach = λ g a. refl; known = λ g. in_plan_lem g s; small = refl }
