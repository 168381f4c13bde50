-- What Active and Inactive are aimed at, over the columns that say it, and what they do then.
-- Assumes nothing.
use Rattle.std.specs.Prelude.{◌≡◌, Bool, cond, ◌&&◌, ◌||◌, List, [], ℕ}
use Rattle.std.proofs.Math.Path.{refl}
use Rattle.std.proofs.Common.{ap, ◌∙◌, sym}
use Rattle.std.proofs.Math.Bool.{true, false, not}
use Rattle.std.proofs.lemmas.Bool.{false≢true}
use Rattle.std.proofs.Math.Dec.{eqb}
use borrow.Author.Tests.{not-true, not-false}
use Rattle.laws.specs.Below.{any_below}
use Rattle.laws.specs.Columns.{flag_at, number_at}
use Rattle.codec_wire.specs.Walk.{Par}
use Rattle.codec_read.specs.declared.Reading.{Reading}
use Rattle.state_tables.specs.declared.Gateway.{Gateway}
use Rattle.rules_action.specs.declared.Action.{Action}
use Rattle.rules_server.specs.Record.{some}
use Rattle.rules_servers.specs.Changed.{column_of}
use Rattle.state_ranges.specs.Named.{Refused, is_refused, is_owned_by, nothing}
use Rattle.state_ranges.specs.declared.Named.{Named}
use Rattle.state_sets.specs.Inner.Members.{members}
use Rattle.state_ranges.specs.Inner.Names.{as_refused, Names}
use Rattle.event_decision.specs.Inner.Decides.{Decides, act}
use Rattle.rules_event.specs.declared.Asp.{Asp}
use Rattle.rules_event.specs.declared.Decision.{Decision}
use Rattle.rules_event.specs.Records.{asp_at}
use Rattle.rules_event.specs.Effect.{Effect, send, error, error2}
use Rattle.rules_event.specs.Identifiers.{first_refused, owners_good}
use Rattle.rules_event.specs.Asp.{ases_of, other_mode, part_effect, traffic_effect}
use Rattle.event_traffic.specs.Inner.Named.{refused_pars, good_pars, refused_is, good_is}

-- the state g has these columns, and s for ASP p
pub record TrafficColumns (links p : ℕ) (s : Asp) (member mode iid owner : List ℕ) (g : Gateway) : Type 0 where
  pub links_is : g.links ≡ links
  pub asp_is : asp_at g p ≡ s
  pub member_is : g.member ≡ member
  pub mode_is : g.mode ≡ mode
  pub iid_is : g.iid ≡ iid
  pub owner_is : g.owner ≡ owner

-- a mode given that is not that of some AS named (Rule 7.9); 0 stands for none given
unfoldable pub other_mode_in : List ℕ → ℕ → List Bool → Bool
other_mode_in mode m named = not (eqb m 0) && any_below (λ a. flag_at named a && not (eqb (number_at mode a) m)) 16

pub mode_is_other : (g : Gateway) (m : ℕ) (named : List Bool) {mode : List ℕ} → g.mode ≡ mode → other_mode g m named ≡ other_mode_in mode m named
unfolding other_mode other_mode_in
mode_is_other g m named e = ap (λ (l : List ℕ). other_mode_in l m named) e

-- what is told beside an Ack: Error 2 for the identifier that was refused, if one was
abbrev pub told : ℕ → Refused → List Action
told p bad = cond bad.found (error2 p bad.id) []

-- what a message is aimed at: the first refused of its identifiers and the owners of the good ones, and
-- without any all of p's ASes
pub record Aims (e : Named) (ids : Bool) (first : Refused) (good mine : List Bool) : Type 0 where
  pub named : ids ≡ true → Names e first good
  pub all : ids ≡ false → ((as_refused e.refused) ≡ nothing) × (members e.set ≡ mine)

module _ {e : Named} {ids : Bool} {first : Refused} {good mine : List Bool} where
  pub aims_all : not ids ≡ true → (as_refused e.refused) ≡ nothing → members e.set ≡ mine → Aims e ids first good mine
  aims_all t r f = record { named = λ h. absurd (false≢true (sym (not-true ids t) ∙ h)); all = λ h. (r, f) }

  pub aims_named : not ids ≡ false → Names e first good → Aims e ids first good mine
  aims_named t n = record { named = λ h. n; all = λ h. absurd (false≢true (sym h ∙ not-false ids t)) }

-- the same of the state g, by the rules
pub aims_on : {links : ℕ} {s : Asp} {member mode iid owner : List ℕ} (g : Gateway) (p : ℕ) (ps : List Par) {e : Named} {ids : Bool} → TrafficColumns links p s member mode iid owner g
    → Aims e ids (refused_pars (is_refused iid owner member links p) ps) (good_pars (is_owned_by iid owner links) (column_of member p) ps) (column_of member p)
    → Aims e ids (first_refused g p ps) (owners_good g p ps) (ases_of g p)
aims_on g p ps h a =
    rw (refused_is g p ps, good_is g p ps, h.links_is, h.member_is, h.iid_is, h.owner_is) a

-- whether it does nothing, of the test whether no AS is named
unfoldable pub nothing_done : Bool → Bool → Bool → Bool → Bool
nothing_done ids found whole none = cond ids (found && (whole || none)) none

-- the rule's tree, where i says that identifiers are given, and f that one is refused
abbrev does : Gateway → ℕ → List Par → Reading → Bool → Bool → Bool → Effect
does g p ps r on i f =
    cond (not (eqb (number_at g.up p) 1)) (send (error p 6))
    (cond i
    (cond f (part_effect g p (first_refused g p ps).id (owners_good g p ps) (act g p on r.mode)) (act g p on r.mode [] (owners_good g p ps)))
    (cond (some (ases_of g p)) (act g p on r.mode [] (ases_of g p)) (send (error p 6))))

-- p's lists are taken whole
abbrev pub takes_whole : Gateway → ℕ → Bool
takes_whole g p = eqb (number_at g.wholelists p) 1

-- it decides
module _ (g : Gateway) (p : ℕ) (ps : List Par) (r : Reading) (on : Bool) (e : Named) (u : eqb (number_at g.up p) 1 ≡ true)
    (h : Aims e (eqb r.ids 1) (first_refused g p ps) (owners_good g p ps) (ases_of g p)) where
  found_is : eqb r.ids 1 ≡ true → (as_refused e.refused).found ≡ (first_refused g p ps).found
  found_is i = ap (λ z. z.found) (h.named i).refused

  pub aimed_fails : {w : Decision} → nothing_done (eqb r.ids 1) (as_refused e.refused).found (takes_whole g p) (not (some (members e.set))) ≡ true → Decides w (send (cond (as_refused e.refused).found (error2 p (as_refused e.refused).id) (error p 6))) → Decides w (traffic_effect g p r ps (act g p on r.mode))
  unfolding traffic_effect part_effect nothing_done
  aimed_fails {w} t d = go (eqb r.ids 1) refl (as_refused e.refused).found refl t
    where
      go : (i : Bool) → eqb r.ids 1 ≡ i → (f : Bool) → (as_refused e.refused).found ≡ f → nothing_done i f (takes_whole g p) (not (some (members e.set))) ≡ true → Decides w (does g p ps r on i (first_refused g p ps).found)
      go true i true f q = let z : (takes_whole g p || not (some (owners_good g p ps))) ≡ true = rw (h.named i).set at q in rw (u, ← found_is i, f, z) (rw (f, (h.named i).refused) at d)
      go true i false f q = absurd (false≢true q)
      go false i f k q = let z : some (ases_of g p) ≡ false = not-true _ (rw (h.all i).1 at q) in rw (u, z) (rw (h.all i).0 at d)

  pub aimed_acts : {w : Decision} → nothing_done (eqb r.ids 1) (as_refused e.refused).found (takes_whole g p) (not (some (members e.set))) ≡ false → Decides w (act g p on r.mode (told p (as_refused e.refused)) (members e.set)) → Decides w (traffic_effect g p r ps (act g p on r.mode))
  unfolding traffic_effect part_effect nothing_done
  aimed_acts {w} t d = go (eqb r.ids 1) refl (as_refused e.refused).found refl t
    where
      go : (i : Bool) → eqb r.ids 1 ≡ i → (f : Bool) → (as_refused e.refused).found ≡ f → nothing_done i f (takes_whole g p) (not (some (members e.set))) ≡ false → Decides w (does g p ps r on i (first_refused g p ps).found)
      go true i true f q = let z : (takes_whole g p || not (some (owners_good g p ps))) ≡ false = rw (h.named i).set at q in rw (u, ← found_is i, f, z) (rw (f, (h.named i).set, (h.named i).refused) at d)
      go true i false f q = rw (u, ← found_is i, f) (rw (f, (h.named i).set) at d)
      go false i f k q = let z : some (ases_of g p) ≡ true = not-false _ (rw (h.all i).1 at q) in rw (u, z) (rw ((h.all i).0, (h.all i).1) at d)
