-- Data among the actions of a change: the units of AS a, if it lets them out, and nothing else.
-- Assumes nothing.
use mathlib.Core.Path.{◌≡◌, refl, sym, ap, ◌∙◌}
use mathlib.Core.Bool.{Bool, true, false, cond, ◌&&◌, ◌||◌}
use mathlib.Core.List.{List}
use Prim.Native.Nat.{ℕ, ◌+◌, ◌<◌}
use native.Mathlib.Omega.{arith}
use lib.Dec.{eqb, leb, ltb}
use borrow.Author.Tests.{ne_eqb, eqb-true, lt-ltb, ltb-true}
use Rattle.laws.specs.Below.{one, when}
use Rattle.laws.specs.Inner.Below.{any_at}
use Rattle.laws.specs.Inner.Every.{and_left, and_right}
use Rattle.laws.specs.Columns.{flag_at, number_at}
use Rattle.state_tables.specs.Sound.{unit_index, is_link_of, unit_at, blank_at, is_sound}
use Rattle.state_tables.specs.Inner.Laws.{parts, links_parts}
use Rattle.state_tables.specs.declared.Gateway.{Gateway}
use Rattle.state_tables.specs.declared.Units.{Units}
use Rattle.rules_action.specs.Types.{mgmt_notify, other_active, as_state}
use Rattle.rules_action.specs.Words.{link_side}
use Rattle.state_lookup.specs.Links.{index_of, known}
use Rattle.state_lookup.specs.Inner.Links.{index_own}
use Rattle.rules_server.specs.declared.AsRecord.{AsRecord}
use Rattle.rules_server.specs.declared.Change.{Change}
use Rattle.rules_server.specs.declared.Change.TheVariants.{AspUp, AspDown, Deactivate, Activate, Recover}
use Rattle.rules_server.specs.Record.{record_of, state_in}
use Rattle.rules_server.specs.Change.{after, overtaken_in}
use Rattle.rules_server.specs.Notify.{is_notified, notify, notifies_to, notifies, actions_in}
use Rattle.rules_server.specs.Units.{sending, unit_out, units_out, let_out}
use Rattle.rules_server.specs.Inner.Change.{fits}
use Rattle.rules_servers.specs.Changed.{actions_at, all_actions}
use Rattle.rules_event.specs.Identifiers.{is_known, link_of}
use Rattle.rules_event.specs.Reach.{owns_id}
use Rattle.rules_conserve.specs.Conserve.{holds, sum_below}
use Rattle.rules_conserve.proofs.Count.{sum_ext, sum_none, sum_single, sum_upto, least_is, data_in, data_append, data_concat, no_data, zero_either}
use Rattle.rules_conserve.proofs.Held.{out, units, few}

-- a unit of AS c has the identifier of a link of it
unit_link : (u : Units) (iid owner : List ℕ) (links c i : ℕ) → unit_at u iid owner links c i ≡ true → is_link_of iid owner links c (number_at u.id i) ≡ true
unfolding unit_at
unit_link u iid owner links c i h =
    and_left (is_link_of iid owner links c (number_at u.id i)) _
    (and_right ((eqb (number_at u.tag i) 0x300 || eqb (number_at u.tag i) 0x301) && (leb 5 (number_at u.length i) && leb (number_at u.length i) 277)) _ h)

-- which is owned by it alone
owns : (g : Gateway) → is_sound g ≡ true → (c x a : ℕ) → is_link_of g.iid g.owner g.links c x ≡ true → owns_id g x a ≡ eqb c a
unfolding is_link_of owns_id is_known link_of known
owns g ok c x a h =
    let k = any_at (λ l. eqb (number_at g.iid l) x && eqb (number_at g.owner l) c) g.links h in
    let l = k.0 in
    let i : number_at g.iid l ≡ x = eqb-true (number_at g.iid l) x (and_left _ _ k.2) in
    let o : number_at g.owner l ≡ c = eqb-true (number_at g.owner l) c (and_right (eqb (number_at g.iid l) x) _ k.2) in
    let e : index_of g.iid g.links x ≡ l = ap (index_of g.iid g.links) (sym i) ∙ index_own g.iid g.links (links_parts g.iid g.owner g.state g.ases g.links (parts g ok).in_links).order l k.1 in
    rw (e, lt-ltb l g.links k.1, o)

-- a Notify is none
when_none : (g : Gateway) (a : ℕ) (t : Bool) (c v q : ℕ) → data_in g a (when t (notify c v q)) ≡ 0
unfolding data_in
when_none g a true c v q = rw (no_data g a q mgmt_notify c refl) (omega arith)
when_none g a false c v q = refl

no_notifies : (g : Gateway) (a : ℕ) (lost : List Bool) (s t : AsRecord) (c : ℕ) → data_in g a (notifies lost s t c) ≡ 0
unfolding notifies notifies_to
no_notifies g a lost s t c =
    data_concat g a (notifies_to lost s t c) 16
    ∙ sum_none (λ q. data_in g a (notifies_to lost s t c q)) 16
    (λ q z. data_append g a (when (flag_at lost q) (notify c other_active q)) _ ∙ omega (arith, when_none g a (flag_at lost q) c other_active q, when_none g a (is_notified s t && flag_at t.ups q) c (as_state (state_in t)) q))

module _ (g : Gateway) (ok : is_sound g ≡ true) (a c : ℕ) (b : c < 16) where
  -- a unit in place j of AS c, sent to ASP p
  unit_data : (p j : ℕ) → p < 16 → j < 8 → data_in g a (unit_out p (holds g c) g.held.id c j) ≡ cond (eqb c a) (one (ltb j (holds g c))) 0
  unfolding unit_out data_in
  unit_data p j l m = go (ltb j (holds g c)) ((units g ok c b).places j m)
    where
      same : (t : Bool) → one t + 0 ≡ cond t 1 0
      same true = refl
      same false = refl

      go : (t : Bool) → cond t (unit_at g.held g.iid g.owner g.links c (unit_index c j)) (blank_at g.held (unit_index c j)) ≡ true
          → data_in g a (when t (sending p g.held.id (unit_index c j))) ≡ cond (eqb c a) (one t) 0
      go true h =
          rw (ne_eqb p link_side (λ z. omega arith), owns g ok c (number_at g.held.id (unit_index c j)) a (unit_link g.held g.iid g.owner g.links c (unit_index c j) h)) (same (eqb c a))
      go false h = zero_either (eqb c a)

  sum_if : (t : Bool) (f : ℕ → ℕ) (n : ℕ) → sum_below (λ i. cond t (f i) 0) n ≡ cond t (sum_below f n) 0
  sum_if true f n = refl
  sum_if false f n = sum_none (λ i. 0) n (λ i q. refl)

  -- its units
  let_out_lem : (k : Change) → fits k ≡ true → data_in g a (let_out k (holds g c) g.held.id c) ≡ cond (eqb c a) (out k (holds g c)) 0
  unfolding let_out units_out data_in
  let_out_lem (AspUp p) f = zero_either (eqb c a)
  let_out_lem (AspDown p) f = zero_either (eqb c a)
  let_out_lem (Deactivate p) f = zero_either (eqb c a)
  let_out_lem (Activate p) f =
      data_concat g a (unit_out p (holds g c) g.held.id c) 8
      ∙ sum_ext _ (λ j. cond (eqb c a) (one (ltb j (holds g c))) 0) 8 (λ j m. unit_data p j (ltb-true p 16 f) m)
      ∙ sum_if (eqb c a) (λ j. one (ltb j (holds g c))) 8
      ∙ ap (λ (x : ℕ). cond (eqb c a) x 0) (sum_upto (holds g c) 8 ∙ least_is (holds g c) 8 (few g ok c b))
  let_out_lem Recover f = zero_either (eqb c a)

  -- of all that a change does in AS c
  at_as : (k : Change) (named : List Bool) → fits k ≡ true → data_in g a (actions_at k named (record_of g) g.held.count g.held.id c) ≡ cond (eqb c a) (cond (flag_at named a) (out k (holds g a)) 0) 0
  unfolding actions_at actions_in data_in
  at_as k named f = go (flag_at named c) ∙ here (eqb c a) refl
    where
      go : (t : Bool) → data_in g a (actions_in t k c (record_of g c) (holds g c) g.held.id) ≡ cond (eqb c a) (cond t (out k (holds g c)) 0) 0
      go true =
          data_append g a (let_out k (holds g c) g.held.id c) _
          ∙ omega (arith, let_out_lem k f, no_notifies g a (overtaken_in k (record_of g c)) (record_of g c) (after k (record_of g c)) c)
      go false = zero_either (eqb c a)

      here : (t : Bool) → eqb c a ≡ t → cond t (cond (flag_at named c) (out k (holds g c)) 0) 0 ≡ cond t (cond (flag_at named a) (out k (holds g a)) 0) 0
      here true e = ap (λ (d : ℕ). cond (flag_at named d) (out k (holds g d)) 0) (eqb-true c a e)
      here false e = refl

module _ (g : Gateway) (ok : is_sound g ≡ true) (a : ℕ) (b : a < 16) where
  pub change_data : (k : Change) (named : List Bool) → fits k ≡ true → data_in g a (all_actions g k named) ≡ cond (flag_at named a) (out k (holds g a)) 0
  unfolding all_actions
  change_data k named f =
      data_concat g a (actions_at k named (record_of g) g.held.count g.held.id) 16
      ∙ sum_ext _ (λ c. cond (eqb c a) (cond (flag_at named a) (out k (holds g a)) 0) 0) 16 (λ c l. at_as g ok a c l k named f)
      ∙ sum_single a (cond (flag_at named a) (out k (holds g a)) 0) 16
      ∙ rw (lt-ltb a 16 b)
