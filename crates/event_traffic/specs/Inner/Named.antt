-- The identifiers that a message names (Rule 7.8), one parameter after the other, over what tells of one
-- identifier whether it is refused (bad), and whether AS a owns it (good a).
-- Assumes nothing.
use Rattle.std.specs.Prelude.{◌≡◌, Bool, true, cond, ◌&&◌, ◌||◌, ℕ, ◌<◌, eqb, length, replicate}
use Rattle.std.proofs.Math.Path.{refl}
use Rattle.std.proofs.Common.{ap, ◌∙◌, sym, subst, eqb-true}
use Rattle.std.proofs.Math.Bool.{false}
use Rattle.std.proofs.lemmas.Bool.{false≢true}
use mathlib.Core.List.{List, [], ◌∷◌}
use Rattle.std.proofs.lemmas.List.{get_or-replicate}
use Rattle.laws.specs.Columns.{flag_at, is_set, tabulate}
use Rattle.laws.specs.Inner.Columns.{tabulate_ext, get_d_tabulate, length_tabulate}
use Rattle.codec_wire.specs.Walk.{Par}
use Rattle.state_tables.specs.Sound.{pair}
use Rattle.state_tables.specs.declared.Gateway.{Gateway}
use Rattle.state_sets.specs.declared.AsSet.{AsSet}
use Rattle.state_sets.specs.Inner.Members.{members}
use Rattle.rules_servers.specs.Changed.{column_of}
use Rattle.state_lookup.specs.Inner.Table.{Table}
use Rattle.state_ranges.specs.Inner.Refused.{refused_by, refused_by_lem}
use Rattle.state_ranges.specs.Named.{Refused, is_refused, is_owned_by, nothing, refused_in, some_of}
use Rattle.rules_event.specs.Identifiers.{is_ids, first_refused, names_some, owns_good, owners_good}
use Rattle.rules_event.specs.Asp.{ases_of}
use Rattle.state_names.specs.Inner.Entries.{plain_in}
use Rattle.state_ranges.specs.Inner.Names.{earlier, earlier_again, earlier_nothing, Plain, plain_earlier}

-- the first refused identifier of one parameter
unfoldable pub refused_par : (ℕ → Bool) → ℕ → List ℕ → Refused
refused_par bad t v = cond (eqb t 0x1) (refused_in bad false v) (cond (eqb t 0x8) (refused_in bad true v) nothing)

-- whether one parameter names a good identifier
unfoldable pub owns_par : (ℕ → Bool) → ℕ → List ℕ → Bool
owns_par good t v = cond (eqb t 0x1) (some_of good false v) (cond (eqb t 0x8) (some_of good true v) false)

-- the flags set, with those of a parameter
unfoldable pub with_par : List Bool → (ℕ → ℕ → Bool) → ℕ → List ℕ → List Bool
with_par set good t v =
    cond (eqb t 0x1) (tabulate 16 (λ a. flag_at set a || some_of (good a) false v))
    (cond (eqb t 0x8) (tabulate 16 (λ a. flag_at set a || some_of (good a) true v)) set)

-- the same of all parameters
unfoldable pub refused_pars : (ℕ → Bool) → List Par → Refused
refused_pars bad [] = nothing
refused_pars bad (x ∷ ps) = cond (refused_par bad x.tag x.body).found (refused_par bad x.tag x.body) (refused_pars bad ps)

unfoldable pub owns_pars : (ℕ → Bool) → List Par → Bool
owns_pars good [] = false
owns_pars good (x ∷ ps) = owns_par good x.tag x.body || owns_pars good ps

-- the flags of those in mine
unfoldable pub good_pars : (ℕ → ℕ → Bool) → List Bool → List Par → List Bool
good_pars good mine ps = tabulate 16 (λ a. owns_pars (good a) ps && flag_at mine a)

-- ---- they are the rules'

-- tag 0x1 is not tag 0x8
one_only : (t : ℕ) → eqb t 0x1 ≡ true → eqb t 0x8 ≡ false
one_only t e = let z : t ≡ 1 = eqb-true t 1 e in rw z

refused_par_lem : (bad : ℕ → Bool) (t : ℕ) (v : List ℕ) (rest : Refused)
    → cond (is_ids t) (cond (refused_in bad (eqb t 0x8) v).found (refused_in bad (eqb t 0x8) v) rest) rest ≡ cond (refused_par bad t v).found (refused_par bad t v) rest
unfolding refused_par
refused_par_lem bad t v rest = go (eqb t 0x1) refl (eqb t 0x8) refl
  where
    go : (u : Bool) → eqb t 0x1 ≡ u → (w : Bool) → eqb t 0x8 ≡ w
        → cond (u || w) (cond (refused_in bad w v).found (refused_in bad w v) rest) rest
        ≡ cond (cond u (refused_in bad false v) (cond w (refused_in bad true v) nothing)).found (cond u (refused_in bad false v) (cond w (refused_in bad true v) nothing)) rest
    go true e true f = absurd (false≢true (sym (one_only t e) ∙ f))
    go true e false f = refl
    go false e true f = refl
    go false e false f = refl

owns_par_lem : (good : ℕ → Bool) (t : ℕ) (v : List ℕ) → (is_ids t && some_of good (eqb t 0x8) v) ≡ owns_par good t v
unfolding owns_par
owns_par_lem good t v = go (eqb t 0x1) refl (eqb t 0x8) refl
  where
    go : (u : Bool) → eqb t 0x1 ≡ u → (w : Bool) → eqb t 0x8 ≡ w
        → ((u || w) && some_of good w v) ≡ cond u (some_of good false v) (cond w (some_of good true v) false)
    go true e true f = absurd (false≢true (sym (one_only t e) ∙ f))
    go true e false f = refl
    go false e true f = refl
    go false e false f = refl

module _ (g : Gateway) where
  pub refused_is : (p : ℕ) (ps : List Par) → first_refused g p ps ≡ refused_pars (is_refused g.iid g.owner g.member g.links p) ps
  unfolding first_refused refused_pars
  refused_is p [] = refl
  refused_is p (x ∷ ps) =
      rw (refused_is p ps) (refused_par_lem (is_refused g.iid g.owner g.member g.links p) x.tag x.body (refused_pars (is_refused g.iid g.owner g.member g.links p) ps))

  names_is : (f : ℕ → Bool) (ps : List Par) → names_some f ps ≡ owns_pars f ps
  unfolding names_some owns_pars
  names_is f [] = refl
  names_is f (x ∷ ps) = rw (names_is f ps, owns_par_lem f x.tag x.body)

  pub good_is : (p : ℕ) (ps : List Par) → owners_good g p ps ≡ good_pars (is_owned_by g.iid g.owner g.links) (ases_of g p) ps
  unfolding owners_good owns_good good_pars column_of
  good_is p ps =
      tabulate_ext false 16 (owns_good g p ps) (λ a. owns_pars (is_owned_by g.iid g.owner g.links a) ps && flag_at (ases_of g p) a)
      (λ a b. rw (names_is (is_owned_by g.iid g.owner g.links a) ps, get_d_tabulate 16 (λ a. is_set g.member (pair a p)) a false b))

-- one is refused by the flags of p's ASes where the rule refuses it
pub refused_mine : (iid owner member : List ℕ) (links p : ℕ) (mine : AsSet) → Table iid owner links → members mine ≡ column_of member p → refused_by iid owner links (members mine) ≡ is_refused iid owner member links p
unfolding column_of
refused_mine iid owner member links p mine t e =
    refused_by_lem iid owner member links p (members mine) t (λ a b. ap (λ (l : List Bool). flag_at l a) e ∙ get_d_tabulate 16 (λ a. is_set member (pair a p)) a false b)

-- ---- the walk: parameters in received order

-- what was refused so far, and with the first of the rest it is that of the whole
pub record Refusing (bad : ℕ → Bool) (ps all : List Par) (r : Refused) : Type 0 where
  pub plain : Plain r
  pub rest : earlier r (refused_pars bad ps) ≡ refused_pars bad all

pub refusing_none : (bad : ℕ → Bool) (all : List Par) → Refusing bad all all nothing
unfolding earlier
refusing_none bad all = record { plain = λ e. refl; rest = refl }

plain_par : (bad : ℕ → Bool) (t : ℕ) (v : List ℕ) → Plain (refused_par bad t v)
unfolding refused_par
plain_par bad t v = go (eqb t 0x1) (eqb t 0x8)
  where
    go : (u w : Bool) → Plain (cond u (refused_in bad false v) (cond w (refused_in bad true v) nothing))
    go true w = plain_in bad false v
    go false true = plain_in bad true v
    go false false = λ e. refl

pub refusing_more : (bad : ℕ → Bool) (x : Par) (ps all : List Par) (r next : Refused) → Refusing bad (x ∷ ps) all r → next ≡ earlier r (refused_par bad x.tag x.body) → Refusing bad ps all next
unfolding refused_pars earlier
refusing_more bad x ps all r next h e =
    record {
      plain = subst Plain (sym e) (plain_earlier r (refused_par bad x.tag x.body) (plain_par bad x.tag x.body));
      rest = ap (λ (z : Refused). earlier z (refused_pars bad ps)) e ∙ earlier_again r (refused_par bad x.tag x.body) (refused_pars bad ps) ∙ joined;
    }
  where
    joined : earlier r (earlier (refused_par bad x.tag x.body) (refused_pars bad ps)) ≡ refused_pars bad all
    joined = h.rest

pub refusing_end : (bad : ℕ → Bool) (all : List Par) (r : Refused) → Refusing bad [] all r → r ≡ refused_pars bad all
unfolding refused_pars
refusing_end bad all r h = sym (earlier_nothing r h.plain) ∙ h.rest

-- The owners of the parameters passed are set, and with those of the rest they are those of the whole.
pub record Owners (good : ℕ → ℕ → Bool) (ps all : List Par) (set : List Bool) : Type 0 where
  pub long : length set ≡ 16
  pub rest : (a : ℕ) → a < 16 → (flag_at set a || owns_pars (good a) ps) ≡ owns_pars (good a) all

pub owners_none : (good : ℕ → ℕ → Bool) (all : List Par) → Owners good all all (replicate 16 false)
owners_none good all = record { long = refl; rest = λ a b. rw (get_or-replicate 16 a false false b) }

or_none : (u : Bool) → u ≡ (u || false)
or_none true = refl
or_none false = refl

at_with : (set : List Bool) (good : ℕ → ℕ → Bool) (t : ℕ) (v : List ℕ) (a : ℕ) → a < 16 → flag_at (with_par set good t v) a ≡ (flag_at set a || owns_par (good a) t v)
unfolding with_par owns_par
at_with set good t v a b = go (eqb t 0x1) (eqb t 0x8)
  where
    one : (w : Bool) → flag_at (tabulate 16 (λ a. flag_at set a || some_of (good a) w v)) a ≡ (flag_at set a || some_of (good a) w v)
    one w = get_d_tabulate 16 (λ a. flag_at set a || some_of (good a) w v) a false b

    go : (u w : Bool)
        → flag_at (cond u (tabulate 16 (λ a. flag_at set a || some_of (good a) false v)) (cond w (tabulate 16 (λ a. flag_at set a || some_of (good a) true v)) set)) a
        ≡ (flag_at set a || cond u (some_of (good a) false v) (cond w (some_of (good a) true v) false))
    go true w = one false
    go false true = one true
    go false false = or_none (flag_at set a)

with_long : (set : List Bool) (good : ℕ → ℕ → Bool) (t : ℕ) (v : List ℕ) → length set ≡ 16 → length (with_par set good t v) ≡ 16
unfolding with_par
with_long set good t v e = go (eqb t 0x1) (eqb t 0x8)
  where
    go : (u w : Bool) → length (cond u (tabulate 16 (λ a. flag_at set a || some_of (good a) false v)) (cond w (tabulate 16 (λ a. flag_at set a || some_of (good a) true v)) set)) ≡ 16
    go true w = length_tabulate 16 _
    go false true = length_tabulate 16 _
    go false false = e

or_assoc : (u v w : Bool) → ((u || v) || w) ≡ (u || (v || w))
or_assoc true v w = refl
or_assoc false v w = refl

pub owners_more : (good : ℕ → ℕ → Bool) (x : Par) (ps all : List Par) (set next : List Bool) → Owners good (x ∷ ps) all set → next ≡ with_par set good x.tag x.body → Owners good ps all next
unfolding owns_pars
owners_more good x ps all set next h e =
    record {
      long = ap length e ∙ with_long set good x.tag x.body h.long;
      rest = λ a b. rw (e, at_with set good x.tag x.body a b) (or_assoc (flag_at set a) (owns_par (good a) x.tag x.body) (owns_pars (good a) ps) ∙ h.rest a b);
    }

-- those in mine
pub good_end : (good : ℕ → ℕ → Bool) (all : List Par) (set mine r : List Bool) → Owners good [] all set → r ≡ tabulate 16 (λ a. flag_at set a && flag_at mine a) → r ≡ good_pars good mine all
unfolding good_pars owns_pars
good_end good all set mine r h e =
    e
    ∙ tabulate_ext false 16 (λ a. flag_at set a && flag_at mine a) (λ a. owns_pars (good a) all && flag_at mine a)
    (λ a b. ap (λ (u : Bool). u && flag_at mine a) (or_none (flag_at set a) ∙ h.rest a b))
