-- What is read back after an event: each place, and the record of each AS.
-- Assumes nothing.
use Rattle.std.specs.Prelude.{ℕ, ◌+◌, ◌*◌, ◌/◌, ◌%◌, ◌<◌, ◌≡◌, Bool, ◌||◌, ◌&&◌, cond, not, List}
use Rattle.std.proofs.Math.Path.{refl, ap, sym}
use Rattle.std.proofs.Common.{◌∙◌}
use Rattle.std.proofs.Math.Bool.{true, false}
use native.Mathlib.Omega.{arith}
use Rattle.std.proofs.Math.Dec.{eqb}
use Rattle.laws.specs.Below.{one}
use Rattle.laws.specs.Columns.{flag_at, is_set, number_at, tabulate}
use Rattle.laws.specs.Inner.Columns.{tabulate_ext, get_d_tabulate}
use Rattle.state_tables.specs.Sound.{pair}
use Rattle.state_tables.specs.declared.Gateway.{Gateway}
use Rattle.rules_server.specs.declared.AsRecord.{AsRecord}
use Rattle.rules_server.specs.declared.Change.{Change}
use Rattle.rules_server.specs.declared.Change.TheVariants.{AspUp, AspDown, Deactivate, Activate, Recover}
use Rattle.rules_server.specs.Record.{row, members_up, record_from, record_of}
use Rattle.rules_server.specs.Change.{without, joined, activated, record_with, after}
use Rattle.rules_servers.specs.Changed.{column_of, with_flag, up_after, new_active, new_waiting, with_change}

-- ---- place by place

module _ (g : Gateway) (k : Change) (named : List Bool) where
  pub active_at_lem : (a q : ℕ) → a < 16 → q < 16 → number_at (with_change g k named).active (pair a q) ≡ cond (flag_at named a) (one (flag_at (after k (record_of g a)).acts q)) (number_at g.active (pair a q))
  unfolding with_change new_active
  active_at_lem a q b z =
      let d : (a * 16 + q) / 16 ≡ a = omega arith in
      let m : (a * 16 + q) % 16 ≡ q = omega arith in
      get_d_tabulate 256 (new_active k named (record_of g) g.active) (a * 16 + q) 0 (omega arith) ∙ rw (d, m)

  pub waiting_at_lem : (a : ℕ) → a < 16 → number_at (with_change g k named).waiting a ≡ cond (flag_at named a) (one (after k (record_of g a)).waiting) (number_at g.waiting a)
  unfolding with_change new_waiting
  waiting_at_lem a b = get_d_tabulate 16 (new_waiting k named (record_of g) g.waiting) a 0 b

  -- of an AS that is named the new record's
  pub active_new : (a q : ℕ) → a < 16 → q < 16 → flag_at named a ≡ true → number_at (with_change g k named).active (pair a q) ≡ one (flag_at (after k (record_of g a)).acts q)
  active_new a q b z e = active_at_lem a q b z ∙ rw e

  pub waiting_new : (a : ℕ) → a < 16 → flag_at named a ≡ true → number_at (with_change g k named).waiting a ≡ one (after k (record_of g a)).waiting
  waiting_new a b e = waiting_at_lem a b ∙ rw e

  -- rows and waiting marks of ASes that are not named stay literally
  pub active_kept : (a q : ℕ) → a < 16 → q < 16 → flag_at named a ≡ false → number_at (with_change g k named).active (pair a q) ≡ number_at g.active (pair a q)
  active_kept a q b z e = active_at_lem a q b z ∙ rw e

  pub waiting_kept : (a : ℕ) → a < 16 → flag_at named a ≡ false → number_at (with_change g k named).waiting a ≡ number_at g.waiting a
  waiting_kept a b e = waiting_at_lem a b ∙ rw e

pub flag_at_lem : (c : List ℕ) (p x q : ℕ) → q < 16 → number_at (with_flag c p x) q ≡ cond (eqb q p) x (number_at c q)
unfolding with_flag
flag_at_lem c p x q b = get_d_tabulate 16 (λ q. cond (eqb q p) x (number_at c q)) q 0 b

pub column_at : (c : List ℕ) (p a : ℕ) → a < 16 → flag_at (column_of c p) a ≡ is_set c (pair a p)
unfolding column_of
column_at c p a b = get_d_tabulate 16 (λ a. is_set c (pair a p)) a false b

pub ups_at : (up member : List ℕ) (a q : ℕ) → q < 16 → flag_at (members_up up member a) q ≡ (is_set member (pair a q) && is_set up q)
unfolding members_up
ups_at up member a q b = get_d_tabulate 16 (λ q. is_set member (pair a q) && is_set up q) q false b

-- ---- the record of an AS

-- whether the change brings ASP q up or down
abbrev pub moves : Change → ℕ → Bool
moves (AspUp p) q = eqb q p
moves (AspDown p) q = eqb q p
moves (Deactivate p) q = false
moves (Activate p) q = false
moves Recover q = false

-- the flag of every other ASP stays
pub up_kept : (k : Change) (up : List ℕ) (q : ℕ) → q < 16 → moves k q ≡ false → number_at (up_after k up) q ≡ number_at up q
up_kept (AspUp p) up q b e = flag_at_lem up p 1 q b ∙ rw e
up_kept (AspDown p) up q b e = flag_at_lem up p 0 q b ∙ rw e
up_kept (Deactivate p) up q b e = refl
up_kept (Activate p) up q b e = refl
up_kept Recover up q b e = refl

-- an ASP that is brought up or down has all its ASes named
abbrev pub NamesOwn : Change → List ℕ → List Bool → Type 0
NamesOwn k member named = (q a : ℕ) → moves k q ≡ true → a < 16 → flag_at named a ≡ is_set member (pair a q)

pub names_own : (k : Change) (member : List ℕ) (p : ℕ) → ((q : ℕ) → moves k q ≡ true → q ≡ p) → NamesOwn k member (column_of member p)
names_own k member p h q a m b = column_at member p a b ∙ ap (λ (q : ℕ). is_set member (pair a q)) (sym (h q m))

-- p's flag t, in an AS where it is a member (m) or not
up_in : (m u t : Bool) → (t ≡ true → true ≡ m) → (m && cond t true u) ≡ ((m && u) || t)
up_in m u true h = rw (sym (h refl)) (last u)
  where
    last : (u : Bool) → true ≡ (u || true)
    last true = refl
    last false = refl
up_in true true false h = refl
up_in true false false h = refl
up_in false u false h = refl

up_out : (m u t : Bool) → (t ≡ true → false ≡ m) → (m && cond t true u) ≡ (m && u)
up_out m u true h = rw (sym (h refl))
up_out m u false h = refl

down_in : (m u t : Bool) → (m && cond t false u) ≡ ((m && u) && not t)
down_in true true true = refl
down_in true false true = refl
down_in false u true = refl
down_in true true false = refl
down_in true false false = refl
down_in false u false = refl

down_out : (m u t : Bool) → (t ≡ true → false ≡ m) → (m && cond t false u) ≡ (m && u)
down_out m u true h = rw (sym (h refl))
down_out m u false h = refl

on_flag : (c : List ℕ) (p q : ℕ) (t : Bool) → q < 16 → is_set (with_flag c p (one t)) q ≡ cond (eqb q p) t (is_set c q)
on_flag c p q t b = rw (flag_at_lem c p (one t) q b) (go (eqb q p) t)
  where
    go : (e t : Bool) → eqb (cond e (one t) (number_at c q)) 1 ≡ cond e t (is_set c q)
    go true true = refl
    go true false = refl
    go false t = refl

is_ups : (up member : List ℕ) (a : ℕ) (f : ℕ → Bool) → ((q : ℕ) → q < 16 → (is_set member (pair a q) && is_set up q) ≡ f q) → members_up up member a ≡ tabulate 16 f
unfolding members_up
is_ups up member a f h = tabulate_ext false 16 (λ q. is_set member (pair a q) && is_set up q) f h

-- who is up in the AS
ups_change : (k : Change) (up member : List ℕ) (a : ℕ) (named : Bool) (s : AsRecord) → ((q : ℕ) → moves k q ≡ true → named ≡ is_set member (pair a q)) → s.ups ≡ members_up up member a → members_up (up_after k up) member a ≡ cond named (after k s).ups s.ups
unfolding record_with joined without
ups_change (AspUp p) up member a true s own here =
    rw here
    (is_ups (with_flag up p 1) member a (λ q. flag_at (members_up up member a) q || eqb q p)
    (λ q b. rw (on_flag up p q true b, ups_at up member a q b) (up_in (is_set member (pair a q)) (is_set up q) (eqb q p) (own q))))
ups_change (AspUp p) up member a false s own here =
    rw here
    (is_ups (with_flag up p 1) member a (λ q. is_set member (pair a q) && is_set up q)
    (λ q b. rw (on_flag up p q true b) (up_out (is_set member (pair a q)) (is_set up q) (eqb q p) (own q)))
    ∙ sym (is_ups up member a (λ q. is_set member (pair a q) && is_set up q) (λ q b. refl)))
ups_change (AspDown p) up member a true s own here =
    rw here
    (is_ups (with_flag up p 0) member a (λ q. flag_at (members_up up member a) q && not (eqb q p))
    (λ q b. rw (on_flag up p q false b, ups_at up member a q b) (down_in (is_set member (pair a q)) (is_set up q) (eqb q p))))
ups_change (AspDown p) up member a false s own here =
    rw here
    (is_ups (with_flag up p 0) member a (λ q. is_set member (pair a q) && is_set up q)
    (λ q b. rw (on_flag up p q false b) (down_out (is_set member (pair a q)) (is_set up q) (eqb q p) (own q)))
    ∙ sym (is_ups up member a (λ q. is_set member (pair a q) && is_set up q) (λ q b. refl)))
ups_change (Deactivate p) up member a true s own here = sym here
ups_change (Deactivate p) up member a false s own here = sym here
ups_change (Activate p) up member a true s own here = sym here
ups_change (Activate p) up member a false s own here = sym here
ups_change Recover up member a true s own here = sym here
ups_change Recover up member a false s own here = sym here

-- who is active in it
tabulate_again : (f : ℕ → Bool) → tabulate 16 (flag_at (tabulate 16 f)) ≡ tabulate 16 f
tabulate_again f = tabulate_ext false 16 (flag_at (tabulate 16 f)) f (λ q b. get_d_tabulate 16 f q false b)

acts_again : (k : Change) (s : AsRecord) → tabulate 16 (flag_at s.acts) ≡ s.acts → tabulate 16 (flag_at (after k s).acts) ≡ (after k s).acts
unfolding record_with without activated
acts_again (AspUp p) s h = tabulate_again (λ q. flag_at s.acts q && not (eqb q p))
acts_again (AspDown p) s h = tabulate_again (λ q. flag_at s.acts q && not (eqb q p))
acts_again (Deactivate p) s h = tabulate_again (λ q. flag_at s.acts q && not (eqb q p))
acts_again (Activate p) s h = tabulate_again (λ q. (flag_at s.acts q && not (eqb s.mode 1)) || eqb q p)
acts_again Recover s h = h

row_again : (c : List ℕ) (a : ℕ) → tabulate 16 (flag_at (row c a)) ≡ row c a
unfolding row
row_again c a = tabulate_again (λ q. is_set c (pair a q))

after_mode : (k : Change) (s : AsRecord) → (after k s).mode ≡ s.mode
unfolding record_with
after_mode (AspUp p) s = refl
after_mode (AspDown p) s = refl
after_mode (Deactivate p) s = refl
after_mode (Activate p) s = refl
after_mode Recover s = refl

-- a flag read back
pub on_one : (t : Bool) → eqb (one t) 1 ≡ t
on_one true = refl
on_one false = refl

row_is : (c : List ℕ) (a : ℕ) (f : ℕ → Bool) → ((q : ℕ) → q < 16 → is_set c (pair a q) ≡ f q) → row c a ≡ tabulate 16 f
unfolding row
row_is c a f h = tabulate_ext false 16 (λ q. is_set c (pair a q)) f h

module _ (g : Gateway) (k : Change) (named : List Bool) (own : NamesOwn k g.member named) (a : ℕ) (b : a < 16) where
  new_acts : (t : Bool) → flag_at named a ≡ t → row (with_change g k named).active a ≡ cond t (after k (record_of g a)).acts (record_of g a).acts
  unfolding record_from
  new_acts true e =
      row_is (with_change g k named).active a (flag_at (after k (record_of g a)).acts)
      (λ q z. ap (λ (x : ℕ). eqb x 1) (active_new g k named a q b z e) ∙ on_one (flag_at (after k (record_of g a)).acts q))
      ∙ acts_again k (record_of g a) (row_again g.active a)
  new_acts false e =
      row_is (with_change g k named).active a (λ q. is_set g.active (pair a q)) (λ q z. ap (λ (x : ℕ). eqb x 1) (active_kept g k named a q b z e))
      ∙ sym (row_is g.active a (λ q. is_set g.active (pair a q)) (λ q z. refl))

  new_waits : (t : Bool) → flag_at named a ≡ t → is_set (with_change g k named).waiting a ≡ cond t (after k (record_of g a)).waiting (record_of g a).waiting
  unfolding record_from
  new_waits true e = ap (λ (x : ℕ). eqb x 1) (waiting_new g k named a b e) ∙ on_one (after k (record_of g a)).waiting
  new_waits false e = ap (λ (x : ℕ). eqb x 1) (waiting_kept g k named a b e)

  new_record : (t : Bool) → flag_at named a ≡ t → record_of (with_change g k named) a ≡ cond t (after k (record_of g a)) (record_of g a)
  unfolding with_change record_from
  new_record true e =
      λ i. record {
        ups = ups_change k g.up g.member a true (record_of g a) (λ q m. sym e ∙ own q a m b) refl i;
        acts = new_acts true e i;
        waiting = new_waits true e i;
        mode = sym (after_mode k (record_of g a)) i;
      }
  new_record false e =
      λ i. record {
        ups = ups_change k g.up g.member a false (record_of g a) (λ q m. sym e ∙ own q a m b) refl i;
        acts = new_acts false e i;
        waiting = new_waits false e i;
        mode = (record_of g a).mode;
      }

  -- the new record where the AS is named, else the old
  pub record_change : record_of (with_change g k named) a ≡ cond (flag_at named a) (after k (record_of g a)) (record_of g a)
  record_change = new_record (flag_at named a) refl
