-- The message lent to the writer: where identifiers of an Active or Inactive were refused in part, one that
-- names the good ones; else the event's own.
-- Assumes nothing.
use Rattle.std.specs.Prelude.{⊤, Option, Some, None, ◌≤◌, ◌≡◌, refl, Bool, true, ◌&&◌, ◌||◌, List, [], ◌++◌, ℕ, ◌<◌, eqb, ltb, length, take}
use Rattle.std.proofs.Math.Path.{sym, ap}
use Rattle.std.proofs.Common.{◌∙◌, subst, arith, ne_eqb, le-ltb, eqb-true, ltb-true}
use Rattle.std.proofs.Math.Bool.{false, cond}
use Rattle.std.proofs.Math.Decide.{dec_lt, ℕ_discrete}
use Rattle.laws.specs.Columns.{number_at}
use Rattle.laws.specs.Inner.Below.{concat_ext, all_at}
use Rattle.laws.specs.Inner.Every.{and_left, and_right, clash}
use Rattle.codec_wire.specs.Walk.{Par, walk}
use Rattle.codec_put.specs.Bytes.{bytes32}
use Rattle.codec_select.specs.Only.{only}
use Rattle.state_tables.specs.Sound.{all_under, is_sound}
use Rattle.state_tables.specs.Inner.Laws.{counts_within}
use Rattle.state_tables.specs.declared.Gateway.{Gateway}
use Rattle.rules_action.specs.Types.{mgmt_error, asp_active_ack, asp_inactive_ack}
use Rattle.state_lookup.specs.Inner.Table.{Table}
use Rattle.state_ranges.specs.Inner.Laws.{table}
use Rattle.rules_servers.specs.Changed.{column_of}
use Rattle.rules_servers.specs.Inner.Records.{column_at}
use Rattle.rules_event.specs.Event.{EventKind, message}
use Rattle.rules_event.specs.Identifiers.{names_some, is_named_good}
use Rattle.rules_event.specs.Sent.{actions_on, action_at}
use Rattle.event_asked.specs.Happened.{happened}
use Rattle.send_message.specs.Message.{list_par, good_ids}
use Rattle.send_message.specs.Inner.Stands.{is_mode, is_traffic_ack, Lends}
use Rattle.send_message.specs.Inner.Kinds.{lent_by, kinds, lends_other}
use Rattle.send_reads.proofs.Begins.{is_part, mode_short, lends_message}
use Rattle.send_good_ids.specs.Inner.Made.{ModeFits, goods_in, GoodMessage}
use Rattle.send_unit.specs.Inner.Words.{action_in}
use Rattle.send_orders.specs.Inner.Ran.{Ran, action_is}

-- the first action is an Ack of an Active or Inactive, and an Error stands behind it
unfoldable pub is_part_in : List ℕ → ℕ → Bool
is_part_in words count =
    (ltb 1 count && (eqb (number_at words 1) asp_active_ack || eqb (number_at words 1) asp_inactive_ack)) && eqb (number_at words 5) mgmt_error

-- the good identifiers of the sender's ASes are those that the rules name
goods_are : (g : Gateway) (p : ℕ) (ps : List Par) → is_sound g ≡ true → goods_in g.iid g.owner g.links (column_of g.member p) ps ≡ good_ids g p ps
unfolding goods_in good_ids is_named_good all_under
goods_are g p ps sound =
    concat_ext _ _ g.links
    (λ l b. ap (λ (u : Bool). cond (names_some (eqb (number_at g.iid l)) ps && u) (bytes32 (number_at g.iid l)) [])
    (column_at g.member p (number_at g.owner l) (ltb-true (number_at g.owner l) 16 (all_at (λ l. ltb (number_at g.owner l) 16) g.links (table g sound).owned l b))))

-- the words tell it of the actions
part_told : {g : Gateway} {h : List ℕ} {k : EventKind} {count : ℕ} {ws : List ℕ} {after : Gateway} → Ran g h k count ws after → is_part_in ws count ≡ is_part (actions_on g k)
unfolding is_part_in is_part action_in
part_told {g} {h} {k} {count} {ws} t = go (dec_lt 1 count)
  where
    go : Dec (1 < count) → (ltb 1 count && is_traffic_ack (number_at ws 1)) && eqb (number_at ws 5) mgmt_error ≡ is_part (actions_on g k)
    go (yes l) =
        (λ i. (ltb 1 (t.count_is i) && is_traffic_ack (action_is t 0 (omega arith) i).classtype) && eqb (action_is t 1 l i).classtype mgmt_error)
    go (no l) = rw (le-ltb 1 count (omega arith), le-ltb 1 (length (actions_on g k)) (omega (arith, l, t.count_is)))

-- of a message of ASP i; with m links
module _ (g : Gateway) (h : List ℕ) (i : ℕ) (s : List ℕ) {count : ℕ} {ws : List ℕ} {after : Gateway} (t : Ran g h (message i s) count ws after) {m : ℕ} (em : m ≡ g.links) where
  ready_of : is_part_in ws count ≡ true → (i < 16) × Table g.iid g.owner m × ModeFits (walk s 8).pars
  ready_of e =
      let b = ltb-true i g.asps t.planned in
      let c = (counts_within g t.sound).asps in
      (omega (arith, b, c), rw em (table g t.sound), record { short = mode_short g i s (sym (part_told t) ∙ e) })

  -- the parameters of the message lent
  pars_of : {part : Bool} {r : ℕ} {block x : List ℕ} → part ≡ is_part_in ws count → (part ≡ true → GoodMessage g.iid g.owner m (column_of g.member i) (walk s 8).pars r block) → x ≡ cond part (take r block) s
      → (walk x 8).pars ≡ cond (is_part (actions_on g (message i s))) (list_par (good_ids g i (walk s 8).pars) ++ only is_mode (walk s 8).pars) (walk s 8).pars
  pars_of {part} {r} {block} {x} ep w ex = rw (sym (ep ∙ part_told t)) (go part w ex)
    where
      go : (u : Bool) → (u ≡ true → GoodMessage g.iid g.owner m (column_of g.member i) (walk s 8).pars r block) → x ≡ cond u (take r block) s
          → (walk x 8).pars ≡ cond u (list_par (good_ids g i (walk s 8).pars) ++ only is_mode (walk s 8).pars) (walk s 8).pars
      go true w e =
          ap (λ (y : List ℕ). (walk y 8).pars) e ∙ (w refl).pars
          ∙ (λ y. list_par (goods_in g.iid g.owner (em y) (column_of g.member i) (walk s 8).pars) ++ only is_mode (walk s 8).pars)
          ∙ ap (λ (v : List ℕ). list_par v ++ only is_mode (walk s 8).pars) (goods_are g i (walk s 8).pars t.sound)
      go false w e = ap (λ (y : List ℕ). (walk y 8).pars) e

-- where identifiers were refused in part, the message of the good ones stands at the start of a block
abbrev pub GoodIf : Bool → List ℕ → List ℕ → ℕ → List Bool → List Par → List ℕ → Option ℕ → Type 0
GoodIf part iid owner links mine ps block None = part ≡ false
GoodIf part iid owner links mine ps block (Some r) = (part ≡ true) × GoodMessage iid owner links mine ps r block

-- the message lent: that one, or the received one
abbrev pub WithinBlock : List ℕ → Option ℕ → Type 0
WithinBlock block None = ⊤
WithinBlock block (Some r) = r ≤ length block

abbrev pub repeated_of : List ℕ → List ℕ → Option ℕ → List ℕ
repeated_of block s None = s
repeated_of block s (Some r) = take r block

-- of a call of the kind `kind`: `part` says that a message of the good identifiers is lent, r bytes at the
-- start of a block
module _ (g : Gateway) (h : List ℕ) (kind i : ℕ) (s : List ℕ) {count : ℕ} {ws : List ℕ} {after : Gateway} (t : Ran g h (happened kind i s) count ws after) {m : ℕ} {part : Bool} (em : m ≡ g.links) (ep : part ≡ (eqb kind 0 && is_part_in ws count)) where
  at_message : kind ≡ 0 → Ran g h (message i s) count ws after
  at_message z = subst (λ (n : ℕ). Ran g h (happened n i s) count ws after) z t

  -- what the writer of that message asks for
  pub good_ready : part ≡ true → (i < 16) × Table g.iid g.owner m × ModeFits (walk s 8).pars
  good_ready e =
      let b = sym ep ∙ e in
      ready_of g h i s (at_message (eqb-true kind 0 (and_left (eqb kind 0) _ b))) em (and_right (eqb kind 0) _ b)

  lends_called : {r : ℕ} {block : List ℕ} (x : List ℕ) → (part ≡ true → GoodMessage g.iid g.owner m (column_of g.member i) (walk s 8).pars r block) → x ≡ cond part (take r block) (lent_by kind s)
      → (j : ℕ) → j < count → Lends g (happened kind i s) x (action_at (actions_on g (happened kind i s)) j)
  unfolding lent_by
  lends_called {r} {block} x w ex j l = go (ℕ_discrete kind 0)
    where
      go : Dec (kind ≡ 0) → Lends g (happened kind i s) x (action_at (actions_on g (happened kind i s)) j)
      go (yes z) =
          let u = at_message z in
          rw z (lends_message g i s x (pars_of g h i s u em (ep ∙ rw z) w (ex ∙ rw z)) j (omega (arith, l, u.count_is)))
      go (no z) =
          let e : part ≡ false = ep ∙ rw (ne_eqb kind 0 z) in
          lends_other kind i s g x _ z (ex ∙ ap (λ (u : Bool). cond u (take r block) (lent_by kind s)) e ∙ sym (kinds kind i s).0)

  pub good_within : (block : List ℕ) (good : Option ℕ) → GoodIf part g.iid g.owner m (column_of g.member i) (walk s 8).pars block good → WithinBlock block good
  good_within block None w = tt
  good_within block (Some r) w = w.1.short

  pub lends_good : (block x : List ℕ) (good : Option ℕ) → GoodIf part g.iid g.owner m (column_of g.member i) (walk s 8).pars block good → x ≡ repeated_of block (lent_by kind s) good
      → (j : ℕ) → j < count → Lends g (happened kind i s) x (action_at (actions_on g (happened kind i s)) j)
  lends_good block x None w ex = lends_called {r = 0} {block = []} x (λ e. clash part w e) (ex ∙ ap (λ (u : Bool). cond u (take 0 []) (lent_by kind s)) (sym w))
  lends_good block x (Some r) w ex = lends_called x (λ e. w.1) (ex ∙ rw w.0)
