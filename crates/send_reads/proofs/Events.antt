-- A property of every action of every event: the effects of the rules, case by case.
-- Assumes nothing.
use mathlib.Core.Path.{◌≡◌, refl}
use mathlib.Core.Bool.{Bool, true, false, cond, not, ◌&&◌, ◌||◌}
use mathlib.Core.List.{List, [], ◌∷◌}
use Prim.Native.Nat.{ℕ, ◌+◌, ◌*◌, ◌<◌, ◌≤◌}
use native.Mathlib.Omega.{arith}
use lib.Dec.{eqb, leb}
use borrow.Author.Tests.{eqb-true, leb-true}
use Rattle.laws.specs.Columns.{is_set}
use Rattle.laws.specs.Inner.Choice.{by_cond}
use Rattle.laws.specs.Inner.Every.{clash}
use Rattle.codec_wire.specs.Walk.{Par, walk}
use Rattle.codec_parameter.specs.Table.{table, row_in, key}
use Rattle.codec_read.specs.Verdict.{most, has, in_turn, verdict}
use Rattle.laws.specs.Below.{one}
use Rattle.codec_read.specs.Meaning.{meaning, reading_of}
use Rattle.codec_read.specs.declared.Reading.{Reading}
use Rattle.codec_write.specs.Encode.{size_of}
use Rattle.codec_write.proofs.RoundTrip.{accepted, size_accepted}
use Rattle.state_tables.specs.declared.Gateway.{Gateway}
use Rattle.rules_action.specs.declared.Action.{Action}
use Rattle.rules_action.specs.Types.{asp_up, asp_down, beat, beat_ack, asp_active, asp_inactive, asp_active_ack, asp_inactive_ack, release_confirm, release_indication}
use Rattle.rules_action.specs.Words.{action, to_all}
use Rattle.rules_server.specs.declared.Change.{Change}
use Rattle.rules_server.specs.Record.{some}
use Rattle.send_message.specs.Message.{reply_pars}
use Rattle.rules_event.specs.Identifiers.{is_ids, first_refused, owners_good}
use Rattle.rules_event.specs.Effect.{Effect, send, set_link, change_in, one_action, error, error2, actions_of}
use Rattle.rules_event.specs.Asp.{ases_of, up_effect, down_effect, lost_effect, active_effect, inactive_effect, part_effect, traffic_effect}
use Rattle.rules_event.specs.Link.{establish, release, data_effect, link_effect, class_six_on, class_six_effect, to_recipients, link_up_on, link_up_effect, link_down_on, link_down_effect}
use Rattle.rules_event.specs.Rules.{is_error, class_type_of, from_asp, read_effect, message_effect}
use Rattle.send_reads.proofs.Each.{Each, each_none, each_more, each_append, each_cond}
use Rattle.send_reads.proofs.Small.{verdict_small}
use Rattle.send_reads.proofs.Numbers.{largest}
use Rattle.send_reads.proofs.Header.{reading_is, in_row}
use Rattle.send_reads.proofs.Effects.{Holds, each_all, each_change}
use Rattle.send_reads.proofs.Good.{Good, all_good, good_beat, good_active, good_inactive}

-- of every action of an effect
unfoldable pub Fine : (Action → Type 0) → Gateway → Effect → Type 0
Fine P g d = Each P (actions_of g d)

small : (n : ℕ) → leb n largest ≡ true → n ≤ largest
small n e = leb-true n largest e

module _ {P : Action → Type 0} (h : Holds P) (g : Gateway) where
  -- ---- the effects that there are

  by_fine : (u : Bool) (x y : Effect) → Fine P g x → Fine P g y → Fine P g (cond u x y)
  by_fine true x y a b = a
  by_fine false x y a b = b

  pub say_none : Fine P g (send [])
  unfolding Fine
  say_none = each_none

  pub say_one : (x : Action) → P x → Fine P g (send (x ∷ []))
  unfolding Fine
  say_one x a = each_more a each_none

  -- a second one under a condition
  two : (x y : Action) (u : Bool) → P x → P y → Each P (x ∷ cond u (y ∷ []) [])
  two x y u a b = each_more a (each_cond u (y ∷ []) [] (each_more b each_none) each_none)

  say_two : (x y : Action) (u : Bool) → P x → P y → Fine P g (send (x ∷ cond u (y ∷ []) []))
  unfolding Fine
  say_two x y u a b = two x y u a b

  turn_one : (l n : ℕ) (x : Action) → P x → Fine P g (set_link l n (x ∷ []))
  unfolding Fine
  turn_one l n x a = each_more a each_none

  turn_all : (l n : ℕ) (who : List Bool) (k x v : ℕ) → ((p : ℕ) → P (action p k x v)) → Fine P g (set_link l n (to_all who k x v))
  unfolding Fine
  turn_all l n who k x v a = each_all who k x v a

  pub change : (os : List Action) (k : Change) (named : List Bool) → Each P os → Fine P g (change_in os k named)
  unfolding Fine
  change os k named a = each_append os _ a (each_change h.notes h.units g k named)

  pub says : (p x n : ℕ) → leb n largest ≡ true → Fine P g (send (action p 0 x n ∷ []))
  says p x n e = say_one _ (h.errors p x n (small n e))

  ruleset fines = (by_fine, say_none, say_one, say_two, turn_one, turn_all, change, two, each_none, each_more)

  -- ---- what an ASP sends

  pub fine_up : (p : ℕ) (r : Reading) → Fine P g (up_effect g p r)
  unfolding up_effect
  fine_up p r = search (fines, h.up_acked, h.errors, small) depth 8

  pub fine_down : (p : ℕ) → Fine P g (down_effect g p)
  unfolding down_effect
  fine_down p = search (fines, h.down_acked) depth 8

  pub fine_active : (p mode : ℕ) → P (action p asp_active_ack 0 0) → (told : List Action) (named : List Bool) → Each P told → Fine P g (active_effect g p mode told named)
  unfolding active_effect
  fine_active p mode a told named b = search (fines, h.errors, small, a, b) depth 8

  pub fine_inactive : (p : ℕ) → P (action p asp_inactive_ack 0 0) → (told : List Action) (named : List Bool) → Each P told → Fine P g (inactive_effect p told named)
  unfolding inactive_effect
  fine_inactive p a told named b = search (fines, a, b) depth 8

  pub six : (p : ℕ) (r : Reading) → Fine P g (class_six_effect g p r)
  unfolding class_six_effect class_six_on link_effect establish release data_effect
  six p r = search (by_fine, say_none, say_one, say_two, turn_one, h.errors, small, h.sides, h.data_acked, h.established, h.released) depth 16

  -- ---- links

  pub fine_lost : (p : ℕ) → Fine P g (lost_effect g p)
  unfolding lost_effect
  fine_lost p = change [] _ _ each_none

  pub fine_change : (k : Change) (named : List Bool) → Fine P g (change_in [] k named)
  fine_change k named = change [] k named each_none

  pub fine_link_up : (l : ℕ) → Fine P g (link_up_effect g l)
  unfolding link_up_effect link_up_on to_recipients
  fine_link_up l = search (by_fine, say_none, turn_all, h.established) depth 8

  gone : (u : Bool) (p x v : ℕ) → P (action p (cond u release_confirm release_indication) x v)
  gone true p x v = h.released p x v
  gone false p x v = h.stopped p x v

  pub fine_link_down : (l : ℕ) → Fine P g (link_down_effect g l)
  unfolding link_down_effect link_down_on to_recipients
  fine_link_down l = search (by_fine, say_none, turn_all, gone) depth 8

-- ---- a message of an ASP, by what it asks

neither : (u v : Bool) → (u || v) ≡ false → (u ≡ false) × (v ≡ false)
neither true v e = clash true e refl
neither false v e = (refl, e)

no_ids : (t : ℕ) → eqb (key t) 0x1 ≡ false → eqb (key t) 0x8 ≡ false → is_ids t ≡ false
no_ids t a b = go (eqb t 0x1) (eqb t 0x8) refl refl
  where
    go : (u v : Bool) → eqb t 0x1 ≡ u → eqb t 0x8 ≡ v → (u || v) ≡ false
    go true v x y = let q = eqb-true t 0x1 x in clash (eqb (key t) 0x1) a (rw q)
    go false true x y = let q = eqb-true t 0x8 y in clash (eqb (key t) 0x8) b (rw q)
    go false false x y = refl

-- where it has no parameter of identifiers none is refused
names_none : (g : Gateway) (p : ℕ) (ps : List Par) → (has 0x1 ps || has 0x8 ps) ≡ false → (first_refused g p ps).found ≡ false
unfolding first_refused has
names_none g p [] e = refl
names_none g p (x ∷ ps) e =
    let n = neither (eqb (key x.tag) 0x1 || has 0x1 ps) _ e in
    let a = neither (eqb (key x.tag) 0x1) (has 0x1 ps) n.0 in
    let b = neither (eqb (key x.tag) 0x8) (has 0x8 ps) n.1 in
    rw (no_ids x.tag a.0 b.0) (names_none g p ps (rw a.1 b.1))

module _ (F : Effect → Type 0) (T : List Action → Type 0) (g : Gateway) (p : ℕ) (r : Reading) (ps : List Par) where
  -- Active and Inactive: T is what holds of the actions told beside the Ack
  pub by_names : (act : List Action → List Bool → Effect) → (eqb r.ids 1 ≡ false → (first_refused g p ps).found ≡ false) → F (send (error p 6)) → ((x : ℕ) → F (send (error2 p x)))
      → ((first_refused g p ps).found ≡ false → T []) → ((x : ℕ) → (first_refused g p ps).found ≡ true → T (error2 p x)) → ((told : List Action) (named : List Bool) → T told → F (act told named)) → F (traffic_effect g p r ps act)
  unfolding traffic_effect part_effect
  by_names act e not_there bad none beside on =
      by_cond (not (is_set g.up p)) F (λ _. not_there)
      (λ _. by_cond (eqb r.ids 1) F
      (λ _. by_cond (first_refused g p ps).found F
      (λ f. by_cond (is_set g.wholelists p || not (some (owners_good g p ps))) F (λ _. bad (first_refused g p ps).id) (λ _. on (error2 p (first_refused g p ps).id) (owners_good g p ps) (beside (first_refused g p ps).id f)))
      (λ f. on [] (owners_good g p ps) (none f)))
      (λ i. by_cond (some (ases_of g p)) F (λ _. on [] (ases_of g p) (none (e i))) (λ _. not_there)))

module _ (F : Effect → Type 0) (g : Gateway) (p : ℕ) (s : List ℕ) where
  abbrev pub r : Reading
  r = reading_of s

  -- one that reads
  pub by_type : F (up_effect g p r) → F (down_effect g p) → (class_type_of r ≡ beat → F (send (one_action p beat_ack 0 0))) → F (send [])
      → (class_type_of r ≡ asp_active → F (traffic_effect g p r (walk s 8).pars (active_effect g p r.mode))) → (class_type_of r ≡ asp_inactive → F (traffic_effect g p r (walk s 8).pars (inactive_effect p)))
      → F (class_six_effect g p r) → F (send (error p 6)) → F (read_effect g p s r)
  unfolding read_effect
  by_type ups downs beats none actives inactives sixes other =
      by_cond (eqb (class_type_of r) asp_up) F (λ _. ups)
      (λ _. by_cond (eqb (class_type_of r) asp_down) F (λ _. downs)
      (λ _. by_cond (eqb (class_type_of r) beat) F (λ e. beats (eqb-true _ _ e))
      (λ _. by_cond (eqb (class_type_of r) beat_ack) F (λ _. none)
      (λ _. by_cond (eqb (class_type_of r) asp_active) F (λ e. actives (eqb-true _ _ e))
      (λ _. by_cond (eqb (class_type_of r) asp_inactive) F (λ e. inactives (eqb-true _ _ e))
      (λ _. by_cond (eqb r.class 6 && from_asp r.msgtype) F (λ _. sixes) (λ _. other)))))))

  pub by_message : F (send []) → F (send (error p (verdict s))) → (verdict s ≡ 0 → F (read_effect g p s r)) → F (message_effect g p s)
  unfolding message_effect
  by_message none refused reads =
      by_cond (is_error s) F (λ _. none) (λ _. by_cond (eqb (verdict s) 0) F (λ e. reads (eqb-true (verdict s) 0 e)) (λ _. refused))

-- what is known of one that reads
module _ (s : List ℕ) (e : verdict s ≡ 0) where
  pub size : size_of (walk s 8).pars ≤ most
  size = let a = accepted s e in omega (arith, size_accepted s a, a.small)

  pub row : (c t : ℕ) → t < 256 → class_type_of (reading_of s) ≡ c * 256 + t → in_turn (row_in table c t) [] (walk s 8).pars ≡ 0
  row = in_row s e (accepted s e)

  flag_false : (b : Bool) → eqb (one b) 1 ≡ false → b ≡ false
  flag_false true e = e
  flag_false false e = refl

  pub unnamed : (g : Gateway) (p : ℕ) → eqb (reading_of s).ids 1 ≡ false → (first_refused g p (walk s 8).pars).found ≡ false
  unfolding meaning
  unnamed g p z = names_none g p (walk s 8).pars (flag_false _ (rw (reading_is s e) at z))

-- ---- every action of it is good

module _ (g : Gateway) (hold : List ℕ) (i : ℕ) (b : g.links ≤ 128) (p : ℕ) (s : List ℕ) where
  abbrev qs : List Par
  qs = (walk s 8).pars

  abbrev Ok : Action → Type 0
  Ok = Good (reply_pars g hold qs i)

  good : Holds Ok
  good = all_good g hold qs i b

  told : (x : ℕ) → Each Ok (error2 p x)
  told x = each_more (good.errors p x 2 (omega arith)) each_none

  traffic : (act : List Action → List Bool → Effect) → verdict s ≡ 0 → ((os : List Action) (named : List Bool) → Each Ok os → Fine Ok g (act os named)) → Fine Ok g (traffic_effect g p (reading_of s) qs act)
  traffic act e h = by_names (Fine Ok g) (Each Ok) g p (reading_of s) qs act (unnamed s e g p) (says good g p 0 6 refl) (λ x. says good g p x 2 refl) (λ _. each_none) (λ x _. told x) h

  read : verdict s ≡ 0 → Fine Ok g (read_effect g p s (reading_of s))
  read e =
      by_type (Fine Ok g) g p s (fine_up good g p (reading_of s)) (fine_down good g p)
      (λ h. say_one good g _ (good_beat g hold qs i (size s e) (row s e 3 3 (omega arith) h) p))
      (say_none good g)
      (λ h. traffic (active_effect g p (reading_of s).mode) e (fine_active good g p (reading_of s).mode (good_active g hold qs i b (size s e) (row s e 4 1 (omega arith) h) p)))
      (λ h. traffic (inactive_effect p) e (fine_inactive good g p (good_inactive g hold qs i b (size s e) (row s e 4 2 (omega arith) h) p)))
      (six good g p (reading_of s)) (says good g p 0 6 refl)

  pub fine_message : Fine Ok g (message_effect g p s)
  fine_message = by_message (Fine Ok g) g p s (say_none good g) (say_one good g _ (good.errors p 0 (verdict s) (omega (arith, verdict_small s)))) read
