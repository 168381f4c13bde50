-- The laws stated in specs/Readable.antt.
-- Assumes nothing.
use mathlib.Core.Path.{◌≡◌, refl, sym, ap, ◌∙◌, subst}
use mathlib.Core.Bool.{Bool, true, false, cond, not}
use mathlib.Core.List.{List, []}
use mathlib.Core.Logic.{inl, inr}
use Prim.Native.Nat.{ℕ, ◌/◌, ◌%◌, ◌≤◌}
use native.Mathlib.Omega.{arith}
use lib.Dec.{ltb, eqb}
use lib.ListN.{length, take}
use borrow.Author.Tests.{eq-eqb, eqb-true, eqb-false, ltb-true, ltb-false, not-true, not-false}
use Rattle.laws.specs.Choice.{◌if◌}
use Rattle.laws.specs.Inner.Every.{and_left, and_right}
use Rattle.codec_wire.specs.Walk.{Par, walk}
use Rattle.codec_parameter.specs.Table.{table, has_class, row_in}
use Rattle.codec_read.specs.Verdict.{most, verdict, pars_code}
use Rattle.codec_put.specs.Bytes.{overlay}
use Rattle.codec_put.proofs.Sets.{take_over}
use Rattle.codec_write.specs.Encode.{size_of}
use Rattle.codec_write.proofs.Verdicts.{list_code, length_encode, verdict_encode}
use Rattle.codec_write.proofs.Writes.{or_none, if_none}
use Rattle.codec_write.proofs.RoundTrip.{reads_back}
use Rattle.state_tables.specs.Sound.{is_sound}
use Rattle.state_tables.specs.Inner.Laws.{counts_within}
use Rattle.state_tables.specs.declared.Gateway.{Gateway}
use Rattle.rules_action.specs.declared.Action.{Action}
use Rattle.rules_action.specs.Types.{user_data}
use Rattle.rules_action.specs.Words.{action, link_side}
use Rattle.rules_event.specs.Event.{EventKind, message, lost, recovery, link_up, link_down, link_message}
use Rattle.rules_event.specs.Effect.{hold_bytes}
use Rattle.rules_event.specs.Rules.{in_plan}
use Rattle.rules_event.specs.Sent.{actions_on, action_at, is_sent, is_data, unit_for, is_passed}
use Rattle.rules_units.specs.Releases.{SendsUnit}
use Rattle.rules_units.proofs.Releases.{every_unit}
use Rattle.send_message.specs.Message.{unit_pars, reply_pars, sent_pars, sent_bytes}
use Rattle.send_message.specs.Send.{message_at, send_code}
use Rattle.send_reads.specs.Readable.{Reads, EveryReads, SentReads}
use Rattle.send_reads.proofs.Each.{Each, each_at}
use Rattle.send_reads.proofs.Good.{Good, all_good}
use Rattle.send_reads.proofs.Events.{Fine, fine_message, fine_lost, fine_change, fine_link_up, fine_link_down}
use Rattle.send_reads.proofs.Passed.{each_passed}
use Rattle.send_reads.proofs.Held.{short, accepts}

-- ---- an accepted list reads

list_small : (c t : ℕ) (ps : List Par) → list_code c t ps ≡ 0 → size_of ps ≤ most
unfolding list_code
list_small c t ps e = go (ltb most (size_of ps)) refl e
  where
    go : (b : Bool) → ltb most (size_of ps) ≡ b → cond b 7 (cond (not (has_class table c)) 3 (cond (eqb (row_in table c t) 17) 4 (pars_code c t ps))) ≡ 0 → size_of ps ≤ most
    go true h z = let y : ⊥ = omega (arith, z) in absurd y
    go false h z = ltb-false most (size_of ps) h

list_class : (c t : ℕ) (ps : List Par) → list_code c t ps ≡ 0 → has_class table c ≡ true
unfolding list_code
list_class c t ps e = go (ltb most (size_of ps)) (has_class table c) e
  where
    go : (b u : Bool) → cond b 7 (cond (not u) 3 (cond (eqb (row_in table c t) 17) 4 (pars_code c t ps))) ≡ 0 → u ≡ true
    go true u z = let y : ⊥ = omega (arith, z) in absurd y
    go false true z = refl
    go false false z = let y : ⊥ = omega (arith, z) in absurd y

data_class : has_class table 6 ≡ true
unfolding has_class table
data_class = refl

reads : (g : Gateway) (h : List ℕ) (k : EventKind) (i : ℕ) (o : Action) → list_code (o.classtype / 256) (o.classtype % 256) (sent_pars g h k i o) ≡ 0 → Reads g h k i o (sent_bytes g h k i o)
unfolding sent_bytes
reads g h k i o e =
    let c = o.classtype / 256 in
    let t = o.classtype % 256 in
    let ps = sent_pars g h k i o in
    record { back = reads_back c t ps (verdict_encode c t ps ∙ e); small = omega (arith, length_encode c t ps, list_small c t ps e) }

-- ---- every action of every event

-- Data that the gateway sends by itself has the parameters of a unit
data_pars : (P : ℕ → ℕ → List Par → Type 0) (g : Gateway) (h : List ℕ) (ps : List Par) (i : ℕ) (o : Action) → is_data o ≡ true → P 6 1 (unit_pars g h i o)
    → P (o.classtype / 256) (o.classtype % 256) (reply_pars g h ps i o)
unfolding is_data reply_pars unit_pars
data_pars P g h ps i o d x = let e = eqb-true o.classtype user_data (and_left _ _ d) in rw e x

-- whatever P says of the class, the type and the parameters of a message, it holds of every action to an ASP,
-- if it holds of a list that is accepted and of a unit held
module _ (P : ℕ → ℕ → List Par → Type 0) (list : (c t : ℕ) (ps : List Par) → list_code c t ps ≡ 0 → P c t ps) (g : Gateway) (h : List ℕ) (n : ℕ) (sound : is_sound g ≡ true) where
  abbrev at : EventKind → Action
  at k = action_at (actions_on g k) n

  abbrev IfUnit : EventKind → Type 0
  IfUnit k = is_data (at k) ≡ true → SendsUnit g k n → P 6 1 (unit_pars g h (unit_for g k n) (at k))

  by_reply : (k : EventKind) (ps : List Par) → in_plan g k ≡ true → is_passed k ≡ false → is_sent (actions_on g k) n ≡ true → IfUnit k → Each (Good (reply_pars g h ps (unit_for g k n))) (actions_on g k)
      → P ((at k).classtype / 256) ((at k).classtype % 256) (reply_pars g h ps (unit_for g k n) (at k))
  unfolding is_sent action_at Good
  by_reply k ps i u s f e = on (each_at (actions_on g k) n (action link_side 0 0 0) e (ltb-true n (length (actions_on g k)) b))
    where
      b : ltb n (length (actions_on g k)) ≡ true
      b = and_left _ _ s

      on : Good (reply_pars g h ps (unit_for g k n)) (at k) → P ((at k).classtype / 256) ((at k).classtype % 256) (reply_pars g h ps (unit_for g k n) (at k))
      on (inl e) = absurd (eqb-false _ _ (not-true _ (and_right (ltb n (length (actions_on g k))) _ s)) e)
      on (inr (inl d)) = data_pars P g h ps (unit_for g k n) (at k) d (f d (every_unit g k n sound i u b d))
      on (inr (inr e)) = list _ _ _ e

  every : (k : EventKind) → in_plan g k ≡ true → is_sent (actions_on g k) n ≡ true → IfUnit k → P ((at k).classtype / 256) ((at k).classtype % 256) (sent_pars g h k (unit_for g k n) (at k))
  unfolding Fine is_sent action_at
  every (message p s) i z f = by_reply (message p s) (walk s 8).pars i refl z f (fine_message g h _ (counts_within g sound).links p s)
  every (lost p) i z f = by_reply (lost p) [] i refl z f (fine_lost (all_good g h [] _ (counts_within g sound).links) g p)
  every (recovery a) i z f = by_reply (recovery a) [] i refl z f (fine_change (all_good g h [] _ (counts_within g sound).links) g _ _)
  every (link_up l) i z f = by_reply (link_up l) [] i refl z f (fine_link_up (all_good g h [] _ (counts_within g sound).links) g l)
  every (link_down l) i z f = by_reply (link_down l) [] i refl z f (fine_link_down (all_good g h [] _ (counts_within g sound).links) g l)
  every (link_message s) i z f =
      list _ _ _
      (each_at (actions_on g (link_message s)) n (action link_side 0 0 0) (each_passed g s (eqb-true (verdict s) 0 (and_left (eqb (verdict s) 0) _ i)))
      (ltb-true n (length (actions_on g (link_message s))) (and_left _ _ z)))

pub every_reads : EveryReads
unfolding message_at
every_reads g h k n c e i s =
    reads g h k (unit_for g k n) (action_at (actions_on g k) n)
    (every (λ c t ps. list_code c t ps ≡ 0) (λ c t ps z. z) g h n c k i s (λ d u. accepts g c (unit_for g k n) u.place u.held h e (action_at (actions_on g k) n)))

-- a message is not too long, and its class is one of the table: for this it does not matter what the hold and
-- the correlation id are
pub every_short : (g : Gateway) (h : List ℕ) (k : EventKind) (n : ℕ) → is_sound g ≡ true → in_plan g k ≡ true → is_sent (actions_on g k) n ≡ true
    → (length (message_at g h k n) ≤ most) × (has_class table ((action_at (actions_on g k) n).classtype / 256) ≡ true)
unfolding message_at sent_bytes
every_short g h k n c i s = rw length_encode (every Fits list_fits g h n c k i s (λ d u. (short g c (unit_for g k n) u.place u.held h (action_at (actions_on g k) n), data_class)))
  where
    Fits : ℕ → ℕ → List Par → Type 0
    Fits c t ps = (size_of ps ≤ most) × (has_class table c ≡ true)

    list_fits : (c t : ℕ) (ps : List Par) → list_code c t ps ≡ 0 → Fits c t ps
    list_fits c t ps e = (list_small c t ps e, list_class c t ps e)

-- ---- what a call has put into the buffer

-- a call that was not refused
record Sent (g : Gateway) (h : List ℕ) (k : EventKind) (n room : ℕ) : Type 0 where
  sound : is_sound g ≡ true
  planned : in_plan g k ≡ true
  whole : length h ≡ hold_bytes
  there : is_sent (actions_on g k) n ≡ true
  fits : length (message_at g h k n) ≤ room

sent : (g : Gateway) (h : List ℕ) (k : EventKind) (n room : ℕ) → send_code g h k n room ≡ 0 → Sent g h k n room
unfolding send_code
sent g h k n room e =
    let a = or_none (105 if not (is_sound g)) _ e in
    let b = or_none (102 if not (in_plan g k)) _ a.1 in
    let c = or_none (106 if not (eqb (length h) hold_bytes)) _ b.1 in
    let d = or_none (104 if not (is_sent (actions_on g k) n)) _ c.1 in
    record {
      sound = not-false _ (if_none 104 _ a.0);
      planned = not-false _ (if_none 101 _ b.0);
      whole = eqb-true (length h) hold_bytes (not-false _ (if_none 105 _ c.0));
      there = not-false _ (if_none 103 _ d.0);
      fits = ltb-false room (length (message_at g h k n)) (if_none 102 _ d.1);
    }

pub sent_reads : SentReads
unfolding message_at
sent_reads g h k n out r out' w z =
    let a = sent g h k n (length out) (sym w.code_is ∙ z) in
    let m = message_at g h k n in
    let l : r.length ≡ length m = w.length_is ∙ rw (eq-eqb r.code 0 z) in
    let b : out' ≡ overlay out 0 m = w.bytes_are ∙ rw (eq-eqb r.code 0 z) in
    let t : take r.length out' ≡ m = ap (λ (x : ℕ). take x out') l ∙ ap (take (length m)) b ∙ take_over out m a.fits in
    subst (Reads g h k (unit_for g k n) (action_at (actions_on g k) n)) (sym t) (every_reads g h k n a.sound a.whole a.planned a.there)
