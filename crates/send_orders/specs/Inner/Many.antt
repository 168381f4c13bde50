-- What the entry for many actions promises in each case.
-- Assumes nothing.
use Rattle.std.specs.Prelude.{ℕ, ◌+◌, ◌<◌, ◌≤◌, ◌≡◌, cond, List, eqb, leb, length}
use Rattle.std.proofs.Math.Path.{refl, sym, ap}
use Rattle.std.proofs.Common.{◌∙◌, subst, arith, eq-eqb, ne_eqb, le-leb, lt-ltb, le-ltb}
use Rattle.std.proofs.Math.Decide.{ℕ_discrete, dec_lt}
use Rattle.std.proofs.lemmas.Bool.{lt-leb}
use Rattle.laws.specs.Choice.{◌or_else◌, ◌if◌}
use Rattle.laws.specs.Below.{concat_below}
use Rattle.laws.specs.Columns.{number_at, tabulate}
use Rattle.codec_put.specs.Bytes.{overlay}
use Rattle.state_tables.specs.Sound.{is_sound}
use Rattle.state_tables.specs.declared.Gateway.{Gateway}
use Rattle.rules_event.specs.Event.{EventKind, lending}
use Rattle.rules_event.specs.Rules.{in_plan, refusal_of, least_room}
use Rattle.event_asked.specs.Happened.{happened}
use Rattle.rules_event.specs.Sent.{actions_on, action_at, is_sent}
use Rattle.send_message.specs.Send.{part_at, parts, part_lengths, ends_at, fitting, batch_code, SendsMany}
use Rattle.send_message.specs.declared.Batch.{Batch}
use Rattle.send_message.specs.Inner.Stands.{Lends}
use Rattle.send_reads.proofs.Room.{part_small}
use Rattle.send_unit.specs.Inner.Words.{data_in}
use Rattle.send_unit.specs.Inner.Units.{gone_list, index_small}
use Rattle.send_orders.specs.Inner.Part.{Lent, lent_of, part_in, Ready}
use Rattle.send_orders.specs.Inner.There.{not_sent}
use Rattle.send_orders.specs.Inner.Refusals.{some_reached, batch_of, refused_first, accepted_rest}
use Rattle.send_orders.specs.Inner.Batch.{Ended, ends_in, ends}
use Rattle.send_orders.specs.Inner.Ran.{Ran, part_called, long_called}

module _ (g : Gateway) (h : List ℕ) (k : EventKind) (n : ℕ) (lens out : List ℕ) where
  many_none : (code : ℕ) → code ≡ batch_code g h k n (length lens) (length out) → (code ≡ 0 → ⊥) → SendsMany g h k n lens out (record { code = code; count = 0; length = 0 }) lens out
  unfolding parts part_lengths concat_below tabulate overlay
  many_none code e z = record { code_is = e; count_is = rw (ne_eqb code 0 z); length_is = refl; lens_are = refl; bytes_are = refl }

  -- the event is refused
  pub many_refused : (r : ℕ) → r ≡ refusal_of (is_sound g) (in_plan g k) (lending least_room (length h)) → (r ≡ 0 → ⊥) → SendsMany g h k n lens out (record { code = r; count = 0; length = 0 }) lens out
  unfolding batch_code
  many_refused r e z = many_none r (refused_first (is_sound g) (in_plan g k) (length h) _ r e z) z

  module _ {count : ℕ} {ws : List ℕ} {after : Gateway} (t : Ran g h k count ws after) where
    behind : batch_code g h k n (length lens) (length out) ≡ 104 if leb (length (actions_on g k)) n or_else 103 if eqb (fitting g h k n (length lens) (length out)) 0
    unfolding batch_code
    behind = accepted_rest (is_sound g) (in_plan g k) (length h) _ t.sound t.planned t.whole

    -- the place is beyond the actions
    pub many_beyond : count ≤ n → SendsMany g h k n lens out (record { code = 104; count = 0; length = 0 }) lens out
    many_beyond l = many_none 104 (sym (behind ∙ rw (le-leb (length (actions_on g k)) n (omega (arith, l, t.count_is))))) (λ z. omega (arith, z))

    module _ (there : n < count) {m at : ℕ} {lens' out' : List ℕ} (few : n + m ≤ count) (e : Ended (λ j. part_at g h k (n + j)) (λ j. leb (length (actions_on g k)) (n + j)) lens out m at lens' out') where
      fits : m ≡ fitting g h k n (length lens) (length out)
      unfolding fitting ends_at parts ends_in
      fits = ends e.filled (length (actions_on g k)) e.ends_there (omega (arith, few, t.count_is))

      code_of_lem : batch_code g h k n (length lens) (length out) ≡ 103 if eqb m 0
      code_of_lem = behind ∙ rw (lt-leb (length (actions_on g k)) n (omega (arith, there, t.count_is)), ← fits)

      pub many_done : SendsMany g h k n lens out (batch_of (some_reached (record { count = m; length = at }))) lens' out'
      unfolding some_reached parts part_lengths concat_below
      many_done = go (ℕ_discrete m 0)
        where
          go : Dec (m ≡ 0) → SendsMany g h k n lens out (batch_of (some_reached (record { count = m; length = at }))) lens' out'
          go (yes z) =
              rw (eq-eqb m 0 z)
              (record {
                code_is = sym (code_of_lem ∙ rw (eq-eqb m 0 z));
                count_is = refl;
                length_is = refl;
                lens_are = e.filled.lens_are ∙ ap (λ (x : ℕ). overlay lens 0 (part_lengths g h k n x)) z;
                bytes_are = e.filled.out_is ∙ ap (λ (x : ℕ). overlay out 0 (parts g h k n x)) z;
              })
          go (no z) =
              rw (ne_eqb m 0 z)
              (record {
                code_is = sym (code_of_lem ∙ rw (ne_eqb m 0 z));
                count_is = fits;
                length_is = e.filled.at_is;
                lens_are = e.filled.lens_are;
                bytes_are = e.filled.out_is;
              })

-- ---- what the code has lent

module _ (g : Gateway) (h : List ℕ) (kind i : ℕ) (s : List ℕ) {count : ℕ} {ws : List ℕ} {after : Gateway} (t : Ran g h (happened kind i s) count ws after) (x : List ℕ) {m : ℕ} {list : List ℕ} (em : m ≡ g.links) (lends : (j : ℕ) → j < count → Lends g (happened kind i s) x (action_at (actions_on g (happened kind i s)) j)) (el : list ≡ gone_list g.held.count after.held.count) (n : ℕ) where
  abbrev pub lent_to : Lent
  lent_to = lent_of (record { count = count; place = n; passed = eqb kind 5 }) ws list x h g.iid g.owner m g.held.tag g.held.length g.held.marked g.held.correlation

  index_is : (j : ℕ) → number_at list (data_in ws j) ≡ number_at (gone_list g.held.count after.held.count) (data_in ws j)
  index_is j = ap (λ (l : List ℕ). number_at l (data_in ws j)) el

  -- what it writes for each action is what the rules say
  pub parts_called : (j : ℕ) → part_in lent_to j ≡ part_at g h (happened kind i s) j
  unfolding part_in is_sent
  parts_called j = go (dec_lt j count)
    where
      go : Dec (j < count) → part_in lent_to j ≡ part_at g h (happened kind i s) j
      go (yes l) = rw (lt-ltb j count l) (part_called g h kind i s t j l x em (lends j l) refl (λ z. index_is j))
      go (no l) = rw (le-ltb j count (omega arith)) (sym (not_sent g h (happened kind i s) j (rw (le-ltb j (length (actions_on g (happened kind i s))) (omega (arith, t.count_is))))))

  pub ready : n ≤ count → Ready lent_to
  ready there =
      record {
        few = t.few;
        there = there;
        whole = t.whole;
        indices = λ d. rw el (index_small g.held.count after.held.count d);
        long = λ j l e. long_called g h kind i s t j l refl (λ z. index_is j) e;
        small = λ j. rw (parts_called j) (part_small g h (happened kind i s) t.sound t.planned j);
      }

  -- what the loop wrote
  pub ended_called : (lens out : List ℕ) → {c at : ℕ} {lens' out' : List ℕ} → Ended (λ j. part_in lent_to (n + j)) (λ j. leb count (n + j)) lens out c at lens' out'
      → Ended (λ j. part_at g h (happened kind i s) (n + j)) (λ j. leb (length (actions_on g (happened kind i s))) (n + j)) lens out c at lens' out'
  ended_called lens out {c} {at} {lens'} {out'} e =
      subst (λ (p : ℕ → List ℕ). Ended p (λ j. leb (length (actions_on g (happened kind i s))) (n + j)) lens out c at lens' out')
      (λ y j. parts_called (n + j) y)
      (subst (λ (y : ℕ). Ended (λ j. part_in lent_to (n + j)) (λ j. leb y (n + j)) lens out c at lens' out') t.count_is e)
