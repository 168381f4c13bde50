-- What the one call promises in each case.
-- Assumes nothing.
use Rattle.std.specs.Prelude.{ℕ, ◌+◌, ◌*◌, ◌<◌, ◌≤◌, ◌≡◌, Bool, not, List, [], ◌++◌, leb, ltb}
use Rattle.std.proofs.Math.Path.{refl, sym, ap}
use Rattle.std.proofs.Common.{◌∙◌, arith}
use Rattle.std.proofs.Math.Bool.{true, false, cond}
use Rattle.std.proofs.lemmas.Bool.{false≢true}
use Rattle.std.proofs.Math.Decide.{dec_lt}
use Rattle.std.proofs.Math.Dec.{eqb}
use Rattle.std.proofs.Math.ListN.{length, drop}
use borrow.Author.Tests.{ne_eqb, eqb-true, lt-leb, lt-ltb, le-ltb}
use Rattle.laws.specs.Choice.{◌or_else◌, ◌if◌}
use Rattle.laws.specs.Below.{concat_below}
use Rattle.laws.specs.Columns.{tabulate}
use Rattle.codec_put.specs.Bytes.{overlay}
use Rattle.rules_action.specs.Words.{words_of}
use Rattle.state_tables.specs.Sound.{is_sound}
use Rattle.state_tables.specs.declared.Gateway.{Gateway}
use Rattle.rules_event.specs.Event.{EventKind, message_of, lending}
use Rattle.rules_event.specs.Effect.{state_after, hold_after, hold_bytes}
use Rattle.rules_event.specs.Rules.{effect_of, in_plan, refusal, refusal_of, least_room}
use Rattle.rules_event.specs.Entry.{Runs, MeetsRules, actions, next, next_hold}
use Rattle.rules_event.specs.Inner.Accepted.{accepted}
use Rattle.rules_event.specs.Sent.{actions_on}
use Rattle.event_asked.specs.Happened.{event_of}
use Rattle.event_run.specs.At.{outcome_of}
use Rattle.event_run.specs.Inner.Perform.{runs_meets}
use Rattle.event_run.specs.declared.Done.{Done}
use Rattle.send_message.specs.Send.{part_at, parts, part_lengths}
use Rattle.send_message.specs.Handle.{room_bytes, handle_code, Handles}
use Rattle.send_message.specs.declared.Handled.{Handled}
use Rattle.send_reads.proofs.Room.{parts_small}
use Rattle.send_orders.specs.Inner.Batch.{Ended, ends_in}
use Rattle.send_orders.specs.Inner.Ran.{Ran, ran}

-- ---- all messages go in

pub all_fit : {g : Gateway} {h : List ℕ} {k : EventKind} {count : ℕ} {ws : List ℕ} {after : Gateway} → Ran g h k count ws after → {lens out lens' out' : List ℕ} {n at : ℕ}
    → Ended (λ j. part_at g h k (0 + j)) (λ j. leb (length (actions_on g k)) (0 + j)) lens out n at lens' out' → length lens ≡ 386 → room_bytes ≤ length out → n ≤ count → n ≡ count
unfolding ends_in parts
all_fit {g} {h} {k} {count} t {lens} {out} {n = n} e slots room few = go (dec_lt n count)
  where
    go : Dec (n < count) → n ≡ count
    go (yes l) =
        let s = parts_small g h k t.sound t.planned (n + 1) (omega (arith, l, t.few)) in
        absurd (false≢true
        (sym (rw (lt-leb (length (actions_on g k)) (0 + n) (omega (arith, l, t.count_is)), lt-leb (length lens) n (omega (arith, l, slots, t.few)), le-ltb (length out) (length (parts g h k 0 (n + 1))) (omega (arith, s, room))))
        ∙ e.ends_there))
    go (no l) = omega (arith, few)

-- the words lent for a buffer of so many bytes, and the code that a refusal with these is
unfoldable pub words_for : ℕ → ℕ
words_for bytes = cond (ltb bytes room_bytes) 0 1544

unfoldable pub code_of : ℕ → ℕ
code_of code = cond (eqb code 101) 103 code

pub words_short : (bytes : ℕ) → bytes < room_bytes → 0 ≡ words_for bytes
unfolding words_for
words_short bytes l = rw (lt-ltb bytes room_bytes l)

pub words_whole : (bytes : ℕ) → room_bytes ≤ bytes → 1544 ≡ words_for bytes
unfolding words_for
words_whole bytes l = rw (le-ltb bytes room_bytes l)

-- the refusals of the event with these words are those of the call
code_handled : (g : Gateway) (k : EventKind) (size bytes : ℕ) → code_of (refusal_of (is_sound g) (in_plan g k) (lending (words_for bytes) size)) ≡ handle_code g k size bytes
unfolding code_of refusal_of words_for handle_code
code_handled g k size bytes = go (is_sound g) (in_plan g k) (eqb size hold_bytes) (ltb bytes room_bytes)
  where
    go : (u v w x : Bool)
        → code_of (105 if not u or_else 102 if not v or_else 106 if not w or_else 101 if ltb (cond x 0 1544) least_room) ≡ (105 if not u or_else 102 if not v or_else 106 if not w or_else 103 if x)
    go true true true true = refl
    go true true true false = refl
    go true true false x = refl
    go true false w x = refl
    go false v w x = refl

code_zero : (code : ℕ) → eqb (code_of code) 0 ≡ eqb code 0
unfolding code_of
code_zero code = go (eqb code 101) refl
  where
    go : (b : Bool) → eqb code 101 ≡ b → eqb (cond b 103 code) 0 ≡ eqb code 0
    go true e = sym (ne_eqb code 0 (λ z. omega (arith, z, eqb-true code 101 e)))
    go false e = refl

length_of : {A : Type 0} (b : Bool) (os : List A) → length (cond b os []) ≡ cond b (length os) 0
length_of true os = refl
length_of false os = refl

-- the words of a list as the event leaves it
abbrev words_left : Gateway → EventKind → List ℕ → ℕ → List ℕ
words_left g k words code = cond (eqb code 0) (words_of (actions_on g k) ++ drop (4 * length (actions_on g k)) words) words

-- ---- the event was run with such words

module _ (g : Gateway) (k : EventKind) (hold words lens out : List ℕ) {lent left hold' : List ℕ} {d : Done} {c : Gateway} (er : length lent ≡ words_for (length out))
    (m : Runs g (event_of k (length lent) (length hold)) lent left hold hold' (outcome_of d c)) where
  meets : MeetsRules g (event_of k (length lent) (length hold)) lent left hold hold' (outcome_of d c)
  meets = runs_meets m refl

  -- no words: it is refused
  no_words : length lent ≡ 0 → d.refusal ≡ 0 → ⊥
  no_words e z = omega (arith, e, (accepted (is_sound g) (in_plan g k) (lending (length lent) (length hold)) (sym meets.refused ∙ z)).enough)

  refused_none : (d.refusal ≡ 0 → ⊥) → d.count ≡ 0
  unfolding actions
  refused_none z = meets.count ∙ rw (← meets.refused, ne_eqb d.refusal 0 z)

  count_all : d.count ≡ cond (eqb d.refusal 0) (length (actions_on g k)) 0
  unfolding actions
  count_all = meets.count ∙ rw (← meets.refused) (length_of (eqb d.refusal 0) (actions_on g k))

  drops : (b : Bool) (n : ℕ) → n ≡ cond b (length (actions_on g k)) 0
      → cond b (words_of (actions_on g k) ++ drop (4 * length (actions_on g k)) words) words ≡ cond b (words_of (actions_on g k) ++ drop (4 * n) words) words
  drops true n e = rw e
  drops false n e = refl

  -- what it gave, and the messages of all its actions
  handles : {r : Handled} {words' lens' out' : List ℕ} → words' ≡ words_left g k words d.refusal → r.refusal ≡ code_of d.refusal → r.count ≡ d.count
      → lens' ≡ overlay lens 0 (part_lengths g hold k 0 r.count) → out' ≡ overlay out 0 (parts g hold k 0 r.count) → r.length ≡ length (parts g hold k 0 r.count)
      → Handles g k hold words lens out r c hold' words' lens' out'
  unfolding next next_hold
  handles {r} ew ec en el eo es =
      let z : eqb d.refusal 0 ≡ eqb r.refusal 0 = sym (code_zero d.refusal) ∙ ap (λ (x : ℕ). eqb x 0) (sym ec) in
      let y : eqb (refusal g (event_of k (length lent) (length hold))) 0 ≡ eqb r.refusal 0 = ap (λ (x : ℕ). eqb x 0) (sym meets.refused) ∙ z in
      record {
        refused = ec ∙ ap code_of (meets.refused ∙ ap (λ (n : ℕ). refusal_of (is_sound g) (in_plan g k) (lending n (length hold))) er) ∙ code_handled g k (length hold) (length out);
        count = en ∙ count_all ∙ ap (λ (b : Bool). cond b (length (actions_on g k)) 0) z;
        state = meets.state ∙ ap (λ (b : Bool). cond b (state_after g (effect_of g k)) g) y;
        bytes = meets.bytes ∙ ap (λ (b : Bool). cond b (hold_after g (message_of k) (effect_of g k) hold) hold) y;
        said = ew ∙ drops (eqb d.refusal 0) r.count (en ∙ count_all) ∙ ap (λ (b : Bool). cond b (words_of (actions_on g k) ++ drop (4 * r.count) words) words) z;
        lengths = el;
        messages = eo;
        length = es;
      }

  -- no action
  handles_none : {code : ℕ} {words' : List ℕ} → words' ≡ words_left g k words d.refusal → code ≡ code_of d.refusal → d.count ≡ 0 → Handles g k hold words lens out (record { refusal = code; count = 0; length = 0 }) c hold' words' lens out
  unfolding parts part_lengths concat_below tabulate overlay
  handles_none ew e n = handles ew e (sym n) refl refl refl

-- ---- with none: the buffer is short

pub handles_short : (g : Gateway) (k : EventKind) (hold words lens out : List ℕ) {left hold' : List ℕ} {d : Done} {c : Gateway} {code : ℕ} → length out < room_bytes
    → Runs g (event_of k 0 (length hold)) [] left hold hold' (outcome_of d c) → code ≡ code_of d.refusal
    → Handles g k hold words lens out (record { refusal = code; count = 0; length = 0 }) c hold' words lens out
handles_short g k hold words lens out {d = d} l m e =
    let er = words_short (length out) l in
    let z = no_words g k hold words lens out er m refl in
    handles_none g k hold words lens out er m (rw (ne_eqb d.refusal 0 z)) e (refused_none g k hold words lens out er m z)

-- ---- with all of the list

module _ (g : Gateway) (k : EventKind) (hold words lens out : List ℕ) (long : length words ≡ 1544) (room : room_bytes ≤ length out)
    {words' hold' : List ℕ} {d : Done} {c : Gateway} (m : Runs g (event_of k (length words) (length hold)) words words' hold hold' (outcome_of d c)) where
  lent_all : length words ≡ words_for (length out)
  lent_all = long ∙ words_whole (length out) room

  left_all : words' ≡ words_left g k words d.refusal
  unfolding actions words_of
  left_all = (meets g k hold words lens out lent_all m).words ∙ rw (← (meets g k hold words lens out lent_all m).refused) (go (eqb d.refusal 0))
    where
      go : (b : Bool) → words_of (cond b (actions_on g k) []) ++ drop (4 * length (cond b (actions_on g k) [])) words ≡ cond b (words_of (actions_on g k) ++ drop (4 * length (actions_on g k)) words) words
      go true = refl
      go false = refl

  -- refused, or without actions
  pub handles_refused : {code : ℕ} → (d.refusal ≡ 0 → ⊥) → code ≡ code_of d.refusal → Handles g k hold words lens out (record { refusal = code; count = 0; length = 0 }) c hold' words' lens out
  handles_refused z e = handles_none g k hold words lens out lent_all m left_all e (refused_none g k hold words lens out lent_all m z)

  pub handles_quiet : d.refusal ≡ 0 → d.count ≡ 0 → Handles g k hold words lens out (record { refusal = 0; count = 0; length = 0 }) c hold' words' lens out
  unfolding code_of
  handles_quiet z n = handles_none g k hold words lens out lent_all m left_all (rw z) n

  pub ran_handled : d.refusal ≡ 0 → Ran g hold k d.count words' c
  ran_handled z = ran g hold k long m z

  -- with all its messages
  pub handles_all : {n at : ℕ} {lens' out' : List ℕ} → length lens ≡ 386 → d.refusal ≡ 0 → n ≤ d.count
      → Ended (λ j. part_at g hold k (0 + j)) (λ j. leb (length (actions_on g k)) (0 + j)) lens out n at lens' out'
      → Handles g k hold words lens out (record { refusal = 0; count = n; length = at }) c hold' words' lens' out'
  unfolding code_of parts part_lengths
  handles_all slots z few e =
      handles g k hold words lens out lent_all m left_all (rw z) (all_fit (ran_handled z) e slots room few) e.filled.lens_are e.filled.out_is e.filled.at_is
