-- One turn of the loop over the ASes: the record that it finds is the one from before the event.
-- Assumes nothing.
use Prim.Native.Nat.{ℕ, ◌+◌, ◌*◌, ◌/◌, ◌%◌, ◌≤◌, ◌<◌}
use mathlib.Core.Path.{◌≡◌, refl, ap, ◌∙◌, sym}
use mathlib.Core.Bool.{Bool, true, false, not, cond, false≢true}
use mathlib.Core.List.{List}
use native.Mathlib.Omega.{arith}
use native.Mathlib.Decide.{dec_lt}
use lib.Dec.{eqb}
use lib.ListN.{length, set}
use Rattle.laws.specs.Below.{one}
use Rattle.laws.specs.Columns.{flag_at, is_set, number_at, tabulate}
use Rattle.laws.specs.Inner.Columns.{tabulate_ext, get_d_tabulate, length_tabulate, HalfCol, half_none, half_more, half_keep, half_end}
use Rattle.rules_action.specs.Inner.Words.{Written, written_none, written_append, written_length, emit_none, emit_more, emit_end}
use Rattle.rules_server.specs.declared.AsRecord.{AsRecord}
use Rattle.rules_server.specs.declared.Change.{Change}
use Rattle.rules_server.specs.Record.{row, members_up, record_from}
use Rattle.rules_server.specs.Inner.Record.{with_row, with_row_at, laid_in, laid_out}
use Rattle.rules_server.specs.Change.{after, overtaken_in}
use Rattle.rules_server.specs.Inner.Change.{fits}
use Rattle.rules_server.specs.Notify.{actions_in}
use Rattle.rules_server.specs.Units.{let_out}
use Rattle.rules_server.specs.Inner.Units.{let_out_short}
use Rattle.rules_server.specs.Inner.Notify.{spoken, spoken_is}
use Rattle.rules_servers.specs.Changed.{new_active, new_waiting, actions_at}
use Rattle.rules_servers.specs.Inner.Run.{Stepped, Ran, Running}

pub stepped_not : (k : Change) (named : Bool) (a : ℕ) (s : AsRecord) (held : ℕ) (id : List ℕ) (active waiting : List ℕ) (ws : List ℕ) (n : ℕ) → not named ≡ true → Stepped k named a s held id active waiting ws n active waiting ws n
unfolding actions_in
stepped_not k true a s held id active waiting ws n h = absurd (false≢true h)
stepped_not k false a s held id active waiting ws n h = record { wrote = written_none ws n; acts = refl; waits = refl }

pub stepped_on : (k : Change) (named : Bool) (a : ℕ) {s u t : AsRecord} {l : List Bool} {active waiting : List ℕ} {ws : List ℕ} {n : ℕ} {active' : List ℕ} {y held m : ℕ} {id ws⁺ ws' : List ℕ} {r : ℕ}
    → not named ≡ false → u ≡ s → t ≡ after k u → active' ≡ with_row active a t.acts → y ≡ one t.waiting → l ≡ overtaken_in k u → Written ws n (let_out k held id a) ws⁺ m → Written ws⁺ m (spoken l u t a) ws' r → fits k ≡ true
    → Stepped k named a s held id active waiting ws n active' (set waiting a y) ws' r
unfolding actions_in
stepped_on k false a h e f g v o x w j = absurd (false≢true (sym h))
stepped_on k true a {s} {u} {t} {l} {active} {waiting} {ws} {n} {active'} {y} h e f g v o x w j =
    let z : t ≡ after k s = f ∙ ap (after k) e in
    record {
      wrote = written_append x (rw (spoken_is k s a j) at (rw (o ∙ ap (overtaken_in k) e, e, z) at w));
      acts = g ∙ ap (λ (y : AsRecord). with_row active a y.acts) z;
      waits = ap (set waiting a) (v ∙ ap (λ (y : AsRecord). one y.waiting) z);
    }

-- room for the Notifies behind the units
pub out_room : (k : Change) (held a : ℕ) (id : List ℕ) {ws ws' : List ℕ} {n m : ℕ} → Written ws n (let_out k held id a) ws' m → n * 4 + 96 ≤ length ws → m * 4 + 64 ≤ length ws'
out_room k held a id w h = omega (arith, w.next, written_length w, let_out_short k held id a)

-- the column after the turn: AS a's row is x where it is reached
row_turn : {f : ℕ → ℕ} (t : Bool) (a : ℕ) (x : List Bool) (c₀ c c' : List ℕ) → a < 16 → HalfCol f (number_at c₀) 256 (a * 16) c → c' ≡ cond t (with_row c a x) c
    → ((q : ℕ) → q < 16 → cond t (one (flag_at x q)) (number_at c₀ (a * 16 + q)) ≡ f (a * 16 + q)) → HalfCol f (number_at c₀) 256 ((a + 1) * 16) c'
unfolding with_row
row_turn {f} true a x c₀ c c' b h e g = rw e (record { long = length_tabulate 256 (with_row_at c a x); new = λ i q. fresh i q (dec_lt i (a * 16)); old = stale })
  where
    fresh : (i : ℕ) → i < (a + 1) * 16 → Dec (i < a * 16) → number_at (tabulate 256 (with_row_at c a x)) i ≡ f i
    fresh i q (yes z) = get_d_tabulate 256 (with_row_at c a x) i 0 (omega arith) ∙ sym (laid_out c a x i (λ w. omega arith)) ∙ h.new i z
    fresh i q (no z) =
        let d : i ≡ a * 16 + i % 16 = omega arith in
        get_d_tabulate 256 (with_row_at c a x) i 0 (omega arith) ∙ ap (with_row_at c a x) d ∙ sym (laid_in c a x (i % 16) (omega arith)) ∙ g (i % 16) (omega arith) ∙ ap f (sym d)

    stale : (i : ℕ) → (a + 1) * 16 ≤ i → i < 256 → number_at (tabulate 256 (with_row_at c a x)) i ≡ number_at c₀ i
    stale i q z = get_d_tabulate 256 (with_row_at c a x) i 0 z ∙ sym (laid_out c a x i (λ w. omega arith)) ∙ h.old i (omega arith) z
row_turn {f} false a x c₀ c c' b h e g = rw e (record { long = h.long; new = λ i q. fresh i q (dec_lt i (a * 16)); old = λ i q z. h.old i (omega arith) z })
  where
    fresh : (i : ℕ) → i < (a + 1) * 16 → Dec (i < a * 16) → number_at c i ≡ f i
    fresh i q (yes z) = h.new i z
    fresh i q (no z) =
        let d : i ≡ a * 16 + i % 16 = omega arith in
        h.old i (omega arith) (omega arith) ∙ ap (number_at c₀) d ∙ g (i % 16) (omega arith) ∙ ap f (sym d)

wait_turn : {f : ℕ → ℕ} (t : Bool) (v a : ℕ) (c₀ c c' : List ℕ) → a < 16 → HalfCol f (number_at c₀) 16 a c → c' ≡ cond t (set c a v) c
    → cond t v (number_at c₀ a) ≡ f a → HalfCol f (number_at c₀) 16 (a + 1) c'
wait_turn true v a c₀ c c' b h e g = rw e (half_more v h b g)
wait_turn false v a c₀ c c' b h e g = rw e (half_keep h b g)

module _ (k : Change) (named : List Bool) (up member : List ℕ) (mode count id : List ℕ) (active₀ waiting₀ : List ℕ) where
  records : ℕ → AsRecord
  records = record_from up member active₀ waiting₀ mode

  -- the record that the turn finds is the one before the event
  record_kept : (a : ℕ) (active waiting : List ℕ) {f g : ℕ → ℕ} → a < 16 → HalfCol f (number_at active₀) 256 (a * 16) active → HalfCol g (number_at waiting₀) 16 a waiting
      → record_from up member active waiting mode a ≡ records a
  unfolding records record_from row
  record_kept a active waiting b h w =
      λ i. record {
        ups = members_up up member a;
        acts = tabulate_ext false 16 (λ q. is_set active (a * 16 + q)) (λ q. is_set active₀ (a * 16 + q)) (λ q z. ap (λ (x : ℕ). eqb x 1) (h.old (a * 16 + q) (omega arith) (omega arith))) i;
        waiting = eqb (w.old a (omega arith) b i) 1;
        mode = number_at mode a;
      }

  new_acts : (a q : ℕ) → q < 16 → cond (flag_at named a) (one (flag_at (after k (records a)).acts q)) (number_at active₀ (a * 16 + q)) ≡ new_active k named records active₀ (a * 16 + q)
  unfolding new_active
  new_acts a q b =
      let d : (a * 16 + q) / 16 ≡ a = omega arith in
      let m : (a * 16 + q) % 16 ≡ q = omega arith in
      rw (d, m)

  new_waits : (a : ℕ) → cond (flag_at named a) (one (after k (records a)).waiting) (number_at waiting₀ a) ≡ new_waiting k named records waiting₀ a
  unfolding new_waiting
  new_waits a = refl

  pub run_none : (ws : List ℕ) (n : ℕ) → length active₀ ≡ 256 → length waiting₀ ≡ 16 → Running k named (record_from up member active₀ waiting₀ mode) count id active₀ waiting₀ ws n 0 active₀ waiting₀ ws n
  run_none ws n x y = record { wrote = emit_none _ ws n; acts = half_none _ 256 active₀ x; waits = half_none _ 16 waiting₀ y }

  pub run_turn : {ws : List ℕ} {n a : ℕ} {active waiting : List ℕ} {ws' : List ℕ} {r : ℕ} {active' waiting' : List ℕ} {ws'' : List ℕ} {m : ℕ}
      → a < 16 → Running k named (record_from up member active₀ waiting₀ mode) count id active₀ waiting₀ ws n a active waiting ws' r
      → Stepped k (flag_at named a) a (record_from up member active waiting mode a) (number_at count a) id active waiting ws' r active' waiting' ws'' m
      → Running k named (record_from up member active₀ waiting₀ mode) count id active₀ waiting₀ ws n (a + 1) active' waiting' ws'' m
  unfolding records actions_at
  run_turn {ws} {n} {a} {active} {waiting} {ws'} {r} {active'} {waiting'} {ws''} {m} b h s =
      let e = record_kept a active waiting b h.acts h.waits in
      record {
        wrote = emit_more h.wrote (rw e at s.wrote);
        acts = row_turn (flag_at named a) a (after k (records a)).acts active₀ active active' b h.acts (rw e at s.acts) (new_acts a);
        waits = wait_turn (flag_at named a) (one (after k (records a)).waiting) a waiting₀ waiting waiting' b h.waits (rw e at s.waits) (new_waits a);
      }

  pub run_end : {ws : List ℕ} {n a : ℕ} {active waiting : List ℕ} {ws' : List ℕ} {r : ℕ} → 16 ≤ a → a ≤ 16
      → Running k named (record_from up member active₀ waiting₀ mode) count id active₀ waiting₀ ws n a active waiting ws' r
      → Ran k named (record_from up member active₀ waiting₀ mode) count id active₀ waiting₀ ws n active waiting ws' r
  run_end b c h = record { wrote = emit_end h.wrote b c; acts = half_end h.acts (omega arith); waits = half_end h.waits (omega arith) }
