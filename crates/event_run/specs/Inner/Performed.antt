-- What the code does of each shape of effect, on the whole state.
-- Assumes nothing.
use Rattle.std.specs.Prelude.{ℕ, ◌+◌, ◌-◌, ◌*◌, ◌<◌, ◌≤◌, ◌≡◌, refl, Bool, true, false, cond, List, [], ◌∷◌, eqb, length, take, drop, set}
use Rattle.std.proofs.Common.{◌∙◌, sym, arith}
use Rattle.std.proofs.Math.ListN.{length-append}
use Rattle.laws.specs.Columns.{flag_at, number_at}
use Rattle.laws.specs.Inner.Every.{and_left}
use Rattle.codec_put.specs.Bytes.{overlay}
use Rattle.rules_action.specs.declared.Action.{Action}
use Rattle.rules_action.specs.Words.{to_all}
use Rattle.rules_action.specs.Inner.Words.{Written, to_all_short, written_none, written_append, written_length}
use Rattle.state_tables.specs.Sound.{sized, all_units, sound_units, is_sound}
use Rattle.state_tables.specs.Inner.Laws.{parts}
use Rattle.state_tables.specs.Inner.Sound.{sized_is}
use Rattle.state_tables.specs.declared.Gateway.{Gateway}
use Rattle.state_tables.specs.declared.Units.{Units}
use Rattle.rules_server.specs.declared.Arrival.{Arrival}
use Rattle.rules_server.specs.declared.Change.{Change}
use Rattle.rules_server.specs.Record.{record_from, record_of, some}
use Rattle.rules_servers.specs.Changed.{with_columns, with_change, with_link, with_unit, units_without, units_with, lets_go, up_after, all_actions}
use Rattle.rules_servers.specs.Inner.Changed.{all_actions_short}
use Rattle.rules_servers.specs.Inner.Run.{Ran, ran_actions}
use Rattle.rules_event.specs.declared.Replies.{Replies}
use Rattle.rules_event.specs.declared.Replies.TheVariants.{Nothing, One, Two}
use Rattle.rules_event.specs.declared.Decision.{Decision}
use Rattle.rules_event.specs.declared.Decision.TheVariants.{Send, Turn, Spread, TurnSpread, ChangeIn, TakeIn}
use Rattle.rules_event.specs.declared.Told.{Told}
use Rattle.rules_event.specs.declared.Outcome.{Outcome}
use Rattle.rules_event.specs.Event.{message_of}
use Rattle.rules_event.specs.Effect.{Effect, send, set_link, change_in, take_in, hold_at, hold_after}
use Rattle.rules_event.specs.Entry.{Runs}
use Rattle.rules_event.specs.Inner.Decision.{replies_in, effect_in}
use Rattle.event_decision.specs.Inner.Decides.{asp_of, fits_asp}
use Rattle.event_units.specs.Inner.Going.{going, units_gone, units_stay}
use Rattle.event_asked.specs.Happened.{happened, event_of}
use Rattle.event_run.specs.Inner.Perform.{Performed, runs_yes}
use Rattle.event_run.specs.Inner.Decided.{Does, whole, taken}

-- what a change in the ASes named leaves of columns and words, behind n actions
pub record Changed (k : Change) (named : List Bool) (up member mode count id active waiting ws : List ℕ) (n : ℕ) (up' active' waiting' ws' : List ℕ) (r : ℕ) : Type 0 where
  pub ran : Ran k named (record_from up member active waiting mode) count id active waiting ws n active' waiting' ws' r
  pub marked : up' ≡ up_after k up

-- the units where the ASes of these flags let theirs go
abbrev pub units_left : List Bool → Units → Units
units_left go u = cond (some go) (units_without (flag_at go) u) u

-- at most two replies
pub few_replies : (os : Replies) → length (replies_in os) ≤ 2
few_replies Nothing = omega arith
few_replies (One a) = omega arith
few_replies (Two a b) = omega arith

-- the counts of a sound state are sixteen
counts_16 : (g : Gateway) → is_sound g ≡ true → length g.held.count ≡ 16
unfolding sound_units
counts_16 g h = (sized_is g.held (and_left (sized g.held) (all_units g.held g.waiting g.iid g.owner g.links) (parts g h).in_units)).count_16

-- ---- each shape

module _ (g : Gateway) {ws ws' : List ℕ} {n : ℕ} where
  did_send : (os : List Action) → length os ≤ 16 → Written ws 0 os ws' n → Performed g (send os) ws ws' (record { refusal = 0; count = n; gateway = g })
  did_send os h w = record { accepted = refl; wrote = w; few = omega (arith, h); state = refl }

  did_set : (l v : ℕ) (os : List Action) → length os ≤ 16 → Written ws 0 os ws' n → Performed g (set_link l v os) ws ws' (record { refusal = 0; count = n; gateway = with_link g l v })
  did_set l v os h w = record { accepted = refl; wrote = w; few = omega (arith, h); state = refl }

  did_change : (os : Replies) (k : Change) (named : List Bool) {ws'' up active waiting : List ℕ} {held : Units} {m : ℕ} → is_sound g ≡ true → asp_of k < 16 → Written ws 0 (replies_in os) ws' n
      → Changed k named g.up g.member g.mode g.held.count g.held.id g.active g.waiting ws' n up active waiting ws'' m
      → held ≡ units_left (going g.held.count named waiting) g.held
      → Performed g (change_in (replies_in os) k named) ws ws'' (record { refusal = 0; count = m; gateway = with_columns g up active waiting g.state held })
  unfolding with_change all_actions
  did_change os k named {waiting = waiting} {held = held} s f x y h =
      let u : held ≡ units_without (lets_go k named (record_of g) g.held.count) g.held = h ∙ left (some (going g.held.count named waiting)) refl in
      record {
        accepted = refl;
        wrote = written_append x (ran_actions g y.ran);
        few = rw length-append (omega (arith, few_replies os, all_actions_short g k named (fits_asp k f)));
        state = rw (y.marked, y.ran.acts, y.ran.waits, u);
      }
    where
      left : (b : Bool) → some (going g.held.count named waiting) ≡ b → cond b (units_without (flag_at (going g.held.count named waiting)) g.held) g.held ≡ units_without (lets_go k named (record_of g) g.held.count) g.held
      left true e = units_gone g k named waiting (going g.held.count named waiting) (counts_16 g s) y.ran.waits refl
      left false e = sym (units_stay g k named waiting (going g.held.count named waiting) (counts_16 g s) y.ran.waits refl e)

did_take : (g : Gateway) (a : ℕ) (x : Arrival) {ws : List ℕ} {held : Units} → held ≡ units_with g.held a x → Performed g (take_in a x) ws ws (record { refusal = 0; count = 0; gateway = with_columns g g.up g.active g.waiting g.state held })
did_take g a x {ws} h = record { accepted = refl; wrote = written_none ws 0; few = omega arith; state = rw h }

-- room for the change behind the replies
pub change_room : (os : Replies) {ws ws' : List ℕ} {n : ℕ} → 1544 ≤ length ws → Written ws 0 (replies_in os) ws' n → n * 4 + 1536 ≤ length ws'
change_room os h x = omega (arith, x.next, written_length x, few_replies os, h)

-- room for the bytes of a unit in the message and in the hold
pub lay_room : (a k n long start most size : ℕ) → n ≡ long → a < 16 → k < 8 → long ≤ 277 → start + (long - 4) ≤ most → size ≡ 34944 → (start + (n - 4) ≤ most) × (a * 2184 + k * 273 + (n - 4) ≤ size)
lay_room m k n long start most size e a b c d f = (omega (arith, d, e), omega (arith, a, b, c, e, f))

-- ---- so each decision meets what every entry promises

-- what is not written is as it was
same : {part : List ℕ} (b : Bool) → part ≡ cond b part part
same true = refl
same false = refl

module _ {g : Gateway} {kind i : ℕ} {msg : List ℕ} {size : ℕ} {ws part : List ℕ} where
  finished : {w : Decision} {ws' part' : List ℕ} {r : Outcome} → Does g kind i msg size (length ws) w → Performed g (effect_in w) ws ws' r
      → part' ≡ cond (eqb (length part) size) (hold_after g (message_of (happened kind i msg)) (effect_in w) part) part
      → Runs g (event_of (happened kind i msg) (length ws) size) ws ws' part part' r
  finished d p b = runs_yes g (happened kind i msg) size d.accepted refl d.decides.is p b

  pub ran_send : {os : Replies} {ws' : List ℕ} {n : ℕ} → Does g kind i msg size (length ws) (Send os) → Written ws 0 (replies_in os) ws' n
      → Runs g (event_of (happened kind i msg) (length ws) size) ws ws' part part (record { refusal = 0; count = n; gateway = g })
  ran_send {os} d x = finished d (did_send g (replies_in os) (omega (arith, few_replies os)) x) (same _)

  pub ran_turn : {l v : ℕ} {a : Action} {ws' : List ℕ} {n : ℕ} → Does g kind i msg size (length ws) (Turn l v a) → Written ws 0 (a ∷ []) ws' n
      → Runs g (event_of (happened kind i msg) (length ws) size) ws ws' part part (record { refusal = 0; count = n; gateway = with_link g l v })
  ran_turn {l} {v} {a} d x = finished d (did_set g l v (a ∷ []) (omega arith) x) (same _)

  pub ran_spread : {t : Told} {ws' : List ℕ} {n : ℕ} → Does g kind i msg size (length ws) (Spread t) → Written ws 0 (to_all t.who t.classtype t.subject 0) ws' n
      → Runs g (event_of (happened kind i msg) (length ws) size) ws ws' part part (record { refusal = 0; count = n; gateway = g })
  ran_spread {t} d x = finished d (did_send g (to_all t.who t.classtype t.subject 0) (to_all_short t.who t.classtype t.subject 0) x) (same _)

  pub ran_turn_spread : {l v : ℕ} {t : Told} {ws' : List ℕ} {n : ℕ} → Does g kind i msg size (length ws) (TurnSpread l v t) → Written ws 0 (to_all t.who t.classtype t.subject 0) ws' n
      → Runs g (event_of (happened kind i msg) (length ws) size) ws ws' part part (record { refusal = 0; count = n; gateway = with_link g l v })
  ran_turn_spread {l} {v} {t} d x = finished d (did_set g l v (to_all t.who t.classtype t.subject 0) (to_all_short t.who t.classtype t.subject 0) x) (same _)

  pub ran_change : {os : Replies} {k : Change} {who : List Bool} {ws' ws'' up active waiting : List ℕ} {held : Units} {n m : ℕ} → Does g kind i msg size (length ws) (ChangeIn os k who)
      → Written ws 0 (replies_in os) ws' n
      → Changed k who g.up g.member g.mode g.held.count g.held.id g.active g.waiting ws' n up active waiting ws'' m
      → held ≡ units_left (going g.held.count who waiting) g.held
      → Runs g (event_of (happened kind i msg) (length ws) size) ws ws'' part part (record { refusal = 0; count = m; gateway = with_columns g up active waiting g.state held })
  ran_change {os} {k} {who} d x y h = finished d (did_change g os k who (whole d).sound_yes d.decides.within x y h) (same _)

  pub ran_take : {a : ℕ} {x : Arrival} {k : ℕ} {part' : List ℕ} {held : Units} → Does g kind i msg size (length ws) (TakeIn a x) → held ≡ units_with g.held a x
      → k ≡ number_at g.held.count a
      → part' ≡ cond (eqb (length part) size) (overlay part (a * 2184 + k * 273) (take (x.length - 4) (drop x.start msg))) part
      → Runs g (event_of (happened kind i msg) (length ws) size) ws ws part part' (record { refusal = 0; count = 0; gateway = with_columns g g.up g.active g.waiting g.state held })
  ran_take {a} {x} d h e b =
      let t = taken d in
      finished d (did_take g a x h) (b ∙ rw (e, t.said))
