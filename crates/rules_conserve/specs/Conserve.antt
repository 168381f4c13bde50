-- No unit is lost or doubled (Rule 10.8): what came in while an AS was pending has gone out, was discarded,
-- was turned away, or is still held. Each is counted from the history: from the events, and from the words
-- that the calls handed back. What a state holds is read at the start and at the end alone.
-- Assumes nothing.
use Rattle.std.specs.Prelude.{◌≡◌, Bool, true, false, cond, not, ◌&&◌, List, [], ◌∷◌, ℕ, zero, suc, ◌+◌, ◌*◌, ◌<◌, eqb, leb, ltb}
use Rattle.laws.specs.Below.{one, count_below}
use Rattle.laws.specs.Columns.{number_at}
use Rattle.codec_read.specs.Meaning.{reading_of}
use Rattle.state_tables.specs.Sound.{is_sound, most_held}
use Rattle.state_tables.specs.declared.Gateway.{Gateway}
use Rattle.rules_action.specs.Types.{user_data}
use Rattle.rules_action.specs.Words.{link_side}
use Rattle.state_plan.specs.Plan.{load_of}
use Rattle.rules_event.specs.Event.{EventKind, message, lost, recovery, link_up, link_down, link_message}
use Rattle.rules_event.specs.Link.{is_pending}
use Rattle.rules_event.specs.Reach.{owns_id}
use Rattle.rules_event.specs.Calls.{Board, Call, Calls}
use Rattle.rules_event.specs.Sent.{is_passed}

-- ---- one call, for AS a: g is the state before it

-- Data of the link side for AS a, which is pending
abbrev pub is_arrival : Gateway → EventKind → ℕ → Bool
is_arrival g (message p s) a = false
is_arrival g (lost p) a = false
is_arrival g (recovery c) a = false
is_arrival g (link_up l) a = false
is_arrival g (link_down l) a = false
is_arrival g (link_message s) a = eqb (reading_of s).msgtype 1 && (owns_id g (reading_of s).id a && is_pending g a)

-- the recovery time of AS a is over
abbrev pub is_recovery : EventKind → ℕ → Bool
is_recovery (message p s) a = false
is_recovery (lost p) a = false
is_recovery (recovery c) a = eqb c a
is_recovery (link_up l) a = false
is_recovery (link_down l) a = false
is_recovery (link_message s) a = false

-- it is not refused
abbrev pub done : Call → Bool
done d = eqb d.outcome.refusal 0

unfoldable pub came_in : Gateway → Call → ℕ → Bool
came_in g d a = done d && is_arrival g d.event.kind a

-- an action that is Data to an ASP about a link of AS a
abbrev pub is_data_of : Gateway → ℕ → ℕ → ℕ → ℕ → Bool
is_data_of g a to classtype subject = not (eqb to link_side) && (eqb classtype user_data && owns_id g subject a)

-- action i of those in the words is
unfoldable pub is_data_at : Gateway → ℕ → List ℕ → ℕ → Bool
is_data_at g a ws i = is_data_of g a (number_at ws (i * 4)) (number_at ws (i * 4 + 1)) (number_at ws (i * 4 + 2))

-- how many are; what the link side sends goes on at once, and was not held
unfoldable pub sent_out : Gateway → Call → ℕ → ℕ
sent_out g d a = cond (is_passed d.event.kind) 0 (count_below (is_data_at g a d.left) d.outcome.count)

-- ---- a history, for AS a

abbrev pub least : ℕ → ℕ → ℕ
least x y = cond (ltb x y) x y

-- how many came in since AS a began to wait, by now, if it was n before the call
unfoldable pub since : Gateway → Call → ℕ → ℕ → ℕ
since g d a n = cond (is_pending d.outcome.gateway a) (n + one (came_in g d a)) 0

-- how many units came in, went out, were discarded as the recovery time was over, and were turned away, since
-- 8 had come before them
pub record Tally : Type 0 where
  pub came : ℕ
  pub sent : ℕ
  pub discarded : ℕ
  pub turned : ℕ

-- of the calls from the state g on; n had come before them, since AS a began to wait
unfoldable pub tally : ℕ → ℕ → Gateway → List Call → Tally
tally a n g [] = record { came = 0; sent = 0; discarded = 0; turned = 0 }
tally a n g (d ∷ ds) =
    let t : Tally = tally a (since g d a n) d.outcome.gateway ds in
    record {
      came = one (came_in g d a) + t.came;
      sent = sent_out g d a + t.sent;
      discarded = cond (done d && is_recovery d.event.kind a) (least n most_held) 0 + t.discarded;
      turned = one (came_in g d a && leb most_held n) + t.turned;
    }

-- ---- the statement

-- how many units AS a holds
abbrev pub holds : Gateway → ℕ → ℕ
holds g a = number_at g.held.count a

-- over the sixteen ASes
unfoldable pub sum_below : (ℕ → ℕ) → ℕ → ℕ
sum_below f zero = 0
sum_below f (suc n) = sum_below f n + f n

abbrev pub in_all : (ℕ → ℕ) → ℕ
in_all f = sum_below f 16

abbrev pub sum : (ℕ → Tally) → Tally
sum t =
    record {
      came = in_all (λ a. (t a).came);
      sent = in_all (λ a. (t a).sent);
      discarded = in_all (λ a. (t a).discarded);
      turned = in_all (λ a. (t a).turned);
    }

-- the units that came in, and those held at the start, are the ones sent out, discarded, turned away and held
-- at the end
abbrev pub Balanced : ℕ → Tally → ℕ → Type 0
Balanced start t end = t.came + start ≡ t.sent + t.discarded + t.turned + end

-- for each AS, and in all, over the calls cs from b to c; `start` is what each AS holds at the start
pub record Balance (start : ℕ → ℕ) (b c : Board) (cs : List Call) : Type 0 where
  pub each : (a : ℕ) → a < 16 → Balanced (start a) (tally a (start a) b.gateway cs) (holds c.gateway a)
  pub all : Balanced (in_all start) (sum (λ a. tally a (start a) b.gateway cs)) (in_all (holds c.gateway))

-- over any history from a sound state
abbrev pub Conservation : Type 0
Conservation = (b c : Board) (cs : List Call) → is_sound b.gateway ≡ true → Calls b cs c → Balance (holds b.gateway) b c cs

-- over any history from a fresh state, which holds none
abbrev pub FreshBalance : Type 0
FreshBalance = (file hold : List ℕ) (c : Board) (cs : List Call) → (load_of file).code ≡ 0
    → Calls (record { gateway = (load_of file).gateway; hold = hold }) cs c → Balance (λ a. 0) (record { gateway = (load_of file).gateway; hold = hold }) c cs
