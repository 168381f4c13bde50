-- What the link side sent is passed on as a message that the reader accepts, since it accepted what was sent.
-- Assumes nothing.
use mathlib.Core.Path.{◌≡◌, ap}
use mathlib.Core.Bool.{Bool, true, false, cond, ◌&&◌}
use mathlib.Core.List.{List, []}
use Prim.Native.Nat.{ℕ, ◌+◌, ◌*◌, ◌/◌, ◌%◌}
use native.Mathlib.Omega.{arith}
use lib.Dec.{eqb, ltb}
use lib.ListN.{get_or}
use borrow.Author.Tests.{le-ltb}
use Rattle.codec_wire.specs.Walk.{walk}
use Rattle.codec_read.specs.Verdict.{most, verdict}
use Rattle.codec_read.specs.Meaning.{meaning, reading_of}
use Rattle.codec_read.specs.declared.Reading.{Reading}
use Rattle.codec_write.specs.Encode.{size_of}
use Rattle.codec_write.proofs.Verdicts.{list_code}
use Rattle.codec_write.proofs.RoundTrip.{Accepted, accepted, size_accepted}
use Rattle.laws.specs.Columns.{number_at}
use Rattle.state_tables.specs.Sound.{most_held}
use Rattle.state_tables.specs.declared.Gateway.{Gateway}
use Rattle.rules_action.specs.declared.Action.{Action}
use Rattle.rules_action.specs.Words.{action}
use Rattle.rules_event.specs.Effect.{send, take_in, actions_of}
use Rattle.rules_event.specs.Identifiers.{link_of, owner_at}
use Rattle.rules_event.specs.Records.{link_at}
use Rattle.rules_event.specs.Link.{recipients_at, to_recipients, is_pending, arrival, hold_effect, link_message_on, link_message_effect}
use Rattle.rules_event.specs.Rules.{class_type_of}
use Rattle.send_reads.proofs.Each.{Each, each_none}
use Rattle.send_reads.proofs.Header.{type_small, reading_is}
use Rattle.send_reads.proofs.Effects.{each_all}

-- the list of an accepted message
list_again : (s : List ℕ) → Accepted s → list_code (get_or s 2 0) (get_or s 3 0) (walk s 8).pars ≡ 0
unfolding list_code
list_again s a =
    let l = size_accepted s a in
    let m = a.small in
    rw (le-ltb most (size_of (walk s 8).pars) (omega arith), a.listed, a.known, a.pars_ok)

-- an action that passes it on
abbrev Read : List ℕ → Action → Type 0
Read s o = list_code (o.classtype / 256) (o.classtype % 256) (walk s 8).pars ≡ 0

read_again : (s : List ℕ) → Accepted s → (k : ℕ) → k ≡ get_or s 2 0 * 256 + get_or s 3 0 → (p x v : ℕ) → Read s (action p k x v)
read_again s a k e p x v =
    let q = type_small s a in
    let ec : k / 256 ≡ get_or s 2 0 = omega arith in
    let et : k % 256 ≡ get_or s 3 0 = omega arith in
    rw (ec, et) (list_again s a)

-- what is held, or turned away, gives none
pub each_passed : (g : Gateway) (s : List ℕ) → verdict s ≡ 0 → Each (Read s) (actions_of g (link_message_effect g s (reading_of s)))
unfolding link_message_effect link_message_on hold_effect to_recipients meaning
each_passed g s e = go (eqb (reading_of s).msgtype 1 && is_pending g a) (ltb (number_at g.held.count a) most_held)
  where
    l : ℕ
    l = link_of g (reading_of s).id

    a : ℕ
    a = owner_at g l

    go : (u v : Bool) → Each (Read s) (actions_of g (cond u (cond v (take_in a (arrival s (reading_of s))) (send [])) (send (to_recipients (recipients_at g l) (link_at g l) (class_type_of (reading_of s))))))
    go true true = each_none
    go true false = each_none
    go false v =
        each_all (recipients_at g l) (class_type_of (reading_of s)) (number_at g.iid l) 0
        (λ p. read_again s (accepted s e) (class_type_of (reading_of s)) (ap (λ (r : Reading). class_type_of r) (reading_is s e)) p (number_at g.iid l) 0)
