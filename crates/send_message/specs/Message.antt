-- The message that an action to an ASP goes out as (Rules 8.8 to 8.14, 8.18).
-- Assumes nothing.
use Rattle.std.specs.Prelude.{ℕ, ◌-◌, ◌/◌, ◌%◌, cond, ◌||◌, List, [], ◌∷◌, ◌++◌, length, take, drop, eqb}
use Rattle.laws.specs.Below.{concat_below}
use Rattle.laws.specs.Columns.{number_at}
use Rattle.codec_wire.specs.Walk.{Par, walk}
use Rattle.codec_put.specs.Bytes.{par, bytes32}
use Rattle.codec_write.specs.Encode.{encode}
use Rattle.codec_select.specs.Only.{only}
use Rattle.state_tables.specs.declared.Gateway.{Gateway}
use Rattle.rules_action.specs.declared.Action.{Action}
use Rattle.rules_action.specs.Types.{mgmt_error, mgmt_notify, beat_ack, asp_up_ack, asp_down_ack, asp_active_ack, asp_inactive_ack, user_data, data_ack}
use Rattle.rules_event.specs.Event.{EventKind, message, lost, recovery, link_up, link_down, link_message}
use Rattle.rules_event.specs.Identifiers.{is_ids, owner_at, first_refused, is_named_good}
use Rattle.rules_event.specs.Effect.{hold_at}

-- a parameter that holds one number
abbrev pub number_par : ℕ → ℕ → Par
number_par t n = par t (bytes32 n)

-- the interface identifiers of AS a's links, ascending as the links' places do (Rule 5.13), as bytes
unfoldable pub ids_of : Gateway → ℕ → List ℕ
ids_of g a = concat_below (λ l. cond (eqb (owner_at g l) a) (bytes32 (number_at g.iid l)) []) g.links

-- identifiers in one parameter; none where there are none
abbrev pub list_par : List ℕ → List Par
list_par ids = cond (eqb (length ids) 0) [] (par 0x1 ids ∷ [])

unfoldable pub ids_par : Gateway → ℕ → List Par
ids_par g a = list_par (ids_of g a)

-- Rule 8.9: its code; code 2 also says which identifier was refused
unfoldable pub error_pars : Action → List Par
error_pars o = number_par 0xc o.value ∷ cond (eqb o.value 2) (number_par 0x1 o.subject ∷ []) []

-- Rule 8.10: the status, and the AS by the identifiers of its links
unfoldable pub notify_pars : Gateway → Action → List Par
notify_pars g o = number_par 0xd o.value ∷ ids_par g o.subject

-- the good identifiers that a message of p names, ascending as the links' places do, each once, as bytes
unfoldable pub good_ids : Gateway → ℕ → List Par → List ℕ
good_ids g p ps = concat_below (λ l. cond (is_named_good g p ps l) (bytes32 (number_at g.iid l)) []) g.links

-- Rule 8.11: the Acks of class 4 repeat the traffic mode, then what names identifiers; where one of these was
-- refused, the good ones in one parameter instead. ps are the parameters of the message of p that they answer
unfoldable pub traffic_ack_pars : Gateway → ℕ → List Par → List Par
traffic_ack_pars g p ps = only (λ t. eqb t 0xb) ps ++ cond (first_refused g p ps).found (list_par (good_ids g p ps)) (only is_ids ps)

-- Rule 8.12: a Beat Ack repeats the heartbeat data
unfoldable pub beat_ack_pars : List Par → List Par
beat_ack_pars ps = only (λ t. eqb t 0x9) ps

-- Rule 8.13: class 6 says the interface identifier; a Data Ack also the correlation id
unfoldable pub link_pars : Action → List Par
link_pars o = number_par 0x1 o.subject ∷ cond (eqb o.classtype data_ack) (number_par 0x13 o.value ∷ []) []

-- Rule 8.18: a unit that was held says its interface identifier, its data with the body from the hold h, and
-- its correlation id where it has one; i is its index
unfoldable pub held_body : Gateway → List ℕ → ℕ → List ℕ
held_body g h i = take (number_at g.held.length i - 4) (drop (hold_at (i / 8) (i % 8)) h)

unfoldable pub unit_pars : Gateway → List ℕ → ℕ → Action → List Par
unit_pars g h i o =
    number_par 0x1 o.subject ∷ par (number_at g.held.tag i) (held_body g h i)
    ∷ cond (eqb (number_at g.held.marked i) 1) (number_par 0x13 (number_at g.held.correlation i) ∷ []) []

-- by class and type: Up Ack and Down Ack have no parameters, and what is left is of class 6
unfoldable pub reply_pars : Gateway → List ℕ → List Par → ℕ → Action → List Par
reply_pars g h ps i o =
    cond (eqb o.classtype mgmt_error) (error_pars o)
    (cond (eqb o.classtype mgmt_notify) (notify_pars g o)
    (cond (eqb o.classtype asp_up_ack || eqb o.classtype asp_down_ack) []
    (cond (eqb o.classtype beat_ack) (beat_ack_pars ps)
    (cond (eqb o.classtype asp_active_ack || eqb o.classtype asp_inactive_ack) (traffic_ack_pars g o.to ps)
    (cond (eqb o.classtype user_data) (unit_pars g h i o)
    (link_pars o))))))

-- Rule 8.14: what the link side sends is passed on with all that it has. An event without a message has no
-- parameters to repeat.
abbrev pub sent_pars : Gateway → List ℕ → EventKind → ℕ → Action → List Par
sent_pars g h (message p s) i o = reply_pars g h (walk s 8).pars i o
sent_pars g h (lost p) i o = reply_pars g h [] i o
sent_pars g h (recovery a) i o = reply_pars g h [] i o
sent_pars g h (link_up l) i o = reply_pars g h [] i o
sent_pars g h (link_down l) i o = reply_pars g h [] i o
sent_pars g h (link_message s) i o = (walk s 8).pars

-- the message (Rule 3.1); i is the index of the unit that it sends, if it sends one
unfoldable pub sent_bytes : Gateway → List ℕ → EventKind → ℕ → Action → List ℕ
sent_bytes g h k i o = encode (o.classtype / 256) (o.classtype % 256) (sent_pars g h k i o)
