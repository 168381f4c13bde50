-- The links: class 6 messages of an ASP, link up, link down, messages of the link side (Rules 7.14 to 7.24).
-- Each rule is said of records: k is the link, at the place l, o the AS that owns it, s the sender.
-- Assumes nothing.
use Rattle.std.specs.Prelude.{ℕ, ◌+◌, ◌*◌, Bool, cond, not, ◌&&◌, ◌||◌, List, [], ◌++◌, eqb, leb, ltb}
use Rattle.laws.specs.Columns.{tabulate}
use Rattle.codec_read.specs.declared.Reading.{Reading}
use Rattle.codec_read.specs.Meaning.{data_tag, data_at}
use Rattle.rules_action.specs.declared.Action.{Action}
use Rattle.rules_action.specs.Words.{link_side, to_all}
use Rattle.state_tables.specs.Sound.{most_held}
use Rattle.state_tables.specs.declared.Gateway.{Gateway}
use Rattle.rules_server.specs.declared.Arrival.{Arrival}
use Rattle.rules_server.specs.Record.{record_of, state_in}
use Rattle.rules_action.specs.Types.{establish_confirm, establish_request, release_confirm, release_request, user_data, data_ack, state_request, retrieval_request, release_indication}
use Rattle.state_lookup.specs.Servers.{receives}
use Rattle.rules_event.specs.declared.Link.{Link}
use Rattle.rules_event.specs.declared.Owner.{Owner}
use Rattle.rules_event.specs.declared.Sender.{Sender}
use Rattle.rules_event.specs.Identifiers.{is_known, link_of, owner_at}
use Rattle.rules_event.specs.Records.{link_at, owner_of, sender_of}
use Rattle.rules_event.specs.Effect.{Effect, send, set_link, take_in, one_action, error, error2}

-- the states of a link (Rule 5.1)
abbrev pub idle : ℕ
idle = 0

abbrev pub starting : ℕ
starting = 1

abbrev pub in_service : ℕ
in_service = 2

abbrev pub stopping : ℕ
stopping = 3

-- ---- class 6 of an ASP: p is the ASP, x the identifier that its message names

-- Rule 7.15: confirmed at once where the link is in service; an idle or stopping one starts, and the link
-- side is told
unfoldable pub establish : ℕ → ℕ → ℕ → Link → Effect
establish p x l k =
    cond (eqb k.state in_service) (send (one_action p establish_confirm x 0))
    (cond (eqb k.state starting) (send [])
    (set_link l starting (one_action link_side establish_request x 0)))

-- Rule 7.16: confirmed at once where the link is idle; a starting one, or one in service, stops, and the link
-- side is told
unfoldable pub release : ℕ → ℕ → ℕ → Link → Effect
release p x l k =
    cond (eqb k.state idle) (send (one_action p release_confirm x 0))
    (cond (eqb k.state stopping) (send [])
    (set_link l stopping (one_action link_side release_request x 0)))

-- Rule 7.17: to the link side, and behind that an acknowledgement to p where the message has a correlation id
unfoldable pub data_effect : ℕ → ℕ → Link → Reading → Effect
data_effect p x k r =
    cond (eqb k.state in_service)
    (send (one_action link_side user_data x 0 ++ cond (eqb r.correlated 1) (one_action p data_ack x r.correlation) []))
    (send (error p 6))

-- by the type of the message; 6.7 and 6.10 pass their state or action on, 6.15 does nothing (Rules 7.18,
-- 7.19)
unfoldable pub link_effect : ℕ → ℕ → ℕ → Link → Reading → Effect
link_effect p x l k r =
    cond (eqb r.msgtype 1) (data_effect p x k r)
    (cond (eqb r.msgtype 2) (establish p x l k)
    (cond (eqb r.msgtype 4) (release p x l k)
    (cond (eqb r.msgtype 7) (send (one_action link_side state_request x r.state))
    (cond (eqb r.msgtype 10) (send (one_action link_side retrieval_request x r.retrieval))
    (send [])))))

-- the largest sequence number of a plain link (Rule 5.23)
abbrev pub plain_most : ℕ
plain_most = 127

-- a link can have the sequence number n: a high-speed one any number that reads; 0 stands where none is given
unfoldable pub can_have : Link → ℕ → Bool
can_have k n = eqb k.highspeed 1 || leb n plain_most

-- Rule 7.14: what p must be before a message of class 6 is looked at: up, a member of the owner, active
-- there; and a sequence number must be one that the link can have (only 6.10 has one). `there` says that a
-- link has the identifier.
unfoldable pub class_six_on : Bool → ℕ → ℕ → Link → Sender → Reading → Effect
class_six_on there p l k s r =
    cond (not (eqb s.up 1)) (send (error p 6))
    (cond (not (there && eqb s.member 1)) (send (error2 p r.id))
    (cond (not (eqb s.active 1)) (send (error p 6))
    (cond (not (can_have k r.sequence)) (send (error p 17))
    (link_effect p r.id l k r))))

-- ---- to the recipients of a link

-- those of the link k, a flag for each ASP (Rule 5.15); `active` says who is active in which AS
unfoldable pub recipients_of : List ℕ → Link → Owner → List Bool
recipients_of active k o = tabulate 16 (receives active o.mode k.owner k.id)

-- each of them gets an action, ascending: subject the identifier, value 0
unfoldable pub to_recipients : List Bool → Link → ℕ → List Action
to_recipients who k classtype = to_all who classtype k.id 0

-- Rule 7.20
unfoldable pub link_up_on : ℕ → Link → List Bool → Effect
link_up_on l k who = cond (eqb k.state starting) (set_link l in_service (to_recipients who k establish_confirm)) (send [])

-- Rule 7.21: a stopping link was asked to stop, any other goes down unasked
unfoldable pub link_down_on : ℕ → Link → List Bool → Effect
link_down_on l k who =
    cond (eqb k.state idle) (send [])
    (set_link l idle (to_recipients who k (cond (eqb k.state stopping) release_confirm release_indication)))

-- the unit that a Data message brings
unfoldable pub arrival : List ℕ → Reading → Arrival
arrival s r =
    record {
      tag = data_tag s;
      length = (data_at s).length + 4;
      marked = r.correlated;
      id = r.id;
      correlation = r.correlation;
      start = (data_at s).start;
    }

-- Rule 7.24: behind those that AS a has, which is o; a ninth is turned away
unfoldable pub hold_effect : List ℕ → Reading → ℕ → Owner → Effect
hold_effect s r a o = cond (ltb o.held most_held) (take_in a (arrival s r)) (send [])

-- Rules 7.22 and 7.24: the message s goes to the recipients; Data of an AS that is pending is held
unfoldable pub link_message_on : Bool → List ℕ → Link → Owner → List Bool → Reading → Effect
link_message_on pending s k o who r =
    cond (eqb r.msgtype 1 && pending) (hold_effect s r k.owner o)
    (send (to_recipients who k (r.class * 256 + r.msgtype)))

-- ---- the same on a state, which has these records

-- an AS that waits is pending, which is 4 (Rule 5.2)
unfoldable pub is_pending : Gateway → ℕ → Bool
is_pending g a = eqb (state_in (record_of g a)) 4

abbrev pub recipients_at : Gateway → ℕ → List Bool
recipients_at g l = recipients_of g.active (link_at g l) (owner_of g (owner_at g l))

unfoldable pub class_six_effect : Gateway → ℕ → Reading → Effect
class_six_effect g p r =
    let l : ℕ = link_of g r.id in
    class_six_on (is_known g r.id) p l (link_at g l) (sender_of g (owner_at g l) p) r

unfoldable pub link_up_effect : Gateway → ℕ → Effect
link_up_effect g l = link_up_on l (link_at g l) (recipients_at g l)

unfoldable pub link_down_effect : Gateway → ℕ → Effect
link_down_effect g l = link_down_on l (link_at g l) (recipients_at g l)

unfoldable pub link_message_effect : Gateway → List ℕ → Reading → Effect
link_message_effect g s r =
    let l : ℕ = link_of g r.id in
    link_message_on (is_pending g (owner_at g l)) s (link_at g l) (owner_of g (owner_at g l)) (recipients_at g l) r
