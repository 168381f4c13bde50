-- The messages by which an ASP comes up, goes down, and takes traffic (Rules 7.4 to 7.10).
-- Assumes nothing.
use Rattle.std.specs.Prelude.{ℕ, Bool, cond, not, ◌&&◌, ◌||◌, List, [], ◌++◌, eqb}
use Rattle.laws.specs.Below.{any_below}
use Rattle.laws.specs.Columns.{flag_at, number_at}
use Rattle.codec_wire.specs.Walk.{Par}
use Rattle.codec_read.specs.declared.Reading.{Reading}
use Rattle.state_tables.specs.declared.Gateway.{Gateway}
use Rattle.rules_action.specs.declared.Action.{Action}
use Rattle.rules_action.specs.Types.{asp_up_ack, asp_down_ack, asp_active_ack, asp_inactive_ack}
use Rattle.rules_server.specs.declared.Change.TheVariants.{AspUp, AspDown, Deactivate, Activate}
use Rattle.rules_server.specs.Record.{some}
use Rattle.rules_servers.specs.Changed.{column_of}
use Rattle.rules_event.specs.Identifiers.{first_refused, owners_good}
use Rattle.rules_event.specs.Records.{asp_at}
use Rattle.rules_event.specs.Effect.{Effect, send, change_in, one_action, error, error2}

-- the ASes of p, and those in which it is active
abbrev pub ases_of : Gateway → ℕ → List Bool
ases_of g p = column_of g.member p

abbrev pub active_ases : Gateway → ℕ → List Bool
active_ases g p = column_of g.active p

-- Rule 7.4: an identifier of its own that is not the plan's is refused; an ASP that was active somewhere is
-- told so by a second reply
unfoldable pub up_effect : Gateway → ℕ → Reading → Effect
up_effect g p r =
    cond (eqb r.identified 1 && not (eqb r.aspid (asp_at g p).id)) (send (error p 15))
    (change_in (one_action p asp_up_ack 0 0 ++ cond (some (active_ases g p)) (error p 6) []) (AspUp p) (ases_of g p))

-- Rules 7.5 and 7.6: the loss of the association is a Down without an Ack
unfoldable pub down_effect : Gateway → ℕ → Effect
down_effect g p = change_in (one_action p asp_down_ack 0 0) (AspDown p) (ases_of g p)

unfoldable pub lost_effect : Gateway → ℕ → Effect
lost_effect g p = change_in [] (AspDown p) (ases_of g p)

-- whether a named AS has another traffic mode than the one given; mode 0 stands for none given (Rule 7.9)
unfoldable pub other_mode : Gateway → ℕ → List Bool → Bool
other_mode g mode named = not (eqb mode 0) && any_below (λ a. flag_at named a && not (eqb (number_at g.mode a) mode)) 16

-- Rules 7.9 and 7.10: an Ack, then what is told beside it, and p is active, or no longer active, in the ASes
-- named
unfoldable pub active_effect : Gateway → ℕ → ℕ → List Action → List Bool → Effect
active_effect g p mode told named =
    cond (other_mode g mode named) (send (error p 5)) (change_in (one_action p asp_active_ack 0 0 ++ told) (Activate p) named)

unfoldable pub inactive_effect : ℕ → List Action → List Bool → Effect
inactive_effect p told named = change_in (one_action p asp_inactive_ack 0 0 ++ told) (Deactivate p) named

-- Rule 7.27, of a list of which an identifier is refused: Error 2 says the first such one. It stands alone
-- where p's lists are taken whole, and where none is good; else it is told beside what is done in the owners
-- of the good ones.
unfoldable pub part_effect : Gateway → ℕ → ℕ → List Bool → (List Action → List Bool → Effect) → Effect
part_effect g p first good act = cond (eqb (asp_at g p).wholelists 1 || not (some good)) (send (error2 p first)) (act (error2 p first) good)

-- Rule 7.8: the ASes that the message names, by identifiers or, without any, all of p's; what is done with
-- them is given.
unfoldable pub traffic_effect : Gateway → ℕ → Reading → List Par → (List Action → List Bool → Effect) → Effect
traffic_effect g p r ps act =
    cond (not (eqb (asp_at g p).up 1)) (send (error p 6))
    (cond (eqb r.ids 1)
    (cond (first_refused g p ps).found (part_effect g p (first_refused g p ps).id (owners_good g p ps) act) (act [] (owners_good g p ps)))
    (cond (some (ases_of g p)) (act [] (ases_of g p)) (send (error p 6))))
