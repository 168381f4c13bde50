-- What a change does to the record of an AS, and whom it overtakes there. p is the ASP whose event it is.
-- Assumes nothing.
use Rattle.std.specs.Prelude.{ℕ, Bool, false, ◌||◌, ◌&&◌, not, List, eqb}
use Rattle.laws.specs.Columns.{flag_at, tabulate}
use Rattle.rules_server.specs.Record.{some}
use Rattle.rules_server.specs.declared.AsRecord.{AsRecord}
use Rattle.rules_server.specs.declared.Change.{Change}
use Rattle.rules_server.specs.declared.Change.TheVariants.{AspUp, AspDown, Deactivate, Activate, Recover}

-- x without p, and with p
unfoldable pub without : List Bool → ℕ → List Bool
without x p = tabulate 16 (λ q. flag_at x q && not (eqb q p))

unfoldable pub joined : List Bool → ℕ → List Bool
joined x p = tabulate 16 (λ q. flag_at x q || eqb q p)

-- those active once p is: in override, which is mode 1, p alone (Rule 7.11)
unfoldable pub activated : List Bool → ℕ → ℕ → List Bool
activated x mode p = tabulate 16 (λ q. (flag_at x q && not (eqb mode 1)) || eqb q p)

-- those whom p overtakes there
unfoldable pub overtaken : List Bool → ℕ → ℕ → List Bool
overtaken x mode p = tabulate 16 (λ q. (flag_at x q && eqb mode 1) && not (eqb q p))

unfoldable pub nobody : List Bool
nobody = tabulate 16 (λ q. false)

-- it waits from when its last active member is active no more, until one becomes active (Rule 7.12)
unfoldable pub record_with : AsRecord → List Bool → List Bool → AsRecord
record_with s ups acts =
    record {
      ups = ups;
      acts = acts;
      waiting = not (some acts) && (some s.acts || s.waiting);
      mode = s.mode;
    }

-- p comes up, active nowhere (Rule 7.4); p goes down (Rules 7.5, 7.6); p becomes inactive (Rule 7.10), or
-- active (Rule 7.9); the recovery time is over, and the AS waits no longer (Rule 7.13)
abbrev pub after : Change → AsRecord → AsRecord
after (AspUp p) s = record_with s (joined s.ups p) (without s.acts p)
after (AspDown p) s = record_with s (without s.ups p) (without s.acts p)
after (Deactivate p) s = record_with s s.ups (without s.acts p)
after (Activate p) s = record_with s s.ups (activated s.acts s.mode p)
after Recover s = record { ups = s.ups; acts = s.acts; waiting = false; mode = s.mode }

-- the members that the change overtakes
abbrev pub overtaken_in : Change → AsRecord → List Bool
overtaken_in (AspUp p) s = nobody
overtaken_in (AspDown p) s = nobody
overtaken_in (Deactivate p) s = nobody
overtaken_in (Activate p) s = overtaken s.acts s.mode p
overtaken_in Recover s = nobody
