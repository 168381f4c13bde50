-- What a host asks beside the events: a parameter of a message, the state of an AS, the place of a link, and
-- which recovery times to start and to stop.
-- Assumes nothing.
use Rattle.std.specs.Prelude.{ℕ, Option, Some, None, cond, not, ◌&&◌, List, ltb}
use Rattle.laws.specs.Below.{one}
use Rattle.laws.specs.Columns.{is_set, tabulate}
use Rattle.codec_wire.specs.Walk.{walk}
use Rattle.codec_read.specs.Meaning.{found_in}
use Rattle.codec_read.specs.declared.Found.{Found}
use Rattle.state_tables.specs.Sound.{is_sound}
use Rattle.state_tables.specs.declared.Gateway.{Gateway}
use Rattle.rules_server.specs.Record.{state_in, record_of}
use Rattle.rules_event.specs.Identifiers.{is_known, link_of}
use Rattle.abi_query.specs.declared.ParamAt.{ParamAt}
use Rattle.abi_query.specs.declared.Answer.{Answer}
use Rattle.abi_query.specs.declared.Waits.{Waits}

-- a parameter that was found, as hosts are told of it: 1, or zeros where there is none
abbrev pub told : Option Found → ParamAt
told None = record { found = 0; start = 0; length = 0 }
told (Some p) = record { found = 1; start = p.start; length = p.length }

-- the first parameter that has the tag: that there is one, and where its value lies (Rule 1.8)
unfoldable pub param_at : ℕ → List ℕ → ParamAt
param_at t s = told (found_in t t 8 (walk s 8).pars)

-- an answer, and a refused question
abbrev pub answered : ℕ → Answer
answered n = record { code = 0; value = n }

abbrev pub unanswered : ℕ → Answer
unanswered n = record { code = n; value = 0 }

-- the state of AS a (Rule 5.17)
unfoldable pub as_state_at : Gateway → ℕ → Answer
as_state_at g a = cond (not (is_sound g)) (unanswered 105) (cond (ltb a g.ases) (answered (state_in (record_of g a))) (unanswered 102))

-- the place of the link with an identifier (Rule 5.18)
unfoldable pub link_place : Gateway → ℕ → Answer
link_place g x = cond (not (is_sound g)) (unanswered 105) (cond (is_known g x) (answered (link_of g x)) (unanswered 102))

-- the ASes that wait in the one column of flags and not in the other
unfoldable pub new_in : List ℕ → List ℕ → List ℕ
new_in x y = tabulate 16 (λ a. one (is_set x a && not (is_set y a)))

-- of the columns of waiting ASes before and after an event: those that wait after and not before, and those
-- that waited before and no longer do (Rule 5.19)
unfoldable pub waits : List ℕ → List ℕ → Waits
waits before after = record { began = new_in after before; ended = new_in before after }
