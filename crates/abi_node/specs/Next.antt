-- What a method hands back, as an outcome of the rules; and the message of a method that is lent parameters.
-- Assumes nothing.
use Rattle.std.specs.Prelude.{ℕ, ◌+◌, List, ◌++◌, length}
use Rattle.codec_put.specs.Bytes.{head_bytes}
use Rattle.rules_event.specs.declared.Outcome.{Outcome}
use Rattle.abi_node.specs.declared.Next.{Next}

abbrev pub outcome_of : Next → Outcome
outcome_of r = record { refusal = r.refusal; count = r.count; gateway = r.node.gateway }

-- the message of a class and type with the bytes of its parameters behind the header (Rule 1.2)
abbrev pub headed : ℕ → ℕ → List ℕ → List ℕ
headed class msgtype pars = head_bytes class msgtype (8 + length pars) ++ pars
