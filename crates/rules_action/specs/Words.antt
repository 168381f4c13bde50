-- An action, its four words (Rule 8.1), and one action to each of several ASPs.
-- Assumes nothing.
use Rattle.std.specs.Prelude.{ℕ, Bool, List, [], ◌∷◌}
use Rattle.laws.specs.Below.{when, concat_below}
use Rattle.laws.specs.Columns.{flag_at}
use Rattle.rules_action.specs.declared.Action.{Action}

-- the four words of each action (Rule 8.1)
unfoldable pub words_of : List Action → List ℕ
words_of [] = []
words_of (o ∷ os) = o.to ∷ o.classtype ∷ o.subject ∷ o.value ∷ words_of os

-- the addressee that is the link side
abbrev pub link_side : ℕ
link_side = 255

-- one that sends no unit held
abbrev pub action : ℕ → ℕ → ℕ → ℕ → Action
action to classtype subject value = record { to = to; classtype = classtype; subject = subject; value = value; unit = 0 }

-- what goes to ASP q where its flag is set
unfoldable pub to_each : List Bool → ℕ → ℕ → ℕ → ℕ → List Action
to_each who classtype subject value q = when (flag_at who q) (action q classtype subject value)

-- the same action to each ASP whose flag is set, ascending
unfoldable pub to_all : List Bool → ℕ → ℕ → ℕ → List Action
to_all who classtype subject value = concat_below (to_each who classtype subject value) 16
