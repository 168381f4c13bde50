-- The code's enum `Decision` as the rules' Effect.
-- Assumes nothing.
use Rattle.std.specs.Prelude.{List, [], ◌∷◌}
use Rattle.rules_action.specs.declared.Action.{Action}
use Rattle.rules_action.specs.Words.{to_all}
use Rattle.rules_event.specs.declared.Decision.{Decision}
use Rattle.rules_event.specs.declared.Decision.TheVariants.{Send, Turn, Spread, TurnSpread, ChangeIn, TakeIn}
use Rattle.rules_event.specs.declared.Replies.{Replies}
use Rattle.rules_event.specs.declared.Replies.TheVariants.{Nothing, One, Two}
use Rattle.rules_event.specs.Effect.{Effect, send, set_link, change_in, take_in}

-- the actions that come first
abbrev pub replies_in : Replies → List Action
replies_in Nothing = []
replies_in (One a) = a ∷ []
replies_in (Two a b) = a ∷ b ∷ []

abbrev pub effect_in : Decision → Effect
effect_in (Send os) = send (replies_in os)
effect_in (Turn l v a) = set_link l v (a ∷ [])
effect_in (Spread t) = send (to_all t.who t.classtype t.subject 0)
effect_in (TurnSpread l v t) = set_link l v (to_all t.who t.classtype t.subject 0)
effect_in (ChangeIn os k who) = change_in (replies_in os) k who
effect_in (TakeIn a x) = take_in a x
