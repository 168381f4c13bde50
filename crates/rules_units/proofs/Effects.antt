-- The effect of every event but those of the link side: its own actions hold no Data to an ASP, and who
-- becomes active is an ASP.
-- Assumes nothing.
use mathlib.Core.Path.{◌≡◌}
use mathlib.Core.Bool.{Bool, true, false}
use mathlib.Core.List.{List}
use Prim.Native.Nat.{ℕ}
use lib.Dec.{eqb}
use Rattle.laws.specs.Columns.{flag_at}
use Rattle.state_tables.specs.declared.Gateway.{Gateway}
use Rattle.rules_action.specs.Types.{user_data}
use Rattle.rules_action.specs.Words.{action, to_each, to_all}
use Rattle.rules_server.specs.Inner.Change.{fits}
use Rattle.rules_event.specs.Effect.{Effect, send, set_link, change_in, take_in}
use Rattle.rules_event.specs.Sent.{is_data}
use Rattle.rules_event.specs.Inner.Shapes.{Shapes}
use Rattle.rules_units.proofs.Tags.{done, other, untagged_below}
use Rattle.rules_units.proofs.Units.{Quiet, quiet_when}

unfoldable pub Own : Gateway → Effect → Type 0
Own g (send os) = Quiet g os
Own g (set_link l v os) = Quiet g os
Own g (change_in os k named) = Quiet g os × (fits k ≡ true)
Own g (take_in a x) = Unit {0}

module _ (g : Gateway) where
  quiet_all : (who : List Bool) (k s v : ℕ) → eqb k user_data ≡ false → Quiet g (to_all who k s v)
  unfolding to_all to_each is_data
  quiet_all who k s v e = untagged_below (to_each who k s v) 16 (λ q b. quiet_when g (flag_at who q) (action q k s v) (rw e))

  pub own : Shapes (Own g)
  unfolding Own
  own =
      record {
        say_none = done;
        say_one = λ x e. other e done;
        say_two = λ x y u e d. other e (quiet_when g u y d);
        turn_one = λ l n x e. other e done;
        turn_all = λ l n who k s v e. quiet_all who k s v e;
        change_one = λ x k named e f o. (other e done, f);
        change_two = λ x y u k named e d f o. (other e (quiet_when g u y d), f);
      }
