-- The recipients of a link.
-- Assumes nothing.
use Rattle.std.specs.Prelude.{ℕ, ◌≡◌, refl, Bool, true, false, ◌&&◌, List}
use Rattle.std.proofs.Common.{ne_eqb}
use Rattle.laws.specs.Columns.{is_set, tabulate}
use Rattle.laws.specs.Inner.Columns.{tabulate_ext}
use Rattle.state_tables.specs.Sound.{pair}
use Rattle.rules_server.specs.Record.{row}
use Rattle.state_lookup.specs.Servers.{receives}

and_true : (u : Bool) → u ≡ (u && true)
and_true true = refl
and_true false = refl

-- but in load-share, all active members are
pub all_receive : (active : List ℕ) (mode a x : ℕ) → (mode ≡ 2 → ⊥) → row active a ≡ tabulate 16 (receives active mode a x)
unfolding row receives
all_receive active mode a x ne =
    tabulate_ext false 16 (λ q. is_set active (pair a q)) (receives active mode a x)
    (λ q b. rw (ne_eqb mode 2 ne) (and_true (is_set active (pair a q))))
