-- Laws of specs/Servers.antt, and definitions that only code and proofs use.
-- Assumes nothing.
use Rattle.std.specs.Prelude.{ℕ, ◌+◌, ◌%◌, ◌<◌, ◌≤◌, ◌≡◌, refl, Bool, true, false, ◌||◌, ◌&&◌, cond, not, List, eqb}
use Rattle.std.proofs.Common.{◌∙◌, mod-lt, lt-ltb}
use Rattle.laws.specs.Below.{any_below, count_below, one}
use Rattle.laws.specs.Inner.Below.{count_none, count_more, count_small}
use Rattle.laws.specs.Columns.{is_set}
use Rattle.laws.specs.Inner.Every.{and_left}
use Rattle.laws.specs.Inner.Rank.{rank_one}
use Rattle.state_tables.specs.Sound.{pair, active_in}
use Rattle.state_lookup.specs.Servers.{before, receives}

-- Rule 5.2. The numbers are those that Notify tells: 3 active, 4 pending, 2 inactive; down is 0.
unfoldable pub state_of : List ℕ → List ℕ → List ℕ → List ℕ → ℕ → ℕ
state_of up member active waiting a =
    cond (any_below (λ q. is_set active (pair a q)) 16) 3
    (cond (is_set waiting a) 4
    (cond (any_below (λ q. is_set member (pair a q) && is_set up q) 16) 2 0))

-- ---- laws

pub before_none : (active : List ℕ) (a : ℕ) → before active a 0 ≡ 0
unfolding before
before_none active a = count_none (λ r. is_set active (pair a r))

pub before_more : (active : List ℕ) (a q : ℕ) → before active a (q + 1) ≡ before active a q + one (is_set active (pair a q))
unfolding before
before_more active a q = count_more (λ r. is_set active (pair a r)) q

pub before_small : (active : List ℕ) (a q : ℕ) → before active a q ≤ q
unfolding before
before_small active a q = count_small (λ r. is_set active (pair a r)) q

-- a recipient is an active member, whatever number is used
pub recipient_active : (active : List ℕ) (mode a x q : ℕ) → receives active mode a x q ≡ true → is_set active (pair a q) ≡ true
unfolding receives
recipient_active active mode a x q h =
    and_left (is_set active (pair a q)) (not (eqb mode 2) || eqb (before active a q) (x % active_in active a)) h

-- in load-share just one receives, if some member is active
pub share_one : (active : List ℕ) (a x : ℕ) → 0 < active_in active a → count_below (receives active 2 a x) 16 ≡ 1
unfolding receives before active_in
share_one active a x h =
    rank_one (λ q. is_set active (pair a q)) (x % active_in active a) 16 ∙ rw (lt-ltb (x % active_in active a) (active_in active a) (mod-lt x h))

-- otherwise all active members do
pub all_receive : (active : List ℕ) (mode a x q : ℕ) → eqb mode 2 ≡ false → receives active mode a x q ≡ is_set active (pair a q)
unfolding receives
all_receive active mode a x q e = rw e (go (is_set active (pair a q)))
  where
    go : (u : Bool) → (u && true) ≡ u
    go true = refl
    go false = refl
