-- An action read out of a list of words.
-- Assumes nothing.
use Rattle.std.specs.Prelude.{ℕ, zero, suc, ◌+◌, ◌*◌, ◌<◌, ◌≤◌, ◌≡◌, refl, List, [], ◌∷◌, ◌++◌, length, get_or}
use Rattle.std.proofs.Common.{ap, ◌∙◌, arith}
use Rattle.rules_action.specs.declared.Action.{Action}
use Rattle.rules_action.specs.Words.{words_of, action}
use Rattle.laws.specs.Below.{count_below, one}
use Rattle.laws.specs.Inner.Below.{count_none, count_more, count_small}
use Rattle.laws.specs.Inner.Count.{count_ext}
use Rattle.rules_event.specs.Sent.{action_at, is_data}
use Rattle.rules_units.specs.Inner.Counted.{data_before}

-- the four words at a place; they do not have the unit that it sends
unfoldable pub action_in : List ℕ → ℕ → Action
action_in ws n = action (get_or ws (n * 4) 0) (get_or ws (n * 4 + 1) 0) (get_or ws (n * 4 + 2) 0) (get_or ws (n * 4 + 3) 0)

-- an action as its words have it
abbrev pub said : Action → Action
said o = action o.to o.classtype o.subject o.value

-- behind the first action stand the others
shift : (o : Action) (os : List Action) (rest : List ℕ) (i j : ℕ) → i ≡ suc (suc (suc (suc j))) → get_or (words_of (o ∷ os) ++ rest) i 0 ≡ get_or (words_of os ++ rest) j 0
unfolding words_of
shift o os rest i j e = rw e

-- of the words of some actions, whatever stands behind them
pub action_in_lem : (os : List Action) (rest : List ℕ) (n : ℕ) → n < length os → action_in (words_of os ++ rest) n ≡ said (action_at os n)
unfolding action_in words_of action_at
action_in_lem [] rest n h = absurd (omega arith)
action_in_lem (o ∷ os) rest zero h = refl
action_in_lem (o ∷ os) rest (suc n) h =
    (λ i. action (shift o os rest (suc n * 4) (n * 4) (omega arith) i) (shift o os rest (suc n * 4 + 1) (n * 4 + 1) (omega arith) i) (shift o os rest (suc n * 4 + 2) (n * 4 + 2) (omega arith) i) (shift o os rest (suc n * 4 + 3) (n * 4 + 3) (omega arith) i))
    ∙ action_in_lem os rest n (omega arith)

-- how many of the first n are Data to an ASP
unfoldable pub data_in : List ℕ → ℕ → ℕ
data_in ws n = count_below (λ m. is_data (action_in ws m)) n

pub data_none : (ws : List ℕ) → data_in ws 0 ≡ 0
unfolding data_in
data_none ws = count_none (λ m. is_data (action_in ws m))

pub data_more : (ws : List ℕ) (n : ℕ) → data_in ws (n + 1) ≡ data_in ws n + one (is_data (action_in ws n))
unfolding data_in
data_more ws n = count_more (λ m. is_data (action_in ws m)) n

pub data_small : (ws : List ℕ) (n : ℕ) → data_in ws n ≤ n
unfolding data_in
data_small ws n = count_small (λ m. is_data (action_in ws m)) n

pub data_in_lem : (os : List Action) (rest : List ℕ) (n : ℕ) → n ≤ length os → data_in (words_of os ++ rest) n ≡ data_before os n
unfolding data_in data_before is_data
data_in_lem os rest n h = count_ext _ _ n (λ m l. ap is_data (action_in_lem os rest m (omega arith)))
