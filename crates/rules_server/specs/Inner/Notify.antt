-- Laws of specs/Notify.antt, and definitions that only code and proofs use.
-- Assumes nothing.
use Rattle.std.specs.Prelude.{ℕ, ◌≤◌, ◌<◌, ◌≡◌, refl, Bool, true, false, ◌&&◌, cond, not, List, [], eqb, length}
use Rattle.std.proofs.Common.{◌∙◌, sym, arith, length-append, eq-eqb, ne_eqb, ltb-true}
use Rattle.laws.specs.Below.{concat_below}
use Rattle.laws.specs.Inner.Below.{any_not, concat_ext, concat_empty, when_nil}
use Rattle.laws.specs.Columns.{flag_at}
use Rattle.rules_action.specs.Types.{mgmt_notify, as_state, other_active}
use Rattle.rules_action.specs.Words.{to_each, to_all}
use Rattle.rules_action.specs.Inner.Words.{to_all_short}
use Rattle.rules_action.specs.declared.Action.{Action}
use Rattle.rules_server.specs.Record.{some, state_in}
use Rattle.rules_server.specs.Change.{after, overtaken, overtaken_in, record_with, nobody}
use Rattle.rules_server.specs.Inner.Change.{fits, nobody_none, some_at, some_some, overtaken_was, some_turned}
use Rattle.rules_server.specs.declared.AsRecord.{AsRecord}
use Rattle.rules_server.specs.declared.Change.{Change}
use Rattle.rules_server.specs.declared.Change.TheVariants.{AspUp, AspDown, Deactivate, Activate, Recover}
use Rattle.rules_server.specs.Inner.Units.{let_out_short}
use Rattle.rules_server.specs.Notify.{notify, is_notified, notifies_to, notifies, actions_in}

-- ---- what the code writes: one kind of Notify or the other, for both never go out in one AS

unfoldable pub announced : AsRecord → AsRecord → ℕ → List Action
announced s t a =
    cond (eqb (state_in t) 0) [] (cond (eqb (state_in s) (state_in t)) [] (to_all t.ups mgmt_notify a (as_state (state_in t))))

unfoldable pub spoken : List Bool → AsRecord → AsRecord → ℕ → List Action
spoken lost s t a = cond (some lost) (to_all lost mgmt_notify a other_active) (announced s t a)

announced_told : (s t : AsRecord) (a : ℕ) → announced s t a ≡ cond (is_notified s t) (to_all t.ups mgmt_notify a (as_state (state_in t))) []
unfolding announced is_notified
announced_told s t a = go (eqb (state_in t) 0) (eqb (state_in s) (state_in t))
  where
    go : (u v : Bool) → cond u [] (cond v [] (to_all t.ups mgmt_notify a (as_state (state_in t)))) ≡ cond (not u && not v) (to_all t.ups mgmt_notify a (as_state (state_in t))) []
    go true v = refl
    go false true = refl
    go false false = refl

-- where nobody is overtaken the new state is told, if any
notifies_new : (lost : List Bool) (s t : AsRecord) (a : ℕ) → some lost ≡ false → notifies lost s t a ≡ announced s t a
unfolding notifies some notifies_to to_all to_each
notifies_new lost s t a h = go (is_notified s t) refl ∙ sym (announced_told s t a)
  where
    none : (q : ℕ) → q < 16 → flag_at lost q ≡ false
    none = any_not (flag_at lost) 16 h

    go : (u : Bool) → is_notified s t ≡ u → concat_below (notifies_to lost s t a) 16 ≡ cond u (to_all t.ups mgmt_notify a (as_state (state_in t))) []
    go true e = concat_ext _ _ 16 (λ q b. rw (none q b, e))
    go false e = concat_ext _ (λ (q : ℕ). []) 16 (λ q b. rw (none q b, e)) ∙ concat_empty 16

-- where the state is not told those overtaken are
notifies_lost : (lost : List Bool) (s t : AsRecord) (a : ℕ) → is_notified s t ≡ false → notifies lost s t a ≡ to_all lost mgmt_notify a other_active
unfolding notifies notifies_to to_all to_each
notifies_lost lost s t a e = concat_ext _ _ 16 (λ q b. rw e (when_nil (flag_at lost q) (notify a other_active q)))

state_active : (s : AsRecord) → some s.acts ≡ true → state_in s ≡ 3
unfolding state_in
state_active s h = rw h

-- overtaking, the AS was active, and stays so
told_on : (p : ℕ) (s : AsRecord) → p < 16 → some (overtaken s.acts s.mode p) ≡ true → is_notified s (after (Activate p) s) ≡ false
unfolding is_notified record_with
told_on p s b h =
    let x = some_some (overtaken s.acts s.mode p) h in
    let old : state_in s ≡ 3 = state_active s (some_at s.acts x.0 x.1 (overtaken_was s.acts s.mode p x.0 x.1 x.2)) in
    let new : state_in (after (Activate p) s) ≡ 3 = state_active (after (Activate p) s) (some_turned s.acts s.mode p b) in
    rw (old, new)

pub spoken_is : (k : Change) (s : AsRecord) (a : ℕ) → fits k ≡ true → spoken (overtaken_in k s) s (after k s) a ≡ notifies (overtaken_in k s) s (after k s) a
unfolding spoken
spoken_is (AspUp p) s a h = rw nobody_none (sym (notifies_new nobody s (after (AspUp p) s) a nobody_none))
spoken_is (AspDown p) s a h = rw nobody_none (sym (notifies_new nobody s (after (AspDown p) s) a nobody_none))
spoken_is (Deactivate p) s a h = rw nobody_none (sym (notifies_new nobody s (after (Deactivate p) s) a nobody_none))
spoken_is (Activate p) s a h = go (some (overtaken s.acts s.mode p)) refl
  where
    go : (u : Bool) → some (overtaken s.acts s.mode p) ≡ u
        → cond u (to_all (overtaken s.acts s.mode p) mgmt_notify a other_active) (announced s (after (Activate p) s) a) ≡ notifies (overtaken s.acts s.mode p) s (after (Activate p) s) a
    go true e = sym (notifies_lost (overtaken s.acts s.mode p) s (after (Activate p) s) a (told_on p s (ltb-true p 16 h) e))
    go false e = sym (notifies_new (overtaken s.acts s.mode p) s (after (Activate p) s) a e)
spoken_is Recover s a h = rw nobody_none (sym (notifies_new nobody s (after Recover s) a nobody_none))

-- ---- at most 24 actions in an AS

spoken_short : (lost : List Bool) (s t : AsRecord) (a : ℕ) → length (spoken lost s t a) ≤ 16
unfolding spoken announced
spoken_short lost s t a = go (some lost) (eqb (state_in t) 0) (eqb (state_in s) (state_in t))
  where
    go : (w u v : Bool) → length (cond w (to_all lost mgmt_notify a other_active) (cond u [] (cond v [] (to_all t.ups mgmt_notify a (as_state (state_in t)))))) ≤ 16
    go true u v = to_all_short lost mgmt_notify a other_active
    go false true v = omega arith
    go false false true = omega arith
    go false false false = to_all_short t.ups mgmt_notify a (as_state (state_in t))

pub actions_in_short : (named : Bool) (k : Change) (a : ℕ) (s : AsRecord) (n : ℕ) (id : List ℕ) → fits k ≡ true → length (actions_in named k a s n id) ≤ 24
unfolding actions_in
actions_in_short true k a s n id h = rw (← spoken_is k s a h) (rw length-append (omega (arith, let_out_short k n id a, spoken_short (overtaken_in k s) s (after k s) a)))
actions_in_short false k a s n id h = omega arith

-- ---- the three ways of `announced`

pub announced_down : (s t : AsRecord) (a : ℕ) → state_in t ≡ 0 → announced s t a ≡ []
unfolding announced
announced_down s t a h = rw (eq-eqb _ _ h)

pub announced_same : (s t : AsRecord) (a : ℕ) → (state_in t ≡ 0 → ⊥) → state_in s ≡ state_in t → announced s t a ≡ []
unfolding announced
announced_same s t a g h = rw (ne_eqb _ _ g, eq-eqb _ _ h)

pub announced_new : (s t : AsRecord) (a : ℕ) → (state_in t ≡ 0 → ⊥) → (state_in s ≡ state_in t → ⊥) → announced s t a ≡ to_all t.ups mgmt_notify a (as_state (state_in t))
unfolding announced
announced_new s t a g h = rw (ne_eqb _ _ g, ne_eqb _ _ h)
