-- The answers, by their tests.
-- Assumes nothing.
use mathlib.Core.Path.{◌≡◌, sym, ap, ◌∙◌}
use mathlib.Core.Bool.{true, false}
use Prim.Native.Nat.{ℕ, ◌<◌, ◌≤◌}
use borrow.Author.Tests.{lt-ltb, le-ltb}
use Rattle.state_tables.specs.Sound.{is_sound}
use Rattle.state_tables.specs.declared.Gateway.{Gateway}
use Rattle.state_lookup.specs.Links.{index_of, known}
use Rattle.state_lookup.specs.Inner.Servers.{state_of}
use Rattle.rules_server.specs.Inner.Record.{state_of_lem}
use Rattle.rules_event.specs.Identifiers.{is_known, link_of}
use Rattle.abi_query.specs.Query.{as_state_at, link_place, answered, unanswered}

module _ (g : Gateway) where
  pub unsound_state : (a : ℕ) → is_sound g ≡ false → unanswered 105 ≡ as_state_at g a
  unfolding as_state_at
  unsound_state a e = rw e

  pub state_there : (a v : ℕ) → is_sound g ≡ true → a < g.ases → v ≡ state_of g.up g.member g.active g.waiting a → answered v ≡ as_state_at g a
  unfolding as_state_at
  state_there a v e h q = rw (e, lt-ltb a g.ases h) (ap answered (q ∙ sym (state_of_lem g.up g.member g.active g.waiting g.mode a)))

  pub state_beyond : (a : ℕ) → is_sound g ≡ true → g.ases ≤ a → unanswered 102 ≡ as_state_at g a
  unfolding as_state_at
  state_beyond a e h = rw (e, le-ltb a g.ases h)

  pub unsound_link : (x : ℕ) → is_sound g ≡ false → unanswered 105 ≡ link_place g x
  unfolding link_place
  unsound_link x e = rw e

  pub link_there : (x l : ℕ) → is_sound g ≡ true → l ≡ index_of g.iid g.links x → l < g.links → answered l ≡ link_place g x
  unfolding link_place is_known link_of known
  link_there x l e q h = rw (e, ← q, lt-ltb l g.links h)

  pub link_unknown : (x l : ℕ) → is_sound g ≡ true → l ≡ index_of g.iid g.links x → g.links ≤ l → unanswered 102 ≡ link_place g x
  unfolding link_place is_known link_of known
  link_unknown x l e q h = rw (e, ← q, le-ltb l g.links h)
