-- What a message of an ASP reaches (Rule 9.2), by what it asks.
-- Assumes nothing.
use Rattle.std.specs.Prelude.{ℕ, ◌≡◌, Bool, ◌||◌, List, eqb}
use Rattle.std.proofs.Math.Path.{refl}
use Rattle.std.proofs.Common.{◌∙◌, arith}
use Rattle.std.proofs.Math.Bool.{true, false, cond, not}
use borrow.Author.Tests.{eq-eqb, ne_eqb}
use Rattle.codec_wire.specs.Walk.{walk}
use Rattle.codec_read.specs.Meaning.{reading_of}
use Rattle.codec_read.specs.declared.Reading.{Reading}
use Rattle.state_tables.specs.declared.Gateway.{Gateway}
use Rattle.rules_action.specs.Types.{asp_up, asp_down, asp_active, asp_inactive}
use Rattle.rules_event.specs.Identifiers.{owns_good, is_member}
use Rattle.rules_event.specs.Rules.{is_error, class_type_of}
use Rattle.rules_event.specs.Reach.{owns_id, read_reach, message_reach}
use Rattle.event_others.specs.Inner.Other.{type_in, typed}
use Rattle.event_links.specs.Inner.Side.{code_is}

-- Active and Inactive: with identifiers the owners of the good ones, without any the ASes of p
unfoldable pub named_reach : Gateway → ℕ → List ℕ → ℕ → ℕ → Bool
named_reach g p s ids a = cond (eqb ids 1) (owns_good g p (walk s 8).pars a) (is_member g a p)

-- neither Up, Down, Active nor Inactive: class 6 reaches the owner of its identifier; wrong says that it is
-- an Error
unfoldable pub other_reach : Gateway → Bool → Reading → ℕ → Bool
other_reach g wrong r a = cond wrong false (cond (eqb r.code 0) (cond (eqb r.class 6) (owns_id g r.id a) false) false)

module _ (g : Gateway) (p : ℕ) (s : List ℕ) (a : ℕ) where
  -- a message with a type is read
  reach_read : (t : ℕ) → type_in (is_error s) (reading_of s) ≡ t → (0 ≡ t → ⊥) → message_reach g p s a ≡ read_reach g p s (reading_of s) a
  unfolding message_reach
  reach_read t e n = let y = typed (is_error s) (reading_of s) t e n in rw (y.right, ← code_is s, eq-eqb (reading_of s).code 0 y.code)

  pub reach_up : type_in (is_error s) (reading_of s) ≡ asp_up → message_reach g p s a ≡ is_member g a p
  unfolding read_reach
  reach_up e = reach_read asp_up e (λ z. omega arith) ∙ rw (typed _ _ asp_up e (λ z. omega arith)).type

  pub reach_down : type_in (is_error s) (reading_of s) ≡ asp_down → message_reach g p s a ≡ is_member g a p
  unfolding read_reach
  reach_down e = reach_read asp_down e (λ z. omega arith) ∙ rw (typed _ _ asp_down e (λ z. omega arith)).type

  -- Active, Inactive
  pub reach_active : type_in (is_error s) (reading_of s) ≡ asp_active → message_reach g p s a ≡ named_reach g p s (reading_of s).ids a
  unfolding read_reach named_reach
  reach_active e = reach_read asp_active e (λ z. omega arith) ∙ rw (typed _ _ asp_active e (λ z. omega arith)).type

  pub reach_inactive : type_in (is_error s) (reading_of s) ≡ asp_inactive → message_reach g p s a ≡ named_reach g p s (reading_of s).ids a
  unfolding read_reach named_reach
  reach_inactive e = reach_read asp_inactive e (λ z. omega arith) ∙ rw (typed _ _ asp_inactive e (λ z. omega arith)).type

  pub reach_other : (type_in (is_error s) (reading_of s) ≡ asp_up → ⊥) → (type_in (is_error s) (reading_of s) ≡ asp_down → ⊥) → (type_in (is_error s) (reading_of s) ≡ asp_active → ⊥) → (type_in (is_error s) (reading_of s) ≡ asp_inactive → ⊥) → message_reach g p s a ≡ other_reach g (is_error s) (reading_of s) a
  unfolding message_reach read_reach other_reach type_in
  reach_other = rw (← code_is s) (go (is_error s) (eqb (reading_of s).code 0))
    where
      go : (u v : Bool) → (cond u 0 (cond v (class_type_of (reading_of s)) 0) ≡ asp_up → ⊥) → (cond u 0 (cond v (class_type_of (reading_of s)) 0) ≡ asp_down → ⊥) → (cond u 0 (cond v (class_type_of (reading_of s)) 0) ≡ asp_active → ⊥) → (cond u 0 (cond v (class_type_of (reading_of s)) 0) ≡ asp_inactive → ⊥)
          → cond (u || not v) false (read_reach g p s (reading_of s) a)
          ≡ cond u false (cond v (cond (eqb (reading_of s).class 6) (owns_id g (reading_of s).id a) false) false)
      go true v x y z w = refl
      go false true x y z w = rw (ne_eqb (class_type_of (reading_of s)) asp_up x, ne_eqb (class_type_of (reading_of s)) asp_down y, ne_eqb (class_type_of (reading_of s)) asp_active z, ne_eqb (class_type_of (reading_of s)) asp_inactive w)
      go false false x y z w = refl
