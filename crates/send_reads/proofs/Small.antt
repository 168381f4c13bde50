-- A verdict is at most 22.
-- Assumes nothing.
use mathlib.Core.Path.{◌≡◌, refl}
use mathlib.Core.Bool.{Bool, true, false, cond}
use mathlib.Core.List.{List, [], ◌∷◌, ◌++◌}
use Prim.Native.Nat.{ℕ, zero, suc, ◌≤◌}
use lib.Dec.{leb}
use borrow.Author.Tests.{leb-true}
use Rattle.laws.specs.Choice.{◌or_else◌}
use Rattle.codec_wire.specs.Walk.{Par, walk, walk_f, on_step, step_at}
use Rattle.codec_wire.specs.declared.Step.{Step}
use Rattle.codec_wire.specs.declared.Step.TheVariants.{Param, End, Fault}
use Rattle.codec_parameter.specs.declared.Usage.{Usage}
use Rattle.codec_parameter.specs.declared.Usage.TheVariants.{Forbidden, Optional, Mandatory, Repeated}
use Rattle.codec_parameter.specs.declared.Limits.{Limits}
use Rattle.codec_parameter.specs.Value.{word_code, plain_code, id_code, range_code, body_code}
use Rattle.codec_parameter.specs.Check.{text_code, tag_code, allowed_code, par_code}
use Rattle.codec_read.specs.Verdict.{in_turn, sequence_code, pars_code, last_checks, verdict}

-- at most the largest number of a check
unfoldable Small : ℕ → Type 0
Small n = n ≤ 22

-- ---- of a choice, and of checks in turn

by_cond : (u : Bool) (a b : ℕ) → Small a → Small b → Small (cond u a b)
by_cond true a b h k = h
by_cond false a b h k = k

by_or : (a b : ℕ) → Small a → Small b → Small (a or_else b)
by_or zero b h k = k
by_or (suc a) b h k = h

number : (n : ℕ) → leb n 22 ≡ true → Small n
unfolding Small
number n e = leb-true n 22 e

ruleset smalls = (by_cond, by_or, number)

-- ---- one parameter

text : (u : Usage) (first : Bool) → Small (text_code u first)
unfolding text_code
text Forbidden first = number _ refl
text Optional first = number _ refl
text Mandatory first = search smalls
text Repeated first = number _ refl

tag : (u : Usage) (first again : Bool) (t : ℕ) → Small (tag_code u first again t)
tag Forbidden first again t = number _ refl
tag Optional first again t = search smalls depth 8
tag Mandatory first again t = search smalls depth 8
tag Repeated first again t = number _ refl

id : (u : Usage) (v : List ℕ) → Small (id_code u v)
unfolding id_code
id Forbidden v = search smalls
id Optional v = search smalls
id Mandatory v = search smalls
id Repeated v = search smalls

range : (v : List ℕ) → Small (range_code v)
unfolding range_code
range v = search smalls depth 8

word : (m : Limits) (t n : ℕ) → Small (word_code m t n)
unfolding word_code
word m t n = search smalls depth 8

plain : (m : Limits) (t : ℕ) (v : List ℕ) → Small (plain_code m t v)
unfolding plain_code
plain m t v = search (smalls, word) depth 8

body : (u : Usage) (t : ℕ) (v : List ℕ) → Small (body_code u t v)
unfolding body_code
body u t v = search (smalls, id, range, plain) depth 8

one : (u₁ u : Usage) (first again : Bool) (t : ℕ) (v : List ℕ) → Small (par_code u₁ u first again t v)
unfolding par_code allowed_code
one u₁ u first again t v = search (smalls, text, tag, body) depth 8

in_turn_lem : (i : ℕ) (before ps : List Par) → Small (in_turn i before ps)
unfolding in_turn
in_turn_lem i before [] = number _ refl
in_turn_lem i before (p ∷ ps) = by_or _ _ (one _ _ _ _ _ _) (in_turn_lem i (before ++ (p ∷ [])) ps)

-- ---- the whole message

on_walk : (f : ℕ) (s : List ℕ) (at : ℕ) → Small (walk_f f s at).code
unfolding walk_f
on_walk zero s at = number _ refl
on_walk (suc f) s at = on (step_at s at) (on_walk f s)
  where
    on : (w : Step) → ((n : ℕ) → Small (walk_f f s n).code) → Small (on_step s at w (walk_f f s)).code
    on (Param t l n) h = h n
    on End h = number _ refl
    on Fault h = number _ refl

walked : (s : List ℕ) (at : ℕ) → Small (walk s at).code
unfolding walk
walked s at = on_walk _ s at

sequence : (c t : ℕ) (ps : List Par) → Small (sequence_code c t ps)
unfolding sequence_code
sequence c t ps = search smalls depth 12

pars : (c t : ℕ) (ps : List Par) → Small (pars_code c t ps)
unfolding pars_code
pars c t ps = search (smalls, in_turn_lem, sequence) depth 8

all : (s : List ℕ) → Small (verdict s)
unfolding verdict last_checks
all s = search (smalls, walked, pars) depth 16

pub verdict_small : (s : List ℕ) → verdict s ≤ 22
unfolding Small
verdict_small s = all s
