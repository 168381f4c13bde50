-- A turn of a loop over parameters, for the reader's walk and for the writer's list: from the parameters
-- passed to one more, to a refusal, and to the end.
-- Assumes nothing.
use mathlib.Core.Path.{◌≡◌, refl, sym, ap, ◌∙◌}
use mathlib.Core.Bool.{Bool, false}
use mathlib.Core.List.{List, [], ◌∷◌, ◌++◌, append_assoc, append-nil}
use Prim.Native.Nat.{ℕ, zero, suc, ◌+◌, ◌-◌, ◌<◌}
use native.Mathlib.Omega.{arith}
use lib.ListN.{length, get_or, take, drop, length-set}
use borrow.Author.Tests.{ne_eqb}
use Rattle.codec_wire.specs.Walk.{Par, Walk, walk, step_at, step_code}
use Rattle.codec_wire.specs.declared.Step.{Step}
use Rattle.codec_wire.specs.declared.Step.TheVariants.{Param}
use Rattle.codec_wire.proofs.Steps.{walk_step, walk_stop, pars_next, pars_stop}
use Rattle.codec_parameter.specs.Table.{table, row_in, usage}
use Rattle.codec_parameter.specs.declared.Usage.{Usage}
use Rattle.codec_parameter.specs.Inner.Slot.{slot, info_of, packed_use}
use Rattle.codec_parameter.specs.declared.RowInfo.{RowInfo}
use Rattle.codec_parameter.specs.Check.{par_code}
use Rattle.laws.specs.Choice.{◌or_else◌}
use Rattle.laws.specs.Inner.Choice.{or_not}
use Rattle.codec_read.specs.Verdict.{has, is_none, in_turn, pars_code, last_checks, check8}
use Rattle.codec_read.specs.Meaning.{meaning, unreadable, outcome}
use Rattle.codec_read.specs.Inner.Seen.{there, Tells, none, after, end_at, meaning_at, outcome_at}
use Rattle.codec_read.specs.declared.Seen.{Seen}
use Rattle.codec_parameter.proofs.Slots.{slot_most}
use Rattle.codec_read.proofs.Told.{check_slot, packed_uses, seen_none, seen_more, end_same, meaning_same}

is_none_last : (ps : List Par) (p : Par) → is_none (ps ++ (p ∷ [])) ≡ false
unfolding is_none
is_none_last [] p = refl
is_none_last (q ∷ ps) p = refl

-- What is known at the loop's head, in a message whose row is i and whose parameters are all: ps are those
-- left, z says what those passed are, and the rest decides as the whole.
pub record Head (i : ℕ) (all : List Par) (z : Seen) (ps : List Par) : Type 0 where
  pub passed : List Par
  pub seen : Tells z.met z.words passed
  pub sized : (length z.met ≡ 32) × (length z.words ≡ 32)
  pub first_is : z.first ≡ is_none passed
  pub rest : in_turn i passed ps ≡ in_turn i [] all
  pub split : passed ++ ps ≡ all

-- before the first parameter
pub head_none : (i : ℕ) (all : List Par) → Head i all none all
unfolding is_none
head_none i all = record { passed = []; seen = seen_none; sized = (refl, refl); first_is = refl; rest = refl; split = refl }

module _ {i : ℕ} {all : List Par} {z : Seen} {ps : List Par} (h : Head i all z ps) (hi : i < 17) {info : RowInfo} (ei : info ≡ info_of i) where
  -- a parameter of the tag t and the value v is next; r is what its check gave
  module _ (t r : ℕ) (v : List ℕ) (qs : List Par) (e : ps ≡ record { tag = t; body = v } ∷ qs)
      (er : r ≡ par_code (packed_use info.uses 1) (packed_use info.uses (slot t)) z.first (get_or z.met (slot t) false) t v) where
    abbrev p : Par
    p = record { tag = t; body = v }

    abbrev again : Bool
    again = get_or z.met (slot t) false

    -- by the packed row
    packed_is : r ≡ par_code (usage i 0x1) (usage i t) z.first again t v
    packed_is =
        let u = packed_uses i t (slot t) hi refl (slot_most t) in
        er ∙ ap (λ (x : RowInfo). par_code (packed_use x.uses 1) (packed_use x.uses (slot t)) z.first again t v) ei
        ∙ ap (λ (x : Usage). par_code x (packed_use (info_of i).uses (slot t)) z.first again t v) u.0
        ∙ ap (λ (x : Usage). par_code (usage i 0x1) x z.first again t v) u.1

    -- by what was passed
    check_is : r ≡ par_code (usage i 0x1) (usage i t) (is_none h.passed) (has t h.passed) t v
    check_is =
        packed_is ∙ ap (λ (b : Bool). par_code (usage i 0x1) (usage i t) z.first b t v) (h.seen.met_is (slot t) (slot_most t))
        ∙ ap (λ (b : Bool). par_code (usage i 0x1) (usage i t) b (there (slot t) h.passed) t v) h.first_is
        ∙ sym (check_slot i t (is_none h.passed) h.passed v)

    decides : r or_else in_turn i (h.passed ++ (p ∷ [])) qs ≡ in_turn i [] all
    unfolding in_turn
    decides = ap (λ (x : ℕ). x or_else in_turn i (h.passed ++ (p ∷ [])) qs) check_is ∙ ap (in_turn i h.passed) (sym e) ∙ h.rest

    -- it is refused: that decides, whatever check 8 would say
    pub turn_refused : (r ≡ 0 → ⊥) → (w : ℕ) → r ≡ in_turn i [] all or_else w
    turn_refused ne w =
        let d : r ≡ in_turn i [] all = sym (or_not r _ ne) ∙ decides in
        d ∙ sym (or_not (in_turn i [] all) w (λ q. ne (d ∙ q)))

    -- it passes
    pub turn_passes : r ≡ 0 → (y : Seen) → y ≡ after z t v → Head i all y qs
    turn_passes o y ey =
        rw ey
        (record {
          passed = h.passed ++ (p ∷ []);
          seen = seen_more p (slot t) refl (rw h.sized.0 (slot_most t)) (rw h.sized.1 (slot_most t)) (slot_most t) h.seen;
          sized = (simp length-set h.sized.0, simp length-set h.sized.1);
          first_is = sym (is_none_last h.passed p);
          rest = ap (λ (x : ℕ). x or_else in_turn i (h.passed ++ (p ∷ [])) qs) (sym o) ∙ decides;
          split = append_assoc h.passed (p ∷ []) qs ∙ ap (λ (x : List Par). h.passed ++ x) (sym e) ∙ h.split;
        })

  -- none is left: check 8 decides, and the tables hold the meaning
  module _ (none_left : ps ≡ []) where
    all_passed : h.passed ≡ all
    all_passed = sym (append-nil h.passed) ∙ ap (λ (x : List Par). h.passed ++ x) (sym none_left) ∙ h.split

    pub turn_ends : (c t : ℕ) → end_at info.musts c t z.met z.words ≡ in_turn i [] all or_else check8 i c t all
    unfolding in_turn
    turn_ends c t =
        let seven : 0 ≡ in_turn i [] all = ap (in_turn i h.passed) (sym none_left) ∙ h.rest in
        ap (λ (x : RowInfo). end_at x.musts c t z.met z.words) ei ∙ end_same h.seen i c t hi ∙ ap (check8 i c t) all_passed ∙ ap (λ (x : ℕ). x or_else check8 i c t all) seven

    pub turn_means : (c t : ℕ) → meaning_at c t z.met z.words ≡ meaning c t all
    turn_means c t = meaning_same h.seen c t ∙ ap (meaning c t) all_passed

refuses : (n : ℕ) (s : List ℕ) → (n ≡ 0 → ⊥) → outcome n s ≡ unreadable n
unfolding outcome
refuses n s ne = rw (ne_eqb n 0 ne)

or_zero : (a b : ℕ) → (b ≡ 0 → ⊥) → (a or_else b) ≡ 0 → ⊥
or_zero zero b ne e = ne e
or_zero (suc a) b ne e = omega arith

-- the row of a message
abbrev pub row_of : List ℕ → ℕ
row_of s = row_in table (get_or s 2 0) (get_or s 3 0)

-- The reader's loop, at a position of the message s: the parameters left are those that the walk finds from
-- there on.
pub record Walked (s : List ℕ) (z : Seen) (at : ℕ) : Type 0 where
  pub here : Head (row_of s) (walk s 8).pars z (walk s at).pars
  pub same_code : (walk s at).code ≡ (walk s 8).code

module _ {s : List ℕ} {z : Seen} {at : ℕ} (h : Walked s z at) (hi : row_of s < 17) {info : RowInfo} (ei : info ≡ info_of (row_of s)) where
  -- a parameter is next, of the tag t: r is what its check gave
  module _ (t l n r : ℕ) (w : step_at s at ≡ Param t l n)
      (er : r ≡ par_code (packed_use info.uses 1) (packed_use info.uses (slot t)) z.first (get_or z.met (slot t) false) t (take (at + l - (at + 4)) (drop (at + 4) s))) where
    abbrev v : List ℕ
    v = take (at + l - (at + 4)) (drop (at + 4) s)

    next_code : (walk s n).code ≡ (walk s 8).code
    next_code = sym (ap (λ (x : Walk). x.code) (walk_step s at (Param t l n) w)) ∙ h.same_code

    pub refused : (r ≡ 0 → ⊥) → unreadable ((walk s n).code or_else r) ≡ outcome (last_checks s) s
    unfolding last_checks pars_code
    refused ne =
        let d = turn_refused h.here hi ei t r v (walk s n).pars (pars_next s at t l n w) er ne (check8 (row_of s) (get_or s 2 0) (get_or s 3 0) (walk s 8).pars) in
        let f : last_checks s ≡ (walk s n).code or_else r =
        ap (λ (x : ℕ). (walk s 8).code or_else x) (sym d) ∙ ap (λ (x : ℕ). x or_else r) (sym next_code) in
        sym (refuses ((walk s n).code or_else r) s (or_zero (walk s n).code r ne)) ∙ ap (λ (x : ℕ). outcome x s) (sym f)

    pub passes : r ≡ 0 → (y : Seen) → y ≡ after z t v → Walked s y n
    passes o y ey = record { here = turn_passes h.here hi ei t r v (walk s n).pars (pars_next s at t l n w) er o y ey; same_code = next_code }

  -- the walk ends here
  pub ends : (w : Step) → step_at s at ≡ w → ((t' l n : ℕ) → w ≡ Param t' l n → ⊥) → (f : ℕ) → f ≡ step_code w
      → outcome_at (f or_else end_at info.musts (get_or s 2 0) (get_or s 3 0) z.met z.words) (get_or s 2 0) (get_or s 3 0) z.met z.words ≡ outcome (last_checks s) s
  unfolding outcome_at outcome last_checks pars_code
  ends w e k f ef =
      let c = get_or s 2 0 in
      let t = get_or s 3 0 in
      let none_left : (walk s at).pars ≡ [] = pars_stop s at w e k in
      let code : f ≡ (walk s 8).code = ef ∙ ap (λ (x : Walk). x.code) (sym (walk_stop s at w e k)) ∙ h.same_code in
      rw (turn_means h.here hi ei none_left c t, code, turn_ends h.here hi ei none_left c t)
