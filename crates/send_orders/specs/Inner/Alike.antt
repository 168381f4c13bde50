-- Actions whose messages are the same bytes.
-- Assumes nothing.
use Rattle.std.specs.Prelude.{ℕ, ◌+◌, ◌-◌, ◌<◌, ◌≡◌, Bool, false, cond, ◌&&◌, ◌||◌, List}
use Rattle.std.proofs.Math.Path.{refl, ap}
use Rattle.std.proofs.Common.{sym, ◌∙◌, arith, eq-eqb, ne_eqb, eqb-true}
use Rattle.std.proofs.Math.Bool.{true, not}
use Rattle.std.proofs.lemmas.Bool.{false≢true, eqb-false, not-true}
use Rattle.std.proofs.Math.Decide.{ℕ_discrete}
use Rattle.std.proofs.Math.Dec.{eqb}
use Rattle.laws.specs.Inner.Every.{and_left, and_right}
use Rattle.codec_write.specs.Encode.{encode}
use Rattle.codec_wire.specs.Walk.{walk}
use Rattle.rules_action.specs.declared.Action.{Action}
use Rattle.rules_action.specs.Words.{link_side}
use Rattle.rules_action.specs.Types.{user_data}
use Rattle.send_message.specs.Inner.Form.{form_pars, form_of, other_form, other_pars}
use Rattle.send_message.specs.declared.Unit.{Unit}
use Rattle.send_unit.specs.declared.Sent.{Sent}
use Rattle.send_unit.specs.Inner.Words.{action_in}
use Rattle.send_unit.specs.Inner.Made.{sent_of}
use Rattle.send_orders.specs.Inner.Part.{Lent, form_in, part_of, index_in, part_in, part_of_lem, asp_part}

-- both go to an ASP, nothing but the ASP differs, and they send no unit
unfoldable pub are_alike : Bool → Action → Action → Bool
are_alike passed o p =
    ((((not (eqb o.to link_side) && not (eqb p.to link_side)) && eqb o.classtype p.classtype) && eqb o.subject p.subject) && eqb o.value p.value) && (passed || not (eqb o.classtype user_data))

-- the action n places on is like the one before it, and n is not 0
unfoldable pub repeats_in : Bool → List ℕ → ℕ → ℕ → Bool
repeats_in passed ws place n = cond (eqb n 0) false (are_alike passed (action_in ws (place + n)) (action_in ws (place + n - 1)))

no_unit : (passed d : Bool) → (passed || not d) ≡ true → (d && not passed) ≡ false
no_unit true true h = refl
no_unit true false h = refl
no_unit false true h = sym h
no_unit false false h = refl

-- a form does not say who gets the message
same_form : (passed : Bool) (o p : Action) (u : Unit) → o.classtype ≡ p.classtype → o.subject ≡ p.subject → o.value ≡ p.value → form_of passed o u ≡ form_of passed p u
unfolding form_of
same_form passed o p u c s v = λ i. form_of passed (record { to = p.to; classtype = c i; subject = s i; value = v i; unit = p.unit }) u

module _ (iid owner : List ℕ) (n : ℕ) (s : List ℕ) where
  same_part : (b c : List ℕ) (x y : Sent) → (x.o.to ≡ 255 → ⊥) → (y.o.to ≡ 255 → ⊥) → form_in x ≡ form_in y → form_pars iid owner n (walk s 8).pars b (form_in x) ≡ form_pars iid owner n (walk s 8).pars c (form_in x)
      → part_of iid owner n s b x ≡ part_of iid owner n s c y
  same_part b c x y hx hy e q =
      asp_part iid owner n s b x hx
      ∙ (λ i. encode (form_in x).class (form_in x).msgtype (q i))
      ∙ (λ i. encode (e i).class (e i).msgtype (form_pars iid owner n (walk s 8).pars c (e i)))
      ∙ sym (asp_part iid owner n s c y hy)

  alike_part : (b c : List ℕ) (x y : Sent) → x.passed ≡ y.passed → are_alike x.passed x.o y.o ≡ true → part_of iid owner n s b x ≡ part_of iid owner n s c y
  unfolding are_alike
  alike_part b c x y same = go (not (eqb x.o.to link_side)) (not (eqb y.o.to link_side)) (eqb x.o.classtype y.o.classtype) (eqb x.o.subject y.o.subject) (eqb x.o.value y.o.value) (x.passed || not (eqb x.o.classtype user_data)) refl refl refl refl refl refl
    where
      go : (t u k d v w : Bool) → not (eqb x.o.to link_side) ≡ t → not (eqb y.o.to link_side) ≡ u → eqb x.o.classtype y.o.classtype ≡ k → eqb x.o.subject y.o.subject ≡ d → eqb x.o.value y.o.value ≡ v
          → (x.passed || not (eqb x.o.classtype user_data)) ≡ w → ((((t && u) && k) && d) && v) && w ≡ true → part_of iid owner n s b x ≡ part_of iid owner n s c y
      go t u k d v w et eu ek ed ev ew h =
          let h₀ : (((t && u) && k) && d) && v ≡ true = and_left ((((t && u) && k) && d) && v) w h in
          let h₁ : ((t && u) && k) && d ≡ true = and_left (((t && u) && k) && d) v h₀ in
          let h₂ : (t && u) && k ≡ true = and_left ((t && u) && k) d h₁ in
          let h₃ : t && u ≡ true = and_left (t && u) k h₂ in
          let z = no_unit x.passed (eqb x.o.classtype user_data) (ew ∙ and_right ((((t && u) && k) && d) && v) w h) in
          same_part b c x y (eqb-false x.o.to 255 (not-true _ (et ∙ and_left t u h₃))) (eqb-false y.o.to 255 (not-true _ (eu ∙ and_right t u h₃)))
          (other_form x.passed x.o z x.unit y.unit
          ∙ same_form x.passed x.o y.o y.unit (eqb-true _ _ (ek ∙ and_right (t && u) k h₂)) (eqb-true _ _ (ed ∙ and_right ((t && u) && k) d h₁)) (eqb-true _ _ (ev ∙ and_right (((t && u) && k) && d) v h₀))
          ∙ ap (λ (p : Bool). form_of p y.o y.unit) same)
          (other_pars x.passed x.o z iid owner n (walk s 8).pars b c x.unit)

-- where an action repeats, there is one before it, and what is written for both is the same
pub repeats_part : (v : Lent) (m : ℕ) → v.run.place + m < v.run.count → repeats_in v.run.passed v.words v.run.place m ≡ true
    → (0 < m) × (part_in v (v.run.place + m) ≡ part_in v (v.run.place + (m - 1)))
unfolding repeats_in
repeats_part v m l h = go (ℕ_discrete m 0)
  where
    sent_in : ℕ → Sent
    sent_in j = sent_of v.tags v.lengths v.marks v.correlations v.run.passed (index_in v j) (action_in v.words j)

    go : Dec (m ≡ 0) → (0 < m) × (part_in v (v.run.place + m) ≡ part_in v (v.run.place + (m - 1)))
    go (yes z) = absurd (false≢true (rw (eq-eqb m 0 z) at h))
    go (no z) =
        let q : v.run.place + m - 1 ≡ v.run.place + (m - 1) = omega arith in
        let j = v.run.place + m in
        let k = v.run.place + (m - 1) in (
          omega arith,
          sym (part_of_lem v j _ _ l refl refl)
              ∙ alike_part v.iid v.owner v.links v.msg _ _ (sent_in j) (sent_in k) refl (rw (ne_eqb m 0 z, q) at h)
              ∙ part_of_lem v k _ _ (omega arith) refl refl,
        )
