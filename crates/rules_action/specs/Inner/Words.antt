-- Laws of specs/Words.antt, and definitions that only code and proofs use.
-- Assumes nothing.
use Rattle.std.specs.Prelude.{ℕ, suc, ◌+◌, ◌*◌, ◌≤◌, ◌≡◌, refl, Bool, true, false, List, [], ◌∷◌, ◌++◌, length, set, drop}
use Rattle.std.proofs.Common.{ap, ◌∙◌, sym, arith, add-zero, add-suc, suc-add, suc-mul, length-set, length-append}
use Rattle.std.proofs.lemmas.List.Edits.{sets, sets-eq}
use Rattle.laws.specs.Below.{when, concat_below}
use Rattle.laws.specs.Inner.Below.{when_short, concat_none, concat_more, concat_short}
use Rattle.laws.specs.Columns.{flag_at}
use Rattle.rules_action.specs.declared.Action.{Action}
use Rattle.rules_action.specs.Words.{words_of, action, to_each, to_all}

-- the list with action o at place n
unfoldable pub put_at : List ℕ → ℕ → Action → List ℕ
put_at ws n o =
    set (set (set (set ws (n * 4) o.to) (n * 4 + 1) o.classtype) (n * 4 + 2) o.subject) (n * 4 + 3) o.value

-- the list with the actions os from place n on
unfoldable pub place : List ℕ → ℕ → List Action → List ℕ
place ws n [] = ws
place ws n (o ∷ os) = place (put_at ws n o) (suc n) os

-- what a function that writes the actions os from place n on leaves, and the place that it returns
pub record Written (ws : List ℕ) (n : ℕ) (os : List Action) (ws' : List ℕ) (r : ℕ) : Type 0 where
  pub words : ws' ≡ place ws n os
  pub next : r ≡ n + length os

-- ---- the whole list

pub length_words_of : (os : List Action) → length (words_of os) ≡ length os * 4
unfolding words_of
length_words_of [] = refl
length_words_of (o ∷ os) = rw (suc-mul, length_words_of os) (omega arith)

place_sets : (os : List Action) (ws : List ℕ) (n : ℕ) → place ws n os ≡ sets ws (n * 4) (words_of os)
unfolding place put_at words_of
place_sets [] ws n = refl
place_sets (o ∷ os) ws n =
    place_sets os (put_at ws n o) (suc n)
    ∙ (let e₁ : n * 4 + 1 ≡ suc (n * 4) = omega arith in
    let e₂ : n * 4 + 2 ≡ suc (suc (n * 4)) = omega arith in
    let e₃ : n * 4 + 3 ≡ suc (suc (suc (n * 4))) = omega arith in
    let e₄ : suc n * 4 ≡ suc (suc (suc (suc (n * 4)))) = omega arith in
    rw (e₁, e₂, e₃, e₄))

-- the words behind those of the actions stay (Rule 8.6)
pub place_first : (ws : List ℕ) (os : List Action) → length os * 4 ≤ length ws → place ws 0 os ≡ words_of os ++ drop (length os * 4) ws
place_first ws os h =
    let e : 0 + length (words_of os) ≡ length os * 4 = omega (arith, length_words_of os) in
    place_sets os ws 0 ∙ sets-eq (words_of os) ws 0 (omega arith) ∙ ap (λ (k : ℕ). words_of os ++ drop k ws) e

-- ---- one list of actions after the other

length_put_at : (ws : List ℕ) (n : ℕ) (o : Action) → length (put_at ws n o) ≡ length ws
unfolding put_at
length_put_at ws n o = simp length-set

length_place : (ws : List ℕ) (n : ℕ) (os : List Action) → length (place ws n os) ≡ length ws
unfolding place
length_place ws n [] = refl
length_place ws n (o ∷ os) = length_place (put_at ws n o) (suc n) os ∙ length_put_at ws n o

pub place_append : (ws : List ℕ) (n : ℕ) (os ps : List Action) → place ws n (os ++ ps) ≡ place (place ws n os) (n + length os) ps
unfolding place
place_append ws n [] ps = rw add-zero
place_append ws n (o ∷ os) ps = rw (add-suc n (length os), ← suc-add n (length os)) (place_append (put_at ws n o) (suc n) os ps)

pub written_none : (ws : List ℕ) (n : ℕ) → Written ws n [] ws n
unfolding place
written_none ws n = record { words = refl; next = omega arith }

pub written_one : {ws ws' : List ℕ} {n : ℕ} (o : Action) → ws' ≡ put_at ws n o → Written ws n (o ∷ []) ws' (n + 1)
unfolding place
written_one {ws} {ws'} {n} o h = record { words = h; next = omega arith }

pub written_append : {ws ws' ws'' : List ℕ} {n r s : ℕ} {os ps : List Action} → Written ws n os ws' r → Written ws' r ps ws'' s → Written ws n (os ++ ps) ws'' s
written_append {ws} {ws'} {ws''} {n} {r} {s} {os} {ps} h k =
    record {
      words = k.words ∙ rw (h.words, h.next) (sym (place_append ws n os ps));
      next = rw length-append (omega (arith, h.next, k.next));
    }

-- an action that a flag decides
pub written_taken : (o : Action) {b : Bool} {ws ws' : List ℕ} {n : ℕ} → b ≡ true → ws' ≡ put_at ws n o → Written ws n (when b o) ws' (n + 1)
written_taken o t h = rw t (written_one o h)

pub written_left : (o : Action) {b : Bool} {ws : List ℕ} {n : ℕ} → b ≡ false → Written ws n (when b o) ws n
written_left o {b} {ws} {n} t = rw t (written_none ws n)

pub written_length : {ws ws' : List ℕ} {n r : ℕ} {os : List Action} → Written ws n os ws' r → length ws' ≡ length ws
written_length {ws} {ws'} {n} {r} {os} h = ap length h.words ∙ length_place ws n os

-- ---- a loop that writes the actions of each number in turn: those of the numbers below k are written

pub record Emitted (f : ℕ → List Action) (ws : List ℕ) (n k : ℕ) (ws' : List ℕ) (r : ℕ) : Type 0 where
  pub wrote : Written ws n (concat_below f k) ws' r

pub emit_none : (f : ℕ → List Action) (ws : List ℕ) (n : ℕ) → Emitted f ws n 0 ws n
emit_none f ws n = record { wrote = rw concat_none (written_none ws n) }

pub emit_more : {f : ℕ → List Action} {ws ws' ws'' : List ℕ} {n r s k : ℕ} → Emitted f ws n k ws' r → Written ws' r (f k) ws'' s → Emitted f ws n (k + 1) ws'' s
emit_more h g = record { wrote = rw concat_more (written_append h.wrote g) }

-- where each number has at most w actions
pub emit_bound : {f : ℕ → List Action} (w : ℕ) → ((i : ℕ) → length (f i) ≤ w) → {ws ws' : List ℕ} {n r k : ℕ} → Emitted f ws n k ws' r → r ≤ n + k * w
emit_bound {f} w short {k = k} h = omega (arith, h.wrote.next, concat_short f w short k)

pub emit_end : {f : ℕ → List Action} {ws ws' : List ℕ} {n r k m : ℕ} → Emitted f ws n k ws' r → m ≤ k → k ≤ m → Written ws n (concat_below f m) ws' r
emit_end {k = k} {m = m} h p q = let e : k ≡ m = omega arith in rw e at h.wrote

-- ---- at most one action to each ASP

pub to_each_short : (who : List Bool) (classtype subject value q : ℕ) → length (to_each who classtype subject value q) ≤ 1
unfolding to_each
to_each_short who classtype subject value q = when_short (flag_at who q) (action q classtype subject value)

pub to_all_short : (who : List Bool) (classtype subject value : ℕ) → length (to_all who classtype subject value) ≤ 16
unfolding to_all
to_all_short who classtype subject value =
    concat_short (to_each who classtype subject value) 1 (to_each_short who classtype subject value) 16
