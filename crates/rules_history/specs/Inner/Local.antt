-- Where two events commute: neither writes what the other reads. A state is known by what it holds at each
-- key, and by its shape, which nothing reads; an event hands back, and writes, by what it reads alone.
use Rattle.std.specs.Prelude.{◌≡◌, refl, Bool, true, false}
use Rattle.std.proofs.Common.{sym, ◌∙◌}
use Rattle.laws.specs.Inner.Every.{false_of}
use Rattle.rules_history.specs.Inner.Trade.{Commute}

module _ {B E K : Type 0} {W : K → Type 0} (get : B → (k : K) → W k) (reads writes : B → E → K → Bool) where
  -- b' holds what b holds wherever e reads
  abbrev pub Agree : B → B → E → Type 0
  Agree b b' e = (k : K) → reads b e k ≡ true → get b' k ≡ get b k

  -- e writes nothing that f reads
  abbrev pub Apart : B → E → E → Type 0
  Apart b e f = (k : K) → writes b e k ≡ true → reads b f k ≡ true → ⊥

pub record Local {B E O K S M : Type 0} {W : K → Type 0} (get : B → (k : K) → W k) (shape : B → S) (reads writes : B → E → K → Bool) (shapes : B → E → M) (reshape : M → S → S) (out : B → E → O) (next : B → E → B) : Type 0 where
  pub ext : (b b' : B) → ((k : K) → get b k ≡ get b' k) → shape b ≡ shape b' → b ≡ b'
  pub covers : (b : B) (e : E) (k : K) → writes b e k ≡ true → reads b e k ≡ true
  pub untouched : (b : B) (e : E) (k : K) → writes b e k ≡ false → get (next b e) k ≡ get b k
  pub same_out : (b b' : B) (e : E) → Agree get reads writes b b' e → out b' e ≡ out b e
  pub same_writes : (b b' : B) (e : E) → Agree get reads writes b b' e → (k : K) → writes b' e k ≡ writes b e k
  pub same_next : (b b' : B) (e : E) → Agree get reads writes b b' e → (k : K) → writes b e k ≡ true → get (next b' e) k ≡ get (next b e) k
  -- what an event does to the shape goes by a mark that hangs on what it reads
  pub same_shapes : (b b' : B) (e : E) → Agree get reads writes b b' e → shapes b' e ≡ shapes b e
  pub reshaped : (b : B) (e : E) → shape (next b e) ≡ reshape (shapes b e) (shape b)
  pub reshape_trade : (u v : M) (s : S) → reshape u (reshape v s) ≡ reshape v (reshape u s)

module _ {B E O K S M : Type 0} {W : K → Type 0} (get : B → (k : K) → W k) (shape : B → S) (reads writes : B → E → K → Bool) (shapes : B → E → M) (reshape : M → S → S) (out : B → E → O) (next : B → E → B)
    (L : Local get shape reads writes shapes reshape out next) where
  -- after e, f still finds all that it reads
  agree_after : (b : B) (e f : E) → Apart get reads writes b e f → Agree get reads writes b (next b e) f
  agree_after b e f a k r = L.untouched b e k (false_of (writes b e k) (λ w. a k w r))

  one_key : (b : B) (e f : E) → Apart get reads writes b e f → Apart get reads writes b f e → (k : K) (we wf : Bool) → writes b e k ≡ we → writes b f k ≡ wf
      → get (next (next b e) f) k ≡ get (next (next b f) e) k
  one_key b e f ef fe k true wf p q =
      let w : writes b f k ≡ false = false_of (writes b f k) (λ h. ef k p (L.covers b f k h)) in
      L.untouched (next b e) f k (L.same_writes b (next b e) f (agree_after b e f ef) k ∙ w)
      ∙ sym (L.same_next b (next b f) e (agree_after b f e fe) k p)
  one_key b e f ef fe k false true p q =
      L.same_next b (next b e) f (agree_after b e f ef) k q
      ∙ sym (L.untouched (next b f) e k (L.same_writes b (next b f) e (agree_after b f e fe) k ∙ p))
  one_key b e f ef fe k false false p q =
      L.untouched (next b e) f k (L.same_writes b (next b e) f (agree_after b e f ef) k ∙ q) ∙ L.untouched b e k p
      ∙ sym (L.untouched (next b f) e k (L.same_writes b (next b f) e (agree_after b f e fe) k ∙ p) ∙ L.untouched b f k q)

  -- the shape after e and then f
  twice : (b : B) (e f : E) → Apart get reads writes b e f → shape (next (next b e) f) ≡ reshape (shapes b f) (reshape (shapes b e) (shape b))
  twice b e f ef =
      L.reshaped (next b e) f ∙ (λ j. reshape (L.same_shapes b (next b e) f (agree_after b e f ef) j) (L.reshaped b e j))

  pub commutes : (b : B) (e f : E) → Apart get reads writes b e f → Apart get reads writes b f e → Commute out next b e f
  commutes b e f ef fe =
      record {
        first = L.same_out b (next b f) e (agree_after b f e fe);
        second = L.same_out b (next b e) f (agree_after b e f ef);
        both =
            L.ext (next (next b e) f) (next (next b f) e) (λ k. one_key b e f ef fe k (writes b e k) (writes b f k) refl refl)
            (twice b e f ef ∙ L.reshape_trade (shapes b f) (shapes b e) (shape b) ∙ sym (twice b f e fe));
      }
