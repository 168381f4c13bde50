-- A refusal's number is not 0, so it decides where it comes first.
-- Assumes nothing.
use mathlib.Core.Path.{◌≡◌, refl, sym, ap, ◌∙◌}
use mathlib.Core.Bool.{false≢true}
use Prim.Native.Nat.{ℕ}
use Rattle.std.specs.Prelude.{Result, Ok, Err, IsErr, IsErrAnd}
use Rattle.std.specs.Result.{result_and}
use Rattle.laws.specs.Choice.{◌or_else◌}
use Rattle.laws.specs.Inner.Choice.{or_not}
use native.Mathlib.Omega.{arith}
use Rattle.codec_wire.specs.Refusal.{number, code}
use Rattle.codec_wire.specs.declared.Refusal.{Refusal}
use Rattle.codec_wire.specs.declared.Refusal.TheVariants.{InvalidVersion, UnsupportedClass, UnsupportedType, UnsupportedMode, ProtocolError, UnsupportedIdentifier, InvalidValue, FieldError, UnexpectedParameter, MissingParameter}

pub number_some : (r : Refusal) → number r ≡ 0 → ⊥
number_some InvalidVersion e = omega (arith, e)
number_some UnsupportedClass e = omega (arith, e)
number_some UnsupportedType e = omega (arith, e)
number_some UnsupportedMode e = omega (arith, e)
number_some ProtocolError e = omega (arith, e)
number_some UnsupportedIdentifier e = omega (arith, e)
number_some InvalidValue e = omega (arith, e)
number_some FieldError e = omega (arith, e)
number_some UnexpectedParameter e = omega (arith, e)
number_some MissingParameter e = omega (arith, e)

-- a refusal n of the first of two checks is passed on
pub passed_on : {A : Type 0} (r : Result A Refusal) (e : Refusal) (n v : ℕ) → IsErr r × IsErrAnd r (λ x. x ≡ e) → number e ≡ n → code r ≡ n or_else v
passed_on (Ok x) e n v h q = absurd (false≢true h.0)
passed_on (Err x) e n v h q = let z : number x ≡ n = ap number h.1 ∙ q in z ∙ sym (or_not n v (λ k. number_some e (q ∙ k)))

-- of two checks the first that refuses decides
pub and_code : {A B : Type 0} (a : Result A Refusal) (b : Result B Refusal) → code (result_and a b) ≡ code a or_else code b
and_code (Ok x) b = refl
and_code (Err x) b = sym (or_not (number x) (code b) (number_some x))
