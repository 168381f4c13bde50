use mathlib.Core.Bool.{Bool, cond}
use mathlib.Core.Path.{ap, ◌∙◌}
use Prim.Native.Nat.{ℕ}
use Rattle.laws.specs.Inner.Below.{from_one}
use Rattle.abi_read.proofs.m2ua_is_sound_at.Goals as goal

pub returns : goal.returns
returns c = c.from.ensures ∙ from_one _ ∙ ap (λ (b : Bool). cond {A = ℕ} b 1 0) c.sound_of-sound.ensures
