use Prim.Native.Nat.{ℕ, ◌+◌}
use mathlib.Core.Path.{refl, sym, ap, ◌∙◌}
use native.Mathlib.Omega.{arith}
use lib.ListN.{length, length-replicate}
use lib.Seq.{length-take-le}
use Rattle.codec_put.proofs.Sets.{length_over}
use Rattle.abi_node.specs.Next.{headed}
use Rattle.abi_node.specs.Inner.Headed.{headed_is, meets_alike, too_long}
use Rattle.abi_node.proofs.Node.headed.Goals as goal

pub returns-then-pars-gt-MOST_PARAMETERS : goal.returns-then-pars-gt-MOST_PARAMETERS
returns-then-pars-gt-MOST_PARAMETERS c =
    let a = c.args in
    meets_alike a.self.gateway a.p (headed a.class a.msgtype a.pars.now) (too_long a.self.gateway a.p a.class a.msgtype a.pars.now c.requires c.if-pars-gt-MOST_PARAMETERS.true) a.words.now a.hold.now c.happen.ensures

pub slice_bounds-happen-end-2 : goal.slice_bounds-happen-end-2
slice_bounds-happen-end-2 c =
    let n = ap length c.put_bytes.ensures ∙ length_over _ _ _ ∙ ap length c.put_header.ensures ∙ length_over _ _ _ ∙ length-replicate {A = ℕ} 2048 0 in
    sym (length-take-le _ _ (omega (arith, n, c.if-pars-gt-MOST_PARAMETERS.false)))

pub returns : goal.returns
returns c =
    let a = c.args in
    let m = length-replicate {A = ℕ} 2048 0 in
    rw (headed_is _ a.pars.now _ _ a.class a.msgtype (8 + length a.pars.now) refl (omega (arith, m, c.if-pars-gt-MOST_PARAMETERS.false)) c.put_header.ensures c.put_bytes.ensures) at c.happen-2.ensures
