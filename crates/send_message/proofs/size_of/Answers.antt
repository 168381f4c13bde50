use mathlib.Core.Path.{◌≡◌, ap, ◌∙◌}
use native.Mathlib.Omega.{arith}
use Rattle.std.specs.Option.{is_some}
use Rattle.laws.specs.Below.{one}
use Rattle.codec_wire.specs.Walk.{walk}
use Rattle.laws.specs.Inner.Below.{from_one}
use Rattle.send_message.proofs.Sizes.{form_size}
use Rattle.send_message.proofs.size_of.Goals as goal

pub overflow_add-result-4 : goal.overflow_add-result-4
overflow_add-result-4 c = let a = c.args in
    let e = form_size a.owners.iid.now a.owners.owner.now a.owners.links (walk a.msg.now 8).pars a.body.now a.f in
    let x : c.from.result ≡ one (is_some a.f.one) = c.from.ensures ∙ from_one _ ∙ ap one c.is_some.ensures in
    let y : c.from-2.result ≡ one (is_some a.f.two) = c.from-2.ensures ∙ from_one _ ∙ ap one c.is_some-2.ensures in
    omega arith

pub returns : goal.returns
returns c = let a = c.args in
    let e = form_size a.owners.iid.now a.owners.owner.now a.owners.links (walk a.msg.now 8).pars a.body.now a.f in
    let x : c.from.result ≡ one (is_some a.f.one) = c.from.ensures ∙ from_one _ ∙ ap one c.is_some.ensures in
    let y : c.from-2.result ≡ one (is_some a.f.two) = c.from-2.ensures ∙ from_one _ ∙ ap one c.is_some-2.ensures in
    omega arith
