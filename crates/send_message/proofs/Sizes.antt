-- The length of the message of a form.
-- Assumes nothing.
use mathlib.Core.Path.{◌≡◌, refl}
use mathlib.Core.Bool.{Bool, true, false}
use mathlib.Core.List.{List, ◌++◌}
use Prim.Native.Nat.{ℕ, ◌+◌, ◌*◌}
use native.Mathlib.Omega.{arith}
use lib.ListN.{length}
use Rattle.std.specs.Prelude.{Option, Some, None}
use Rattle.std.specs.Option.{is_some}
use Rattle.laws.specs.Below.{one}
use Rattle.codec_wire.specs.Walk.{Par}
use Rattle.codec_put.specs.Bytes.{par, pars_bytes}
use Rattle.codec_write.specs.Encode.{size_of}
use Rattle.codec_select.specs.Only.{only}
use Rattle.codec_select.specs.Inner.Picks.{picks}
use Rattle.codec_select.proofs.Runs.{pars_length, one_length, none_length}
use Rattle.send_message.specs.Message.{number_par}
use Rattle.send_message.specs.Inner.Form.{number_pars, data_pars, held_pars, said_pars, as_pars, listed_pars, copied_pars, form_pars, data_size, listed_size}
use Rattle.send_message.specs.declared.Form.{Form}
use Rattle.send_message.specs.declared.Number.{Number}
use Rattle.send_message.proofs.Owned.{listed_length}

pub size_is : (ps : List Par) → size_of ps ≡ 8 + length (pars_bytes ps)
unfolding size_of
size_is ps = refl

pub number_length : (n : Option Number) → length (pars_bytes (number_pars n)) ≡ 8 * one (is_some n)
number_length (Some n) = one_length (number_par n.tag n.value)
number_length None = none_length

pub data_length : (held : Option ℕ) (body : List ℕ) → length (pars_bytes (data_pars body held)) ≡ data_size held (length body)
unfolding data_size
data_length (Some t) body = one_length (par t body)
data_length None body = none_length

pub form_size : (iid owner : List ℕ) (n : ℕ) (ps : List Par) (body : List ℕ) (f : Form)
    → size_of (form_pars iid owner n ps body f)
    ≡ 8 + (8 * one (is_some f.one) + data_size f.held (length body) + 8 * one (is_some f.two)) + listed_size owner n f.listed + length (pars_bytes (only (picks f.first) ps)) + length (pars_bytes (only (picks f.after) ps))
unfolding form_pars said_pars held_pars listed_pars copied_pars
form_size iid owner n ps body f =
    let a = size_is (form_pars iid owner n ps body f) in
    let b = pars_length (said_pars body f) (listed_pars iid owner n f ++ copied_pars ps f) in
    let c = pars_length (listed_pars iid owner n f) (copied_pars ps f) in
    let d = pars_length (number_pars f.one) (held_pars body f) in
    let j = pars_length (data_pars body f.held) (number_pars f.two) in
    let e = pars_length (only (picks f.first) ps) (only (picks f.after) ps) in
    let g = number_length f.one in
    let k = data_length f.held body in
    let h = number_length f.two in
    let i = listed_length iid owner n f.listed in
    omega arith
