-- The message that names the good identifiers of another one alone.
-- Assumes nothing.
use Rattle.std.specs.Prelude.{◌≡◌, refl, Some, None, Bool, true, false, cond, ◌&&◌, length, take, drop}
use Rattle.std.proofs.Common.{sym, ap, ◌∙◌, arith, length-append, take_at, length-take-le}
use mathlib.Core.List.{List, [], ◌++◌, append-nil}
use Prim.Native.Nat.{ℕ, ◌+◌, ◌*◌, ◌≤◌}
use Rattle.std.proofs.Math.Dec.{eqb}
use Rattle.std.proofs.lemmas.List.Edits.{sets-eq}
use Rattle.laws.specs.Below.{one, concat_below, count_below}
use Rattle.laws.specs.Inner.Below.{concat_ext, count_small}
use Rattle.laws.specs.Columns.{flag_at, number_at}
use Rattle.codec_wire.specs.Walk.{Par, Walk, walk}
use Rattle.codec_put.specs.Bytes.{bytes32, pars_bytes, overlay}
use Rattle.codec_put.proofs.Sets.{length_over}
use Rattle.codec_put.proofs.Round.{walk_written}
use Rattle.codec_write.specs.Encode.{size_of}
use Rattle.codec_select.specs.Only.{only}
use Rattle.codec_select.specs.Inner.Picks.{PutPars, only_none, none_size}
use Rattle.codec_select.specs.declared.Which.TheVariants.{Nothing, Mode}
use Rattle.rules_event.specs.Identifiers.{names_some}
use Rattle.send_message.specs.Message.{list_par}
use Rattle.send_message.specs.Inner.Form.{owns, ids_in, ids_par_in, held_pars, said_pars, listed_pars, copied_pars, form_pars, data_size, listed_size}
use Rattle.send_message.specs.declared.Form.{Form}
use Rattle.send_message.proofs.Sizes.{form_size}
use Rattle.send_good_ids.specs.Inner.Marks.{GoodColumn}

-- the traffic mode and the identifiers of the links that a column marks with 1
abbrev pub good_form : Form
good_form =
    record {
      class = 4;
      msgtype = 1;
      one = None;
      held = None;
      two = None;
      listed = Some 1;
      first = Mode;
      after = Nothing;
    }

-- the traffic mode takes one parameter of eight bytes at most
pub record ModeFits (ps : List Par) : Type 0 where
  pub short : length (pars_bytes (only (λ t. eqb t 0xb) ps)) ≤ 8

-- the good identifiers, as bytes: those of the links that the message names and whose AS is in mine
unfoldable pub goods_in : List ℕ → List ℕ → ℕ → List Bool → List Par → List ℕ
goods_in iid owner links mine ps = concat_below (λ l. cond (names_some (eqb (number_at iid l)) ps && flag_at mine (number_at owner l)) (bytes32 (number_at iid l)) []) links

-- the message of r bytes at the start of out: a parameter of the good identifiers, and the traffic mode
pub record GoodMessage (iid owner : List ℕ) (links : ℕ) (mine : List Bool) (ps : List Par) (r : ℕ) (out : List ℕ) : Type 0 where
  pub short : r ≤ length out
  pub pars : (walk (take r out) 8).pars ≡ list_par (goods_in iid owner links mine ps) ++ only (λ t. eqb t 0xb) ps

-- ---- laws

is_one : (u : Bool) → eqb (one u) 1 ≡ u
is_one true = refl
is_one false = refl

-- the links that the column marks are the good ones
goods_are : {iid owner column : List ℕ} {links : ℕ} {mine : List Bool} {ps : List Par} → GoodColumn iid owner links mine ps column → ids_in iid column links 1 ≡ goods_in iid owner links mine ps
unfolding ids_in goods_in
goods_are {iid} {owner} {links = links} {mine = mine} {ps = ps} g =
    concat_ext _ _ links (λ l b. ap (λ x. cond (eqb x 1) (bytes32 (number_at iid l)) []) (g.at l b) ∙ ap (λ u. cond u (bytes32 (number_at iid l)) []) (is_one (names_some (eqb (number_at iid l)) ps && flag_at mine (number_at owner l))))

-- what was written behind the first bytes of a list stands there
take_behind : (l vs : List ℕ) (i : ℕ) → i + length vs ≤ length l → take (i + length vs) (overlay l i vs) ≡ take i l ++ vs
unfolding overlay
take_behind l vs i h =
    let e : length (take i l) ≡ i = length-take-le i l (omega arith) in
    rw (sets-eq vs l i h) (take_at (take i l ++ vs) (drop (i + length vs) l) (i + length vs) (length-append (take i l) vs ∙ ap (λ (n : ℕ). n + length vs) e))

module _ (iid column : List ℕ) (links : ℕ) (ps : List Par) (f : Form) (e : f ≡ good_form) where
  abbrev made : List Par
  made = listed_pars iid column links f ++ copied_pars ps f

  -- the parameters of the form
  made_is : made ≡ list_par (ids_in iid column links 1) ++ only (λ t. eqb t 0xb) ps
  unfolding listed_pars ids_par_in copied_pars
  made_is =
      rw e
      (ap (λ (x : List Par). list_par (ids_in iid column links 1) ++ x) (ap (λ (x : List Par). only (λ t. eqb t 0xb) ps ++ x) (only_none ps) ∙ append-nil (only (λ t. eqb t 0xb) ps)))

  -- they are few: 128 identifiers and the traffic mode
  made_size : links ≤ 128 → ModeFits ps → length (pars_bytes made) ≤ 524
  unfolding data_size listed_size form_pars said_pars held_pars size_of
  made_size b m = rw e (omega (arith, form_size iid column links ps [] good_form, none_size ps, m.short, listed (eqb count 0)))
    where
      count : ℕ
      count = count_below (owns column 1) links

      listed : (u : Bool) → cond u 0 (4 + 4 * count) ≤ 516
      listed true = omega arith
      listed false = omega (arith, count_small (owns column 1) links)

  -- so the buffer has room
  pub made_fits : links ≤ 128 → ModeFits ps → (out : List ℕ) → length out ≡ 544 → 8 + length (pars_bytes made) ≤ length out
  made_fits b m out n = omega (arith, made_size b m)

  -- written behind eight bytes, whatever these are, it is the message
  pub good_message : {owner : List ℕ} {mine : List Bool} → GoodColumn iid owner links mine ps column → links ≤ 128 → ModeFits ps
      → (out : List ℕ) {out' : List ℕ} {r : ℕ} → length out ≡ 544 → PutPars out 8 made r out' → GoodMessage iid owner links mine ps r out'
  good_message g b m out {out'} {r} n w =
      let x = pars_bytes made in
      let h = made_size b m in
      let t : take r out' ≡ take 8 out ++ x = rw (w.next, w.bytes) (take_behind out x 8 (omega arith)) in
      let z : length (take 8 out) ≡ 8 = length-take-le 8 out (omega arith) in
      let o : length out' ≡ 544 = ap length w.bytes ∙ length_over out 8 x ∙ n in
      let q = w.next in
      record {
        short = omega arith;
        pars =
            ap (λ (y : List ℕ). (walk y 8).pars) t
            ∙ ap (λ (k : ℕ). (walk (take 8 out ++ x) k).pars) (sym z)
            ∙ ap (λ (y : Walk). y.pars) (walk_written made (take 8 out))
            ∙ made_is
            ∙ ap (λ (i : List ℕ). list_par i ++ only (λ t. eqb t 0xb) ps) (goods_are g);
      }
