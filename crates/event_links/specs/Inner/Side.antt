-- What the reading of a link-side message says of its place in the plan.
-- Assumes nothing.
use Rattle.std.specs.Prelude.{◌≡◌, refl, Bool, true, false, cond, ◌&&◌, List, ℕ, zero, suc, ◌<◌, ◌≤◌, eqb, ltb}
use Rattle.std.proofs.Common.{sym, ap, ◌∙◌, arith, ne_eqb, le-leb, eqb-true}
use Rattle.std.proofs.lemmas.Bool.{false≢true, lt-leb}
use Rattle.std.proofs.Math.Decide.{dec_lt}
use Rattle.laws.specs.Inner.Every.{and_left, and_right}
use Rattle.codec_read.specs.Verdict.{verdict}
use Rattle.codec_read.specs.Meaning.{meaning, outcome, reading_of, data_at}
use Rattle.codec_read.proofs.GoodUnit.{good_unit, correlation_marked}
use Rattle.codec_read.specs.declared.Reading.{Reading}
use Rattle.state_tables.specs.declared.Gateway.{Gateway}
use Rattle.state_lookup.specs.Links.{index_of, known}
use Rattle.rules_event.specs.Event.{link_message}
use Rattle.rules_event.specs.Identifiers.{is_known, link_of}
use Rattle.rules_event.specs.Link.{can_have}
use Rattle.rules_event.specs.Rules.{from_link, in_plan}
use Rattle.rules_event.specs.declared.Link.{Link}
use Rattle.rules_event.specs.Records.{link_at}
use Rattle.event_links.specs.Inner.Records.{Placed, link_in}

-- a message of the link side that is not refused with 102 (Rule 6.5)
unfoldable pub passes : Gateway → Reading → Bool
passes g r =
    eqb r.code 0
    && (eqb r.class 6 && (from_link r.msgtype
    && (is_known g r.id && can_have (link_at g (link_of g r.id)) r.sequence)))

-- the same of the record of its link
unfoldable pub passes_in : Bool → Link → Reading → Bool
passes_in there k r =
    eqb r.code 0 && (eqb r.class 6 && (from_link r.msgtype && (there && can_have k r.sequence)))

pub passes_in_lem : (g : Gateway) (r : Reading) (there : Bool) (i : ℕ) → Placed g.links (link_in g.links g.iid r) there i
    → passes_in there (link_at g i) r ≡ passes g r
unfolding passes_in passes is_known link_of known
passes_in_lem g r there i = go (eqb r.class 6)
  where
    x : ℕ
    x = index_of g.iid g.links r.id

    can : ℕ → Bool
    can l = can_have (link_at g l) r.sequence

    fit : (u : Bool) → (u ≡ true → i ≡ x) → (u && can i) ≡ (u && can x)
    fit true e = ap can (e refl)
    fit false e = refl

    go : (u : Bool) → Placed g.links (cond u x g.links) there i
        → (eqb r.code 0 && (u && (from_link r.msgtype && (there && can i)))) ≡ (eqb r.code 0 && (u && (from_link r.msgtype && (ltb x g.links && can x))))
    go true h = ap (λ (b : Bool). eqb r.code 0 && (from_link r.msgtype && b)) (fit there h.index_is ∙ ap (λ (b : Bool). b && can x) h.there_is)
    go false h = refl

-- the number of a reading is the verdict
pub code_is : (s : List ℕ) → (reading_of s).code ≡ verdict s
unfolding reading_of outcome meaning
code_is s = go (verdict s)
  where
    go : (n : ℕ) → (outcome n s).code ≡ n
    go zero = refl
    go (suc n) = rw (ne_eqb (suc n) 0 (λ e. omega arith))

pub in_plan_lem : (g : Gateway) (s : List ℕ) → passes g (reading_of s) ≡ in_plan g (link_message s)
unfolding passes
in_plan_lem g s = rw (code_is s)

from_small : (k : ℕ) → from_link k ≡ true → k < 256
unfolding from_link
from_small k h = go (dec_lt k 256)
  where
    go : Dec (k < 256) → k < 256
    go (yes l) = l
    go (no l) =
        absurd
        (false≢true
        (rw (ne_eqb k 1 (λ e. omega arith), ne_eqb k 8 (λ e. omega arith), ne_eqb k 9 (λ e. omega arith), le-leb 11 k (omega arith), lt-leb k 14 (omega arith))
        at h))

-- what protocol data has that is held: it fits a place of the hold
pub record Fits (s : List ℕ) (r : Reading) : Type 0 where
  pub short : (data_at s).length ≤ 273
  pub mark : r.correlated ≤ 1

pub fits : (g : Gateway) (s : List ℕ) (r : Reading) → r ≡ reading_of s → passes g r ≡ true → r.msgtype ≡ 1 → Fits s r
unfolding passes
fits g s r e h m =
    let a = eqb r.class 6 in
    let b = from_link r.msgtype && (is_known g r.id && can_have (link_at g (link_of g r.id)) r.sequence) in
    let x = and_right (eqb r.code 0) (a && b) h in
    let v : verdict s ≡ 0 = sym (code_is s) ∙ (λ j. (sym e j).code) ∙ eqb-true r.code 0 (and_left (eqb r.code 0) (a && b) h) in
    let u = good_unit s v ((λ j. (sym e j).class) ∙ eqb-true r.class 6 (and_left a b x)) ((λ j. (sym e j).msgtype) ∙ m) in
    record {
      short = u.most;
      mark = rw e (correlation_marked s).0;
    }

-- what a message of the link side that passes has
pub record Side (iid : List ℕ) (links : ℕ) (r : Reading) : Type 0 where
  pub class : r.class ≡ 6
  pub msgtype : r.msgtype < 256
  pub there : known iid links r.id ≡ true

pub side : (g : Gateway) (r : Reading) → passes g r ≡ true → Side g.iid g.links r
unfolding passes is_known
side g r h =
    let a = eqb r.class 6 in
    let b = from_link r.msgtype in
    let d = known g.iid g.links r.id in
    let n = can_have (link_at g (link_of g r.id)) r.sequence in
    let x = and_right (eqb r.code 0) (a && (b && (d && n))) h in
    let y = and_right a (b && (d && n)) x in
    record {
      class = eqb-true r.class 6 (and_left a (b && (d && n)) x);
      msgtype = from_small r.msgtype (and_left b (d && n) y);
      there = and_left d n (and_right b (d && n) y);
    }
