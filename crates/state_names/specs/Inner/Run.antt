-- Identifiers named one after the other: what holds behind those passed so far.
-- Assumes nothing.
use Rattle.std.specs.Prelude.{ℕ, ◌+◌, ◌<◌, ◌≤◌, ◌≡◌, Bool, true, ◌||◌, ◌&&◌, List, eqb, ltb, length}
use Rattle.std.proofs.Math.Path.{refl, ap}
use Rattle.std.proofs.Common.{sym, ◌∙◌, arith}
use Rattle.std.proofs.Math.Bool.{false}
use Rattle.std.proofs.Math.ListN.{set}
use borrow.Author.Tests.{ltb-true, eqb-true}
use Rattle.laws.specs.Columns.{flag_at, number_at, tabulate}
use Rattle.laws.specs.Inner.Every.{and_left, and_right}
use Rattle.state_sets.specs.Inner.Members.{members}
use Rattle.state_ranges.specs.declared.Named.{Named}
use Rattle.state_ranges.specs.Named.{Refused, is_owned_by, first_in, some_in, first_of, start_at, entries, refused_entry, refused_in, some_of}
use Rattle.state_lookup.specs.Inner.Table.{Table}
use Rattle.state_ranges.specs.Inner.Refused.{refused_by}
use Rattle.state_ranges.specs.Inner.Ranks.{rank_here}
use Rattle.state_ranges.specs.Inner.Alone.{alone_marked, present_good}
use Rattle.state_ranges.specs.Inner.Names.{earlier, earlier_nothing, Plain, as_refused, Names}
use Rattle.state_names.specs.Inner.Entries.{alone_ends, Flags, flags_none, flags_more, flags_end, refused_none, refused_more, refused_end, refused_plain}

-- x stands at place l, of an AS that mine has
unfoldable pub GoodAt : List ℕ → List ℕ → ℕ → List Bool → ℕ → ℕ → Bool
GoodAt iid owner links mine l x = ltb l links && (eqb (number_at iid l) x && flag_at mine (number_at owner l))

pub good_within : (iid owner : List ℕ) (links : ℕ) (mine : List Bool) (l x : ℕ) → GoodAt iid owner links mine l x ≡ true → l < links
unfolding GoodAt
good_within iid owner links mine l x g = ltb-true l links (and_left (ltb l links) (eqb (number_at iid l) x && flag_at mine (number_at owner l)) g)

-- beside what was named before (old), the entries before i: the first that is refused, and the flags of their
-- owners
pub record Sofar (iid owner : List ℕ) (links : ℕ) (mine : List Bool) (value : List ℕ) (old : Refused) (flags : List Bool) (i : ℕ) (first : Refused) (now : List Bool) : Type 0 where
  pub refused : first ≡ earlier old (first_of (refused_entry (refused_by iid owner links mine) false value) i)
  pub set : now ≡ Flags (is_owned_by iid owner links) false value flags i

-- from entry i on, as far as entry k, all are good: the first that is refused stays
pub record GoesOn (iid owner : List ℕ) (links : ℕ) (mine : List Bool) (value : List ℕ) (i : ℕ) (now : List Bool) (k : ℕ) (next : List Bool) : Type 0 where
  pub on : i ≤ k
  pub within : k ≤ entries false value
  pub so : (old first : Refused) (flags : List Bool) → Sofar iid owner links mine value old flags i first now → Sofar iid owner links mine value old flags k first next

module _ {iid owner : List ℕ} {links : ℕ} {mine : List Bool} {value : List ℕ} {old : Refused} {flags : List Bool} where
  pub sofar_none : Plain old → length flags ≡ 16 → Sofar iid owner links mine value old flags 0 old flags
  sofar_none p n = record { refused = refused_none _ _ _ _ p; set = flags_none _ _ _ _ n }

  pub sofar_plain : {i : ℕ} {first : Refused} {now : List Bool} → Sofar iid owner links mine value old flags i first now → Plain first
  sofar_plain {i} {first} s = refused_plain (refused_by iid owner links mine) false value old i first s.refused

  -- one more
  pub sofar_more : {i x : ℕ} {first : Refused} {now : List Bool} {r : Named} → Sofar iid owner links mine value old flags i first now → x ≡ start_at false value i
      → Names r (earlier first (first_in (refused_by iid owner links mine) x x)) (tabulate 16 (λ a. flag_at now a || some_in (is_owned_by iid owner links a) x x))
      → Sofar iid owner links mine value old flags (i + 1) (as_refused r.refused) (members r.set)
  sofar_more {i} s p n =
      let q = p ∙ alone_ends false value i refl in
      record { refused = refused_more false value i _ _ p q (refused_by iid owner links mine) _ _ _ s.refused n.refused; set = flags_more false value i _ _ p q _ _ _ _ s.set n.set }

  -- one more that is good
  pub sofar_good : (l : ℕ) {i x : ℕ} {first : Refused} {now next : List Bool} → Table iid owner links → Sofar iid owner links mine value old flags i first now → x ≡ start_at false value i
      → GoodAt iid owner links mine l x ≡ true → length now ≡ 16 → next ≡ set now (number_at owner l) true → Sofar iid owner links mine value old flags (i + 1) first next
  unfolding GoodAt
  sofar_good l {i} {x} {first} {now} t s p g n e =
      let b : l < links = ltb-true l links (and_left (ltb l links) (eqb (number_at iid l) x && flag_at mine (number_at owner l)) g) in
      let h = and_right (ltb l links) (eqb (number_at iid l) x && flag_at mine (number_at owner l)) g in
      let z : number_at iid l ≡ x = eqb-true (number_at iid l) x (and_left (eqb (number_at iid l) x) (flag_at mine (number_at owner l)) h) in
      let m = and_right (eqb (number_at iid l) x) (flag_at mine (number_at owner l)) h in
      let q = p ∙ alone_ends false value i refl in
      let w = present_good iid owner links t mine l x (rank_here iid links t.order x l b z) b z m in
      record {
        refused = refused_more false value i _ _ p q (refused_by iid owner links mine) _ _ _ s.refused (sym (earlier_nothing first (sofar_plain s)) ∙ ap (earlier first) w);
        set = flags_more false value i _ _ p q _ _ _ _ s.set (e ∙ alone_marked iid owner links t l x (number_at owner l) b z refl now n);
      }

  -- past the last one
  pub sofar_end : {i : ℕ} {r : Named} → Sofar iid owner links mine value old flags i (as_refused r.refused) (members r.set) → i ≡ entries false value
      → Names r (earlier old (refused_in (refused_by iid owner links mine) false value)) (tabulate 16 (λ a. flag_at flags a || some_of (is_owned_by iid owner links a) false value))
  sofar_end {i} s e = record { refused = refused_end false value i e _ _ _ s.refused; set = flags_end false value i e _ _ _ s.set }

pub goes_none : {iid owner value : List ℕ} {links i : ℕ} {mine now : List Bool} → i ≤ entries false value → GoesOn iid owner links mine value i now i now
goes_none h = record { on = omega arith; within = h; so = λ old first flags s. s }

pub goes_more : (l : ℕ) {iid owner value : List ℕ} {links i k x : ℕ} {mine now next last : List Bool} → Table iid owner links → GoesOn iid owner links mine value i now k next → k < entries false value
    → x ≡ start_at false value k → GoodAt iid owner links mine l x ≡ true → length next ≡ 16 → last ≡ set next (number_at owner l) true → GoesOn iid owner links mine value i now (k + 1) last
goes_more l t g b p h n e = let o = g.on in record { on = omega arith; within = omega arith; so = λ old first flags s. sofar_good l t (g.so old first flags s) p h n e }

-- at an entry that is the same number
pub goes_end : {iid owner value : List ℕ} {links i k n : ℕ} {mine now next : List Bool} → GoesOn iid owner links mine value i now k next → k ≡ n → GoesOn iid owner links mine value i now n next
goes_end g e = rw e at g
