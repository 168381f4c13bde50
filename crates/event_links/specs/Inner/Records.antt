-- What the code reads of the records of links (Rule 5.27), and the place of the link that an event names.
-- Assumes nothing.
use Rattle.std.specs.Prelude.{ℕ, ◌<◌, ◌≡◌, refl, Bool, true, false, ◌&&◌, cond, not, List, eqb, ltb}
use Rattle.std.proofs.Common.{sym, ◌∙◌, lt-ltb}
use Rattle.laws.specs.Columns.{is_set, number_at}
use Rattle.codec_read.specs.declared.Reading.{Reading}
use Rattle.state_tables.specs.Sound.{pair}
use Rattle.state_tables.specs.declared.Gateway.{Gateway}
use Rattle.rules_server.specs.Record.{row, members_up, record_from, some, state_in}
use Rattle.state_lookup.specs.Links.{index_of}
use Rattle.rules_event.specs.declared.Asp.{Asp}
use Rattle.rules_event.specs.declared.Owner.{Owner}
use Rattle.rules_event.specs.declared.Sender.{Sender}
use Rattle.rules_event.specs.Link.{is_pending}
use Rattle.rules_event.specs.Records.{owner_of}

-- what AS a has of ASP p, which is s, of lent columns
abbrev pub sender_from : Asp → List ℕ → List ℕ → ℕ → ℕ → Sender
sender_from s member active a p = record { up = s.up; member = number_at member (pair a p); active = number_at active (pair a p) }

-- nobody is active in AS a, and it waits
unfoldable pub pending_in : List ℕ → Owner → ℕ → Bool
pending_in active o a = not (some (row active a)) && eqb o.waiting 1

state_pending : (x y z : Bool) → eqb (cond x 3 (cond y 4 (cond z 2 0))) 4 ≡ (not x && y)
state_pending true y z = refl
state_pending false true z = refl
state_pending false false true = refl
state_pending false false false = refl

-- so its state is pending
pub pending_is : (g : Gateway) (a : ℕ) → pending_in g.active (owner_of g a) a ≡ is_pending g a
unfolding pending_in is_pending state_in record_from
pending_is g a = sym (state_pending (some (row g.active a)) (is_set g.waiting a) (some (members_up g.up g.member a)))

-- ---- the place of the link that is named

-- there is a link at l, and l is its index
pub record Placed (links l : ℕ) (there : Bool) (index : ℕ) : Type 0 where
  pub there_is : there ≡ ltb l links
  pub index_is : there ≡ true → index ≡ l
  pub small : index < 128

pub at_link : {links l : ℕ} {there : Bool} {index : ℕ} → Placed links l there index → l < links → index ≡ l
at_link {links} {l} h b = h.index_is (h.there_is ∙ lt-ltb l links b)

-- the link that a message names: only one of class 6 names one
abbrev pub link_in : ℕ → List ℕ → Reading → ℕ
link_in links iid r = cond (eqb r.class 6) (index_of iid links r.id) links
