-- The link that an event names, its place, and whether what the event names is in the plan.
-- Assumes nothing.
use Rattle.std.specs.Prelude.{ℕ, ◌<◌, ◌≡◌, refl, Bool, true, false, cond, List, ltb}
use Rattle.std.proofs.Common.{sym, ◌∙◌, arith, lt-ltb, le-ltb}
use Rattle.std.proofs.Math.Decide.{dec_lt}
use Rattle.state_tables.specs.Sound.{is_sound}
use Rattle.state_tables.specs.declared.Gateway.{Gateway}
use Rattle.rules_event.specs.Event.{Lent}
use Rattle.rules_event.specs.Rules.{refusal_of}
use Rattle.rules_event.specs.Inner.Accepted.{unsound}
use Rattle.rules_event.specs.declared.Link.{Link}
use Rattle.rules_event.specs.Records.{link_at}
use Rattle.event_links.specs.Inner.Records.{Placed, link_in}
use Rattle.event_links.specs.Inner.Side.{passes_in, passes_in_lem}
use Rattle.event_asked.specs.declared.Ask.{Ask}
use Rattle.event_asked.specs.declared.Ask.TheVariants.{Up, Down, Traffic, Other, Lost, Recovery, LinkUp, LinkDown, LinkMessage}
use Rattle.event_asked.specs.Inner.Ask.{ask_known}

-- the index of the link, and the number of links where it names none
abbrev pub link_named : ℕ → List ℕ → Ask → ℕ
link_named links iid (Up p r) = links
link_named links iid (Down p) = links
link_named links iid (Traffic p r on) = links
link_named links iid (Other p r wrong) = link_in links iid r
link_named links iid (Lost p) = links
link_named links iid (Recovery a) = links
link_named links iid (LinkUp l) = l
link_named links iid (LinkDown l) = l
link_named links iid (LinkMessage r) = link_in links iid r

abbrev pub Named : ℕ → List ℕ → Ask → Bool → ℕ → Type 0
Named links iid ask there index = Placed links (link_named links iid ask) there index

-- the ASP that it comes from, and 0 where there is none
abbrev pub asp_named : Ask → ℕ
asp_named (Up p r) = p
asp_named (Down p) = p
asp_named (Traffic p r on) = p
asp_named (Other p r wrong) = p
asp_named (Lost p) = p
asp_named (Recovery a) = 0
asp_named (LinkUp l) = 0
asp_named (LinkDown l) = 0
asp_named (LinkMessage r) = 0

-- its place, which is one of the table also where the event names none
unfoldable pub asp_in : ℕ → ℕ
asp_in p = cond (ltb p 16) p 0

pub asp_small : (p : ℕ) → asp_in p < 16
unfolding asp_in
asp_small p = go (dec_lt p 16)
  where
    go : Dec (p < 16) → cond (ltb p 16) p 0 < 16
    go (yes z) = rw (lt-ltb p 16 z) z
    go (no z) = rw (le-ltb p 16 (omega arith)) (omega arith)

pub asp_is : (p : ℕ) → p < 16 → asp_in p ≡ p
unfolding asp_in
asp_is p b = rw (lt-ltb p 16 b)

pub asp_none : 0 ≡ asp_in 0
unfolding asp_in
asp_none = refl

-- what it names is in the plan: there and k are the link
abbrev pub known_in : ℕ → ℕ → Bool → Link → Ask → Bool
known_in asps ases there k (Up p r) = ltb p asps
known_in asps ases there k (Down p) = ltb p asps
known_in asps ases there k (Traffic p r on) = ltb p asps
known_in asps ases there k (Other p r wrong) = ltb p asps
known_in asps ases there k (Lost p) = ltb p asps
known_in asps ases there k (Recovery a) = ltb a ases
known_in asps ases there k (LinkUp l) = there
known_in asps ases there k (LinkDown l) = there
known_in asps ases there k (LinkMessage r) = passes_in there k r

pub known_in_lem : (g : Gateway) (ask : Ask) (there : Bool) (i : ℕ) → Named g.links g.iid ask there i
    → known_in g.asps g.ases there (link_at g i) ask ≡ ask_known g ask
known_in_lem g (Up p r) there i h = refl
known_in_lem g (Down p) there i h = refl
known_in_lem g (Traffic p r on) there i h = refl
known_in_lem g (Other p r wrong) there i h = refl
known_in_lem g (Lost p) there i h = refl
known_in_lem g (Recovery a) there i h = refl
known_in_lem g (LinkUp l) there i h = h.there_is
known_in_lem g (LinkDown l) there i h = h.there_is
known_in_lem g (LinkMessage r) there i h = passes_in_lem g r there i h

-- the refusal by the record is that by the state
pub refusal_in_lem : (g : Gateway) (ask : Ask) (sound there : Bool) (i : ℕ) (lent : Lent) → sound ≡ is_sound g → (sound ≡ true → Named g.links g.iid ask there i)
    → refusal_of sound (known_in g.asps g.ases there (link_at g i) ask) lent ≡ refusal_of (is_sound g) (ask_known g ask) lent
refusal_in_lem g ask sound there i lent q n = go sound refl
  where
    go : (u : Bool) → sound ≡ u
        → refusal_of sound (known_in g.asps g.ases there (link_at g i) ask) lent ≡ refusal_of (is_sound g) (ask_known g ask) lent
    go true e = λ j. refusal_of (q j) (known_in_lem g ask there i (n e) j) lent
    go false e = sym (unsound sound _ lent e) ∙ unsound (is_sound g) _ lent (sym q ∙ e)
