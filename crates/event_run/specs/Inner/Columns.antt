-- The columns and the records that decisions ask.
-- Assumes nothing.
use Rattle.std.specs.Prelude.{ℕ, ◌<◌, ◌≡◌, refl, Bool, true, List}
use Rattle.std.proofs.Common.{◌∙◌, arith, eq-eqb}
use Rattle.laws.specs.Columns.{number_at}
use Rattle.state_tables.specs.Sound.{is_sound}
use Rattle.state_tables.specs.Inner.Column.{column_any}
use Rattle.state_tables.specs.Inner.Laws.{parts, links_parts, counts_within}
use Rattle.codec_read.specs.declared.Reading.{Reading}
use Rattle.state_tables.specs.declared.Gateway.{Gateway}
use Rattle.state_tables.specs.State.{gateway_of, units_of}
use Rattle.state_lookup.specs.Links.{index_of, known}
use Rattle.rules_event.specs.Identifiers.{link_of, owner_at}
use Rattle.rules_event.specs.Link.{recipients_of, link_up_on, link_up_effect, link_down_on, link_down_effect, link_message_on, link_message_effect}
use Rattle.rules_event.specs.declared.Asp.{Asp}
use Rattle.rules_event.specs.declared.Link.{Link}
use Rattle.rules_event.specs.declared.Owner.{Owner}
use Rattle.rules_event.specs.declared.Sender.{Sender}
use Rattle.rules_event.specs.Records.{link_at, owner_of, asp_at}
use Rattle.event_links.specs.Inner.Records.{sender_from, pending_in, pending_is, Placed, at_link, link_in}
use Rattle.event_links.specs.Inner.Side.{Side}
use Rattle.event_asked.specs.Inner.Place.{asp_in, asp_is}
use Rattle.event_run.specs.declared.Columns.{Columns}
use Rattle.event_others.specs.Inner.Other.{other_effect, other_in, other_in_lem}

-- the state whose columns are lent
abbrev pub state_in : Columns → Gateway
state_in s =
    gateway_of s.asps s.ases s.links s.spare s.aspid.now s.up.now s.member.now s.active.now s.mode.now s.waiting.now s.iid.now s.owner.now s.state.now s.highspeed.now s.wholelists.now
    (units_of s.count.now s.tag.now s.len.now s.marked.now s.id.now s.correlation.now)

-- the state g has these columns, k at the place i of its links, o for the AS that owns that, and s at the
-- place q of its ASPs
pub record AskColumns (i : ℕ) (k : Link) (o : Owner) (q : ℕ) (s : Asp) (links : ℕ) (member active mode iid owner : List ℕ) (g : Gateway) : Type 0 where
  pub link_is : link_at g i ≡ k
  pub owned_by : owner_of g k.owner ≡ o
  pub asp_is : asp_at g q ≡ s
  pub links_is : g.links ≡ links
  pub member_is : g.member ≡ member
  pub active_is : g.active ≡ active
  pub mode_is : g.mode ≡ mode
  pub iid_is : g.iid ≡ iid
  pub owner_is : g.owner ≡ owner

-- an ASP of the plan is at its own place
pub asp_at_lem : (g : Gateway) (p : ℕ) {q : ℕ} {s : Asp} → p < 16 → q ≡ asp_in p → asp_at g q ≡ s → asp_at g p ≡ s
asp_at_lem g p b e h = let z = e ∙ asp_is p b in rw z at h

-- the owner at any place of the links, also where there is none
pub owner_any : (g : Gateway) → is_sound g ≡ true → (l : ℕ) → l < 128 → number_at g.owner l < 16
owner_any g h l b =
    let n = counts_within g h in
    let p = links_parts g.iid g.owner g.state g.ases g.links (parts g h).in_links in
    omega (arith, n.ases, column_any g.owner g.ases g.links 128 p.owned n.some_ases l b)

-- ---- what is decided of the records is the rules' on each such state

pub up_on : (g : Gateway) (l : ℕ) {active : List ℕ} {i links : ℕ} {there : Bool} {k : Link} {o : Owner} → g.active ≡ active → link_at g i ≡ k → owner_of g k.owner ≡ o
    → Placed links l there i → l < links → link_up_on i k (recipients_of active k o) ≡ link_up_effect g l
unfolding link_up_effect
up_on g l a b c q d = rw (← c, ← b, ← a, at_link q d) refl

pub down_on : (g : Gateway) (l : ℕ) {active : List ℕ} {i links : ℕ} {there : Bool} {k : Link} {o : Owner} → g.active ≡ active → link_at g i ≡ k → owner_of g k.owner ≡ o
    → Placed links l there i → l < links → link_down_on i k (recipients_of active k o) ≡ link_down_effect g l
unfolding link_down_effect
down_on g l a b c q d = rw (← c, ← b, ← a, at_link q d) refl

-- the place of the link that a message of the link side names
place_six : (iid : List ℕ) (links : ℕ) (r : Reading) {there : Bool} {i : ℕ} → Placed links (link_in links iid r) there i → Side iid links r → i ≡ index_of iid links r.id
unfolding known
place_six iid links r q s = let z = rw (eq-eqb r.class 6 s.class) at q in z.index_is (z.there_is ∙ s.there)

link_of_lem : (g : Gateway) (x : ℕ) {iid : List ℕ} {links : ℕ} → g.iid ≡ iid → g.links ≡ links → index_of iid links x ≡ link_of g x
unfolding link_of
link_of_lem g x e f = rw (← e, ← f)

pub message_on : (g : Gateway) (s : List ℕ) (r : Reading) {active iid : List ℕ} {i links : ℕ} {there : Bool} {k : Link} {o : Owner} → g.active ≡ active → g.iid ≡ iid → g.links ≡ links
    → link_at g i ≡ k → owner_of g k.owner ≡ o → Placed links (link_in links iid r) there i → Side iid links r → link_message_on (pending_in active o k.owner) s k o (recipients_of active k o) r ≡ link_message_effect g s r
unfolding link_message_effect
message_on g s r {iid = iid} {links = links} a x y b c q t = rw (← c, ← b, ← a, place_six iid links r q t ∙ link_of_lem g r.id x y, pending_is g (owner_at g (link_of g r.id)))

pub other_on : (g : Gateway) (p : ℕ) (wrong : Bool) (r : Reading) {member active iid : List ℕ} {i links a : ℕ} {there : Bool} {k : Link} {u : Asp} {s : Sender}
    → asp_at g p ≡ u → g.member ≡ member → g.active ≡ active → g.iid ≡ iid → g.links ≡ links → link_at g i ≡ k → a ≡ k.owner → s ≡ sender_from u member active a p
    → Placed links (link_in links iid r) there i → other_in there p i k s wrong r ≡ other_effect g p wrong r
other_on g p wrong r {i = i} {there = there} u m c x y b e f q = rw (f, e, ← b, ← u, ← m, ← c) (other_in_lem g p wrong r there i (rw (← x, ← y) at q))
