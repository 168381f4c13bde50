-- The place of the link that a message of class 6 names (Rule 7.14).
-- Assumes nothing.
use Rattle.std.specs.Prelude.{◌≡◌, refl, Bool, true, false, ℕ}
use Rattle.std.proofs.Common.{ap, ◌∙◌}
use Rattle.codec_read.specs.declared.Reading.{Reading}
use Rattle.state_tables.specs.declared.Gateway.{Gateway}
use Rattle.state_lookup.specs.Links.{known}
use Rattle.rules_event.specs.Effect.{Effect}
use Rattle.rules_event.specs.Identifiers.{is_known, link_of, owner_at}
use Rattle.rules_event.specs.Records.{link_at, sender_of}
use Rattle.rules_event.specs.Link.{class_six_on, class_six_effect}
use Rattle.event_links.specs.Inner.Records.{Placed}

-- ---- the link of the message: at the place i, or there is none, and then its record is not asked

abbrev six_at : Gateway → Bool → ℕ → ℕ → Reading → Effect
six_at g there p l r = class_six_on there p l (link_at g l) (sender_of g (owner_at g l) p) r

none_there : (g : Gateway) (p i l : ℕ) (r : Reading) → six_at g false p i r ≡ six_at g false p l r
unfolding class_six_on
none_there g p i l r = refl

known_is : (g : Gateway) (x : ℕ) {there : Bool} {i : ℕ} → Placed g.links (link_of g x) there i → there ≡ is_known g x
unfolding is_known known link_of
known_is g x h = h.there_is

pub six_in : (g : Gateway) (p : ℕ) (r : Reading) (there : Bool) (i : ℕ) → Placed g.links (link_of g r.id) there i → six_at g there p i r ≡ class_six_effect g p r
unfolding class_six_effect
six_in g p r there i h = go there refl ∙ ap (λ (u : Bool). six_at g u p (link_of g r.id) r) (known_is g r.id h)
  where
    go : (u : Bool) → there ≡ u → six_at g there p i r ≡ six_at g there p (link_of g r.id) r
    go true e = ap (λ (l : ℕ). six_at g there p l r) (h.index_is e)
    go false e = rw e (none_there g p i (link_of g r.id) r)
