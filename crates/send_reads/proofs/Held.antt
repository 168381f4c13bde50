-- The message of a unit held in a sound state: the reader accepts it, and it is short.
-- Assumes nothing.
use mathlib.Core.Path.{◌≡◌}
use mathlib.Core.Bool.{true, ◌||◌, ◌&&◌}
use mathlib.Core.List.{List}
use Prim.Native.Nat.{ℕ, ◌+◌, ◌*◌, ◌/◌, ◌%◌, ◌<◌, ◌≤◌}
use native.Mathlib.Omega.{arith}
use lib.Dec.{eqb, leb}
use lib.ListN.{length, length-take, length-drop}
use borrow.Author.Tests.{lt-ltb, leb-true}
use Rattle.laws.specs.Columns.{number_at}
use Rattle.laws.specs.Inner.Every.{and_left, and_right}
use Rattle.codec_read.specs.Verdict.{most}
use Rattle.codec_write.specs.Encode.{size_of}
use Rattle.codec_write.proofs.Verdicts.{list_code}
use Rattle.state_tables.specs.Sound.{unit_at, is_sound}
use Rattle.state_tables.specs.Inner.Laws.{parts}
use Rattle.state_tables.specs.declared.Gateway.{Gateway}
use Rattle.rules_action.specs.declared.Action.{Action}
use Rattle.rules_keeps.specs.Inner.Units.{held}
use Rattle.rules_event.specs.Effect.{hold_bytes}
use Rattle.send_message.specs.Message.{held_body, unit_pars}
use Rattle.send_reads.proofs.Lists.{unit_size, unit_list_lem}

-- what a sound state says of its protocol data
pub record Kept (g : Gateway) (i : ℕ) : Type 0 where
  pub tagged : (eqb (number_at g.held.tag i) 0x300 || eqb (number_at g.held.tag i) 0x301) ≡ true
  pub least : 5 ≤ number_at g.held.length i
  pub most_bytes : number_at g.held.length i ≤ 277

module _ (g : Gateway) (sound : is_sound g ≡ true) (i : ℕ) (b : i < 128) (h : i % 8 < number_at g.held.count (i / 8)) where
  pub kept : Kept g i
  unfolding unit_at
  kept =
      let p = (held g.held g.waiting g.iid g.owner g.links (parts g sound).in_units (i / 8) (omega arith)).places (i % 8) (omega arith) in
      let e : i / 8 * 8 + i % 8 ≡ i = omega arith in
      let u = rw (lt-ltb (i % 8) (number_at g.held.count (i / 8)) h, e) at p in
      let tags = eqb (number_at g.held.tag i) 0x300 || eqb (number_at g.held.tag i) 0x301 in
      let low = leb 5 (number_at g.held.length i) in
      let high = leb (number_at g.held.length i) 277 in
      let l = and_left (tags && (low && high)) _ u in
      let r = and_right tags (low && high) l in
      record {
        tagged = and_left tags (low && high) l;
        least = leb-true 5 (number_at g.held.length i) (and_left low high r);
        most_bytes = leb-true (number_at g.held.length i) 277 (and_right low high r);
      }

  module _ (hold : List ℕ) where
    body_most : length (held_body g hold i) ≤ 273
    unfolding held_body
    body_most = let k = kept in rw length-take (omega arith)

    -- its place is within a hold
    body_least : length hold ≡ hold_bytes → 1 ≤ length (held_body g hold i)
    unfolding held_body
    body_least e = let k = kept in rw (length-take, length-drop, e) (omega arith)

    pub short : (o : Action) → size_of (unit_pars g hold i o) ≤ most
    unfolding unit_pars
    short o = unit_size o.subject (number_at g.held.tag i) (held_body g hold i) (eqb (number_at g.held.marked i) 1) (number_at g.held.correlation i) body_most

    pub accepts : length hold ≡ hold_bytes → (o : Action) → list_code 6 1 (unit_pars g hold i o) ≡ 0
    unfolding unit_pars
    accepts e o =
        unit_list_lem o.subject (number_at g.held.tag i) (held_body g hold i) (eqb (number_at g.held.marked i) 1) (number_at g.held.correlation i)
        kept.tagged (body_least e) body_most
