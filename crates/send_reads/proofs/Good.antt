-- The actions that the rules name, kind by kind: each goes to the link side, or sends a unit held, or goes
-- out as a message that the reader accepts.
-- Assumes nothing.
use mathlib.Core.Path.{◌≡◌, refl}
use mathlib.Core.Bool.{Bool, true, false, cond}
use mathlib.Core.List.{List, [], ◌∷◌}
use mathlib.Core.Logic.{◌⊎◌, inl, inr}
use Prim.Native.Nat.{ℕ, ◌/◌, ◌%◌, ◌≤◌}
use native.Mathlib.Decide.{ℕ_discrete}
use lib.Dec.{eqb}
use lib.ListN.{length}
use borrow.Author.Tests.{eqb-false, ne_eqb}
use Rattle.codec_wire.specs.Walk.{Par}
use Rattle.codec_parameter.specs.Table.{table, row_in}
use Rattle.codec_read.specs.Verdict.{most, in_turn}
use Rattle.codec_put.specs.Bytes.{par}
use Rattle.codec_write.specs.Encode.{size_of}
use Rattle.codec_write.proofs.Verdicts.{list_code}
use Rattle.state_tables.specs.declared.Gateway.{Gateway}
use Rattle.rules_action.specs.declared.Action.{Action}
use Rattle.rules_action.specs.Types.{mgmt_error, mgmt_notify, asp_up_ack, asp_down_ack, beat_ack, asp_active_ack, asp_inactive_ack, establish_confirm, release_confirm, release_indication, data_ack}
use Rattle.rules_server.specs.Units.{sending}
use Rattle.rules_action.specs.Words.{action, link_side}
use Rattle.rules_event.specs.Sent.{is_data}
use Rattle.send_message.specs.Message.{number_par, ids_of, ids_par, error_pars, notify_pars, link_pars, reply_pars}
use Rattle.send_reads.proofs.Numbers.{largest, ids_fours}
use Rattle.send_reads.proofs.Lists.{error_list, notify_none, notify_ids, up_list, down_list, link_list, data_list}
use Rattle.send_reads.proofs.Effects.{Holds}
use Rattle.send_reads.proofs.Acks.{beat_list, active_list, inactive_list}

-- an action whose parameters q gives: it goes to the link side, or is Data to an ASP, whose unit is looked at
-- elsewhere, or its message is accepted
unfoldable pub Good : (Action → List Par) → Action → Type 0
Good q o = (o.to ≡ link_side) ⊎ ((is_data o ≡ true) ⊎ (list_code (o.classtype / 256) (o.classtype % 256) (q o) ≡ 0))

good_side : (q : Action → List Par) (k x v : ℕ) → Good q (action link_side k x v)
unfolding Good
good_side q k x v = inl refl

good_unit : (q : Action → List Par) (p : ℕ) (id : List ℕ) (i : ℕ) → Good q (sending p id i)
unfolding Good is_data
good_unit q p id i = go (ℕ_discrete p link_side)
  where
    go : Dec (p ≡ link_side) → Good q (sending p id i)
    go (yes z) = inl z
    go (no z) = inr (inl (rw (ne_eqb p link_side z)))

-- ---- replies; ps are the parameters of the message that they answer

module _ (g : Gateway) (hold : List ℕ) (ps : List Par) (i : ℕ) where
  good_error : (p x n : ℕ) → n ≤ largest → Good (reply_pars g hold ps i) (action p mgmt_error x n)
  unfolding Good reply_pars error_pars
  good_error p x n h = inr (inr (error_list x n (eqb n 2) h))

  good_notify : g.links ≤ 128 → (p a n : ℕ) → n ≤ largest → Good (reply_pars g hold ps i) (action p mgmt_notify a n)
  unfolding Good reply_pars notify_pars ids_par
  good_notify b p a n h = inr (inr (go (eqb (length (ids_of g a)) 0) refl))
    where
      go : (u : Bool) → eqb (length (ids_of g a)) 0 ≡ u → list_code 0 1 (number_par 0xd n ∷ cond u [] (par 0x1 (ids_of g a) ∷ [])) ≡ 0
      go true e = notify_none n h
      go false e = notify_ids n g.links (ids_of g a) h (ids_fours g a) b (eqb-false _ _ e)

  good_up : (p : ℕ) → Good (reply_pars g hold ps i) (action p asp_up_ack 0 0)
  unfolding Good reply_pars
  good_up p = inr (inr up_list)

  good_down : (p : ℕ) → Good (reply_pars g hold ps i) (action p asp_down_ack 0 0)
  unfolding Good reply_pars
  good_down p = inr (inr down_list)

  -- each answers a message of its own row
  pub good_beat : size_of ps ≤ most → in_turn (row_in table 3 3) [] ps ≡ 0 → (p : ℕ) → Good (reply_pars g hold ps i) (action p beat_ack 0 0)
  unfolding Good reply_pars
  good_beat h e p = inr (inr (beat_list ps e h))

  pub good_active : g.links ≤ 128 → size_of ps ≤ most → in_turn (row_in table 4 1) [] ps ≡ 0 → (p : ℕ) → Good (reply_pars g hold ps i) (action p asp_active_ack 0 0)
  unfolding Good reply_pars
  good_active b h e p = inr (inr (active_list g p ps b e h))

  pub good_inactive : g.links ≤ 128 → size_of ps ≤ most → in_turn (row_in table 4 2) [] ps ≡ 0 → (p : ℕ) → Good (reply_pars g hold ps i) (action p asp_inactive_ack 0 0)
  unfolding Good reply_pars
  good_inactive b h e p = inr (inr (inactive_list g p ps b e h))

  good_data : (p x n : ℕ) → Good (reply_pars g hold ps i) (action p data_ack x n)
  unfolding Good reply_pars link_pars
  good_data p x n = inr (inr (data_list x n))

  good_established : (p x v : ℕ) → Good (reply_pars g hold ps i) (action p establish_confirm x v)
  unfolding Good reply_pars link_pars
  good_established p x v = inr (inr (link_list x 3 (inl refl)))

  good_released : (p x v : ℕ) → Good (reply_pars g hold ps i) (action p release_confirm x v)
  unfolding Good reply_pars link_pars
  good_released p x v = inr (inr (link_list x 5 (inr (inl refl))))

  good_stopped : (p x v : ℕ) → Good (reply_pars g hold ps i) (action p release_indication x v)
  unfolding Good reply_pars link_pars
  good_stopped p x v = inr (inr (link_list x 6 (inr (inr refl))))

  -- so all of them are, that do not repeat some of what they answer
  pub all_good : g.links ≤ 128 → Holds (Good (reply_pars g hold ps i))
  all_good b =
      record {
        errors = good_error;
        notes = good_notify b;
        units = good_unit (reply_pars g hold ps i);
        sides = λ k x v e. good_side (reply_pars g hold ps i) k x v;
        up_acked = good_up;
        down_acked = good_down;
        data_acked = good_data;
        established = good_established;
        released = good_released;
        stopped = good_stopped;
      }
