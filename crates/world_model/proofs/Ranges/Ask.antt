-- Ask: what a member shows of its log has a spelling.
use Rattle.std.proofs.Common.{◌≡◌, ◌≢◌, ℕ, ◌-◌, ◌≤◌, false, List, [], ◌∷◌, length, drop, refl, sym, subst, arith, length-drop}
use Rattle.std.specs.List.{All}
use Rattle.coded_append.specs.Batches.{batch_of}
use Rattle.craft_base.specs.Shape.{Shape, IsShape}
use Rattle.craft_base.specs.declared.command.Entry.{Entry}
use Rattle.entry_frames.specs.Formats.{Fits, Format, U8, U64, Value}
use Rattle.entry_frames.specs.Limits.{last_place, most_entries, most_entry_bytes}
use Rattle.entry_frames.specs.Logs.{last_index}
use Rattle.entry_frames.specs.MessageFields.{answer_fields, entries_fields, most_up_to}
use Rattle.entry_frames.specs.MessageParts.{entries_of}
use Rattle.entry_frames.specs.declared.peer.Peer.{Peer}
use Rattle.entry_frames.specs.declared.peer.Peer.TheVariants as peers
use Rattle.entry_frames.specs.declared.role.Role.{Role}
use Rattle.entry_frames.specs.declared.role.Role.TheVariants.{Follower, Candidate, Preparing, Leader}
use Rattle.entry_frames.proofs.Formats.{embed_fits}
use Rattle.world_model.specs.Nodes.{Node}
use Rattle.world_model.specs.Ranges.{IsMember, IsOfNoLog, NodeInRange}
use Rattle.world_model.specs.Rules.Acts.{message_of, stays}
use Rattle.world_model.specs.Rules.Append.{following}
use Rattle.world_model.specs.Rules.Ask.{act_of_ask, act_of_ask_as, act_of_asked, act_of_showing, page_from}
use Rattle.world_model.proofs.Frames.{fits_within}
use Rattle.world_model.proofs.Ranges.Acts.{ActInRange, before_in_range, in_volatile, one_message_fits, sending_in_range, stays_in_range}
use Rattle.world_model.proofs.Ranges.Batches.{dropped_are, fitting_few, fitting_fits, fitting_short}
use Rattle.world_model.proofs.Ranges.Knowing.{knows_as}

module _ {shape : Shape} {member : ℕ} {n : Node} (a : NodeInRange shape member n) (start : ℕ) (least : 1 ≤ start) (most : start ≤ last_place) where
  abbrev left : List Entry
  left = drop (start - 1) n.durable.log

  abbrev shown : List Entry
  shown = batch_of shape.need left

  abbrev page : Peer
  page = peers.Answer start (last_index n.durable.log) shown

  abbrev made : List Entry → Format Peer
  made es = Value (peers.Answer start (last_index n.durable.log) es)

  shown_fits : Fits (answer_fields shape.need n.durable.term) page
  shown_fits =
      let rest : length left ≡ length n.durable.log - (start - 1) = length-drop (start - 1) n.durable.log in
      let few : length shown ≤ most_entries = fitting_few shape.need most_entries most_entry_bytes left in
      let short : length shown ≤ length left = fitting_short shape.need most_entries most_entry_bytes left in
      let count : length shown ≤ most_up_to start (length n.durable.log) = omega (arith, few, short, rest, least) in
      let are : Fits (entries_fields shape.need false n.durable.term (length shown) 0 most_entry_bytes) shown =
      fitting_fits shape.need n.durable.term false 0 0 most_entries most_entry_bytes left (omega arith)
      (dropped_are shape.need 0 n.durable.term (start - 1) n.durable.log a.durable.stored.entries) in (
        fits_within U64 1 last_place start (omega (arith, most)) least most,
        (
          fits_within U64 0 last_place (length n.durable.log) (omega (arith, a.durable.short)) (omega arith) a.durable.short,
          (
            fits_within U8 0 (most_up_to start (length n.durable.log)) (length shown) (omega (arith, few)) (omega arith) count,
            embed_fits (entries_fields shape.need false n.durable.term (length shown) 0 most_entry_bytes) entries_of made page are refl,
          ),
        ),
      )

  abbrev page_with : Shape → Peer
  page_with s = peers.Answer start (last_index n.durable.log) (batch_of s.need left)

  pub page_fits : Fits (answer_fields shape.need n.durable.term) (page_from n start)
  page_fits = subst (λ (s : Shape). Fits (answer_fields shape.need n.durable.term) (page_with s)) (sym a.of_shape) shown_fits

module _
    {shape : Shape} (is : IsShape shape) {member : ℕ} (asker : ℕ) (is_member : IsMember shape asker) (apart : asker ≢ member)
    (start : ℕ) (least : 1 ≤ start) (most : start ≤ last_place) {n : Node} (a : NodeInRange shape member n) (begun : 1 ≤ n.durable.term) where
  asked_in_range : All IsOfNoLog n.volatile.heard → ActInRange shape member n (act_of_asked asker start n)
  asked_in_range none =
      let now : Node = record n { volatile = following asker n } in
      let at : NodeInRange shape member now = in_volatile a (following asker n) (is_member, a.clients.1) none a.pages in
      before_in_range (following asker n) (act_of_showing asker start now)
      (sending_in_range (message_of now (page_from now start) asker ∷ []) (stays now)
      (one_message_fits is at begun (page_from now start) asker is_member apart (page_fits at start least most)) (stays_in_range at))

  ask_as_in_range : (role : Role) → n.volatile.role ≡ role → ActInRange shape member n (act_of_ask_as role n asker start)
  ask_as_in_range Follower e = asked_in_range (knows_as a Follower e)
  ask_as_in_range Candidate e = asked_in_range (knows_as a Candidate e)
  ask_as_in_range Preparing e = stays_in_range a
  ask_as_in_range Leader e = stays_in_range a

  pub ask_in_range : ActInRange shape member n (act_of_ask n asker start)
  ask_in_range = ask_as_in_range n.volatile.role refl
