-- What a leader sends of its log has a spelling.
use Rattle.std.proofs.Common.{◌≡◌, ◌≢◌, ℕ, zero, suc, ◌-◌, ◌≤◌, ◌==◌, true, false, List, [], ◌∷◌, length, drop, map, refl, sym, subst, arith, length-drop}
use Rattle.std.specs.List.{All}
use Rattle.std.proofs.lemmas.Bool.{ne_eqb}
use Rattle.std.proofs.lemmas.List.{length-map}
use Rattle.std.proofs.lemmas.List.Elements.{All-nil, All-cons}
use Rattle.craft_base.specs.Shape.{Shape, IsShape}
use Rattle.craft_base.specs.declared.command.Entry.{Entry}
use Rattle.entry_frames.specs.Formats.{Fits, FitsNumber, Format, U8, U64, Value, within}
use Rattle.entry_frames.specs.Limits.{last_place, most_entries, most_entry_bytes}
use Rattle.entry_frames.specs.Logs.{term_at}
use Rattle.entry_frames.specs.MessageFields.{append_fields, entries_fields, greatest_with, least_with, most_behind}
use Rattle.entry_frames.specs.MessageParts.{entries_of}
use Rattle.entry_frames.specs.Stored.{AreEntries}
use Rattle.entry_frames.specs.declared.peer.Peer.{Peer}
use Rattle.entry_frames.specs.declared.peer.Peer.TheVariants as peers
use Rattle.entry_frames.specs.declared.role.Role.TheVariants.{Leader}
use Rattle.entry_frames.proofs.Formats.{embed_fits}
use Rattle.entry_frames.proofs.Stored.{term_most}
use Rattle.coded_append.specs.Batches.{batch_of, before_part, sent_to}
use Rattle.coded_append.specs.declared.modes.Mode.{Mode}
use Rattle.coded_append.specs.declared.modes.Mode.TheVariants as modes
use Rattle.world_model.specs.Nodes.{Node}
use Rattle.world_model.specs.Ranges.{HasSpelling, IsMember, NodeInRange}
use Rattle.world_model.specs.Rules.Acts.{stays}
use Rattle.world_model.specs.Rules.Say.{act_of_saying, append_from, append_if_any, append_to, append_with, appends_to_others, batch_for, batch_in, mode_of_leader, start_of}
use Rattle.world_model.proofs.Frames.{fits_within}
use Rattle.world_model.proofs.Ranges.Acts.{ActInRange, message_of_fits, sending_in_range, stays_in_range, to_others_fit}
use Rattle.world_model.proofs.Ranges.Batches.{before_are, before_short, fitting_few, fitting_fits, fitting_short, sent_are}
use Rattle.world_model.proofs.Ranges.Knowing.{knows_as, leader_begun}
use Rattle.world_model.proofs.Ranges.Orders.{behind, term_above}
use Rattle.world_model.proofs.Ranges.Starts.{IsPlace, starts_within}

module _ {shape : Shape} {member : ℕ} {n : Node} (a : NodeInRange shape member n) where
  -- the term at an index of the log
  pub term_before_fits :
      (prev : ℕ) → prev ≤ length n.durable.log → FitsNumber true U64 (within (least_with prev) (greatest_with prev n.durable.term)) (term_at n.durable.log prev)
  term_before_fits zero le = fits_within U64 0 0 0 (omega arith) (omega arith) (omega arith)
  term_before_fits (suc p) le =
      let stored = a.durable.stored in
      let most : term_at n.durable.log (suc p) ≤ n.durable.term = term_most shape.need 0 n.durable.term n.durable.log (suc p) stored.entries in
      let some : (suc p == 0) ≡ false = ne_eqb (suc p) 0 (λ e. omega (arith, e)) in
      rw some (fits_within U64 1 n.durable.term (term_at n.durable.log (suc p)) (omega (arith, most, stored.term_most))
      (term_above shape.need 0 n.durable.term p n.durable.log stored.entries le) most)

  abbrev said : ℕ → List Entry → Peer
  said prev front = peers.Append prev (term_at n.durable.log prev) n.durable.commit (batch_of shape.need front)

  abbrev made : ℕ → List Entry → Format Peer
  made prev es = Value (peers.Append prev (term_at n.durable.log prev) n.durable.commit es)

  -- entries in order behind an index of the log, no more of them than are there
  said_fits :
      (prev : ℕ) (front : List Entry) → prev ≤ length n.durable.log → length front ≤ length (drop prev n.durable.log) →
      AreEntries shape.need (term_at n.durable.log prev) n.durable.term front → Fits (append_fields shape.need n.durable.term) (said prev front)
  said_fits prev front le within are =
      let sent : List Entry = batch_of shape.need front in
      let left : length (drop prev n.durable.log) ≡ length n.durable.log - prev = length-drop prev n.durable.log in
      let few : length sent ≤ most_entries = fitting_few shape.need most_entries most_entry_bytes front in
      let short : length sent ≤ length front = fitting_short shape.need most_entries most_entry_bytes front in
      let count : length sent ≤ most_behind prev = omega (arith, few, short, within, left, a.durable.short) in
      let fit : Fits (entries_fields shape.need true n.durable.term (length sent) (term_at n.durable.log prev) most_entry_bytes) sent =
      fitting_fits shape.need n.durable.term true (term_at n.durable.log prev) (term_at n.durable.log prev) most_entries most_entry_bytes front (omega arith) are in (
        fits_within U64 0 last_place prev (omega (arith, le, a.durable.short)) (omega arith) (omega (arith, le, a.durable.short)),
        (
          term_before_fits prev le,
          (
            fits_within U64 0 last_place n.durable.commit (omega (arith, a.durable.commit, a.durable.short)) (omega arith) (omega (arith, a.durable.commit, a.durable.short)),
            (
              fits_within U8 0 (most_behind prev) (length sent) (omega (arith, few)) (omega arith) count,
              embed_fits (entries_fields shape.need true n.durable.term (length sent) (term_at n.durable.log prev) most_entry_bytes) entries_of (made prev) (said prev front) fit refl,
            ),
          ),
        ),
      )

  -- in either mode
  abbrev from_in : Mode → (need receiver start : ℕ) → Peer
  from_in mode need receiver start =
      peers.Append (start - 1) (term_at n.durable.log (start - 1)) n.durable.commit (batch_in mode need receiver n.durable.log start)

  in_mode : (mode : Mode) (receiver start : ℕ) → IsPlace (length n.durable.log) start → Fits (append_fields shape.need n.durable.term) (from_in mode shape.need receiver start)
  in_mode modes.Complete receiver start place =
      let prev : ℕ = start - 1 in
      let le : prev ≤ length n.durable.log = omega (arith, place.0, place.1) in
      said_fits prev (before_part (drop prev n.durable.log)) le (before_short (drop prev n.durable.log))
      (before_are shape.need (term_at n.durable.log prev) n.durable.term (drop prev n.durable.log) (behind shape.need n.durable.term prev n.durable.log a.durable.stored.entries le))
  in_mode modes.Coded receiver start place =
      let prev : ℕ = start - 1 in
      let le : prev ≤ length n.durable.log = omega (arith, place.0, place.1) in
      let front : List Entry = before_part (drop prev n.durable.log) in
      said_fits prev (map (sent_to shape.need receiver) front) le
      (omega (arith, length-map front (sent_to shape.need receiver), before_short (drop prev n.durable.log)))
      (sent_are shape.need receiver (term_at n.durable.log prev) n.durable.term (drop prev n.durable.log)
      (behind shape.need n.durable.term prev n.durable.log a.durable.stored.entries le))

  pub append_fits : (receiver start : ℕ) → IsPlace (length n.durable.log) start → Fits (append_fields shape.need n.durable.term) (append_from n receiver start)
  append_fits receiver start place =
      subst (λ (s : Shape). Fits (append_fields shape.need n.durable.term) (from_in (mode_of_leader n) s.need receiver start)) (sym a.of_shape)
      (in_mode (mode_of_leader n) receiver start place)

module _ {shape : Shape} (is : IsShape shape) {member : ℕ} {n : Node} (a : NodeInRange shape member n) (leads : n.volatile.role ≡ Leader) where
  start_is : (receiver : ℕ) → IsPlace (length n.durable.log) (start_of n receiver)
  start_is receiver =
      let knows = knows_as a Leader leads in
      starts_within (mode_of_leader n) receiver n.durable.commit n.durable.log n.volatile.heard n.volatile.first knows.2 (knows.0, knows.1)

  -- what a leader sends to another member
  pub append_to_fits : (receiver : ℕ) → IsMember shape receiver → receiver ≢ member → HasSpelling shape (append_to n receiver)
  append_to_fits receiver is_member apart =
      message_of_fits is a (leader_begun a leads) (append_from n receiver (start_of n receiver)) receiver is_member apart (append_fits a receiver (start_of n receiver) (start_is receiver))

  pub one_append_fits : (receiver : ℕ) → IsMember shape receiver → receiver ≢ member → All (HasSpelling shape) (append_to n receiver ∷ [])
  one_append_fits receiver is_member apart =
      All-cons (HasSpelling shape) (append_to n receiver) [] (append_to_fits receiver is_member apart) (All-nil (HasSpelling shape))

  append_with_fits : (receiver : ℕ) → IsMember shape receiver → receiver ≢ member → (es : List Entry) → All (HasSpelling shape) (append_with n receiver es)
  append_with_fits receiver is_member apart [] = All-nil (HasSpelling shape)
  append_with_fits receiver is_member apart (e ∷ es) = one_append_fits receiver is_member apart

  pub append_if_any_fits : (receiver : ℕ) → IsMember shape receiver → receiver ≢ member → All (HasSpelling shape) (append_if_any n receiver)
  append_if_any_fits receiver is_member apart =
      append_with_fits receiver is_member apart (batch_for n receiver (start_of n receiver))

  pub appends_fit : All (HasSpelling shape) (appends_to_others n)
  appends_fit =
      to_others_fit is a (leader_begun a leads) (λ receiver. append_from n receiver (start_of n receiver)) (λ receiver. append_fits a receiver (start_of n receiver) (start_is receiver))

  pub saying_in_range : ActInRange shape member n (act_of_saying n)
  saying_in_range = sending_in_range (appends_to_others n) (stays n) appends_fit (stays_in_range a)
