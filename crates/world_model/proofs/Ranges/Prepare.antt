-- Prepare: what is decided can be recorded, the empty entry of a new leader has a place and a spelling, and so has what it asks and
-- what it sends of its log.
use Rattle.std.proofs.Common.{◌≡◌, ℕ, ◌+◌, ◌≤◌, ◌-◌, ◌==◌, nat_lt, not, List, [], ◌∷◌, ◌++◌, length, map, drop, Option, None, Some, refl, sym, subst, arith, length-append, length-drop}
use Rattle.std.specs.List.{All}
use Rattle.std.proofs.lemmas.Bool.{cond_both, ltb-true, ltb-false}
use Rattle.std.proofs.lemmas.List.Elements.{All-nil}
use Rattle.craft_base.specs.Shape.{Shape, IsShape}
use Rattle.entry_frames.specs.Durable.{Durable, IsNextEntry, after, applied}
use Rattle.entry_frames.specs.Entries.{entry_fields}
use Rattle.entry_frames.specs.Formats.{Fits, U64}
use Rattle.entry_frames.specs.Limits.{greatest, last_place}
use Rattle.entry_frames.specs.MessageFields.{body_fields}
use Rattle.entry_frames.specs.Records.{Add, Cut}
use Rattle.entry_frames.specs.declared.kind.PeerKind.TheVariants as peer_kinds
use Rattle.entry_frames.specs.declared.peer.Peer.TheVariants as peers
use Rattle.entry_frames.specs.declared.role.Role.{Role}
use Rattle.entry_frames.specs.declared.role.Role.TheVariants.{Preparing}
use Rattle.leader_prep.specs.Decisions.{OpenPart, Rebuilt, verdict_at}
use Rattle.leader_prep.specs.Pages.{covers, is_shown, latest_slot}
use Rattle.std.specs.Option.{option_to_list}
use Rattle.entry_frames.proofs.Stored.{term_most}
use Rattle.world_model.specs.Nodes.{Node}
use Rattle.world_model.specs.Ranges.{IsMember, IsOfNoLog, KnowsInRange, NodeInRange, PageInRange}
use Rattle.world_model.specs.Rules.Acts.{followed_by, keeping, message_of, messages_to_others, recording, stays}
use Rattle.world_model.specs.Rules.Prepare.{act_of_asking_all, act_of_asking_on, act_of_beginning, act_of_deciding, act_of_first, act_of_later, act_of_leading, act_of_preparing, act_of_winning, cursor_at, decided_records, decision_at, leading, noop, preparing, uncovering, whole_record}
use Rattle.world_model.specs.Rules.Say.{appends_to_others}
use Rattle.world_model.proofs.Frames.{fits_within}
use Rattle.world_model.proofs.Ranges.Acts.{ActInRange, before_in_range, enters_in_range, followed_in_range, in_volatile, keeping_in_range, messages_to_others_fit, records_in_range, sending_in_range, stays_in_range, to_some_fit}
use Rattle.world_model.proofs.Ranges.Bodies.{ask_fits}
use Rattle.world_model.proofs.Ranges.Completions.{AreSound}
use Rattle.world_model.proofs.Ranges.Deciding.{IsVerdictLong, cursor_within, decided_sound, latest_fits, verdict_long}
use Rattle.world_model.proofs.Ranges.Knowing.{any_logs, begun_with, knows_as}
use Rattle.world_model.proofs.Ranges.Orders.{dropped_at}
use Rattle.world_model.proofs.Ranges.Records.{add_fits}
use Rattle.world_model.proofs.Ranges.Say.{appends_fit}

-- an entry that asks for nothing is in the ranges of its table
noop_fits : (k term : ℕ) → 1 ≤ term → term ≤ greatest → Fits (entry_fields k) (noop term)
noop_fits k term least most = (
  (omega arith, refl),
  (
    (omega arith, refl),
    (
      fits_within U64 1 greatest term (omega (arith, most)) least most,
      ((fits_within U64 0 greatest term (omega (arith, most)) (omega arith) most).1, ((omega arith, refl), ((omega arith, refl), (refl, ((omega arith, refl), (refl, (refl, (refl, refl)))))))),
    ),
  ),
)

module _
    {shape : Shape} (is : IsShape shape) {member : ℕ} {n : Node} (a : NodeInRange shape member n) (begun : 1 ≤ n.durable.term)
    (none : All IsOfNoLog n.volatile.heard) where
  me_is_member : IsMember shape n.me
  me_is_member = subst (IsMember shape) (sym a.me) a.is_member

  beginning_in_range : ActInRange shape member n (act_of_beginning n)
  beginning_in_range =
      let longer : length (n.durable.log ++ noop n.durable.term ∷ []) ≡ length n.durable.log + 1 = length-append n.durable.log (noop n.durable.term ∷ []) in
      let most : n.durable.term ≤ greatest = a.durable.stored.term_most in
      cond_both (nat_lt (length n.durable.log) last_place) (recording (Add (noop n.durable.term)) (stays n)) (stays n)
      (λ act. ActInRange shape member n (keeping (leading n) act))
      (λ room.
      let next : IsNextEntry n.durable (noop n.durable.term) = record {
        room = ltb-true _ _ room;
        no_earlier = term_most shape.need 0 n.durable.term n.durable.log (length n.durable.log) a.durable.stored.entries;
        no_later = omega arith;
      } in
      enters_in_range a (Add (noop n.durable.term) ∷ []) (leading n) (next, tt)
      (add_fits shape.need (noop n.durable.term) (noop_fits shape.need n.durable.term begun most), tt) (me_is_member, a.clients.1)
      (omega arith, omega (arith, longer), any_logs (length (n.durable.log ++ noop n.durable.term ∷ [])) n.volatile.heard none, omega (arith, longer))
      (All-nil (PageInRange shape.need)))
      (λ full.
      keeping_in_range (leading n) (stays n) (me_is_member, a.clients.1)
      (omega arith, omega arith, any_logs (length n.durable.log) n.volatile.heard none, omega (arith, ltb-false (length n.durable.log) last_place full))
      (All-nil (PageInRange shape.need)) (stays_in_range a))

  leading_in_range : ActInRange shape member n (act_of_leading n)
  leading_in_range =
      sending_in_range (appends_to_others (act_of_beginning n).node) (act_of_beginning n) (appends_fit is (beginning_in_range).node refl) beginning_in_range

-- ---- the term

decided_term_of : (d : Durable) (rebuilt : List Rebuilt) (cut : Option ℕ) → (after d (map whole_record rebuilt ++ map Cut (option_to_list cut))).term ≡ d.term
decided_term_of d [] None = refl
decided_term_of d [] (Some index) = refl
decided_term_of d (one ∷ rebuilt) cut = decided_term_of (applied d (whole_record one)) rebuilt cut

-- ---- what is asked

module _ {shape : Shape} (is : IsShape shape) {member : ℕ} {n : Node} (a : NodeInRange shape member n) where
  -- where there is a cursor there is an entry, and so a term
  begun_by : (cursor : ℕ) → cursor_at n ≡ Some cursor → 1 ≤ n.durable.term
  begun_by cursor there =
      let within = cursor_within n.durable.commit n.durable.log cursor there in
      begun_with n.durable.log a.durable.stored (omega (arith, within.0, within.1))

  asked_fits : (cursor : ℕ) → cursor_at n ≡ Some cursor → Fits (body_fields shape.need n.durable.term peer_kinds.Ask) (peers.Ask cursor)
  asked_fits cursor there =
      let within = cursor_within n.durable.commit n.durable.log cursor there in
      ask_fits shape.need n.durable.term cursor (omega (arith, within.0)) (omega (arith, within.1, a.durable.short))

  pub asking_all_in_range : (cursor : ℕ) → cursor_at n ≡ Some cursor → ActInRange shape member n (act_of_asking_all cursor n)
  asking_all_in_range cursor there =
      sending_in_range (messages_to_others n (peers.Ask cursor)) (stays n)
      (messages_to_others_fit is a (begun_by cursor there) (peers.Ask cursor) (asked_fits cursor there)) (stays_in_range a)

  asking_on_in_range : (cursor : ℕ) → cursor_at n ≡ Some cursor → ActInRange shape member n (act_of_asking_on cursor n)
  asking_on_in_range cursor there =
      sending_in_range (map (message_of n (peers.Ask cursor)) (uncovering n cursor)) (stays n)
      (to_some_fit is a (begun_by cursor there) (λ receiver. not (covers n.me n.volatile.pages cursor receiver)) (peers.Ask cursor) (asked_fits cursor there))
      (stays_in_range a)

  module _ (begun : 1 ≤ n.durable.term) (none : All IsOfNoLog n.volatile.heard) where
    first_in_range : (left : Option ℕ) → cursor_at n ≡ left → ActInRange shape member n (act_of_first left n)
    first_in_range None there = leading_in_range is a begun none
    first_in_range (Some cursor) there = asking_all_in_range cursor there

    next_in_range : (before left : Option ℕ) → cursor_at n ≡ left → ActInRange shape member n (act_of_later before left n)
    next_in_range before None there = leading_in_range is a begun none
    next_in_range None (Some cursor) there = stays_in_range a
    next_in_range (Some before) (Some cursor) there =
        cond_both (before == cursor) (stays n) (act_of_asking_on cursor n) (ActInRange shape member n) (λ same. stays_in_range a) (λ moved. asking_on_in_range cursor there)

-- ---- what is decided

module _ {shape : Shape} (is : IsShape shape) {member : ℕ} {n : Node} (a : NodeInRange shape member n) (prepares : n.volatile.role ≡ Preparing) where
  long_in : (s : Shape) → s ≡ shape → (part : OpenPart) → Fits (entry_fields shape.need) part.entry → IsVerdictLong part.entry (verdict_at s n.me n.volatile.pages part)
  long_in s same part fits =
      subst (λ (t : Shape). IsVerdictLong part.entry (verdict_at t n.me n.volatile.pages part)) (sym same)
      (verdict_long shape is.2 n.me part.entry fits (λ member. latest_slot member n.volatile.pages part.index)
      (λ member. latest_fits shape.need member n.volatile.pages part.index a.pages) (λ member. is_shown member n.volatile.pages part.index))

  deciding_sound : AreSound shape n.durable (decided_records (decision_at n))
  deciding_sound =
      let commit : ℕ = n.durable.commit in
      let left : length (drop commit n.durable.log) ≡ length n.durable.log - commit = length-drop commit n.durable.log in
      decided_sound shape (verdict_at n.shape n.me n.volatile.pages) (long_in n.shape a.of_shape) (drop commit n.durable.log) n.durable (commit + 1) commit a.durable
      (omega arith) (λ i at own at_is found. dropped_at n.durable.log commit i at own at_is found) (omega (arith, left, a.durable.commit)) (omega arith)

  deciding_in_range : ActInRange shape member n (act_of_deciding n)
  deciding_in_range =
      let sound = deciding_sound in
      records_in_range a (decided_records (decision_at n)) sound.0 sound.1
      (subst (λ (role : Role). KnowsInRange role (length (after n.durable (decided_records (decision_at n))).log) n.volatile.first n.volatile.heard) (sym prepares)
      (knows_as a Preparing prepares))

  module _ (begun : 1 ≤ n.durable.term) where
    begun_now : 1 ≤ (act_of_deciding n).node.durable.term
    begun_now = subst (λ (t : ℕ). 1 ≤ t) (sym (decided_term_of n.durable (decision_at n).rebuilt (decision_at n).cut)) begun

    won_in_range : ActInRange shape member n (followed_by (act_of_deciding n) (λ decided. act_of_first (cursor_at decided) decided))
    won_in_range =
        let first = deciding_in_range in
        followed_in_range (act_of_deciding n) (λ decided. act_of_first (cursor_at decided) decided) refl first
        (first_in_range is first.node begun_now (knows_as a Preparing prepares) (cursor_at (act_of_deciding n).node) refl)

    pub preparing_in_range : ActInRange shape member n (act_of_preparing n)
    preparing_in_range =
        let first = deciding_in_range in
        followed_in_range (act_of_deciding n) (λ decided. act_of_later (cursor_at n) (cursor_at decided) decided) refl first
        (next_in_range is first.node begun_now (knows_as a Preparing prepares) (cursor_at n) (cursor_at (act_of_deciding n).node) refl)

module _
    {shape : Shape} (is : IsShape shape) {member : ℕ} {n : Node} (a : NodeInRange shape member n) (begun : 1 ≤ n.durable.term)
    (none : All IsOfNoLog n.volatile.heard) where
  pub winning_in_range : ActInRange shape member n (act_of_winning n)
  winning_in_range =
      let now : Node = record n { volatile = preparing n } in
      let at : NodeInRange shape member now = in_volatile a (preparing n) a.clients none (All-nil (PageInRange shape.need)) in
      before_in_range (preparing n) (followed_by (act_of_deciding now) (λ decided. act_of_first (cursor_at decided) decided)) (won_in_range is at refl begun)
