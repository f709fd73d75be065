-- A member that has won its term prepares: it proposes the empty entry of its term once nothing is left to decide, and nothing of that term
-- was proposed before.
use Rattle.std.proofs.Common.{◌≡◌, ℕ, ◌+◌, ◌<◌, ◌≤◌, ◌==◌, nat_lt, false, Option, None, Some, List, [], ◌∷◌, ◌++◌, length, map, refl, sym, ap, subst, ◌∙◌, arith, length-append}
use Rattle.std.specs.List.{All}
use Rattle.std.proofs.lemmas.Bool.{cond_both}
use Rattle.std.proofs.lemmas.List.Elements.{All-nil, All-weaker}
use Rattle.craft_base.specs.Shape.{IsShape, Shape}
use Rattle.craft_base.specs.declared.command.Entry.{Entry}
use Rattle.entry_frames.specs.Durable.{Durable, after as applied_all, applied}
use Rattle.leader_prep.specs.Decisions.{Rebuilt}
use Rattle.std.specs.Option.{option_to_list}
use Rattle.entry_frames.specs.Limits.{last_place}
use Rattle.entry_frames.specs.Records.{Add, Cut}
use Rattle.entry_frames.specs.declared.peer.Peer.TheVariants as peers
use Rattle.world_model.specs.Nodes.{Node}
use Rattle.world_model.specs.Rules.Acts.{Act, followed_by, recording, stays}
use Rattle.world_model.specs.Rules.Prepare.{act_of_asking_all, act_of_asking_on, act_of_deciding, act_of_first, act_of_later, act_of_leading, act_of_preparing, act_of_winning, cursor_at, decided_records, decision_at, leading, noop, preparing, uncovering, whole_record}
use Rattle.world_model.specs.Safety.{command_in}
use Rattle.world_model.specs.Traces.{Proposal, removals_in}
use Rattle.protocol.specs.History as protocol
use Rattle.protocol.specs.Invariants.{Sound}
use Rattle.protocol.specs.Logs.{Agree, Has, term_at}
use Rattle.protocol.specs.Moves.{Allowed, Reached, Win, after}
use Rattle.protocol.proofs.Counting.{put_same}
use Rattle.protocol.proofs.Runs.{sound_after, sound_reached}
use Rattle.bridge.specs.Agreement.{NodeAgrees}
use Rattle.bridge.specs.Traced.{AllStand, PageStands, ProposalAgrees, RemovalAgrees, holder}
use Rattle.bridge.specs.Views.{log_seen}
use Rattle.bridge.proofs.Book.Adding.{adding_traced}
use Rattle.bridge.proofs.Book.Deciding.{IsCutOff, behind_deciding, decided_log, decided_of, decided_removals, removed_agrees}
use Rattle.bridge.proofs.Book.Plain.{IsTraced, silent_traced, stays_traced}
use Rattle.bridge.proofs.Book.Sent.{appends_stand, some_stand, to_others_stand}
use Rattle.bridge.proofs.Book.Standing.{IsElsewhere, command_in_none}
use Rattle.bridge.proofs.Beginning.{announcing}
use Rattle.bridge.proofs.Stretches.{term_at-behind}
use Rattle.bridge.proofs.Views.{append_seen, length_seen}

-- who wins a term finds that nobody led it
pub unled_by_winning :
    {shape : Shape} {g : protocol.History} {member : ℕ} {n : Node} → Reached shape.faults g → NodeAgrees shape g member n →
    Allowed shape.faults g (Win member) → length (g.led n.durable.term) ≡ 0
unled_by_winning {shape = shape} {g = g} {member = member} reached a allowed =
    let won : Sound shape.faults (after g (Win member)) = sound_after shape.faults g (Win member) allowed (sound_reached shape.faults g reached) in
    let silent : g.began (g.term member) ≡ false = won.logs.preparing member (put_same member protocol.Preparing g.role) in
    subst (λ t. length (g.led t) ≡ 0) a.term ((sound_reached shape.faults g reached).logs.silent (g.term member) silent)

-- and so does who prepares to lead it
pub unled_in_preparing :
    {shape : Shape} {g : protocol.History} {member : ℕ} {n : Node} → Reached shape.faults g → NodeAgrees shape g member n →
    g.role member ≡ protocol.Preparing → length (g.led n.durable.term) ≡ 0
unled_in_preparing {shape = shape} {g = g} {member = member} reached a prepares =
    let sound : Sound shape.faults g = sound_reached shape.faults g reached in
    subst (λ t. length (g.led t) ≡ 0) a.term (sound.logs.silent (g.term member) (sound.logs.preparing member prepares))

-- what is in a log with one entry more is in the log, or is that entry
has_behind : (log : List Entry) (entry : Entry) (i term : ℕ) → Has (log_seen (log ++ entry ∷ [])) i term → length log < i → term ≡ entry.term
unfolding term_at
has_behind log entry i term it above =
    let seen : length (log_seen log) ≡ length log = length_seen log in
    let all_seen : length (log_seen (log ++ entry ∷ [])) ≡ length (log ++ entry ∷ []) = length_seen (log ++ entry ∷ []) in
    let long : length (log ++ entry ∷ []) ≡ length log + 1 = length-append log (entry ∷ []) in
    let last : i ≡ length (log_seen log) + 1 = omega (arith, it.within, all_seen, long, seen, above) in
    sym it.here ∙ ap (λ slots. term_at slots i) (append_seen log (entry ∷ [])) ∙ term_at-behind (log_seen log) (log_seen (entry ∷ [])) 1 i (omega arith) last

-- so nothing was proposed in it
nothing_found :
    (g : protocol.History) (term : ℕ) → length (g.led term) ≡ 0 → (book : List Proposal) → All (ProposalAgrees g) book → (index : ℕ) → command_in book term index ≡ None
nothing_found g term unled book proposed index =
    let other : (p : Proposal) → ProposalAgrees g p → IsElsewhere term index p =
    λ p agrees same at.
    let long : length (g.led p.term) ≡ length (g.led term) = ap (λ t. length (g.led t)) same in
    omega (arith, agrees.0, agrees.1, long, unled) in
    command_in_none book term index (All-weaker (ProposalAgrees g) (IsElsewhere term index) other book proposed)

module _
    {shape : Shape} {g : protocol.History} {member : ℕ} (n : Node) (reached : Reached shape.faults g) (of_shape : n.shape ≡ shape)
    (unled : length (g.led n.durable.term) ≡ 0) {book : List Proposal} (proposed : All (ProposalAgrees g) book) where
  with_noop_traced : AllStand (holder shape member) book 1 n.durable.log → IsTraced shape g member n.durable book (announcing n (recording (Add (noop n.durable.term)) (stays n)))
  with_noop_traced stand =
      let act = announcing n (recording (Add (noop n.durable.term)) (stays n)) in
      adding_traced n reached stand (noop n.durable.term) refl refl (refl, All-nil (λ byte. byte < 256)) (nothing_found g n.durable.term unled book proposed (length n.durable.log + 1)) (leading n) act.sends refl
      (All-nil (PageStands shape book)) (λ more log. appends_stand shape more member act.node of_shape log)

  without_noop_traced : AllStand (holder shape member) book 1 n.durable.log → IsTraced shape g member n.durable book (announcing n (stays n))
  without_noop_traced stand =
      silent_traced n.durable stand (announcing n (stays n)) (All-nil (PageStands shape book)) refl refl
      (λ now log. appends_stand shape now member (announcing n (stays n)).node of_shape log)

  pub leading_traced : AllStand (holder shape member) book 1 n.durable.log → IsTraced shape g member n.durable book (act_of_leading n)
  leading_traced stand =
      cond_both (nat_lt (length n.durable.log) last_place) (recording (Add (noop n.durable.term)) (stays n)) (stays n)
      (λ act. IsTraced shape g member n.durable book (announcing n act)) (λ room. with_noop_traced stand) (λ full. without_noop_traced stand)

  asking_all_traced :
      (cursor : ℕ) → AllStand (holder shape member) book 1 n.durable.log → All (PageStands shape book) n.volatile.pages →
      IsTraced shape g member n.durable book (act_of_asking_all cursor n)
  asking_all_traced cursor stand seen =
      silent_traced n.durable stand (act_of_asking_all cursor n) seen refl refl (λ more log. to_others_stand shape more n (peers.Ask cursor) (λ receiver. tt))

  asking_on_traced :
      (cursor : ℕ) → AllStand (holder shape member) book 1 n.durable.log → All (PageStands shape book) n.volatile.pages →
      IsTraced shape g member n.durable book (act_of_asking_on cursor n)
  asking_on_traced cursor stand seen =
      silent_traced n.durable stand (act_of_asking_on cursor n) seen refl refl
      (λ more log. some_stand shape more n (peers.Ask cursor) (λ receiver. tt) (uncovering n cursor))

  pub first_traced :
      (left : Option ℕ) → AllStand (holder shape member) book 1 n.durable.log → All (PageStands shape book) n.volatile.pages →
      IsTraced shape g member n.durable book (act_of_first left n)
  first_traced None stand seen = leading_traced stand
  first_traced (Some cursor) stand seen = asking_all_traced cursor stand seen

  pub later_traced :
      (before left : Option ℕ) → AllStand (holder shape member) book 1 n.durable.log → All (PageStands shape book) n.volatile.pages →
      IsTraced shape g member n.durable book (act_of_later before left n)
  later_traced before None stand seen = leading_traced stand
  later_traced None (Some cursor) stand seen = stays_traced n.durable stand n seen refl
  later_traced (Some before) (Some cursor) stand seen =
      cond_both (before == cursor) (stays n) (act_of_asking_on cursor n) (IsTraced shape g member n.durable book)
      (λ same. stays_traced n.durable stand n seen refl) (λ moved. asking_on_traced cursor stand seen)

decided_keeps : (d : Durable) (rebuilt : List Rebuilt) (cut : Option ℕ) → (applied_all d (map whole_record rebuilt ++ map Cut (option_to_list cut))).term ≡ d.term
decided_keeps d [] None = refl
decided_keeps d [] (Some index) = refl
decided_keeps d (one ∷ rebuilt) cut = decided_keeps (applied d (whole_record one)) rebuilt cut

decided_term : (n : Node) → (decided_of n).durable.term ≡ n.durable.term
decided_term n = decided_keeps n.durable (decision_at n).rebuilt (decision_at n).cut

-- what a rule that goes on with nothing left, or stays as it is, makes of the log
abbrev pub IsOwnBehind : Node → Act → Type 0
IsOwnBehind n act = (act.node.durable.term ≡ n.durable.term) × ((i term : ℕ) → Has (log_seen act.node.durable.log) i term → length n.durable.log < i → term ≡ n.durable.term)

same_behind : (n : Node) (act : Act) → act.node.durable ≡ n.durable → IsOwnBehind n act
same_behind n act same =
    subst (λ (d : Durable). (d.term ≡ n.durable.term) × ((i term : ℕ) → Has (log_seen d.log) i term → length n.durable.log < i → term ≡ n.durable.term)) (sym same) (
      refl,
      λ i term it above.
          let within : i ≤ length (log_seen n.durable.log) = it.within in
          let seen : length (log_seen n.durable.log) ≡ length n.durable.log = length_seen n.durable.log in
          absurd (omega (arith, within, seen, above)),
    )

leading_behind : (n : Node) → IsOwnBehind n (act_of_leading n)
leading_behind n =
    cond_both (nat_lt (length n.durable.log) last_place) (recording (Add (noop n.durable.term)) (stays n)) (stays n)
    (λ act. IsOwnBehind n (announcing n act))
    (λ room. (refl, λ i term it above. has_behind n.durable.log (noop n.durable.term) i term it above)) (λ full. same_behind n (announcing n (stays n)) refl)

first_behind : (left : Option ℕ) (n : Node) → IsOwnBehind n (act_of_first left n)
first_behind None n = leading_behind n
first_behind (Some cursor) n = same_behind n (act_of_asking_all cursor n) refl

later_behind : (before left : Option ℕ) (n : Node) → IsOwnBehind n (act_of_later before left n)
later_behind before None n = leading_behind n
later_behind None (Some cursor) n = same_behind n (stays n) refl
later_behind (Some before) (Some cursor) n =
    cond_both (before == cursor) (stays n) (act_of_asking_on cursor n) (IsOwnBehind n)
    (λ same. same_behind n (stays n) refl) (λ moved. same_behind n (act_of_asking_on cursor n) refl)

-- a member whose term nobody led, before it decides
module _
    {shape : Shape} (is : IsShape shape) {g : protocol.History} {member : ℕ} (n : Node) (reached : Reached shape.faults g)
    (of_shape : n.shape ≡ shape) (me : n.me ≡ member) (at_term : g.term member ≡ n.durable.term) (at_log : g.log member ≡ log_seen n.durable.log)
    (unled : length (g.led n.durable.term) ≡ 0) (book : List Proposal) (proposed : All (ProposalAgrees g) book)
    (stand : AllStand (holder shape member) book 1 n.durable.log) (seen : All (PageStands shape book) n.volatile.pages) where
  decided_unled : length (g.led (decided_of n).durable.term) ≡ 0
  decided_unled = subst (λ t. length (g.led t) ≡ 0) (sym (decided_term n)) unled

  decided_stands : AllStand (holder shape member) book 1 (decided_of n).durable.log
  decided_stands = decided_log shape is g book proposed n of_shape me stand seen

  -- it has no entry of the term
  none_own : (i : ℕ) → Has (g.log member) i n.durable.term → ⊥
  none_own i it =
      let matches : Agree (g.log member) (g.led (term_at (g.log member) i)) i = ((sound_reached shape.faults g reached).logs.log member).0.matches i it.from it.within in
      let right : i ≤ length (g.led n.durable.term) = subst (λ t. i ≤ length (g.led t)) it.here matches.right in
      let from : 0 < i = it.from in
      omega (arith, right, unled, from)

  rule_traced :
      (then_ : Node → Act) → IsOwnBehind (decided_of n) (then_ (decided_of n)) → IsTraced shape g member (decided_of n).durable book (then_ (decided_of n)) →
      IsTraced shape g member n.durable book (followed_by (act_of_deciding n) then_)
  rule_traced then_ behind traced h run node event =
      let act : Act = then_ (decided_of n) in
      let final : Durable = act.node.durable in
      let own : act.node.durable.term ≡ n.durable.term = behind.0 ∙ (decided_term n) in
      behind_deciding shape book n h event member then_
      (All-weaker (IsCutOff n.durable (decided_of n).durable) (RemovalAgrees h)
      (removed_agrees shape n reached at_term at_log (decided_of n).durable final h run (node.term ∙ own) node.log
      (λ i term it above. behind.1 i term it above ∙ (decided_term n)) none_own)
      (removals_in event member n.durable (decided_records (decision_at n))) (decided_removals n event member))
      (traced h run node event)

  pub first_decided_traced : IsTraced shape g member n.durable book (followed_by (act_of_deciding n) (λ it. act_of_first (cursor_at it) it))
  first_decided_traced =
      rule_traced (λ it. act_of_first (cursor_at it) it) (first_behind (cursor_at (decided_of n)) (decided_of n))
      (first_traced (decided_of n) reached of_shape decided_unled proposed (cursor_at (decided_of n)) decided_stands seen)

  pub preparing_traced : IsTraced shape g member n.durable book (act_of_preparing n)
  preparing_traced =
      rule_traced (λ it. act_of_later (cursor_at n) (cursor_at it) it) (later_behind (cursor_at n) (cursor_at (decided_of n)) (decided_of n))
      (later_traced (decided_of n) reached of_shape decided_unled proposed (cursor_at n) (cursor_at (decided_of n)) decided_stands seen)

-- a candidate that has won
pub winning_traced :
    {shape : Shape} → IsShape shape → {g : protocol.History} {member : ℕ} {n : Node} → Reached shape.faults g → NodeAgrees shape g member n →
    length (g.led n.durable.term) ≡ 0 → {book : List Proposal} → All (ProposalAgrees g) book → AllStand (holder shape member) book 1 n.durable.log →
    IsTraced shape g member n.durable book (act_of_winning n)
winning_traced {shape = shape} is {g = g} {member = member} {n = n} reached a unled {book = book} proposed stand =
    first_decided_traced is (record n { volatile = preparing n }) reached a.of_shape a.me a.term a.log unled book proposed stand (All-nil (PageStands shape book))
