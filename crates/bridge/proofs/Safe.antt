-- Every run is safe: one list of commands is committed, it stays, no entry is removed that a leader of the remover's term or of a lower
-- one commits, clients are answered as by one map that took the list, and no term has two leaders.
use Rattle.std.proofs.Common.{◌≡◌, ◌≢◌, ℕ, zero, suc, ◌+◌, ◌<◌, ◌≤◌, List, [], ◌∷◌, ◌++◌, length, map, take, drop, None, Some, slice_get, refl, sym, ap, subst, ◌∙◌, inl, inr, arith, le_refl, length-take-le}
use Rattle.std.proofs.lemmas.Bool.{cases_lt}
use Rattle.std.proofs.lemmas.List.{take-append-drop, take_all}
use Rattle.std.proofs.lemmas.Option.{same_Some, slice_get_past, slice_get_within}
use Rattle.craft_base.specs.Shape.{Shape}
use Rattle.craft_base.specs.declared.command.Entry.{Entry}
use Rattle.entry_frames.specs.Durable.{Durable, born}
use Rattle.entry_frames.specs.Logs as node
use Rattle.world_model.specs.Order.{IsOrdered}
use Rattle.world_model.specs.Safety.{HoldsCommitted, IsFront, IsRun, IsSafe, RemovesUncommitted, StaysCommitted, command_in, commands_of, committed, furthest, StandsFor}
use Rattle.world_model.specs.Traces.{Command, Proposal}
use Rattle.world_model.specs.World.{World, run, run_from, start}
use Rattle.world_model.specs.declared.line.Line.{Line}
use Rattle.world_model.proofs.Runs.{run_from-append}
use Rattle.protocol.specs.History as protocol
use Rattle.protocol.specs.Logs.{Agree, Has, term_at}
use Rattle.protocol.specs.Moves.{Moves, Reached, None_yet}
use Rattle.protocol.proofs.Fronts.{cut_stays_undecided, fronts_agree}
use Rattle.bridge.specs.Agreement.{WorldAgrees}
use Rattle.bridge.specs.Bridges.{RunBridged}
use Rattle.bridge.specs.Traced.{AllStand, CommitAgrees, Holder, RemovalAgrees, holder}
use Rattle.bridge.specs.Views.{log_seen}
use Rattle.bridge.proofs.Book.Standing.{command_in_more, stand_place, stand_take}
use Rattle.bridge.proofs.Furthest.{IsCommitted, at_position, furthest_committed, furthest_each, member_committed}
use Rattle.bridge.proofs.Growing.{HasMore, run_grows}
use Rattle.bridge.proofs.Leaders.{one_leader_a_term}
use Rattle.bridge.proofs.Order.{world_is_ordered}
use Rattle.bridge.proofs.Rebuilt.{rebuilds_committed}
use Rattle.bridge.proofs.Replies.Lists.{is_in, taken_there}
use Rattle.bridge.proofs.Replies.Runs.{answers_as_one_map, run_answers, start_answers}
use Rattle.bridge.proofs.Replies.World.{WorldAnswers}
use Rattle.bridge.proofs.Runs.{history_reached, moves_between, runs_are_bridged}
use Rattle.bridge.proofs.Views.{term_at_seen}

-- ---- lists

commands_there :
    (book : List Proposal) (index : ℕ) (log : List Entry) (place : ℕ) (entry : Entry) → slice_get log place ≡ Some entry →
    slice_get (commands_of book index log) place ≡ Some (command_in book entry.term (index + place))
commands_there book index [] place entry e = cc
commands_there book index (first ∷ log) zero entry e =
    let at : index ≡ index + 0 = omega arith in
    subst (λ i. Some (command_in book first.term index) ≡ Some (command_in book entry.term i)) at
    (ap (λ it. Some (command_in book it.term index)) (same_Some first entry e))
commands_there book index (first ∷ log) (suc place) entry e =
    let at : index + 1 + place ≡ index + suc place = omega arith in
    subst (λ i. slice_get (commands_of book (index + 1) log) place ≡ Some (command_in book entry.term i)) at
    (commands_there book (index + 1) log place entry e)

-- the term of an entry of a log, as the protocol sees it
term_there : (log : List Entry) (place : ℕ) (entry : Entry) → slice_get log place ≡ Some entry → term_at (log_seen log) (suc place) ≡ entry.term
term_there log place entry e = term_at_seen log (suc place) ∙ ap node.term_of_entry e

-- ---- one list

module _ {shape : Shape} {h : protocol.History} {w : World} (reached : Reached shape.faults h) (a : WorldAgrees shape h w) where
  holds_committed : HoldsCommitted w
  holds_committed me m place here lt =
      let d : Durable = furthest born w.members in
      let mine : IsCommitted shape h w m.durable = member_committed reached a me m here in
      let most : IsCommitted shape h w d = furthest_committed reached a in
      let le : m.durable.commit ≤ d.commit = furthest_each born w.members me m here in
      let agree : Agree (log_seen m.durable.log) (log_seen d.log) m.durable.commit =
      fronts_agree shape.faults h h reached None_yet (log_seen m.durable.log) (log_seen d.log) m.durable.commit d.commit m.durable.commit mine.front most.front
      (le_refl _) le in
      let own = at_position m.durable.log place (omega (arith, lt, mine.within)) in
      let theirs = at_position d.log place (omega (arith, lt, le, most.within)) in
      let same : theirs.0.term ≡ own.0.term =
      sym (term_there d.log place theirs.0 theirs.1) ∙ sym (agree.same (suc place) (omega (arith, lt))) ∙ term_there m.durable.log place own.0 own.1 in
      let stands = stand_place (holder shape me) w.book 1 m.durable.log place own.0 (a.logs me m here) own.1 in
      let listed : slice_get (committed w) place ≡ Some (command_in w.book theirs.0.term (1 + place)) =
      commands_there w.book 1 (take d.commit d.log) place theirs.0 (taken_there d.commit d.log place (omega (arith, lt, le)) ∙ theirs.1) in (
        own.0,
        stands.0,
        own.1,
        listed ∙ ap (λ t. Some (command_in w.book t (1 + place))) same ∙ ap Some stands.1,
        subst (λ s. StandsFor s.need me own.0 stands.0) (sym a.of_shape) stands.2,
      )

  -- ---- what is removed

  entry_within : (log : List Entry) (index : ℕ) → node.entry_at log index ≢ None → (0 < index) × (index ≤ length log)
  entry_within log zero some = absurd (some refl)
  entry_within log (suc before) some = elim (cases_lt before (length log)) [
    | inl lt ↦ (omega arith, omega (arith, lt))
    | inr past ↦ absurd (some (slice_get_past log before past))
  ]

  removes_uncommitted : RemovesUncommitted w
  removes_uncommitted cut commit among committed_among le stands =
      let place = stands.0 in
      let entry : Entry = stands.1 in
      let gone = is_in (RemovalAgrees h) w.cuts a.removals cut among place entry stands.2 in
      let agrees : CommitAgrees h commit = is_in (CommitAgrees h) w.commits a.commits commit committed_among in
      let within = entry_within commit.log (cut.index + place) stands.3 in
      let agree : Agree (log_seen commit.log) (h.led commit.term) (length commit.log) = agrees.1 in
      let right : length commit.log ≤ length (h.led commit.term) = agree.right in
      let has : Has (h.led commit.term) (cut.index + place) entry.term = record {
        from = within.0;
        within = omega (arith, within.1, right);
        here = sym (agree.same (cut.index + place) within.1) ∙ term_at_seen commit.log (cut.index + place) ∙ stands.4;
      } in
      cut_stays_undecided shape.faults h h reached None_yet gone.0 (cut.index + place) entry.term commit.term gone.1 gone.3
      (omega (arith, le, gone.2)) (omega (arith, within.1, agrees.0)) has

-- ---- and it stays

-- of entries that stand, the commands in a book are a front of those in a book that grew, for a log that has the same entries and more
commands_front :
    (at : Holder) (book more : List Proposal) (index : ℕ) (xs ys : List Entry) → AllStand at book index xs → length xs ≤ length ys →
    ((place : ℕ) (x y : Entry) → slice_get xs place ≡ Some x → slice_get ys place ≡ Some y → x.term ≡ y.term) →
    IsFront (commands_of book index xs) (commands_of (book ++ more) index ys)
commands_front at book more index [] ys stand le same = (commands_of (book ++ more) index ys, refl)
commands_front at book more index (x ∷ xs) [] stand le same = absurd (omega (arith, le))
commands_front at book more index (x ∷ xs) (y ∷ ys) stand le same =
    let rest = commands_front at book more (index + 1) xs ys stand.1 (omega (arith, le)) (λ place. same (suc place)) in
    let old : command_in book x.term index ≡ Some stand.0.0 = stand.0.1 in
    let new : command_in (book ++ more) y.term index ≡ Some stand.0.0 =
    ap (λ t. command_in (book ++ more) t index) (sym (same zero x y refl refl)) ∙ command_in_more book more x.term index stand.0.0 old in
    (rest.0, ap (λ it. it ∷ (commands_of book (index + 1) xs ++ rest.0)) (old ∙ sym new) ∙ ap (λ it. command_in (book ++ more) y.term index ∷ it) rest.1)

module _
    {shape : Shape} {g h : protocol.History} {w now : World} (reached : Reached shape.faults g) (moves : Moves shape.faults g h) (a : WorldAgrees shape g w)
    (b : WorldAgrees shape h now) (later : Reached shape.faults h) where
  committed_stays : HasMore w.book now → IsFront (committed w) (committed now)
  committed_stays grown =
      let d : Durable = furthest born w.members in
      let e : Durable = furthest born now.members in
      let old : IsCommitted shape g w d = furthest_committed reached a in
      let new : IsCommitted shape h now e = furthest_committed later b in
      let le : d.commit ≤ e.commit = old.later h now moves b in
      let agree : Agree (log_seen d.log) (log_seen e.log) d.commit =
      fronts_agree shape.faults g h reached moves (log_seen d.log) (log_seen e.log) d.commit e.commit d.commit old.front new.front (le_refl _) le in
      let long : length (take d.commit d.log) ≡ d.commit = length-take-le d.commit d.log old.within in
      let more_long : length (take e.commit e.log) ≡ e.commit = length-take-le e.commit e.log new.within in
      let same : (place : ℕ) (x y : Entry) → slice_get (take d.commit d.log) place ≡ Some x → slice_get (take e.commit e.log) place ≡ Some y → x.term ≡ y.term =
      λ place x y at also.
      let within : place < length (take d.commit d.log) = slice_get_within (take d.commit d.log) place x at in
      let lt : place < d.commit = omega (arith, within, long) in
      sym (term_there d.log place x (sym (taken_there d.commit d.log place lt) ∙ at))
      ∙ agree.same (suc place) (omega (arith, lt))
      ∙ term_there e.log place y (sym (taken_there e.commit e.log place (omega (arith, lt, le))) ∙ also) in
      subst (λ book. IsFront (commands_of w.book 1 (take d.commit d.log)) (commands_of book 1 (take e.commit e.log))) (sym grown.1)
      (commands_front old.at w.book grown.0 1 (take d.commit d.log) (take e.commit e.log) (stand_take old.at w.book 1 d.commit d.log old.stand)
      (omega (arith, long, more_long, le)) same)

module _ {shape : Shape} {events : List Line} (r : RunBridged shape protocol.start (start shape) events) where
  end_reached : (count : ℕ) → Reached shape.faults (r.history count)
  end_reached count = history_reached r None_yet count

  -- at the end of the events, and past it
  end_agrees : (count : ℕ) → length events ≤ count → WorldAgrees shape (r.history count) (run shape events)
  end_agrees count past = subst (λ it. WorldAgrees shape (r.history count) (run_from (start shape) it)) (take_all count events past) (r.agrees count)

  stays_committed : StaysCommitted shape events
  stays_committed count =
      let front : World = run shape (take count events) in
      let grown : HasMore front.book (run_from front (drop count events)) = run_grows front (drop count events) in
      let is : run_from front (drop count events) ≡ run shape events =
      sym (run_from-append (start shape) (take count events) (drop count events)) ∙ ap (run_from (start shape)) (take-append-drop count events) in
      committed_stays (end_reached count) (moves_between r count (length events)) (r.agrees count) (end_agrees (count + length events) (omega arith))
      (end_reached (count + length events)) (subst (HasMore front.book) is grown)

-- clients are answered of what is committed in the end
run_is_answered : (shape : Shape) (events : List Line) → IsRun shape events → WorldAnswers (committed (run shape events)) (run shape events)
run_is_answered shape events is =
    let r : RunBridged shape protocol.start (start shape) events = runs_are_bridged shape events is in
    run_answers shape (committed (run shape events)) events (start shape) (start_answers shape (committed (run shape events))) is.in_range
    (λ count. holds_committed (end_reached r count) (r.agrees count)) (stays_committed r)

-- what the crates above cite
pub every_run_is_safe : (shape : Shape) (events : List Line) → IsRun shape events → IsSafe shape events
every_run_is_safe shape events is =
    let r : RunBridged shape protocol.start (start shape) events = runs_are_bridged shape events is in
    let reached : Reached shape.faults (r.history (length events)) = end_reached r (length events) in
    let agrees : WorldAgrees shape (r.history (length events)) (run shape events) = end_agrees r (length events) (le_refl _) in
    record {
      one_list = holds_committed reached agrees;
      stays = stays_committed r;
      rebuilds = rebuilds_committed reached agrees;
      removes = removes_uncommitted reached agrees;
      replies = answers_as_one_map reached agrees (run_is_answered shape events is);
      one_leader = one_leader_a_term shape events is;
    }

pub every_run_is_ordered :
    (shape : Shape) (events : List Line) → IsRun shape events → (commands : List Command) → committed (run shape events) ≡ map Some commands →
    IsOrdered (run shape events) commands
every_run_is_ordered shape events is commands are = world_is_ordered (run shape events) commands are (run_is_answered shape events is)
