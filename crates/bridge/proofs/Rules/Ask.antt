-- Ask: a member that shows its log follows who asks, as after a restart, and makes the move answer.
use Rattle.std.proofs.Common.{◌≢◌, ℕ, ◌+◌, ◌-◌, ◌<◌, List, length, drop, option_map, refl, sym, ap, ◌∙◌, inl}
use Rattle.std.proofs.lemmas.Option.{slice_get-map}
use Rattle.coded_append.specs.Batches.{batch_of}
use Rattle.craft_base.specs.Shape.{Shape}
use Rattle.craft_base.specs.declared.command.Entry.{Entry}
use Rattle.entry_frames.specs.Logs.{last_index}
use Rattle.entry_frames.specs.declared.role.Role.{Role}
use Rattle.entry_frames.specs.declared.role.Role.TheVariants.{Follower, Candidate, Preparing, Leader}
use Rattle.world_model.specs.Nodes.{Node}
use Rattle.world_model.specs.Rules.Acts.{message_of}
use Rattle.world_model.specs.Rules.Prepare.{cursor_at}
use Rattle.world_model.specs.Rules.Ask.{act_of_ask, act_of_ask_as, act_of_asked, act_of_showing, page_from}
use Rattle.protocol.specs.History as protocol
use Rattle.protocol.specs.Logs.{slot_at}
use Rattle.protocol.specs.Moves.{Answer, Reached, Restart, after}
use Rattle.protocol.proofs.Runs.{moves_trans}
use Rattle.bridge.specs.Agreement.{AnswerAgrees, NodeAgrees}
use Rattle.bridge.specs.Bridges.{ActBridged, OwnMoves}
use Rattle.bridge.specs.Views.{slot_seen}
use Rattle.bridge.proofs.Batches.{IsFirst, batch_entry, batch_first}
use Rattle.bridge.proofs.Facts.{all_heard_stays, pages_stay}
use Rattle.bridge.proofs.Restarting.{restarts}
use Rattle.bridge.proofs.Rules.Append.{follower_agrees}
use Rattle.bridge.proofs.Steps.{after_moves, moved, own_move, reached_grows, sends_one, unmoved_stays}
use Rattle.bridge.proofs.Views.{length_seen, slot_at_seen}

module _
    {shape : Shape} {g : protocol.History} {member : ℕ} {n : Node} (reached : Reached shape.faults g) (a : NodeAgrees shape g member n) (start : ℕ)
  where
    abbrev showing : protocol.History
    showing = after g (Answer member start)

    shows : OwnMoves shape.faults member g showing
    shows = own_move (Answer member start) tt

    showing_agrees : NodeAgrees shape showing member n
    showing_agrees = record {
      of_shape = a.of_shape;
      me = a.me;
      within = a.within;
      term = a.term;
      vote = a.vote;
      log = a.log;
      commit = a.commit;
      role = a.role;
      heard = all_heard_stays (reached_grows reached shows.run) n.durable.term member n.volatile.heard a.heard;
      knows = a.knows;
      pages = pages_stay (reached_grows reached shows.run) n.volatile.role n.durable.term (cursor_at n) n.volatile.pages a.pages;
      needs = a.needs;
    }

    -- its slots are those of the log that it shows
    pub page_agrees :
        0 < start → AnswerAgrees showing n.durable.term n.me start (last_index n.durable.log) (batch_of n.shape.need (drop (start - 1) n.durable.log))
    page_agrees from =
        let log : List Entry = n.durable.log in
        let slots : List Entry = batch_of n.shape.need (drop (start - 1) log) in
        let first : IsFirst (drop (start - 1) log) slots = batch_first n.shape.need (drop (start - 1) log) in
        record {
          shown = g.log member;
          was = inl (rw (← a.term, a.me) refl);
          from = from;
          ends = ap length a.log ∙ length_seen log;
          there = λ place lt.
              ap (λ seen. slot_at seen (start + place)) a.log ∙ slot_at_seen log (start + place)
              ∙ ap (option_map slot_seen) (batch_entry log slots start place from first lt) ∙ sym (slice_get-map slot_seen slots place);
        }

    showing_bridged : (asker : ℕ) → asker ≢ member → 0 < start → ActBridged shape g member (act_of_showing asker start n)
    showing_bridged asker apart from =
        moved (act_of_showing asker start n) shows showing_agrees
        (sends_one showing (message_of n (page_from n start) asker) (record { apart = λ e. apart (sym e ∙ a.me); body_agrees = page_agrees from }))

module _
    {shape : Shape} {g : protocol.History} {member : ℕ} {n : Node} (reached : Reached shape.faults g) (a : NodeAgrees shape g member n)
    (asker start : ℕ) (apart : asker ≢ member) (from : 0 < start)
  where
    asked_bridged : ActBridged shape g member (act_of_asked asker start n)
    asked_bridged =
        let moves : OwnMoves shape.faults member g (after g (Restart member)) = restarts g member in
        let later : Reached shape.faults (after g (Restart member)) = moves_trans shape.faults _ g (after g (Restart member)) reached moves.run in
        after_moves moves (showing_bridged later (follower_agrees reached a asker) start asker apart from)

    ask_as_bridged : (role : Role) → ActBridged shape g member (act_of_ask_as role n asker start)
    ask_as_bridged Follower = asked_bridged
    ask_as_bridged Candidate = asked_bridged
    ask_as_bridged Preparing = unmoved_stays a
    ask_as_bridged Leader = unmoved_stays a

    pub ask_bridged : ActBridged shape g member (act_of_ask n asker start)
    ask_bridged = ask_as_bridged n.volatile.role
