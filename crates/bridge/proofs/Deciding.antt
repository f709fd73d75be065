-- What a member that prepares decides, by pages that agree: what is had becomes whole, which is the move rebuild; and where its log is cut
-- the entry is lost, as it shows once it has shown its own log too.
use Rattle.std.proofs.Common.{◌≡◌, ℕ, suc, ◌+◌, ◌-◌, ◌<◌, ◌≤◌, true, List, ◌∷◌, length, map, take, Some, option_map, refl, sym, ap, subst, ◌∙◌, inl, arith, le_refl, length-take-le}
use Rattle.std.specs.List.{All}
use Rattle.std.proofs.lemmas.List.Elements.{All-weaker}
use Rattle.std.proofs.lemmas.Option.{slice_get_within}
use Rattle.craft_base.specs.Shape.{Shape}
use Rattle.craft_base.specs.declared.command.Entry.{Entry}
use Rattle.entry_frames.specs.Durable.{Durable, after as applied_all}
use Rattle.entry_frames.specs.Logs as node
use Rattle.entry_frames.specs.declared.role.Role.TheVariants.{Preparing}
use Rattle.leader_prep.specs.Decisions.{OpenPart, cursor_of, decision, open_parts, verdict_at}
use Rattle.leader_prep.specs.Verdicts.{Cut}
use Rattle.protocol.specs.Counting.{put}
use Rattle.protocol.specs.Growth.{Grows}
use Rattle.protocol.specs.History as protocol
use Rattle.protocol.specs.Invariants.{Sound}
use Rattle.protocol.specs.Logs.{Agree, Has, IsFront, KeepsWhole, Same, Slot, slot_at, term_at, whole_at}
use Rattle.protocol.specs.Moves.{Answer, Rebuild, Reached, ShowsLoss}
use Rattle.protocol.proofs.Counting.{put_same}
use Rattle.protocol.proofs.Logs.{same_has, sound_match}
use Rattle.protocol.proofs.Runs.{sound_reached}
use Rattle.protocol.proofs.Slots.{front_take, whole_at-take}
use Rattle.world_model.specs.Nodes.{Node}
use Rattle.world_model.specs.Ranges.{IsOfNoLog}
use Rattle.world_model.specs.Rules.Prepare.{cursor_at, decision_at, whole_record}
use Rattle.world_model.specs.Traces.{Proposal}
use Rattle.bridge.specs.Agreement.{BeginsBy, HeardAgrees, KnowsWithin, NodeAgrees, PageAgrees, PagesAgree}
use Rattle.bridge.specs.Bridges.{OwnMoves}
use Rattle.bridge.specs.Traced.{AllStand, PageStands, StandsAt, holder}
use Rattle.bridge.specs.Views.{log_seen, slot_seen}
use Rattle.bridge.proofs.Book.Standing.{stand_place}
use Rattle.bridge.proofs.Completed.{IsCompleted}
use Rattle.bridge.proofs.Facts.{all_heard_stays, all_pages_stay}
use Rattle.bridge.proofs.Losing.{cut_shows_loss}
use Rattle.bridge.proofs.OpenParts.{Decides, IsOpenPart, cut_is, open_parts_are}
use Rattle.bridge.proofs.Pages.{Seen}
use Rattle.bridge.proofs.Steps.{own_move, own_then, reached_grows}
use Rattle.bridge.proofs.Views.{length_seen, slot_at_seen, term_at_seen}
use Rattle.bridge.proofs.Remaining.{pages_begun, rebuilt_completes, still_begun}

module _
    {shape : Shape} {g : protocol.History} {me : ℕ} {n : Node} (reached : Reached shape.faults g) (a : NodeAgrees shape g me n)
    (prepares : n.volatile.role ≡ Preparing)
  where
    abbrev log : List Entry
    log = n.durable.log

    -- what it keeps, with what is had
    abbrev pub had : Durable
    had = applied_all n.durable (map whole_record (decision_at n).rebuilt)

    completes : IsCompleted n.durable had
    completes = rebuilt_completes n.durable (decision_at n).rebuilt

    abbrev now : List Slot
    now = log_seen had.log

    abbrev pub rebuilt_node : Node
    rebuilt_node = record n { durable = had }

    -- the history in which it has that log, and in which that was shown
    abbrev pub rebuilt : List protocol.Shown → protocol.History
    rebuilt answers = record g { log = put me now g.log; answers = answers }

    is_now : put me now g.log me ≡ now
    is_now = put_same me now g.log

    same_now : Same (g.log me) now
    same_now = subst (λ slots. Same slots now) (sym a.log) (completes.same)

    keeps_now : KeepsWhole (g.log me) now (length now)
    keeps_now i le w = completes.whole i (subst (λ slots. whole_at slots i ≡ true) a.log w)

    pages_are : All (PageAgrees g n.durable.term) n.volatile.pages × All (BeginsBy (cursor_at n)) n.volatile.pages
    pages_are = subst (λ role. PagesAgree role g n.durable.term (cursor_at n) n.volatile.pages) prepares a.pages

    pub no_logs : All IsOfNoLog n.volatile.heard
    no_logs = subst (λ role. KnowsWithin role (length log) n.volatile.first n.volatile.heard) prepares a.knows

    -- the node agrees once it has what it could have
    pub rebuilt_agrees : (answers : List protocol.Shown) → Grows g (rebuilt answers) → NodeAgrees shape (rebuilt answers) me rebuilt_node
    rebuilt_agrees answers grows =
        let h : protocol.History = rebuilt answers in
        let pages : PagesAgree Preparing h had.term (cursor_of had.commit had.log) n.volatile.pages = (
          subst (λ t. All (PageAgrees h t) n.volatile.pages) (sym completes.term) (all_pages_stay grows n.durable.term n.volatile.pages pages_are.0),
          subst (λ commit. All (BeginsBy (cursor_of commit had.log)) n.volatile.pages) (sym completes.commit)
              (still_begun n.durable had completes n.volatile.pages pages_are.1),
        ) in
        record {
          of_shape = a.of_shape;
          me = a.me;
          within = a.within;
          term = a.term ∙ sym completes.term;
          vote = a.vote ∙ sym completes.vote;
          log = is_now;
          commit = a.commit ∙ sym completes.commit;
          role = a.role;
          heard =
              subst (λ t. All (HeardAgrees h t me) n.volatile.heard) (sym completes.term)
              (all_heard_stays grows n.durable.term me n.volatile.heard a.heard);
          knows = subst (λ role. KnowsWithin role (length had.log) n.volatile.first n.volatile.heard) (sym prepares) no_logs;
          pages = subst (λ role. PagesAgree role h had.term (cursor_of had.commit had.log) n.volatile.pages) (sym prepares) pages;
          needs = a.needs;
        }

    pub rebuilds : OwnMoves shape.faults me g (rebuilt g.answers)
    rebuilds = own_move (Rebuild me now) (same_now, keeps_now)

    -- ---- an entry that is lost

    -- the history in which it showed its own log before
    abbrev pub shown_at : ℕ → List protocol.Shown
    shown_at index = record { term = g.term me; member = me; start = index; slots = g.log me } ∷ g.answers

    pub shows : (index : ℕ) → OwnMoves shape.faults me g (rebuilt (shown_at index))
    shows index = own_then (own_move (Answer me index) tt) (own_move (Rebuild me now) (same_now, keeps_now))

    module _ (book : List Proposal) (stand : AllStand (holder shape me) book 1 log) (seen : All (PageStands shape book) n.volatile.pages) where
      part_stands : (part : OpenPart) → IsOpenPart n.durable.commit log part → StandsAt (holder shape me) book part.index part.entry
      part_stands part is =
          let above : n.durable.commit < part.index = is.above in
          let at : part.index ≡ suc (part.index - 1) = omega (arith, above) in
          let behind : 1 + (part.index - 1) ≡ part.index = omega (arith, above) in
          subst (λ i. StandsAt (holder shape me) book i part.entry) behind
          (stand_place (holder shape me) book 1 log (part.index - 1) part.entry stand (ap (node.entry_at log) (sym at) ∙ is.here))

      -- a part that is to be cut
      record IsCutPart (index : ℕ) : Type 0 where
        pub entry : Entry
        pub here : IsOpenPart n.durable.commit log (record { index = index; entry = entry })
        pub cut : verdict_at shape me n.volatile.pages (record { index = index; entry = entry }) ≡ Cut

      cut_part : (index : ℕ) → (decision_at n).cut ≡ Some index → IsCutPart index
      cut_part index e =
          cut_is (verdict_at shape me n.volatile.pages) IsCutPart (open_parts n.durable.commit log)
          (All-weaker (IsOpenPart n.durable.commit log) (Decides (verdict_at shape me n.volatile.pages) Cut IsCutPart)
          (λ part here is. record { entry = part.entry; here = here; cut = is }) (open_parts n.durable.commit log) (open_parts_are n.durable.commit log)) index
          (subst (λ s. (decision s me n.volatile.pages n.durable.commit log).cut ≡ Some index) a.of_shape
          (subst (λ j. (decision n.shape j n.volatile.pages n.durable.commit log).cut ≡ Some index) a.me e))

      module _ (index : ℕ) (it : IsCutPart index) where
        abbrev entry : Entry
        entry = it.entry

        above : n.durable.commit < index
        above = it.here.above

        -- the member has the entry, before and after
        has_it : Has (g.log me) index entry.term
        has_it =
            let high : n.durable.commit < index = above in
            let behind : index ≡ suc (index - 1) = omega (arith, high) in
            let place : index - 1 < length log = slice_get_within log (index - 1) entry (ap (node.entry_at log) (sym behind) ∙ it.here.here) in
            let long : length (g.log me) ≡ length log = ap length a.log ∙ length_seen log in
            record {
              from = omega (arith, high);
              within = omega (arith, place, long, high);
              here = ap (λ slots. term_at slots index) a.log ∙ term_at_seen log index ∙ ap node.term_of_entry it.here.here;
            }

        has_now : Has now index entry.term
        has_now = same_has index entry.term same_now has_it

        need_here : g.need entry.term index ≡ shape.need
        need_here =
            let s : Sound shape.faults g = sound_reached shape.faults g reached in
            let agree_led : Agree (g.log me) (g.led entry.term) index = sound_match index entry.term (s.logs.log me).0 has_it in
            ap (λ t. g.need t index) (sym has_it.here ∙ agree_led.same index (le_refl _)) ∙ a.needs entry.term index has_it.from agree_led.right

        own_shown : Seen (rebuilt (shown_at index)) n.durable.term me index (Some entry)
        own_shown = (
          g.log me,
          record {
            start = index;
            early = le_refl _;
            was = inl (rw (← a.term) refl);
            there = ap (λ slots. slot_at slots index) a.log ∙ slot_at_seen log index ∙ ap (option_map slot_seen) it.here.here;
          },
        )

        lost : ShowsLoss shape.faults (rebuilt (shown_at index)) me (take (index - 1) now)
        lost =
            let h : protocol.History = rebuilt (shown_at index) in
            let left : List Slot = take (index - 1) now in
            let within : index ≤ length now = has_now.within in
            let high : n.durable.commit < index = above in
            let short : length left ≡ index - 1 = length-take-le (index - 1) now (omega (arith, within)) in
            cut_shows_loss shape book h me n.durable.term index entry (part_stands (record { index = index; entry = entry }) it.here) n.volatile.pages seen
            (all_pages_stay (reached_grows reached (shows index).run) n.durable.term n.volatile.pages pages_are.0)
            (pages_begun n.durable.commit log (record { index = index; entry = entry }) n.volatile.pages pages_are.1 it.here) own_shown has_it.from it.cut
            left a.term (subst (λ slots. Has slots index entry.term) (sym is_now) has_now)
            (subst (λ commit. commit < index) (sym a.commit) high) need_here (omega (arith, short, high))
            (subst (IsFront left) (sym is_now) (front_take (index - 1) now (omega (arith, within))))
            (subst (λ slots. KeepsWhole slots left (length left)) (sym is_now)
            (λ i le w. whole_at-take (index - 1) now i (omega (arith, le, short)) ∙ w))

      -- where the log is to be cut, the entry there is lost
      pub loses : (index : ℕ) → (decision_at n).cut ≡ Some index → ShowsLoss shape.faults (rebuilt (shown_at index)) me (take (index - 1) now)
      loses index e = lost index (cut_part index e)
