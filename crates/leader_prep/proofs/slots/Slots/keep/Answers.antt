use Rattle.std.proofs.Common.{◌≡◌, ℕ, ◌<◌, ◌+◌, ap, sym, ◌∙◌, arith, length, subst, None, Some}
use Rattle.std.specs.Prelude.{slice_get}
use Rattle.entry_frames.specs.MessageParts.{body_of, entries_of}
use Rattle.leader_prep.specs.Changes.{Keeps, KeepsOne, shown_one}
use Rattle.leader_prep.specs.Keeping.{KeptSlots}
use Rattle.leader_prep.specs.Pages.{page_of, slot_of}
use Rattle.leader_prep.proofs.Joining.{first_slots, keeps_then, one_slot_more}
use Rattle.leader_prep.proofs.Lists.{viewed_none, viewed_some}
use Rattle.leader_prep.proofs.Ranges.{told}
use Rattle.peer_frames.proofs.Spelled.{there_is}
use Rattle.leader_prep.proofs.slots.Slots.keep.Goals.{in-Some+in_ok-keep_one, in_default}
use Rattle.leader_prep.proofs.slots.Slots.keep.Goals as goal

pub loop-n-preserved : goal.loop-n-preserved
loop-n-preserved c =
    let frame = c.args.page.now.frame in
    let page = page_of frame in
    let place = slice_get (entries_of (body_of frame)) c.loop-n.n in
    elim c.match-entry.branch [
      | in-Some+in_ok-keep_one w ↦ (
          let entry = w.in-Some.view.entry in
          let index : c.start-start.result + w.from-in-Some.result ≡ page.start + c.loop-n.n = omega (arith, c.start-start.ensures, w.from-in-Some.ensures) in
          let sender : c.number-from.result ≡ page.sender = c.number-from.ensures.value ∙ c.from.ensures in
          let there : place ≡ Some entry = viewed_some c.args.page.now.shape.need place w.in-Some.view w.in-Some.ensures in
          record {
            need = ap (λ (s : KeptSlots). s.k) w.self-is ∙ w.keep_one.ensures.need ∙ c.loop-n.invariant.need;
            keeps =
                subst (λ (s : KeptSlots). Keeps c.args.self.now s c.args.cursor (λ member at. slot_of member (first_slots (c.loop-n.n + 1) page) at)) (sym w.self-is)
                (keeps_then c.args.self.now c.loop-n.self w.keep_one.new.self c.args.cursor (λ member at. slot_of member (first_slots c.loop-n.n page) at)
                (λ member at. shown_one page.sender (c.start-start.result + w.from-in-Some.result) entry member at)
                (λ member at. slot_of member (first_slots (c.loop-n.n + 1) page) at) c.loop-n.invariant.keeps
                (subst (λ (n : ℕ). KeepsOne c.loop-n.self w.keep_one.new.self c.args.cursor n (c.start-start.result + w.from-in-Some.result) entry) sender w.in_ok-keep_one.ensures.keeps)
                (one_slot_more page c.loop-n.n (c.start-start.result + w.from-in-Some.result) entry there index));
          })
      | in_default w ↦ (
          let none : place ≡ None = viewed_none c.args.page.now.shape.need place w.in_default.ensures in
          let within : c.loop-n.n < length (entries_of (body_of frame)) = omega (arith, c.loop-n-test.true, c.count-n-end.ensures, told frame c.requires.kind) in
          absurd (there_is (entries_of (body_of frame)) c.loop-n.n within none))
    ]
