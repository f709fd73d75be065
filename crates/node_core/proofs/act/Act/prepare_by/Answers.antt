use Rattle.std.proofs.Common.{◌≡◌, ◌≤◌, ◌++◌, List, length, map, refl, sym, subst, ap, ◌∙◌, arith}
use Rattle.std.specs.Option.{option_to_list}
use Rattle.std.proofs.lemmas.Result.{IfOk-weaker}
use Rattle.craft_base.specs.Shape.{Shape, IsShape}
use Rattle.entry_frames.specs.Durable.{Durable}
use Rattle.entry_frames.specs.Records.{Cut, Record}
use Rattle.entry_frames.specs.declared.role.Role.TheVariants.{Preparing}
use Rattle.leader_prep.specs.Decisions.{cursor_of}
use Rattle.leader_prep.specs.Pages.{Page, page_of}
use Rattle.leader_prep.proofs.Ranges.{few_slots}
use Rattle.world_model.specs.Ranges.{HasSpelling, PageInRange}
use Rattle.world_model.specs.Rules.Acts.{recording_all, stays}
use Rattle.world_model.specs.Rules.Answer.{node_seeing}
use Rattle.world_model.specs.Rules.Prepare.{cursor_at, decided_records, decision_at}
use Rattle.node_core.specs.Acting.{IsActed, Recorded, is_gathering, is_preparing}
use Rattle.node_core.specs.Preparing.{value_given, won}
use Rattle.node_core.proofs.Preparing.{decided_ranged, given_term, may_decide, page_ranged, preparing_acted, records_are, still_stands}
use Rattle.node_core.proofs.Gathering.{still_idle}
use Rattle.node_core.proofs.Recorded.{both_recorded, may_front, may_rest}
use Rattle.node_core.proofs.Showing.{never_unprepared, prepared}
use Rattle.node_core.proofs.act.Act.prepare_by.Goals as goal

pub unreachable-requires : goal.unreachable-requires
unreachable-requires c =
    let r = c.requires.ranged in
    let m = c.args.self.member in
    never_unprepared m.prep r.node.shape r.node.me r.node.volatile.pages m.role (cursor_at r.node) c.requires.prepares (sym c.leave_preparation.ensures.prep ∙ c.in_default.is) r.is.stands.of_prep

pub take-requires-clause-few : goal.take-requires-clause-few
take-requires-clause-few c = few_slots c.args.self.member.store.shape c.args.answer.now.frame c.requires.current.spelled.1 c.requires.kind

pub take-requires-clause-same_shape : goal.take-requires-clause-same_shape
take-requires-clause-same_shape c =
    let r = c.requires.ranged in
    let m = c.args.self.member in
    let prep = c.in-Some.prep in
    let stood = prepared m.prep r.node.shape r.node.me r.node.volatile.pages m.role prep (cursor_at r.node) c.requires.prepares (sym c.leave_preparation.ensures.prep ∙ c.in-Some.is) r.is.stands.of_prep in
    c.requires.current.of_shape ∙ r.is.of_store ∙ sym stood.same_shape

pub take-requires-clause-need : goal.take-requires-clause-need
take-requires-clause-need c =
    let r = c.requires.ranged in
    let m = c.args.self.member in
    let prep = c.in-Some.prep in
    let stood = prepared m.prep r.node.shape r.node.me r.node.volatile.pages m.role prep (cursor_at r.node) c.requires.prepares (sym c.leave_preparation.ensures.prep ∙ c.in-Some.is) r.is.stands.of_prep in
    ap (λ x. x.store.shape.need) c.leave_preparation.ensures.rest ∙ ap (λ s. s.need) (r.is.of_store ∙ sym stood.same_shape)

pub take-requires-clause-cursor : goal.take-requires-clause-cursor
take-requires-clause-cursor c =
    let r = c.requires.ranged in
    let m = c.args.self.member in
    let prep = c.in-Some.prep in
    let stood = prepared m.prep r.node.shape r.node.me r.node.volatile.pages m.role prep (cursor_at r.node) c.requires.prepares (sym c.leave_preparation.ensures.prep ∙ c.in-Some.is) r.is.stands.of_prep in
    stood.same_cursor ∙ ap (λ d. cursor_of d.commit d.log) (sym r.is.stands.of_durable) ∙ ap (λ x. cursor_of x.store.kept.commit x.store.kept.log) (sym c.leave_preparation.ensures.rest)

pub give_values-requires-clause-idle : goal.give_values-requires-clause-idle
give_values-requires-clause-idle c = ap (λ x. is_gathering x.role x.gather) c.leave_preparation.ensures.rest

pub cut-requires-clause-idle : goal.cut-requires-clause-idle
cut-requires-clause-idle c =
    still_idle (map value_given c.deref.result.now) (record c.args.self { member = c.leave_preparation.new.self }) c.in_ok-act.act c.in_ok-act.ensures
    (ap (λ x. is_gathering x.role x.gather) c.leave_preparation.ensures.rest)

pub give_values-requires-clause-free : goal.give_values-requires-clause-free
give_values-requires-clause-free c = ap (λ x. is_preparing x.role) c.leave_preparation.ensures.rest

pub cut-requires-clause-free : goal.cut-requires-clause-free
cut-requires-clause-free c = ap is_preparing (c.in_ok-act.ensures.role ∙ ap (λ x. x.role) c.leave_preparation.ensures.rest)

pub give_values-requires-clause-may : goal.give_values-requires-clause-may
give_values-requires-clause-may c =
    let r = c.requires.ranged in
    let n = r.node in
    let m = c.args.self.member in
    let left = c.leave_preparation.new.self in
    let page : Page = page_of c.args.answer.now.frame in
    let prep = c.in-Some.prep in
    let stood = prepared m.prep n.shape n.me n.volatile.pages m.role prep (cursor_at n) c.requires.prepares (sym c.leave_preparation.ensures.prep ∙ c.in-Some.is) r.is.stands.of_prep in
    let own : left.store.kept ≡ n.durable = ap (λ x. x.store.kept) c.leave_preparation.ensures.rest ∙ r.is.stands.of_durable in
    let shape : n.shape ≡ left.store.shape = sym r.is.of_store ∙ ap (λ x. x.store.shape) (sym c.leave_preparation.ensures.rest) in
    let is_shape : IsShape n.shape = subst (λ (s : Shape). IsShape s) r.is.stands.of_shape c.law.ensures in
    let records = records_are n page left.store.kept c.deref.result.now c.in_ok-prep.verdicts.cut own
    (c.deref.ensures.value ∙ c.in_ok-prep.ensures.values n.shape n.me n.volatile.pages (cursor_at n) stood) (c.in_ok-prep.ensures.decides n.shape n.me n.volatile.pages (cursor_at n) stood).cut in
    may_front left (map value_given c.deref.result.now) (map Cut (option_to_list c.in_ok-prep.verdicts.cut))
    (may_decide c.args.answer.now.frame m left n r.is r.ranged is_shape c.requires.prepares c.requires.begun c.requires.kind c.requires.current.spelled own shape _ records)

pub cut-requires-clause-may : goal.cut-requires-clause-may
cut-requires-clause-may c =
    let r = c.requires.ranged in
    let n = r.node in
    let m = c.args.self.member in
    let left = c.leave_preparation.new.self in
    let act0 = record c.args.self { member = left } in
    let page : Page = page_of c.args.answer.now.frame in
    let prep = c.in-Some.prep in
    let stood = prepared m.prep n.shape n.me n.volatile.pages m.role prep (cursor_at n) c.requires.prepares (sym c.leave_preparation.ensures.prep ∙ c.in-Some.is) r.is.stands.of_prep in
    let own : left.store.kept ≡ n.durable = ap (λ x. x.store.kept) c.leave_preparation.ensures.rest ∙ r.is.stands.of_durable in
    let shape : n.shape ≡ left.store.shape = sym r.is.of_store ∙ ap (λ x. x.store.shape) (sym c.leave_preparation.ensures.rest) in
    let is_shape : IsShape n.shape = subst (λ (s : Shape). IsShape s) r.is.stands.of_shape c.law.ensures in
    let wholes = map value_given c.deref.result.now in
    let cuts = map Cut (option_to_list c.in_ok-prep.verdicts.cut) in
    let records = records_are n page left.store.kept c.deref.result.now c.in_ok-prep.verdicts.cut own
    (c.deref.ensures.value ∙ c.in_ok-prep.ensures.values n.shape n.me n.volatile.pages (cursor_at n) stood) (c.in_ok-prep.ensures.decides n.shape n.me n.volatile.pages (cursor_at n) stood).cut in
    may_rest wholes cuts act0 c.in_ok-act.act
    (may_decide c.args.answer.now.frame m left n r.is r.ranged is_shape c.requires.prepares c.requires.begun c.requires.kind c.requires.current.spelled own shape (wholes ++ cuts) records)
    c.in_ok-act.ensures

pub go_on-requires-clause-candidate : goal.go_on-requires-clause-candidate
go_on-requires-clause-candidate c = c.in_ok-act-2.ensures.role ∙ c.in_ok-act.ensures.role ∙ ap (λ x. x.role) c.leave_preparation.ensures.rest

pub go_on-requires-clause-begun : goal.go_on-requires-clause-begun
go_on-requires-clause-begun c =
    let left = c.leave_preparation.new.self in
    let act0 = record c.args.self { member = left } in
    let wholes = map value_given c.deref.result.now in
    let cuts = map Cut (option_to_list c.in_ok-prep.verdicts.cut) in
    let made = both_recorded wholes cuts act0 c.in_ok-act.act c.in_ok-act-2.act c.in_ok-act.ensures c.in_ok-act-2.ensures in
    let same : c.in_ok-act-2.act.member.store.kept.term ≡ c.args.self.member.store.kept.term =
    ap (λ d. d.term) made.kept ∙ given_term left.store.kept c.deref.result.now (option_to_list c.in_ok-prep.verdicts.cut)
    ∙ ap (λ x. x.store.kept.term) c.leave_preparation.ensures.rest in
    omega (arith, c.requires.begun, same)

pub go_on-requires-clause-ranged : goal.go_on-requires-clause-ranged
go_on-requires-clause-ranged c =
    let r = c.requires.ranged in
    let n = r.node in
    let m = c.args.self.member in
    let left = c.leave_preparation.new.self in
    let act0 = record c.args.self { member = left } in
    let frame = c.args.answer.now.frame in
    let page : Page = page_of frame in
    let prep = c.in-Some.prep in
    let stood = prepared m.prep n.shape n.me n.volatile.pages m.role prep (cursor_at n) c.requires.prepares (sym c.leave_preparation.ensures.prep ∙ c.in-Some.is) r.is.stands.of_prep in
    let own : left.store.kept ≡ n.durable = ap (λ x. x.store.kept) c.leave_preparation.ensures.rest ∙ r.is.stands.of_durable in
    let is_shape : IsShape n.shape = subst (λ (s : Shape). IsShape s) r.is.stands.of_shape c.law.ensures in
    let wholes = map value_given c.deref.result.now in
    let cuts = map Cut (option_to_list c.in_ok-prep.verdicts.cut) in
    let records = records_are n page left.store.kept c.deref.result.now c.in_ok-prep.verdicts.cut own
    (c.deref.ensures.value ∙ c.in_ok-prep.ensures.values n.shape n.me n.volatile.pages (cursor_at n) stood) (c.in_ok-prep.ensures.decides n.shape n.me n.volatile.pages (cursor_at n) stood).cut in
    let made = both_recorded wholes cuts act0 c.in_ok-act.act c.in_ok-act-2.act c.in_ok-act.ensures c.in_ok-act-2.ensures in
    let decided : List Record = decided_records (decision_at (node_seeing page n)) in
    let acts : Recorded decided act0 c.in_ok-act-2.act = subst (λ (rs : List Record). Recorded rs act0 c.in_ok-act-2.act) records made in
    let role : n.volatile.role ≡ Preparing = sym r.is.stands.of_role ∙ c.requires.prepares in
    let begun : 1 ≤ n.durable.term = subst (λ (d : Durable). 1 ≤ d.term) r.is.stands.of_durable c.requires.begun in
    let fits : PageInRange n.shape.need page = page_ranged n.shape frame (subst (λ (s : Shape). HasSpelling s frame) r.is.of_store c.requires.current.spelled) c.requires.kind in
    record {
      node = (recording_all decided (stays (won n))).node;
      is = (acts.acts (won n) (c.leave_preparation.ensures.becomes.node n r.is)).node;
      ranged = decided_ranged is_shape r.ranged role begun page fits;
    }

pub returns : goal.returns
returns c = IfOk-weaker c.go_on.result _ _ (λ x went n is.
    let self = c.args.self in
    let m = self.member in
    let left = c.leave_preparation.new.self in
    let act0 = record self { member = left } in
    let act2 = c.in_ok-act-2.act in
    let page : Page = page_of c.args.answer.now.frame in
    let prep = c.in-Some.prep in
    let after = c.in_ok-prep.prep in
    let stood = prepared m.prep n.shape n.me n.volatile.pages m.role prep (cursor_at n) c.requires.prepares (sym c.leave_preparation.ensures.prep ∙ c.in-Some.is) is.stands.of_prep in
    let own : left.store.kept ≡ n.durable = ap (λ x. x.store.kept) c.leave_preparation.ensures.rest ∙ is.stands.of_durable in
    let wholes = map value_given c.deref.result.now in
    let cuts = map Cut (option_to_list c.in_ok-prep.verdicts.cut) in
    let records = records_are n page left.store.kept c.deref.result.now c.in_ok-prep.verdicts.cut own
    (c.deref.ensures.value ∙ c.in_ok-prep.ensures.values n.shape n.me n.volatile.pages (cursor_at n) stood) (c.in_ok-prep.ensures.decides n.shape n.me n.volatile.pages (cursor_at n) stood).cut in
    let made = both_recorded wholes cuts act0 c.in_ok-act.act act2 c.in_ok-act.ensures c.in_ok-act-2.ensures in
    let decided : List Record = decided_records (decision_at (node_seeing page n)) in
    let acts : Recorded decided act0 act2 = subst (λ (rs : List Record). Recorded rs act0 act2) records made in
    let first : IsActed (recording_all decided (stays (won n))) act0 act2 = acts.acts (won n) (c.leave_preparation.ensures.becomes.node n is) in
    let within : n.durable.commit ≤ length n.durable.log = subst (λ (d : Durable). d.commit ≤ length d.log) is.stands.of_durable m.store.is_log.committed in
    let stands = c.in_ok-prep.ensures.stands n.shape n.me n.volatile.pages (cursor_at n) stood in
    preparing_acted n page c.cursor-before.result decided self act0 act2 x refl (ap (λ z. z.store) c.leave_preparation.ensures.rest) (sym is.stands.of_role ∙ c.requires.prepares)
    (c.cursor-before.ensures n.shape n.me n.volatile.pages (cursor_at n) stood) refl first
    (went (recording_all decided (stays (won n))).node (node_seeing page n).volatile.pages first.node (still_stands n page left.store.kept own within after stands)))
    c.go_on.ensures
