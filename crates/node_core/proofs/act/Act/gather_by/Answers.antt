use Rattle.std.proofs.Common.{◌≡◌, ◌∙◌, [], None, Some, List, ap, refl, sym, subst}
use Rattle.std.proofs.lemmas.Result.{IfOk-weaker}
use Rattle.craft_base.specs.Shape.{Shape, IsShape}
use Rattle.gather_read.specs.Gathered.{IsGiven, gathered, gathered_value}
use Rattle.entry_frames.specs.declared.role.Role.TheVariants.{Leader}
use Rattle.gather_read.specs.Standing as gathering
use Rattle.leader_prep.specs.Pages.{Page, joined, page_of}
use Rattle.world_model.specs.Ranges.{HasSpelling, PageInRange}
use Rattle.world_model.specs.Rules.Acts.{stays}
use Rattle.world_model.specs.Rules.Answer.{act_of_value, node_shown}
use Rattle.node_core.specs.declared.act.Act.{Act}
use Rattle.node_core.specs.declared.member.Member.{Member}
use Rattle.node_core.specs.Acting.{IsActed, IsNode}
use Rattle.node_core.specs.Stands.{IsGathering}
use Rattle.node_core.specs.Wanting.{MayHave, shown_act}
use Rattle.node_core.proofs.Acting.{acted_from, stays_acted}
use Rattle.node_core.proofs.Having.{gathering_node, has_value, may_have, nothing_shown, unwanting, waits_still}
use Rattle.node_core.proofs.Preparing.{page_ranged}
use Rattle.node_core.proofs.Wanting.{unwanted_is, wanted_is}
use Rattle.node_core.proofs.act.Act.gather_by.Goals as goal

pub returns-in_default : goal.returns-in_default
returns-in_default c = λ n is.
    let self = c.args.self in
    let m = self.member in
    let page : Page = page_of c.args.answer.now.frame in
    let none : m.gather ≡ None = sym c.leave_want.ensures.gather ∙ c.in_default.is in
    let want : n.volatile.want ≡ None =
    unwanted_is n.shape n.me n.durable.log n.volatile.pages n.volatile.want m.role m.gather c.requires.leads none is.stands.of_gather in
    let same : c.leave_want.new.self ≡ m = c.leave_want.ensures.rest ∙ ap (λ g. record m { gather = g }) (sym none) in
    subst (λ a. IsActed a self (record self { member = c.leave_want.new.self })) (sym (nothing_shown page n want))
    (subst (λ (x : Member). IsActed (stays n) self (record self { member = x })) (sym same) (stays_acted self n is))

pub take-requires-clause-same_shape : goal.take-requires-clause-same_shape
take-requires-clause-same_shape c =
    let r = c.requires.ranged in
    let n = r.node in
    let m = c.args.self.member in
    let gather = c.in-Some.gather in
    let w = wanted_is n.shape n.me n.durable.log n.volatile.pages n.volatile.want m.role m.gather gather c.requires.leads
    (sym c.leave_want.ensures.gather ∙ c.in-Some.is) r.is.stands.of_gather in
    c.requires.current.of_shape ∙ r.is.of_store ∙ sym w.stands.same_shape

pub have-requires-clause-leads : goal.have-requires-clause-leads
have-requires-clause-leads c = ap (λ x. x.role) c.leave_want.ensures.rest ∙ c.requires.leads

pub have-requires-clause-none : goal.have-requires-clause-none
have-requires-clause-none c = ap (λ x. x.gather) c.leave_want.ensures.rest

pub have-requires-clause-may : goal.have-requires-clause-may
have-requires-clause-may c =
    let r = c.requires.ranged in
    let n = r.node in
    let m = c.args.self.member in
    let frame = c.args.answer.now.frame in
    let page : Page = page_of frame in
    let gather = c.in-Some.gather in
    let value = c.in-Some-value.value in
    let w = wanted_is n.shape n.me n.durable.log n.volatile.pages n.volatile.want m.role m.gather gather c.requires.leads
    (sym c.leave_want.ensures.gather ∙ c.in-Some.is) r.is.stands.of_gather in
    let index : c.index-index.result ≡ w.index = c.index-index.ensures n.shape n.me w.index w.own n.volatile.pages w.stands in
    let is_shape : IsShape n.shape = subst (λ (s : Shape). IsShape s) r.is.stands.of_shape c.law.ensures in
    let fits : PageInRange n.shape.need page = page_ranged n.shape frame (subst (λ (s : Shape). HasSpelling s frame) r.is.of_store c.requires.current.spelled) c.requires.kind in
    let had : Some value ≡ gathered_value n.shape n.me w.index w.own (joined (Some w.index) page n.volatile.pages) =
    sym c.in-Some-value.is ∙ c.in_ok-gather.ensures.value n.shape n.me w.index w.own n.volatile.pages w.stands in
    subst (λ (x : Member). MayHave c.index-index.result value x) (sym c.leave_want.ensures.rest)
    (subst (λ k. MayHave k value (record m { gather = None })) (sym index)
    (may_have m n r.is r.ranged is_shape c.requires.leads page fits w.index value (has_value n page gather w value had)))

pub returns-in-Some-value : goal.returns-in-Some-value
returns-in-Some-value c = IfOk-weaker c.have.result _ _ (λ x has n is.
    let self = c.args.self in
    let m = self.member in
    let page : Page = page_of c.args.answer.now.frame in
    let gather = c.in-Some.gather in
    let value = c.in-Some-value.value in
    let left = c.leave_want.new.self in
    let w = wanted_is n.shape n.me n.durable.log n.volatile.pages n.volatile.want m.role m.gather gather c.requires.leads
    (sym c.leave_want.ensures.gather ∙ c.in-Some.is) is.stands.of_gather in
    let index : c.index-index.result ≡ w.index = c.index-index.ensures n.shape n.me w.index w.own n.volatile.pages w.stands in
    let had : Some value ≡ gathered_value n.shape n.me w.index w.own (joined (Some w.index) page n.volatile.pages) =
    sym c.in-Some-value.is ∙ c.in_ok-gather.ensures.value n.shape n.me w.index w.own n.volatile.pages w.stands in
    let now : IsNode left (unwanting n) =
    subst (λ (y : Member). IsNode y (unwanting n)) (sym c.leave_want.ensures.rest) (gathering_node m n is c.requires.leads None [] None refl) in
    let acted : IsActed (act_of_value w.index value (unwanting n)) (record self { member = left }) x =
    subst (λ k. IsActed (act_of_value k value (unwanting n)) (record self { member = left }) x) index (has (unwanting n) now) in
    subst (λ a. IsActed a self x) (sym (has_value n page gather w value had))
    (acted_from (act_of_value w.index value (unwanting n)) self (record self { member = left }) x refl (ap (λ y. y.store) c.leave_want.ensures.rest) acted))
    c.have.ensures

pub returns-in-None : goal.returns-in-None
returns-in-None c = λ n is.
    let self = c.args.self in
    let m = self.member in
    let page : Page = page_of c.args.answer.now.frame in
    let gather = c.in-Some.gather in
    let after = c.in_ok-gather.gather in
    let left = c.leave_want.new.self in
    let w = wanted_is n.shape n.me n.durable.log n.volatile.pages n.volatile.want m.role m.gather gather c.requires.leads
    (sym c.leave_want.ensures.gather ∙ c.in-Some.is) is.stands.of_gather in
    let pages : List Page = joined n.volatile.want page n.volatile.pages in
    let stood : gathering.Stands after n.shape n.me w.index w.own (joined (Some w.index) page n.volatile.pages) =
    c.in_ok-gather.ensures.stands n.shape n.me w.index w.own n.volatile.pages w.stands in
    let kept : IsGathering Leader (Some after) n.shape n.me n.durable.log pages n.volatile.want = record {
      index = w.index;
      own = w.own;
      wants = w.wants;
      part = w.part;
      stands = subst (λ want. gathering.Stands after n.shape n.me w.index w.own (joined want page n.volatile.pages)) (sym w.wants) stood;
    } in
    let now : IsNode (record m { gather = Some after }) (node_shown page n) = gathering_node m n is c.requires.leads (Some after) pages n.volatile.want kept in
    let member : record left { gather = Some after } ≡ record m { gather = Some after } = ap (λ (y : Member). record y { gather = Some after }) c.leave_want.ensures.rest in
    let x : Act = record self { member = record m { gather = Some after } } in
    let given = subst (IsGiven (gathered n.shape n.me w.index w.own (joined (Some w.index) page n.volatile.pages))) c.in-None.is (c.in_ok-gather.ensures.gives n.shape n.me w.index w.own n.volatile.pages w.stands) in
    subst (λ (y : Member). IsActed (shown_act page n) self (record self { member = y })) (sym member)
    (subst (λ a. IsActed a self x) (sym (waits_still n page gather w given))
    (acted_from (stays (node_shown page n)) self x x refl refl (stays_acted x (node_shown page n) now)))
