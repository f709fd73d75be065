use Rattle.std.proofs.Common.{◌≡◌, ◌∙◌, ap, sym, subst, ◌<◌, ◌≤◌, ℕ}
use Rattle.std.proofs.lemmas.Result.{IfOk-weaker}
use Rattle.std.proofs.lemmas.Bool.{le-ltb, lt-ltb}
use Rattle.craft_base.specs.Shape.{Shape}
use Rattle.entry_frames.specs.MessageParts.{body_of, receiver_byte, sender_byte, term_of}
use Rattle.world_model.specs.Ranges.{HasSpelling, NodeInRange}
use Rattle.world_model.specs.Rules.Terms.{act_of_lower_term, act_of_term}
use Rattle.world_model.specs.Turn.{act_of_peer}
use Rattle.world_model.proofs.Turns.{caught_up}
use Rattle.node_core.specs.Acting.{IsActed}
use Rattle.node_core.proofs.Acting.{acted_after}
use Rattle.node_core.proofs.Hearing.{caught_up_in_range, current_act, kind_said, lower_act, own_range}
use Rattle.node_core.proofs.act.Act.take.Goals as goal

pub returns-then-term : goal.returns-then-term
returns-then-term c = IfOk-weaker c.refuse_stale.result _ _ (λ x refused n is.
    let frame = c.args.view.now.frame in
    let peer = c.requires.spelled.0 in
    let own : c.term-2.result ≡ n.durable.term = c.term-2.ensures ∙ ap (λ d. d.term) is.stands.of_durable in
    let under : term_of frame < n.durable.term = subst (λ t. term_of frame < t) own (subst (λ t. t < c.term-2.result) c.term.ensures c.if-term.true) in
    let kind = kind_said frame c.in-Peer.kind peer (sym c.message_kind.ensures ∙ c.in-Peer.is) in
    subst (λ a. IsActed a c.args.self x) (sym (lower_act frame n peer (lt-ltb (term_of frame) n.durable.term under)))
    (subst (λ from. IsActed (act_of_lower_term n from (body_of frame)) c.args.self x) c.from.ensures (refused (body_of frame) kind n is)))
    c.refuse_stale.ensures

pub take_said-requires-clause-current : goal.take_said-requires-clause-current
take_said-requires-clause-current c =
    let frame = c.args.view.now.frame in
    let r = c.requires.ranged in
    let acted = c.in_ok-act.ensures r.node r.is in
    let own : c.term-2.result ≡ r.node.durable.term = c.term-2.ensures ∙ ap (λ d. d.term) r.is.stands.of_durable in
    let reached : r.node.durable.term ≤ c.term-3.result =
    subst (λ t. r.node.durable.term ≤ t) (sym c.term-3.ensures) (subst (λ t. t ≤ term_of frame) own (subst (λ t. c.term-2.result ≤ t) c.term.ensures c.if-term.false)) in
    let now : (act_of_term c.term-3.result r.node).node.durable.term ≡ c.term-3.result = caught_up r.node c.term-3.result (le-ltb c.term-3.result r.node.durable.term reached) in
    record {
      of_shape = c.requires.read ∙ sym acted.same;
      spelled = subst (λ (s : Shape). HasSpelling s frame) (sym acted.same) c.requires.spelled;
      term = sym c.term-3.ensures ∙ sym now ∙ sym (ap (λ d. d.term) acted.node.stands.of_durable);
    }

pub take_said-requires-clause-ranged : goal.take_said-requires-clause-ranged
take_said-requires-clause-ranged c =
    let frame = c.args.view.now.frame in
    let r = c.requires.ranged in
    let s = c.args.self.member.store.shape in
    let a : NodeInRange s (receiver_byte frame) r.node =
    subst (λ (k : Shape). NodeInRange k (receiver_byte frame) r.node) (sym r.is.of_store)
    (subst (λ (me : ℕ). NodeInRange r.node.shape me r.node) (sym (c.requires.receiver ∙ r.is.stands.of_me)) r.ranged) in
    let now : NodeInRange s (receiver_byte frame) (act_of_term c.term-3.result r.node).node =
    subst (λ (t : ℕ). NodeInRange s (receiver_byte frame) (act_of_term t r.node).node) (sym c.term-3.ensures)
    (caught_up_in_range s c.requires.is_shape frame c.requires.spelled a) in
    record {
      node = (act_of_term c.term-3.result r.node).node;
      is = (c.in_ok-act.ensures r.node r.is).node;
      ranged = own_range now;
    }

pub returns : goal.returns
returns c = IfOk-weaker c.take_said.result _ _ (λ x taken n is.
    let frame = c.args.view.now.frame in
    let peer = c.requires.spelled.0 in
    let own : c.term-2.result ≡ n.durable.term = c.term-2.ensures ∙ ap (λ d. d.term) is.stands.of_durable in
    let reached : n.durable.term ≤ term_of frame = subst (λ t. t ≤ term_of frame) own (subst (λ t. c.term-2.result ≤ t) c.term.ensures c.if-term.false) in
    let first = subst (λ t. IsActed (act_of_term t n) c.args.self c.in_ok-act.act) c.term-3.ensures (c.in_ok-act.ensures n is) in
    subst (λ a. IsActed a c.args.self x) (sym (current_act frame n peer (le-ltb (term_of frame) n.durable.term reached)))
    (acted_after (act_of_term (term_of frame) n) (λ now. act_of_peer now (sender_byte frame) (body_of frame)) c.args.self c.in_ok-act.act x first
    (taken (act_of_term (term_of frame) n).node first.node)))
    c.take_said.ensures
