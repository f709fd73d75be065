use Rattle.std.proofs.Common.{◌∷◌, [], ◌++◌, ◌∙◌, ap, append_assoc, arith, subst, sym}
use Rattle.std.proofs.lemmas.Result.{err_from_is_err_and}
use Rattle.net_node.specs.NodeRun.{packets_among, packets_of}
use Rattle.net_node.specs.Sending.{Sends}
use Rattle.net_node.proofs.SentInOrder.{packets_among-one, sends_front, sends_more}
use Rattle.net_node.proofs.sending.send_all.Goals as goal

pub loop-output-preserved : goal.loop-output-preserved
loop-output-preserved g c =
    let shape = c.args.cluster.now.shape.now in
    let places = c.args.cluster.now.places.now in
    let me = c.args.cluster.now.me in
    let l = c.loop-output in
    let o = c.in-Some.output in
    let e = c.in_ok-send_output.ensures in
    record {
      sent = subst (Sends (g.L.Link.sent c.args.link.now) (g.L.Link.sent c.send_output.new.link)) (packets_among-one shape places me l.yielded o)
          (sends_more (g.L.Link.sent c.args.link.now) (g.L.Link.sent l.link) (g.L.Link.sent c.send_output.new.link) (packets_among shape places me l.yielded) (packets_of shape places me o) l.invariant.sent e.sent);
      left = l.invariant.left ∙ ap (λ left. l.yielded ++ left) c.in-Some.ensures.steps.0 ∙ sym (append_assoc l.yielded (o ∷ []) c.next.new.self.rest.items);
      coming = e.coming ∙ l.invariant.coming;
      later = omega (arith, e.later, l.invariant.later);
    }

pub returns-in_err-send_output-clause-front : goal.returns-in_err-send_output-clause-front
returns-in_err-send_output-clause-front g c =
    let p = err_from_is_err_and c.from_residual.result c.from_residual.ensures.1 in
    let l = c.loop-output in
    rw p.1 (sends_front c.args.cluster.now.shape.now c.args.cluster.now.places.now c.args.cluster.now.me c.args.outputs.items l.yielded l.output-iterator.rest.items
    (g.L.Link.sent c.args.link.now) (g.L.Link.sent l.link) (g.L.Link.sent c.send_output.new.link) l.invariant.left l.invariant.sent c.in_err-send_output.ensures.none)
