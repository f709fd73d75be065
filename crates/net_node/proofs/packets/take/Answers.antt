use Rattle.std.proofs.Common.{◌≡◌, ◌∙◌, Option, None, Some, ap, arith, refl, sym}
use Rattle.std.proofs.lemmas.Result.{IfErr-weaker, IfOk-weaker}
use Rattle.craft_edge.specs.Packets.{Packet}
use Rattle.world_model.specs.Turn as turns
use Rattle.net_node.specs.Hearing.{event_of_heard}
use Rattle.net_node.specs.NodeRun.{event_of_packet, taking}
use Rattle.net_node.specs.Serving.{CanLeave, Moment}
use Rattle.net_node.specs.declared.serve_end.ServeEnd.TheVariants.{NoMemory}
use Rattle.net_node.proofs.Leaving.{given_back}
use Rattle.net_node.proofs.Makings.{halts_before}
use Rattle.net_node.proofs.Stopping.{taking_adds}
use Rattle.net_node.proofs.Taking.{taking_halts, taking_makes}
use Rattle.net_node.proofs.packets.take.Goals as goal

pub returns-in_default-clause-halted : goal.returns-in_default-clause-halted
returns-in_default-clause-halted g c = λ readings.
    let places = c.args.cluster.now.places.now in
    let shape = c.args.cluster.now.shape.now in
    let me = c.args.cluster.now.me in
    let packet : Packet = record { place = c.args.place; bytes = c.args.bytes.now } in
    let disk = g.D.Disk in
    let back = c.give_back.result in
    let same = ap disk.faults c.give_back.ensures.disk in
    let old : Moment = record {
      core = c.args.serving.shell.core;
      counts = c.args.serving.counts;
      edges = record { readings = readings; coming = g.L.Link.coming c.args.link.now; sent = g.L.Link.sent c.args.link.now; taken = g.O.Sink.taken c.args.out.now };
      faults = record { sink = g.O.Sink.faults c.args.out.now; disk = g.D.Disk.faults c.args.serving.shell.disk; link = g.L.Link.faults c.args.link.now };
    } in
    halts_before (taking places (event_of_packet shape me packet)) shape me old old.edges
    (record { sink = g.O.Sink.faults c.args.out.now; disk = disk.faults back; link = g.L.Link.faults c.args.link.now })
    (CanLeave (disk.tells_crash back) (disk.seen back) (disk.may_leave back)) NoMemory (taking_adds places (event_of_packet shape me packet)) refl refl refl refl
    (given_back disk.seen disk.tells_crash disk.may_leave c.args.serving.shell.disk back shape me c.args.serving.shell.core
    c.give_back.ensures.disk c.requires.member c.give_back.ensures.durable)
    (record { sink = omega arith; disk = omega (arith, same); link = omega arith }) tt

pub returns-in-Peer-clause-made : goal.returns-in-Peer-clause-made
returns-in-Peer-clause-made g c =
    let shape = c.args.cluster.now.shape.now in
    let me = c.args.cluster.now.me in
    let event = event_of_packet shape me (record { place = c.args.place; bytes = c.args.bytes.now }) in
    let heard : Option turns.Event = Some (turns.Frame c.in-Peer.view.frame) in
    let same : heard ≡ event = sym (ap (event_of_heard c.args.place) c.in-Peer.is) ∙ c.in-Ok.ensures.heard c.args.place in
    IfOk-weaker c.step.result _ _ (λ x is readings. taking_makes c.args.cluster.now.places.now shape me event heard _ _ same (is readings)) c.step.ensures.made

pub returns-in-Peer-clause-halted : goal.returns-in-Peer-clause-halted
returns-in-Peer-clause-halted g c =
    let shape = c.args.cluster.now.shape.now in
    let me = c.args.cluster.now.me in
    let event = event_of_packet shape me (record { place = c.args.place; bytes = c.args.bytes.now }) in
    let heard : Option turns.Event = Some (turns.Frame c.in-Peer.view.frame) in
    let same : heard ≡ event = sym (ap (event_of_heard c.args.place) c.in-Peer.is) ∙ c.in-Ok.ensures.heard c.args.place in
    IfErr-weaker c.step.result _ _ (λ x is readings. taking_halts c.args.cluster.now.places.now shape me event heard _ _ _ _ _ same (is readings)) c.step.ensures.halted

pub returns-in-Asked-clause-made : goal.returns-in-Asked-clause-made
returns-in-Asked-clause-made g c =
    let shape = c.args.cluster.now.shape.now in
    let me = c.args.cluster.now.me in
    let event = event_of_packet shape me (record { place = c.args.place; bytes = c.args.bytes.now }) in
    let heard : Option turns.Event = Some (turns.Call c.args.place c.in-Asked.request) in
    let same : heard ≡ event = sym (ap (event_of_heard c.args.place) c.in-Asked.is) ∙ c.in-Ok.ensures.heard c.args.place in
    IfOk-weaker c.step-in-Asked.result _ _ (λ x is readings. taking_makes c.args.cluster.now.places.now shape me event heard _ _ same (is readings)) c.step-in-Asked.ensures.made

pub returns-in-Asked-clause-halted : goal.returns-in-Asked-clause-halted
returns-in-Asked-clause-halted g c =
    let shape = c.args.cluster.now.shape.now in
    let me = c.args.cluster.now.me in
    let event = event_of_packet shape me (record { place = c.args.place; bytes = c.args.bytes.now }) in
    let heard : Option turns.Event = Some (turns.Call c.args.place c.in-Asked.request) in
    let same : heard ≡ event = sym (ap (event_of_heard c.args.place) c.in-Asked.is) ∙ c.in-Ok.ensures.heard c.args.place in
    IfErr-weaker c.step-in-Asked.result _ _ (λ x is readings. taking_halts c.args.cluster.now.places.now shape me event heard _ _ _ _ _ same (is readings)) c.step-in-Asked.ensures.halted

pub returns-in-Nothing-clause-made : goal.returns-in-Nothing-clause-made
returns-in-Nothing-clause-made g c =
    let shape = c.args.cluster.now.shape.now in
    let me = c.args.cluster.now.me in
    let event = event_of_packet shape me (record { place = c.args.place; bytes = c.args.bytes.now }) in
    let heard : Option turns.Event = None in
    let same : heard ≡ event = sym (ap (event_of_heard c.args.place) c.in-Nothing.is) ∙ c.in-Ok.ensures.heard c.args.place in
    IfOk-weaker c.drop_packet.result _ _ (λ x is readings. taking_makes c.args.cluster.now.places.now shape me event heard _ _ same (is readings _ _ _)) c.drop_packet.ensures.made

pub returns-in-Nothing-clause-halted : goal.returns-in-Nothing-clause-halted
returns-in-Nothing-clause-halted g c =
    let shape = c.args.cluster.now.shape.now in
    let me = c.args.cluster.now.me in
    let event = event_of_packet shape me (record { place = c.args.place; bytes = c.args.bytes.now }) in
    let heard : Option turns.Event = None in
    let same : heard ≡ event = sym (ap (event_of_heard c.args.place) c.in-Nothing.is) ∙ c.in-Ok.ensures.heard c.args.place in
    IfErr-weaker c.drop_packet.result _ _ (λ x is readings. taking_halts c.args.cluster.now.places.now shape me event heard _ _ _ _ _ same (is readings _ _ _)) c.drop_packet.ensures.halted
