use Rattle.std.proofs.Common.{refl}
use Rattle.net_node.specs.Serving.{CanLeave, Edges, Moment}
use Rattle.net_node.proofs.Leaving.{given_back}
use Rattle.net_node.proofs.Running.{begins, has_ended, run_is_left, run_is_not_begun, run_is_stopped}
use Rattle.net_node.proofs.turns.serve.Goals as goal

pub returns-in_default-clause-stopped : goal.returns-in_default-clause-stopped
returns-in_default-clause-stopped g c = λ early n stands.
    let d = g.D.Disk in
    let shape = c.args.shape.now in
    let me = c.args.me in
    let places = c.args.places.now in
    let old : Edges = record { readings = g.C.Clock.readings c.args.clock.now; coming = g.L.Link.coming c.args.link.now; sent = g.L.Link.sent c.args.link.now; taken = g.O.Sink.taken c.args.out.now } in
    let m : Moment = record {
      core = c.args.shell.core;
      counts = record { words = c.args.seed; shown = c.now-shown.result; events = 0; frame = 1 };
      edges = record { readings = g.C.Clock.readings c.now-shown.new.self; coming = g.L.Link.coming c.args.link.now; sent = g.L.Link.sent c.args.link.now; taken = g.O.Sink.taken c.args.out.now };
      faults = record { sink = g.O.Sink.faults c.args.out.now; disk = d.faults c.args.shell.disk; link = g.L.Link.faults c.args.link.now };
    } in
    let back = c.give_back.result in
    run_is_not_begun places c.args.turns n c.args.seed shape me old m m.edges (CanLeave (d.tells_crash back) (d.seen back) (d.may_leave back))
    (begins n c.args.seed old m stands refl refl refl c.now-shown.ensures.reading refl refl refl) refl refl
    (given_back d.seen d.tells_crash d.may_leave c.args.shell.disk back shape me c.args.shell.core c.give_back.ensures.disk c.requires.member c.give_back.ensures.durable)

pub returns-in-Ok-run-clause-ran : goal.returns-in-Ok-run-clause-ran
returns-in-Ok-run-clause-ran g c = λ all n stands.
    let d = g.D.Disk in
    let shape = c.args.shape.now in
    let me = c.args.me in
    let places = c.args.places.now in
    let old : Edges = record { readings = g.C.Clock.readings c.args.clock.now; coming = g.L.Link.coming c.args.link.now; sent = g.L.Link.sent c.args.link.now; taken = g.O.Sink.taken c.args.out.now } in
    let m : Moment = record {
      core = c.args.shell.core;
      counts = record { words = c.seed_from_u64.result; shown = c.now-shown.result; events = 0; frame = 1 };
      edges = record { readings = g.C.Clock.readings c.now-shown.new.self; coming = g.L.Link.coming c.args.link.now; sent = g.L.Link.sent c.args.link.now; taken = g.O.Sink.taken c.args.out.now };
      faults = record { sink = g.O.Sink.faults c.args.out.now; disk = d.faults c.args.shell.disk; link = g.L.Link.faults c.args.link.now };
    } in
    let serving = c.in-Ok-run.serving in
    let made = c.in-Ok-run.ensures.made in
    let back = c.give_back-in-Ok-run.result in
    let new : Moment = record {
      core = serving.shell.core;
      counts = serving.counts;
      edges = record { readings = g.C.Clock.readings c.run.new.clock; coming = g.L.Link.coming c.run.new.link; sent = g.L.Link.sent c.run.new.link; taken = g.O.Sink.taken c.run.new.out };
      faults = record { sink = g.O.Sink.faults c.run.new.out; disk = d.faults serving.shell.disk; link = g.L.Link.faults c.run.new.link };
    } in
    run_is_left places c.args.turns n c.args.seed shape me old m new (CanLeave (d.tells_crash back) (d.seen back) (d.may_leave back))
    (begins n c.args.seed old m stands c.seed_from_u64.ensures.same refl refl c.now-shown.ensures.reading refl refl refl) made
    (given_back d.seen d.tells_crash d.may_leave serving.shell.disk back shape me serving.shell.core c.give_back-in-Ok-run.ensures.disk made.goes_on.member
    c.give_back-in-Ok-run.ensures.durable)

pub returns-clause-stopped : goal.returns-clause-stopped
returns-clause-stopped g c = λ early n stands.
    let d = g.D.Disk in
    let shape = c.args.shape.now in
    let me = c.args.me in
    let places = c.args.places.now in
    let old : Edges = record { readings = g.C.Clock.readings c.args.clock.now; coming = g.L.Link.coming c.args.link.now; sent = g.L.Link.sent c.args.link.now; taken = g.O.Sink.taken c.args.out.now } in
    let m : Moment = record {
      core = c.args.shell.core;
      counts = record { words = c.seed_from_u64.result; shown = c.now-shown.result; events = 0; frame = 1 };
      edges = record { readings = g.C.Clock.readings c.now-shown.new.self; coming = g.L.Link.coming c.args.link.now; sent = g.L.Link.sent c.args.link.now; taken = g.O.Sink.taken c.args.out.now };
      faults = record { sink = g.O.Sink.faults c.args.out.now; disk = d.faults c.args.shell.disk; link = g.L.Link.faults c.args.link.now };
    } in
    let back = c.in-Err.disk in
    run_is_stopped places c.args.turns n c.args.seed shape me old m
    (record { readings = g.C.Clock.readings c.run.new.clock; coming = g.L.Link.coming c.run.new.link; sent = g.L.Link.sent c.run.new.link; taken = g.O.Sink.taken c.run.new.out })
    (record { sink = g.O.Sink.faults c.run.new.out; disk = d.faults back; link = g.L.Link.faults c.run.new.link })
    (CanLeave (d.tells_crash back) (d.seen back) (d.may_leave back)) c.in-Err.end
    (begins n c.args.seed old m stands c.seed_from_u64.ensures.same refl refl c.now-shown.ensures.reading refl refl refl) c.in-Err.ensures.halted

pub returns-clause-cause : goal.returns-clause-cause
returns-clause-cause g c =
    has_ended (record { sink = g.O.Sink.faults c.args.out.now; disk = g.D.Disk.faults c.args.shell.disk; link = g.L.Link.faults c.args.link.now })
    (record { sink = g.O.Sink.faults c.run.new.out; disk = g.D.Disk.faults c.in-Err.disk; link = g.L.Link.faults c.run.new.link }) c.in-Err.end c.in-Err.ensures.halted.ended.cause
