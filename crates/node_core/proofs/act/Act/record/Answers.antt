use Rattle.std.proofs.lemmas.Result.{IfOk-weaker}
use Rattle.entry_frames.specs.RecordViews.{record_of}
use Rattle.node_core.proofs.Serving.{recorded_once}
use Rattle.node_core.proofs.act.Act.record.Goals as goal

pub returns-clause-acts : goal.returns-clause-acts
returns-clause-acts c = IfOk-weaker c.make.result _ _
    (λ after made n is. recorded_once (record_of c.args.item.now) c.args.self after c.requires.can c.requires.fits c.requires.stays c.requires.free c.requires.idle made n is) c.make.ensures
