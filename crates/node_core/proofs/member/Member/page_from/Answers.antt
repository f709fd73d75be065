use Rattle.std.proofs.Common.{◌-◌, ◌∙◌, drop, ap}
use Rattle.coded_append.specs.Batches.{batch_of}
use Rattle.entry_frames.specs.Logs.{last_index}
use Rattle.entry_frames.specs.declared.peer.Peer.TheVariants.{Answer}
use Rattle.node_core.proofs.member.Member.page_from.Goals as goal

pub returns : goal.returns
returns c = λ n is.
    let m = c.args.self.now in
    let start = c.args.start in
    ap (λ last. Answer start last c.in_ok-page_from.field-0) c.last.ensures ∙ ap (Answer start (last_index m.store.kept.log)) c.in_ok-page_from.ensures
    ∙ ap (λ s. Answer start (last_index m.store.kept.log) (batch_of s.need (drop (start - 1) m.store.kept.log))) is.of_store
    ∙ ap (λ d. Answer start (last_index d.log) (batch_of n.shape.need (drop (start - 1) d.log))) is.stands.of_durable
