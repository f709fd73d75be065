use Rattle.std.proofs.Common.{◌∙◌, map, sym, ap}
use Rattle.craft_base.specs.Knowledge.{least_of}
use Rattle.world_model.specs.Rules.Acts.{others}
use Rattle.world_model.specs.Rules.Say.{start_of}
use Rattle.node_core.specs.Wanting.{wanted_among}
use Rattle.node_core.proofs.Wanting.{wanted-append}
use Rattle.node_core.proofs.member.Member.wanted.Goals as goal

pub returns : goal.returns
returns c = λ n is.
    let s = is.stands in
    let log = n.durable.log in
    let behind = wanted_among log (map (start_of n) (others n)) in
    c.wanted_by_others.ensures n is
    ∙ ap (λ first. least_of first behind)
    (c.wanted_by_readers-first.ensures ∙ ap (λ d. wanted_among d.log (map (λ r. r.index) c.deref.result.now)) s.of_durable
    ∙ ap (λ reads. wanted_among log (map (λ r. r.index) reads)) (c.deref.ensures.value ∙ s.of_reads))
    ∙ sym (wanted-append log (map (λ r. r.index) n.volatile.reads) (map (start_of n) (others n)))
