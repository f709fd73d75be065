use Rattle.std.proofs.Common.{◌≡◌, ◌∙◌, [], None, filter, not, ap, refl, sym, subst, rules}
use Rattle.std.specs.Prelude.{◌==◌}
use Rattle.std.proofs.lemmas.Fn.{filter_same}
use Rattle.world_model.specs.declared.call.Called.{Called}
use Rattle.node_core.specs.Acting.{IsNode}
use Rattle.node_core.proofs.Having.{gathering_node, reading_node}
use Rattle.node_core.proofs.member.Member.had.Goals as goal

pub returns : goal.returns
returns c =
    let m = c.args.self.now in
    let index = c.args.index in record {
      store = refl;
      node = λ n is.
          let left : c.retain.new.self.items ≡ filter (λ (r : Called). not (r.index == index)) m.reads.items =
          filter_same _ (λ (r : Called). not (r.index == index)) _ (λ x b f' k. search rules) _ _ c.retain.ensures.filtered in
          let reads : c.retain.new.self.items ≡ filter (λ (r : Called). not (r.index == index)) n.volatile.reads =
          left ∙ ap (filter (λ (r : Called). not (r.index == index))) is.stands.of_reads in
          let unwanted : IsNode (record m { gather = None }) (record n { volatile = record n.volatile { pages = []; want = None } }) =
          gathering_node m n is c.requires.leads None [] None refl in
          let same : IsNode m (record n { volatile = record n.volatile { pages = []; want = None } }) =
          subst (λ g. IsNode (record m { gather = g }) (record n { volatile = record n.volatile { pages = []; want = None } })) (sym c.requires.none) unwanted in
          reading_node m (record m { reads = c.retain.new.self }) (filter (λ (r : Called). not (r.index == index)) n.volatile.reads)
          (record n { volatile = record n.volatile { pages = []; want = None } }) same refl reads;
    }
