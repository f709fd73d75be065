use Rattle.std.proofs.Common.{◌≡◌, ◌++◌, refl, sym, ap, ◌∙◌, append-nil}
use Rattle.world_model.specs.Rules.Acts.{answering, stays}
use Rattle.world_model.specs.Rules.Answer.{values_told}
use Rattle.node_core.specs.declared.act.Act.{Act}
use Rattle.node_core.specs.Acting.{IsActed}
use Rattle.node_core.specs.Wanting.{having_node}
use Rattle.node_core.proofs.Acting.{become_after}
use Rattle.node_core.proofs.act.Act.tell_value.Goals as goal

pub returns : goal.returns
returns c = λ n is.
    let self = c.args.self in
    let index = c.args.index in
    let value = c.args.value.now in
    let told = values_told index value n.volatile.reads in
    let between : Act = record self { replies = c.tell_readers.new.replies } in
    let replies : between.replies.items ≡ self.replies.items ++ told =
    c.in_ok-tell_readers.ensures ∙ ap (λ reads. self.replies.items ++ values_told index value reads) (c.deref.ensures.value ∙ is.stands.of_reads) in
    let first : IsActed (answering told (stays n)) self between = record {
      node = is;
      same = refl;
      may = record { apply = tt; written = tt };
      kept = refl;
      records = sym (append-nil self.group);
      cuts = sym (append-nil self.cuts.items);
      wholes = sym (append-nil self.wholes.items);
      replies = replies;
      sends = sym (append-nil self.sends.items);
    } in
    become_after (answering told (stays n)) (having_node index) self between (record between { member = c.had.new.self }) first refl c.had.ensures
