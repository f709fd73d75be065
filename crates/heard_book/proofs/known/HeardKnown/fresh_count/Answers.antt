use Rattle.std.proofs.Common.{◌∙◌, sym, subst}
use Rattle.craft_base.specs.Knowledge.{is_fresh}
use Rattle.heard_book.proofs.Counting.{count_each}
use Rattle.heard_book.specs.Kept.{Stands}
use Rattle.heard_book.proofs.known.HeardKnown.fresh_count.Goals as goal

pub returns : goal.returns
returns c = λ shape heard first s.
    let kept = subst (λ k. Stands k shape heard first) (sym c.self.view_is) s in
    c.count.ensures.value ∙ count_each (λ member. is_fresh member heard) c.self.inside.fresh c.args.self.now.shape shape kept.of_fresh s.same_shape c.count.ensures.few
