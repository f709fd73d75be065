use Rattle.std.proofs.Common.{ℕ, ◌+◌, ◌∙◌, sym, ap, subst}
use Rattle.craft_base.specs.Knowledge.{granted_by}
use Rattle.heard_book.proofs.Counting.{count_each}
use Rattle.heard_book.specs.Kept.{Stands}
use Rattle.heard_book.proofs.heard.Heard.votes.Goals as goal

pub returns : goal.returns
returns c = λ shape heard first s.
    let kept = subst (λ k. Stands k shape heard first) (sym c.self.view_is) s in
    ap (λ (n : ℕ). n + 1) (c.count.ensures.value ∙ count_each (λ member. granted_by member heard) c.self.inside.granted c.args.self.now.shape shape kept.of_granted s.same_shape c.count.ensures.few)
