use Rattle.std.proofs.Common.{get_or, ◌≡◌, ◌∙◌, ◌+◌, ◌∷◌, [], ℕ, Some, Option, List, map, drop, sym, ap}
use Rattle.std.specs.Prelude.{slice_get}
use Rattle.std.proofs.lemmas.List.{drop_all}
use Rattle.std.proofs.lemmas.Option.{slice_get-get_or}
use Rattle.craft_base.specs.Knowledge.{least_of}
use Rattle.full_append.proofs.Lists.{drop_at_place}
use Rattle.world_model.specs.declared.call.Called.{Called}
use Rattle.node_core.specs.Wanting.{wanted_among}
use Rattle.node_core.proofs.Wanting.{nobody, least_of-assoc, least_of_none, wanted-append}
use Rattle.node_core.proofs.member.Member.wanted_by_readers.Goals as goal

pub loop-read-preserved : goal.loop-read-preserved
loop-read-preserved c =
    let log = c.args.self.now.store.kept.log in
    let reads = c.args.reads.now in
    let place = c.loop-read.read-index in
    let read : Called = get_or reads place nobody in
    let there : slice_get reads place ≡ Some read = slice_get-get_or reads place nobody c.loop-read-test.true in
    let left : List ℕ = map (λ (r : Called). r.index) (drop (place + 1) reads) in
    c.loop-read.invariant
    ∙ ap (λ (rs : List Called). least_of c.loop-read.want (wanted_among log (map (λ r. r.index) rs))) (drop_at_place reads place read there)
    ∙ ap (least_of c.loop-read.want) (wanted-append log (read.index ∷ []) left)
    ∙ sym (least_of-assoc c.loop-read.want (wanted_among log (read.index ∷ [])) (wanted_among log left))
    ∙ ap (λ (one : Option ℕ). least_of (least_of c.loop-read.want one) (wanted_among log left)) (sym c.if_part.ensures)
    ∙ ap (λ (want : Option ℕ). least_of want (wanted_among log left)) (sym c.least_of-want.ensures)

pub returns : goal.returns
returns c =
    let log = c.args.self.now.store.kept.log in
    sym (least_of_none c.loop-read.want)
    ∙ ap (λ (rs : List Called). least_of c.loop-read.want (wanted_among log (map (λ r. r.index) rs))) (sym (drop_all c.loop-read.read-index c.args.reads.now c.loop-read-test.false))
    ∙ sym c.loop-read.invariant
