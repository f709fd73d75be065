use Rattle.std.proofs.Common.{get_or, ◌≡◌, ◌∙◌, ◌+◌, ◌++◌, ◌∷◌, [], Some, List, drop, sym, ap, append_assoc, append-nil}
use Rattle.std.specs.Prelude.{slice_get}
use Rattle.std.proofs.lemmas.List.{drop_all}
use Rattle.std.proofs.lemmas.Option.{slice_get-get_or}
use Rattle.full_append.proofs.Lists.{drop_at_place}
use Rattle.world_model.specs.Rules.Answer.{values_told}
use Rattle.world_model.specs.declared.call.Called.{Called}
use Rattle.node_core.proofs.Having.{told_more}
use Rattle.node_core.proofs.rules.answer.tell_readers.Goals as goal
use Rattle.node_core.proofs.Wanting.{nobody}

pub loop-read-preserved : goal.loop-read-preserved
loop-read-preserved c =
    let index = c.args.index in
    let value = c.args.value.now in
    let reads = c.args.reads.now in
    let place = c.loop-read.read-index in
    let read : Called = get_or reads place nobody in
    let there : slice_get reads place ≡ Some read = slice_get-get_or reads place nobody c.loop-read-test.true in
    let left = drop (place + 1) reads in
    let before = c.loop-read.replies.items in
    c.loop-read.invariant
    ∙ ap (λ (rs : List Called). before ++ values_told index value rs) (drop_at_place reads place read there)
    ∙ ap (λ told. before ++ told) (told_more index value read left)
    ∙ sym (append_assoc before (values_told index value (read ∷ [])) (values_told index value left))
    ∙ ap (λ told. told ++ values_told index value left) (sym c.in_ok-tell_if_reader.ensures)

pub returns : goal.returns
returns c =
    let before = c.loop-read.replies.items in
    sym (append-nil before)
    ∙ ap (λ (rs : List Called). before ++ values_told c.args.index c.args.value.now rs) (sym (drop_all c.loop-read.read-index c.args.reads.now c.loop-read-test.false))
    ∙ sym c.loop-read.invariant
