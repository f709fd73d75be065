use Rattle.std.proofs.Common.{◌≡◌, length, drop, take, sym, ap, ◌∙◌, arith}
use Rattle.std.proofs.lemmas.List.{nil_from_length}
use Rattle.craft_edge.specs.MemSource.{SourceState}
use Rattle.craft_edge.proofs.SliceLemmas.{rest_from, rest_is}
use Rattle.craft_edge.proofs.SourceLemmas.{read_gives}
use Rattle.craft_edge.proofs.mem_source.MemSourceSource.read.Goals as goal

pub returns-clause-bytes : goal.returns-clause-bytes
returns-clause-bytes c =
    let left = c.args.self.now.left in
    let bytes = c.self.inside.bytes.items in
    let at = c.self.inside.at in
    let count = c.min-count.result in
    let is_left : left ≡ drop at bytes = sym (ap (λ (s : SourceState). s.left) c.self.view_is) in
    let rest : rest_from c.deref.result.now at ≡ left = rest_is c.deref.result.now at ∙ ap (drop at) c.deref.ensures.value ∙ sym is_left in
    let size : length (rest_from c.deref.result.now at) ≡ length left = ap length rest in
    read_gives left bytes c.copy_from_slice.new.self c.args.buf.now at count is_left (c.copy_from_slice.ensures.after ∙ ap (take count) rest)
    (omega (arith, size)) (omega arith) (λ none some. nil_from_length left (omega (arith, size, none, some)))
