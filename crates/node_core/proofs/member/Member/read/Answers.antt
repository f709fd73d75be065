use Rattle.std.proofs.Common.{◌≡◌, ◌∙◌, ◌++◌, ◌∷◌, [], nat_lt, filter, List, ap, rules, append_assoc}
use Rattle.std.proofs.lemmas.Fn.{filter_same}
use Rattle.world_model.specs.declared.call.Called.{Called}
use Rattle.node_core.proofs.member.Member.read.Goals as goal

pub returns-clause-reads : goal.returns-clause-reads
returns-clause-reads c =
    let call = c.args.call in
    let reads = c.args.self.now.reads.items in
    let before : List Called = filter (λ (r : Called). nat_lt r.client call.client) reads in
    let after : List Called = filter (λ (r : Called). nat_lt call.client r.client) reads in
    let copied : c.extend_from_slice.new.self.items ≡ reads = c.in_ok-extend_from_slice.ensures.items ∙ ap (λ xs. xs ++ c.deref.result.now) c.new-behind.ensures.items ∙ c.deref.ensures.value in
    let behind : c.retain.new.self.items ≡ after =
    filter_same _ (λ (r : Called). nat_lt call.client r.client) _ (λ x b f' k. search rules) _ _ c.retain.ensures.filtered ∙ ap (filter (λ (r : Called). nat_lt call.client r.client)) copied in
    let front : c.retain-2.new.self.items ≡ before = filter_same _ (λ (r : Called). nat_lt r.client call.client) _ (λ x b f' k. search rules) _ _ c.retain-2.ensures.filtered in
    c.in_ok-extend_from_slice-2.ensures.items
    ∙ ap (λ (xs : List Called). xs ++ c.deref-2.result.now) (c.in_ok-push.ensures.items ∙ ap (λ (xs : List Called). xs ++ call ∷ []) front)
    ∙ append_assoc before (call ∷ []) c.deref-2.result.now
    ∙ ap (λ (xs : List Called). before ++ call ∷ xs) (c.deref-2.ensures.value ∙ behind)
