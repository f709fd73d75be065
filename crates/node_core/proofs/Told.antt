-- What a member tells of a turn is what the turn tells.
use Rattle.std.proofs.Common.{◌≡◌, ℕ, List, [], ◌∷◌, ◌++◌, Bool, true, false, cond, map, nat_lt, refl, ap, ◌∙◌, None, Some, append_assoc}
use Rattle.std.specs.Prelude.{◌==◌, ◌&&◌}
use Rattle.std.specs.Option.{option_to_list}
use Rattle.entry_frames.specs.Records.{Record, Term, Add, Cut, Whole, Commit}
use Rattle.entry_frames.specs.declared.output.Output.{Output}
use Rattle.entry_frames.specs.declared.output.Output.TheVariants as outputs
use Rattle.entry_frames.specs.declared.role.Role.{Role}
use Rattle.world_model.specs.Nodes.{Node}
use Rattle.world_model.specs.Rules.Acts.{Act}
use Rattle.world_model.specs.Turn as turns
use Rattle.node_core.specs.Acting.{cut_indexes, whole_indexes}
use Rattle.node_core.specs.Turns.{change_of, growth_of}

-- six lists, one behind the other
pub told_all :
    (start role cuts wholes commit replies sends one two three four five six : List Output) → start ≡ [] → one ≡ start ++ role → two ≡ one ++ cuts → three ≡ two ++ wholes → four ≡ three ++ commit →
    five ≡ four ++ replies → six ≡ five ++ sends → six ≡ (role ++ (cuts ++ (wholes ++ commit))) ++ (replies ++ sends)
told_all start role cuts wholes commit replies sends one two three four five six none a b c d e f =
    let first : one ≡ role = a ∙ ap (λ xs. xs ++ role) none in
    let second : two ≡ role ++ cuts = b ∙ ap (λ xs. xs ++ cuts) first in
    let third : three ≡ role ++ (cuts ++ wholes) = c ∙ ap (λ xs. xs ++ wholes) second ∙ append_assoc role cuts wholes in
    let fourth : four ≡ role ++ (cuts ++ (wholes ++ commit)) =
    d ∙ ap (λ xs. xs ++ commit) third ∙ append_assoc role (cuts ++ wholes) commit ∙ ap (λ xs. role ++ xs) (append_assoc cuts wholes commit) in
    f ∙ ap (λ xs. xs ++ sends) (e ∙ ap (λ xs. xs ++ replies) fourth) ∙ append_assoc (role ++ (cuts ++ (wholes ++ commit))) replies sends

told_change : (same : Bool) (role : Role) (term : ℕ) → option_to_list (cond same None (Some (outputs.Role role term))) ≡ cond same [] (outputs.Role role term ∷ [])
told_change true role term = refl
told_change false role term = refl

told_growth : (grew : Bool) (commit : ℕ) → option_to_list (cond grew (Some (outputs.Commit commit)) None) ≡ cond grew (outputs.Commit commit ∷ []) []
told_growth true commit = refl
told_growth false commit = refl

told_cuts : (prep : Bool) (records : List Record) → map (λ index. outputs.Cut index prep) (cut_indexes records) ≡ turns.cut_outputs prep records
told_cuts prep [] = refl
told_cuts prep (Term term vote ∷ records) = told_cuts prep records
told_cuts prep (Add entry ∷ records) = told_cuts prep records
told_cuts prep (Cut index ∷ records) = ap (λ told. outputs.Cut index prep ∷ told) (told_cuts prep records)
told_cuts prep (Whole index bytes ∷ records) = told_cuts prep records
told_cuts prep (Commit index ∷ records) = told_cuts prep records

told_wholes : (records : List Record) → map outputs.Whole (whole_indexes records) ≡ turns.whole_outputs records
told_wholes [] = refl
told_wholes (Term term vote ∷ records) = told_wholes records
told_wholes (Add entry ∷ records) = told_wholes records
told_wholes (Cut index ∷ records) = told_wholes records
told_wholes (Whole index bytes ∷ records) = ap (λ told. outputs.Whole index ∷ told) (told_wholes records)
told_wholes (Commit index ∷ records) = told_wholes records

-- what changed, as a node's two ends and an act's records say it
pub told_changes :
    (before : Node) (act : Act) →
    option_to_list (change_of before.volatile.role before.durable.term act.node.volatile.role act.node.durable.term)
    ++ (map (λ index. outputs.Cut index (turns.is_preparation before act.node)) (cut_indexes act.records)
    ++ (map outputs.Whole (whole_indexes act.records) ++ option_to_list (growth_of before.durable.commit act.node.durable.commit)))
    ≡ turns.changes_told before act
told_changes before act =
    let now = act.node in
    let prep = turns.is_preparation before now in
    let cuts = map (λ index. outputs.Cut index prep) (cut_indexes act.records) in
    let wholes = map outputs.Whole (whole_indexes act.records) in
    let growth = option_to_list (growth_of before.durable.commit now.durable.commit) in
    ap (λ first. first ++ (cuts ++ (wholes ++ growth)))
    (told_change (turns.is_same_role before.volatile.role now.volatile.role && (before.durable.term == now.durable.term)) now.volatile.role now.durable.term)
    ∙ ap (λ told. turns.role_outputs before now ++ (told ++ (wholes ++ growth))) (told_cuts prep act.records)
    ∙ ap (λ told. turns.role_outputs before now ++ (turns.cut_outputs prep act.records ++ (told ++ growth))) (told_wholes act.records)
    ∙ ap (λ told. turns.role_outputs before now ++ (turns.cut_outputs prep act.records ++ (turns.whole_outputs act.records ++ told)))
    (told_growth (nat_lt before.durable.commit now.durable.commit) now.durable.commit)
