-- What was replayed of a journal that was opened is the state to which its file opens.
use Rattle.std.proofs.Common.{◌≡◌, ℕ, List, ap, ◌∙◌, sym, subst}
use Rattle.craft_base.specs.Shape.{Shape}
use Rattle.entry_frames.specs.Durable.{Durable, born}
use Rattle.entry_frames.specs.Records.{Record}
use Rattle.synced_log.specs.declared.owner.Owner.{Owner}
use Rattle.synced_log.specs.Journal.{AreGroups, Kept, after_groups, placed_from, shape_of}
use Rattle.synced_log.proofs.States.{OpenedTo}

-- what `replay` tells of the state that it leaves, of a cluster of that shape
abbrev pub IsReplayed : Kept → Shape → Durable → Type 0
IsReplayed kept shape d = (all : List (List Record)) → kept.placed ≡ placed_from shape.need 32 all → AreGroups shape born all → d ≡ after_groups born all

pub replayed_to : (old new : List ℕ) (gate : ℕ) (wanted : Owner) (kept : Kept) (opened : OpenedTo old new gate wanted kept) (shape : Shape) (d : Durable) → kept.shape ≡ shape → IsReplayed kept shape d → d ≡ opened.state
replayed_to old new gate wanted kept opened shape d same replayed =
    let groups = opened.holds.groups in
    let shape_is : shape ≡ shape_of wanted = sym same ∙ ap (λ (k : Kept). k.shape) opened.kept_is in
    let placed = ap (λ (k : Kept). k.placed) opened.kept_is ∙ ap (λ (s : Shape). placed_from s.need 32 groups) (sym shape_is) in
    replayed groups placed (subst (λ (s : Shape). AreGroups s born groups) (sym shape_is) opened.holds.journal.journal.groups_are) ∙ sym opened.holds.leaves
