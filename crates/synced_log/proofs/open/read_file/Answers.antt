use Rattle.std.proofs.Common.{inl, ℕ, List, refl, sym, ap, ◌∙◌, subst}
use Rattle.craft_base.specs.Shape.{Shape}
use Rattle.synced_log.specs.Journal.{NoHeader, HasHeader, shape_of, Placed, Kept}
use Rattle.synced_log.specs.Walks.{all_placed, WalksWhole}
use Rattle.synced_log.proofs.Opening.{reads, faulty, owners_same}
use Rattle.synced_log.proofs.open.read_file.Goals as goal

abbrev kept_as : Shape → List Placed → Kept
kept_as shape placed = record { shape = shape; placed = placed }

pub returns-in-None-clause-fault : goal.returns-in-None-clause-fault
returns-in-None-clause-fault c = (λ e. absurd cc, (c.requires.born, inl (refl, subst NoHeader c.deref.ensures.value c.in-None.ensures)))

pub returns-in-Closed-clause-groups : goal.returns-in-Closed-clause-groups
returns-in-Closed-clause-groups c =
    let owner = c.args.owner in
    let file = c.args.file.items in
    let spans = c.in_ok-spans.spans.items in
    let same = owners_same c.in-Some.found owner c.if-ne.ensures in
    let has = subst (λ (f : List ℕ). HasHeader f owner) c.deref.ensures.value (subst (HasHeader c.deref.result.now) same c.in-Some.ensures) in
    let walk = subst (λ s. WalksWhole s c.deref-2.result.now spans c.in_ok-spans.ended) (sym c.requires.shape) c.in_ok-spans.ensures in
    let whole = subst (λ e. WalksWhole (shape_of owner) file spans e) c.in-Closed.is (subst (λ (f : List ℕ). WalksWhole (shape_of owner) f spans c.in_ok-spans.ended) c.deref-2.ensures.value walk) in
    reads owner file spans has c.in-Closed.gate c.of.result whole (c.of.ensures ∙ ap (λ s. kept_as s (all_placed file spans)) (sym c.requires.shape))

pub returns-in-Faulty-clause-fault : goal.returns-in-Faulty-clause-fault
returns-in-Faulty-clause-fault c =
    let owner = c.args.owner in
    let file = c.args.file.items in
    let spans = c.in_ok-spans.spans.items in
    let same = owners_same c.in-Some.found owner c.if-ne.ensures in
    let has = subst (λ (f : List ℕ). HasHeader f owner) c.deref.ensures.value (subst (HasHeader c.deref.result.now) same c.in-Some.ensures) in
    let walk = subst (λ s. WalksWhole s c.deref-2.result.now spans c.in_ok-spans.ended) (sym c.requires.shape) c.in_ok-spans.ensures in
    let whole = subst (λ e. WalksWhole (shape_of owner) file spans e) c.in-Faulty.is (subst (λ (f : List ℕ). WalksWhole (shape_of owner) f spans c.in_ok-spans.ended) c.deref-2.ensures.value walk) in
    (λ e. absurd cc, (c.requires.born, faulty owner file spans has c.in-Faulty.gate whole))
