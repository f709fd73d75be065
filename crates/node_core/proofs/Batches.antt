-- The entries that are sent to a member.
use Rattle.std.proofs.Common.{◌≡◌, ◌≢◌, ◌≤◌, ◌+◌, ◌∷◌, [], ◌-◌, ◌∙◌, ℕ, List, length, refl, ap, arith}
use Rattle.std.proofs.lemmas.List.{nil_from_length}
use Rattle.coded_append.specs.declared.modes.Mode.{Mode}
use Rattle.craft_base.specs.declared.command.Entry.{Entry}
use Rattle.entry_frames.specs.Logs.{term_at}
use Rattle.entry_frames.specs.declared.peer.Peer.TheVariants.{Append}
use Rattle.world_model.specs.Nodes.{Node}
use Rattle.world_model.specs.Rules.Say.{append_from, append_if_any, append_to, append_with, batch_for, batch_in, mode_of_leader, start_of}
use Rattle.node_core.specs.declared.member.Member.{Member}
use Rattle.node_core.specs.Acting.{IsNode, MaySay}

-- the batch of the member's store, in its mode, is the node's
pub batch_is :
    (m : Member) (n : Node) → IsNode m n → (mode : Mode) (receiver start : ℕ) (entries : List Entry) → mode ≡ mode_of_leader n →
    entries ≡ batch_in mode m.store.shape.need receiver m.store.kept.log start → entries ≡ batch_for n receiver start
batch_is m n is mode receiver start entries same batch =
    batch ∙ ap (λ s. batch_in mode s.need receiver m.store.kept.log start) is.of_store ∙ ap (λ d. batch_in mode n.shape.need receiver d.log start) is.stands.of_durable
    ∙ ap (λ (how : Mode). batch_in how n.shape.need receiver n.durable.log start) same

-- from where on it goes to the member
pub batch_from : (n : Node) (receiver start node_start : ℕ) (entries : List Entry) → start ≡ node_start → entries ≡ batch_for n receiver start → entries ≡ batch_for n receiver node_start
batch_from n receiver start node_start entries same batch = batch ∙ ap (batch_for n receiver) same

-- where it goes from lies in the log, or just behind it
pub may_start : (m : Member) → MaySay m → (receiver start : ℕ) → ((n : Node) → IsNode m n → start ≡ start_of n receiver) → (1 ≤ start) × (start ≤ length m.store.kept.log + 1)
may_start m may receiver start is =
    let same : start ≡ start_of may.node receiver = is may.node may.is in
    let own : length m.store.kept.log ≡ length may.node.durable.log = ap (λ d. length d.log) may.is.stands.of_durable in
    let place = may.starts receiver in
    (omega (arith, same, place.0), omega (arith, same, own, place.1))

-- and so is its Append
pub appended :
    (m : Member) (n : Node) → IsNode m n → (receiver start node_start : ℕ) (entries : List Entry) → start ≡ node_start → entries ≡ batch_for n receiver start →
    Append (start - 1) (term_at m.store.kept.log (start - 1)) m.store.kept.commit entries ≡ append_from n receiver node_start
appended m n is receiver start node_start entries same batch =
    ap (λ es. Append (start - 1) (term_at m.store.kept.log (start - 1)) m.store.kept.commit es) batch
    ∙ ap (λ d. Append (start - 1) (term_at d.log (start - 1)) d.commit (batch_for n receiver start)) is.stands.of_durable
    ∙ ap (λ k. Append (k - 1) (term_at n.durable.log (k - 1)) n.durable.commit (batch_for n receiver k)) same

with_some : (n : Node) (member : ℕ) (entries : List Entry) → length entries ≢ 0 → append_with n member entries ≡ append_to n member ∷ []
with_some n member [] some = absurd (some refl)
with_some n member (entry ∷ entries) some = refl

pub any_sent : (n : Node) (member : ℕ) → length (batch_for n member (start_of n member)) ≢ 0 → append_if_any n member ≡ append_to n member ∷ []
any_sent n member some = with_some n member (batch_for n member (start_of n member)) some

pub none_sent : (n : Node) (member : ℕ) → length (batch_for n member (start_of n member)) ≡ 0 → append_if_any n member ≡ []
none_sent n member none = ap (append_with n member) (nil_from_length (batch_for n member (start_of n member)) none)
