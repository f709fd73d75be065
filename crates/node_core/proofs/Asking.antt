-- A request that a leader hasn't answered before: whether its log has room, and what is sent of it.
use Rattle.std.proofs.Common.{◌≡◌, ℕ, ◌+◌, ◌<◌, nat_le, Bool, true, false, cond, List, [], ◌∷◌, ◌++◌, length, refl, ap, sym, subst, ◌∙◌, arith, length-append}
use Rattle.std.specs.Prelude.{◌||◌}
use Rattle.std.specs.List.{All}
use Rattle.std.proofs.lemmas.Bool.{leb-false}
use Rattle.std.proofs.lemmas.List.Elements.{All-weaker}
use Rattle.craft_base.specs.Shape.{Shape}
use Rattle.craft_base.specs.declared.command.Entry.{Entry}
use Rattle.craft_base.specs.declared.command.Reply.TheVariants as replies
use Rattle.craft_base.specs.declared.command.Request.{Request}
use Rattle.entry_frames.specs.Bulk.{bulk_of}
use Rattle.entry_frames.specs.declared.role.Role.TheVariants.{Leader}
use Rattle.world_model.specs.Nodes.{Node}
use Rattle.world_model.specs.Ranges.{ItemInRange, NodeInRange}
use Rattle.world_model.specs.Rules.Call as rule
use Rattle.world_model.specs.Rules.Say.{mode_of_leader}
use Rattle.world_model.proofs.Ranges.Call.{item_longer}
use Rattle.world_model.proofs.Ranges.Knowing.{knows_as}
use Rattle.world_model.proofs.Ranges.Starts.{starts_within}
use Rattle.node_core.specs.Acting.{StartsInRange}

pub has_room : (log : List Entry) → rule.is_full log ≡ false → length log < rule.full_entries
has_room log none = by_tests (nat_le rule.full_entries (length log)) (nat_le rule.full_bytes (bulk_of log)) refl none
  where
    by_tests : (long heavy : Bool) → nat_le rule.full_entries (length log) ≡ long → (long || heavy) ≡ false → length log < rule.full_entries
    by_tests true heavy e n = absurd cc
    by_tests false heavy e n = omega (arith, leb-false rule.full_entries (length log) e)

module _ (place : ℕ) (r : Request) (n : Node) where
  pub full : rule.is_full n.durable.log ≡ true → rule.act_of_new_request place r n ≡ rule.act_of_reply place r replies.Full n
  full is = ap (λ b. cond b (rule.act_of_reply place r replies.Full n)
      (cond (rule.is_busy n.durable.commit n.durable.log) (rule.act_of_reply place r replies.Busy n) (rule.act_of_asking place r n))) is

  open_as : (busy : Bool) → rule.is_full n.durable.log ≡ false → rule.is_busy n.durable.commit n.durable.log ≡ busy →
      rule.act_of_new_request place r n ≡ cond busy (rule.act_of_reply place r replies.Busy n) (rule.act_of_asking place r n)
  open_as busy room is =
      ap (λ b. cond b (rule.act_of_reply place r replies.Full n)
      (cond (rule.is_busy n.durable.commit n.durable.log) (rule.act_of_reply place r replies.Busy n) (rule.act_of_asking place r n))) room
      ∙ ap (λ b. cond b (rule.act_of_reply place r replies.Busy n) (rule.act_of_asking place r n)) is

  pub busy : rule.is_full n.durable.log ≡ false → rule.is_busy n.durable.commit n.durable.log ≡ true → rule.act_of_new_request place r n ≡ rule.act_of_reply place r replies.Busy n
  busy room is = open_as true room is

  pub asked : rule.is_full n.durable.log ≡ false → rule.is_busy n.durable.commit n.durable.log ≡ false → rule.act_of_new_request place r n ≡ rule.act_of_asking place r n
  asked room free = open_as false room free

-- ---- what was heard, where the log grows

-- a leader whose log is one entry longer sends from places of its log still
pub asking_starts : {shape : Shape} {member : ℕ} {n : Node} → NodeInRange shape member n → n.volatile.role ≡ Leader → (place : ℕ) (r : Request) →
    StartsInRange (rule.act_of_adding place r n).node
asking_starts {n = n} a leads place r = λ receiver.
    let log = n.durable.log ++ rule.entry_for n.durable.term r ∷ [] in
    let longer : length log ≡ length n.durable.log + 1 = length-append n.durable.log (rule.entry_for n.durable.term r ∷ []) in
    let knows = knows_as a Leader leads in
    let heard : All (ItemInRange (length log)) n.volatile.heard =
    subst (λ (last : ℕ). All (ItemInRange last) n.volatile.heard) (sym longer)
    (All-weaker (ItemInRange (length n.durable.log)) (ItemInRange (length n.durable.log + 1)) (item_longer (length n.durable.log)) n.volatile.heard knows.2) in
    starts_within (mode_of_leader n) receiver n.durable.commit log n.volatile.heard n.volatile.first heard (knows.0, omega (arith, knows.1, longer))
