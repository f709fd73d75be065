-- What a step tells can be written as frames, where it is for others.
use Rattle.std.proofs.Common.{◌≡◌, ℕ, ◌&&◌, ◌==◌, nat_lt, Bool, List, [], ◌∷◌, All, map, sym, subst}
use Rattle.std.proofs.lemmas.Bool.{cond_both}
use Rattle.std.proofs.lemmas.List.Elements.{All-append, All-cons, All-head, All-nil, All-tail}
use Rattle.craft_base.specs.Shape.{Shape}
use Rattle.entry_frames.specs.Records.{Record, Term, Add, Cut, Whole, Commit}
use Rattle.entry_frames.specs.declared.message.Message.{Message}
use Rattle.entry_frames.specs.declared.output.Output.TheVariants as outputs
use Rattle.node_core.specs.Stands.{Kept}
use Rattle.node_shell.specs.declared.outputs.Outputs.{Outputs}
use Rattle.node_shell.specs.Stepping.{StepsTo}
use Rattle.world_model.specs.Nodes.{Node}
use Rattle.world_model.specs.Ranges.{HasSpelling, ReplyHasSpelling}
use Rattle.world_model.specs.Rules.Acts.{Act}
use Rattle.world_model.specs.Turn as turns
use Rattle.world_model.specs.declared.call.ClientReply.{ClientReply}
use Rattle.net_node.specs.Sending.{CanBeSent}

can_role : (shape : Shape) (me : ℕ) (before now : Node) → All (CanBeSent shape me) (turns.role_outputs before now)
can_role shape me before now =
    cond_both (turns.is_same_role before.volatile.role now.volatile.role && (before.durable.term == now.durable.term)) []
    (outputs.Role now.volatile.role now.durable.term ∷ []) (λ told. All (CanBeSent shape me) told) (λ same. All-nil (CanBeSent shape me))
    (λ other. All-cons (CanBeSent shape me) (outputs.Role now.volatile.role now.durable.term) [] tt (All-nil (CanBeSent shape me)))

can_cuts : (shape : Shape) (me : ℕ) (prep : Bool) (records : List Record) → All (CanBeSent shape me) (turns.cut_outputs prep records)
can_cuts shape me prep [] = All-nil (CanBeSent shape me)
can_cuts shape me prep (Term term vote ∷ records) = can_cuts shape me prep records
can_cuts shape me prep (Add entry ∷ records) = can_cuts shape me prep records
can_cuts shape me prep (Cut index ∷ records) = All-cons (CanBeSent shape me) (outputs.Cut index prep) (turns.cut_outputs prep records) tt (can_cuts shape me prep records)
can_cuts shape me prep (Whole index bytes ∷ records) = can_cuts shape me prep records
can_cuts shape me prep (Commit index ∷ records) = can_cuts shape me prep records

can_wholes : (shape : Shape) (me : ℕ) (records : List Record) → All (CanBeSent shape me) (turns.whole_outputs records)
can_wholes shape me [] = All-nil (CanBeSent shape me)
can_wholes shape me (Term term vote ∷ records) = can_wholes shape me records
can_wholes shape me (Add entry ∷ records) = can_wholes shape me records
can_wholes shape me (Cut index ∷ records) = can_wholes shape me records
can_wholes shape me (Whole index bytes ∷ records) = All-cons (CanBeSent shape me) (outputs.Whole index) (turns.whole_outputs records) tt (can_wholes shape me records)
can_wholes shape me (Commit index ∷ records) = can_wholes shape me records

can_commit : (shape : Shape) (me : ℕ) (before now : Node) → All (CanBeSent shape me) (turns.commit_outputs before now)
can_commit shape me before now =
    cond_both (nat_lt before.durable.commit now.durable.commit) (outputs.Commit now.durable.commit ∷ []) [] (λ told. All (CanBeSent shape me) told)
    (λ grew. All-cons (CanBeSent shape me) (outputs.Commit now.durable.commit) [] tt (All-nil (CanBeSent shape me))) (λ same. All-nil (CanBeSent shape me))

can_replies : (shape : Shape) (me : ℕ) (replies : List ClientReply) → All (ReplyHasSpelling shape me) replies → All (CanBeSent shape me) (map turns.reply_output replies)
can_replies shape me [] fit = All-nil (CanBeSent shape me)
can_replies shape me (r ∷ replies) fit =
    All-cons (CanBeSent shape me) (turns.reply_output r) (map turns.reply_output replies) (All-head (ReplyHasSpelling shape me) r replies fit)
    (can_replies shape me replies (All-tail (ReplyHasSpelling shape me) r replies fit))

can_sends : (shape : Shape) (me : ℕ) (sends : List Message) → All (HasSpelling shape) sends → All (CanBeSent shape me) (map outputs.Send sends)
can_sends shape me [] fit = All-nil (CanBeSent shape me)
can_sends shape me (m ∷ sends) fit =
    All-cons (CanBeSent shape me) (outputs.Send m) (map outputs.Send sends) (All-head (HasSpelling shape) m sends fit)
    (can_sends shape me sends (All-tail (HasSpelling shape) m sends fit))

can_changes : (shape : Shape) (me : ℕ) (before : Node) (act : Act) → All (CanBeSent shape me) (turns.changes_told before act)
can_changes shape me before act =
    All-append (CanBeSent shape me) (turns.role_outputs before act.node) _ (can_role shape me before act.node)
    (All-append (CanBeSent shape me) (turns.cut_outputs (turns.is_preparation before act.node) act.records) _ (can_cuts shape me (turns.is_preparation before act.node) act.records)
    (All-append (CanBeSent shape me) (turns.whole_outputs act.records) _ (can_wholes shape me act.records) (can_commit shape me before act.node)))

-- so can all that a turn tells
pub can_turn : (shape : Shape) (me : ℕ) (before : Node) (act : Act) → All (ReplyHasSpelling shape me) act.replies → All (HasSpelling shape) act.sends
    → All (CanBeSent shape me) (turns.turned before act).outputs
can_turn shape me before act replied spelled =
    All-append (CanBeSent shape me) (turns.changes_told before act) _ (can_changes shape me before act)
    (All-append (CanBeSent shape me) (map turns.reply_output act.replies) _ (can_replies shape me act.replies replied) (can_sends shape me act.sends spelled))

-- and all that a step of that member tells
pub can_step : (shape : Shape) (me : ℕ) (before core : Kept) (n : Node) (event : turns.Event) (told : Outputs) → before.shape ≡ shape → before.me ≡ me
    → StepsTo before n event core told → All (CanBeSent shape me) told.list.items
can_step shape me before core n event told of_shape of_me step =
    subst (λ k. All (CanBeSent k me) told.list.items) of_shape
    (subst (λ k. All (CanBeSent before.shape k) told.list.items) of_me
    (subst (All (CanBeSent before.shape before.me)) (sym step.outputs) (can_turn before.shape before.me n (turns.act_of event n) step.replied step.spelled)))
