use Rattle.std.proofs.Common.{◌≡◌, ℕ, ◌++◌, ◌∷◌, [], List, Bool, true, false, not, cond, map, sym, ap, ◌∙◌, append-nil}
use Rattle.entry_frames.specs.declared.message.Message.{Message}
use Rattle.entry_frames.specs.declared.peer.Peer.TheVariants.{Ask}
use Rattle.leader_prep.specs.Pages.{covers}
use Rattle.leader_prep.specs.Standing.{covers_cursor}
use Rattle.world_model.specs.Rules.Acts.{message_of}
use Rattle.node_core.proofs.member.Member.ask_if_uncovered.Goals as goal

pub returns-in_ok-push : goal.returns-in_ok-push
returns-in_ok-push c = λ n is there.
    let sends = c.args.sends.now.items in
    let shown : covers n.me n.volatile.pages c.args.cursor c.args.receiver ≡ false =
    sym (c.covers.ensures n is ∙ ap (λ cursor. covers_cursor n.me n.volatile.pages cursor c.args.receiver) there) ∙ c.if-not-covers.true in
    c.in_ok-push.ensures.items ∙ ap (λ (m : Message). sends ++ m ∷ []) (c.says.ensures n is)
    ∙ ap (λ (b : Bool). sends ++ map (message_of n (Ask c.args.cursor)) (cond {A = List ℕ} (not b) (c.args.receiver ∷ []) [])) (sym shown)

pub returns-else-not-covers : goal.returns-else-not-covers
returns-else-not-covers c = λ n is there.
    let sends = c.args.sends.now.items in
    let shown : covers n.me n.volatile.pages c.args.cursor c.args.receiver ≡ true =
    sym (c.covers.ensures n is ∙ ap (λ cursor. covers_cursor n.me n.volatile.pages cursor c.args.receiver) there) ∙ c.if-not-covers.false in
    sym (append-nil sends)
    ∙ ap (λ (b : Bool). sends ++ map (message_of n (Ask c.args.cursor)) (cond {A = List ℕ} (not b) (c.args.receiver ∷ []) [])) (sym shown)
