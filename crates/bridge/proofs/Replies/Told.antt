-- What a run keeps of the replies of a turn is what the rule tells clients.
use Rattle.std.proofs.Common.{◌≡◌, ℕ, ◌++◌, ◌&&◌, ◌==◌, nat_lt, Bool, List, [], ◌∷◌, map, refl, ap, ◌∙◌, append-nil}
use Rattle.std.proofs.lemmas.Bool.{cond_both}
use Rattle.entry_frames.specs.Records.{Record, Term, Add, Cut, Whole, Commit}
use Rattle.entry_frames.specs.declared.message.Message.{Message}
use Rattle.entry_frames.specs.declared.output.Output.{Output}
use Rattle.entry_frames.specs.declared.output.Output.TheVariants as outputs
use Rattle.world_model.specs.Nodes.{Node}
use Rattle.world_model.specs.Rules.Acts.{Act}
use Rattle.world_model.specs.Traces.{Replied, replies_told}
use Rattle.world_model.specs.Turn.{changes_told, commit_outputs, cut_outputs, is_preparation, is_same_role, reply_output, role_outputs, turned, whole_outputs}
use Rattle.world_model.specs.declared.call.ClientReply.{ClientReply}

module _ (event member : ℕ) where
  -- a reply as it is kept
  abbrev pub replied : ClientReply → Replied
  replied r = record { event = event; member = member; client = r.client; seq = r.seq; reply = r.reply }

  told-append : (told more : List Output) → replies_told event member (told ++ more) ≡ replies_told event member told ++ replies_told event member more
  told-append [] more = refl
  told-append (outputs.Role role term ∷ told) more = told-append told more
  told-append (outputs.Cut index prep ∷ told) more = told-append told more
  told-append (outputs.Whole index ∷ told) more = told-append told more
  told-append (outputs.Commit index ∷ told) more = told-append told more
  told-append (outputs.Send m ∷ told) more = told-append told more
  told-append (outputs.Reply place client seq reply ∷ told) more =
      ap (λ rest. record { event = event; member = member; client = client; seq = seq; reply = reply } ∷ rest) (told-append told more)

  told-replies : (replies : List ClientReply) → replies_told event member (map reply_output replies) ≡ map replied replies
  told-replies [] = refl
  told-replies (r ∷ replies) = ap (λ rest. replied r ∷ rest) (told-replies replies)

  -- nobody is told anything by what is sent, or by what changed
  none_by_sends : (sends : List Message) → replies_told event member (map outputs.Send sends) ≡ []
  none_by_sends [] = refl
  none_by_sends (m ∷ sends) = none_by_sends sends

  none_by_role : (before now : Node) → replies_told event member (role_outputs before now) ≡ []
  none_by_role before now =
      cond_both (is_same_role before.volatile.role now.volatile.role && (before.durable.term == now.durable.term)) []
      (outputs.Role now.volatile.role now.durable.term ∷ []) (λ told. replies_told event member told ≡ []) (λ same. refl) (λ other. refl)

  none_by_cuts : (prep : Bool) (records : List Record) → replies_told event member (cut_outputs prep records) ≡ []
  none_by_cuts prep [] = refl
  none_by_cuts prep (Term term vote ∷ records) = none_by_cuts prep records
  none_by_cuts prep (Add entry ∷ records) = none_by_cuts prep records
  none_by_cuts prep (Cut index ∷ records) = none_by_cuts prep records
  none_by_cuts prep (Whole index bytes ∷ records) = none_by_cuts prep records
  none_by_cuts prep (Commit index ∷ records) = none_by_cuts prep records

  none_by_wholes : (records : List Record) → replies_told event member (whole_outputs records) ≡ []
  none_by_wholes [] = refl
  none_by_wholes (Term term vote ∷ records) = none_by_wholes records
  none_by_wholes (Add entry ∷ records) = none_by_wholes records
  none_by_wholes (Cut index ∷ records) = none_by_wholes records
  none_by_wholes (Whole index bytes ∷ records) = none_by_wholes records
  none_by_wholes (Commit index ∷ records) = none_by_wholes records

  none_by_commit : (before now : Node) → replies_told event member (commit_outputs before now) ≡ []
  none_by_commit before now =
      cond_both (nat_lt before.durable.commit now.durable.commit) (outputs.Commit now.durable.commit ∷ []) []
      (λ told. replies_told event member told ≡ []) (λ grew. refl) (λ same. refl)

  none_of_both :
      (first second : List Output) → replies_told event member first ≡ [] → replies_told event member second ≡ [] →
      replies_told event member (first ++ second) ≡ []
  none_of_both first second one other = told-append first second ∙ ap (λ told. told ++ replies_told event member second) one ∙ other

  none_by_changes : (before : Node) (act : Act) → replies_told event member (changes_told before act) ≡ []
  none_by_changes before act =
      none_of_both (role_outputs before act.node) _ (none_by_role before act.node)
      (none_of_both (cut_outputs (is_preparation before act.node) act.records) _ (none_by_cuts (is_preparation before act.node) act.records)
      (none_of_both (whole_outputs act.records) _ (none_by_wholes act.records) (none_by_commit before act.node)))

  pub replies_kept : (before : Node) (act : Act) → replies_told event member (turned before act).outputs ≡ map replied act.replies
  replies_kept before act =
      let answers = map reply_output act.replies in
      let sends = map outputs.Send act.sends in
      told-append (changes_told before act) (answers ++ sends)
      ∙ ap (λ told. told ++ replies_told event member (answers ++ sends)) (none_by_changes before act)
      ∙ told-append answers sends ∙ ap (λ told. replies_told event member answers ++ told) (none_by_sends act.sends)
      ∙ append-nil (replies_told event member answers) ∙ told-replies act.replies
