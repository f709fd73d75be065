-- What a turn makes of its parts.
use Rattle.std.proofs.Common.{◌≡◌, ℕ, ◌++◌, ◌&&◌, ◌==◌, nat_lt, false, Bool, List, [], ◌∷◌, map, refl, ap, ◌∙◌, arith}
use Rattle.std.proofs.lemmas.Bool.{cond_both, ltb-false}
use Rattle.entry_frames.specs.Records.{Record, Term, Add, Cut, Whole, Commit}
use Rattle.entry_frames.specs.declared.message.Message.{Message}
use Rattle.entry_frames.specs.declared.output.Output.{Output}
use Rattle.entry_frames.specs.declared.output.Output.TheVariants as outputs
use Rattle.world_model.specs.Nodes.{Node}
use Rattle.world_model.specs.Rules.Acts.{Act, stays}
use Rattle.world_model.specs.Rules.Terms.{act_of_higher_term, act_of_term}
use Rattle.world_model.specs.Turn.{is_same_role, is_preparation, role_outputs, cut_outputs, whole_outputs, commit_outputs, changes_told, reply_output, turned}
use Rattle.world_model.specs.World.{sent_among}
use Rattle.world_model.specs.declared.call.ClientReply.{ClientReply}

-- a node that takes a message that isn't of a lower term does so in the message's term
pub caught_up : (n : Node) (term : ℕ) → nat_lt term n.durable.term ≡ false → (act_of_term term n).node.durable.term ≡ term
caught_up n term e =
    cond_both (nat_lt n.durable.term term) (act_of_higher_term term n) (stays n) (λ act. act.node.durable.term ≡ term)
    (λ higher. refl) (λ same. omega (arith, ltb-false _ _ e, ltb-false _ _ same))

-- ---- what is sent

pub sent_among-append : (told more : List Output) → sent_among (told ++ more) ≡ sent_among told ++ sent_among more
sent_among-append [] more = refl
sent_among-append (outputs.Role role term ∷ told) more = sent_among-append told more
sent_among-append (outputs.Cut index prep ∷ told) more = sent_among-append told more
sent_among-append (outputs.Whole index ∷ told) more = sent_among-append told more
sent_among-append (outputs.Commit index ∷ told) more = sent_among-append told more
sent_among-append (outputs.Reply place client seq reply ∷ told) more = sent_among-append told more
sent_among-append (outputs.Send m ∷ told) more = ap (λ rest. m ∷ rest) (sent_among-append told more)

sent_among-sends : (sends : List Message) → sent_among (map outputs.Send sends) ≡ sends
sent_among-sends [] = refl
sent_among-sends (m ∷ sends) = ap (λ rest. m ∷ rest) (sent_among-sends sends)

-- nothing is sent by what changed
none_by_role : (before now : Node) → sent_among (role_outputs before now) ≡ []
none_by_role before now =
    cond_both (is_same_role before.volatile.role now.volatile.role && (before.durable.term == now.durable.term)) []
    (outputs.Role now.volatile.role now.durable.term ∷ []) (λ told. sent_among told ≡ []) (λ same. refl) (λ other. refl)

none_by_cuts : (prep : Bool) (records : List Record) → sent_among (cut_outputs prep records) ≡ []
none_by_cuts prep [] = refl
none_by_cuts prep (Term term vote ∷ records) = none_by_cuts prep records
none_by_cuts prep (Add entry ∷ records) = none_by_cuts prep records
none_by_cuts prep (Cut index ∷ records) = none_by_cuts prep records
none_by_cuts prep (Whole index bytes ∷ records) = none_by_cuts prep records
none_by_cuts prep (Commit index ∷ records) = none_by_cuts prep records

none_by_wholes : (records : List Record) → sent_among (whole_outputs records) ≡ []
none_by_wholes [] = refl
none_by_wholes (Term term vote ∷ records) = none_by_wholes records
none_by_wholes (Add entry ∷ records) = none_by_wholes records
none_by_wholes (Cut index ∷ records) = none_by_wholes records
none_by_wholes (Whole index bytes ∷ records) = none_by_wholes records
none_by_wholes (Commit index ∷ records) = none_by_wholes records

none_by_commit : (before now : Node) → sent_among (commit_outputs before now) ≡ []
none_by_commit before now =
    cond_both (nat_lt before.durable.commit now.durable.commit) (outputs.Commit now.durable.commit ∷ []) [] (λ told. sent_among told ≡ [])
    (λ grew. refl) (λ same. refl)

none_of_both : (first second : List Output) → sent_among first ≡ [] → sent_among second ≡ [] → sent_among (first ++ second) ≡ []
none_of_both first second one other = sent_among-append first second ∙ ap (λ sent. sent ++ sent_among second) one ∙ other

none_by_changes : (before : Node) (act : Act) → sent_among (changes_told before act) ≡ []
none_by_changes before act =
    none_of_both (role_outputs before act.node) _ (none_by_role before act.node)
    (none_of_both (cut_outputs (is_preparation before act.node) act.records) _ (none_by_cuts (is_preparation before act.node) act.records)
    (none_of_both (whole_outputs act.records) _ (none_by_wholes act.records) (none_by_commit before act.node)))

-- nor by what clients are told
none_by_replies : (replies : List ClientReply) → sent_among (map reply_output replies) ≡ []
none_by_replies [] = refl
none_by_replies (r ∷ replies) = none_by_replies replies

told_and_sent : (act : Act) → sent_among (map reply_output act.replies ++ map outputs.Send act.sends) ≡ act.sends
told_and_sent act =
    sent_among-append (map reply_output act.replies) (map outputs.Send act.sends)
    ∙ ap (λ sent. sent ++ sent_among (map outputs.Send act.sends)) (none_by_replies act.replies) ∙ sent_among-sends act.sends

-- what a turn puts on the network is what the rule sends
pub sent_among-turned : (before : Node) (act : Act) → sent_among (turned before act).outputs ≡ act.sends
sent_among-turned before act =
    sent_among-append (changes_told before act) (map reply_output act.replies ++ map outputs.Send act.sends)
    ∙ ap (λ sent. sent ++ sent_among (map reply_output act.replies ++ map outputs.Send act.sends)) (none_by_changes before act) ∙ told_and_sent act
