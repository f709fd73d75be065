-- What is left of a turn, of whatever node a member stands for.
use Rattle.std.proofs.Common.{◌≡◌, ◌∙◌, ℕ, List, [], ◌∷◌, ◌++◌, map, ap, sym, subst, refl}
use Rattle.std.specs.List.{All}
use Rattle.std.specs.Option.{option_to_list}
use Rattle.std.specs.Prelude.{◌==◌, ◌&&◌}
use Rattle.craft_base.specs.Shape.{Shape, IsShape}
use Rattle.entry_frames.specs.Bodies.{HaveSpellings}
use Rattle.entry_frames.specs.Durable.{CanApplyAll, Durable}
use Rattle.entry_frames.specs.Records.{Record, record_spellings}
use Rattle.entry_frames.specs.declared.message.Message.{Message}
use Rattle.entry_frames.specs.declared.output.Output.{Output}
use Rattle.entry_frames.specs.declared.output.Output.TheVariants as outputs
use Rattle.entry_frames.specs.declared.role.Role.{Role}
use Rattle.entry_frames.specs.declared.role.Role.TheVariants.{Preparing}
use Rattle.world_model.specs.Nodes.{Node}
use Rattle.world_model.specs.Ranges.{EventInRange, HasSpelling, NodeInRange, ReplyHasSpelling}
use Rattle.world_model.specs.Turn as turns
use Rattle.world_model.specs.declared.call.ClientReply.{ClientReply}
use Rattle.world_model.proofs.Ranges.Acts.{ActInRange}
use Rattle.world_model.proofs.Ranges.Turns.{act_in_range}
use Rattle.node_core.specs.declared.act.Act.{Act}
use Rattle.node_core.specs.declared.member.Member.{Member}
use Rattle.node_core.specs.declared.turn.Turned.{Turned}
use Rattle.node_core.specs.Acting.{Acts, IsActed, IsNode, IsRangedMember, cut_indexes, kept_of, whole_indexes}
use Rattle.node_core.specs.Turns.{TurnedTo, change_of, growth_of}
use Rattle.node_core.proofs.Hearing.{own_range}
use Rattle.node_core.proofs.Told.{told_changes}

-- records are spelled as something
pub none_spelled : (k : ℕ) (records : List Record) → record_spellings k records ≡ [] → records ≡ []
none_spelled k [] e = refl
none_spelled k (r ∷ records) e = absurd cc

-- what was added to nothing stands alone
pub alone : {A : Type 0} (before after added : List A) → before ≡ [] → after ≡ before ++ added → after ≡ added
alone before after added none all = all ∙ ap (λ xs. xs ++ added) none

-- what is told, by the member's two ends and what was noted of the turn
abbrev pub told_between : Role → Durable → Role → Durable → (cuts wholes : List ℕ) → List ClientReply → List Message → List Output
told_between role_before before role now cuts wholes replies sends =
    (option_to_list (change_of role_before before.term role now.term)
    ++ (map (λ index. outputs.Cut index (turns.is_same_role role_before Preparing && (before.term == now.term))) cuts
    ++ (map outputs.Whole wholes ++ option_to_list (growth_of before.commit now.commit))))
    ++ (map turns.reply_output replies ++ map outputs.Send sends)

module _
    (m : Member) (event : turns.Event) (start now : Act) (begins : start.member ≡ m) (acted : Acts (turns.act_of event) start now)
    (is : IsShape m.shape) (told : EventInRange m.shape m.me event) (r : IsRangedMember m) where
  acts_at : (n : Node) → IsNode m n → IsActed (turns.act_of event n) start now
  acts_at n is_node = acted n (subst (λ x. IsNode x n) (sym begins) is_node)

  in_range : ActInRange m.shape m.me r.node (turns.act_of event r.node)
  in_range =
      act_in_range is event told
      (subst (λ (s : Shape). NodeInRange s m.me r.node) (sym r.is.stands.of_shape) (subst (λ (k : ℕ). NodeInRange r.node.shape k r.node) (sym r.is.stands.of_me) r.ranged))

  pub still_ranged : IsRangedMember now.member
  still_ranged = record { node = (turns.act_of event r.node).node; is = (acts_at r.node r.is).node; ranged = own_range in_range.node }

  module _
      (no_group : start.group ≡ []) (no_cuts : start.cuts.items ≡ []) (no_wholes : start.wholes.items ≡ []) (no_replies : start.replies.items ≡ []) (no_sends : start.sends.items ≡ [])
      (left : Turned) (group : left.group ≡ now.group)
      (tells : left.outputs.items ≡ told_between m.role m.store.kept now.member.role now.member.store.kept now.cuts.items now.wholes.items now.replies.items now.sends.items)
      (n : Node) (is_node : IsNode m n) where
    one : IsActed (turns.act_of event n) start now
    one = acts_at n is_node

    -- whatever node it stands for, the same is sent
    spelled_sends : All (HasSpelling m.shape) (turns.act_of event n).sends
    spelled_sends =
        let mine : now.sends.items ≡ (turns.act_of event n).sends = alone start.sends.items now.sends.items (turns.act_of event n).sends no_sends one.sends in
        let other : now.sends.items ≡ (turns.act_of event r.node).sends =
        alone start.sends.items now.sends.items (turns.act_of event r.node).sends no_sends (acts_at r.node r.is).sends in
        subst (All (HasSpelling m.shape)) (sym other ∙ mine) in_range.sends

    -- and the same is told to clients
    spelled_replies : All (ReplyHasSpelling m.shape m.me) (turns.act_of event n).replies
    spelled_replies =
        let mine : now.replies.items ≡ (turns.act_of event n).replies = alone start.replies.items now.replies.items (turns.act_of event n).replies no_replies one.replies in
        let other : now.replies.items ≡ (turns.act_of event r.node).replies =
        alone start.replies.items now.replies.items (turns.act_of event r.node).replies no_replies (acts_at r.node r.is).replies in
        subst (All (ReplyHasSpelling m.shape m.me)) (sym other ∙ mine) in_range.replies

    of_shape : start.member.store.shape ≡ m.shape
    of_shape = ap (λ x. x.store.shape) begins ∙ is_node.of_store ∙ sym is_node.stands.of_shape

    records_told : left.group ≡ record_spellings m.shape.need (turns.act_of event n).records
    records_told =
        group ∙ alone start.group now.group (record_spellings start.member.store.shape.need (turns.act_of event n).records) no_group one.records
        ∙ ap (λ s. record_spellings s.need (turns.act_of event n).records) of_shape

    outputs_told : left.outputs.items ≡ (turns.turn event n).outputs
    outputs_told =
        let act = turns.act_of event n in
        let s = is_node.stands in
        let t = one.node.stands in
        tells
        ∙ ap (λ role. told_between role m.store.kept now.member.role now.member.store.kept now.cuts.items now.wholes.items now.replies.items now.sends.items) s.of_role
        ∙ ap (λ d. told_between n.volatile.role d now.member.role now.member.store.kept now.cuts.items now.wholes.items now.replies.items now.sends.items) s.of_durable
        ∙ ap (λ role. told_between n.volatile.role n.durable role now.member.store.kept now.cuts.items now.wholes.items now.replies.items now.sends.items) t.of_role
        ∙ ap (λ d. told_between n.volatile.role n.durable act.node.volatile.role d now.cuts.items now.wholes.items now.replies.items now.sends.items) t.of_durable
        ∙ ap (λ cuts. told_between n.volatile.role n.durable act.node.volatile.role act.node.durable cuts now.wholes.items now.replies.items now.sends.items)
        (alone start.cuts.items now.cuts.items (cut_indexes act.records) no_cuts one.cuts)
        ∙ ap (λ wholes. told_between n.volatile.role n.durable act.node.volatile.role act.node.durable (cut_indexes act.records) wholes now.replies.items now.sends.items)
        (alone start.wholes.items now.wholes.items (whole_indexes act.records) no_wholes one.wholes)
        ∙ ap (λ replies. told_between n.volatile.role n.durable act.node.volatile.role act.node.durable (cut_indexes act.records) (whole_indexes act.records) replies now.sends.items)
        (alone start.replies.items now.replies.items act.replies no_replies one.replies)
        ∙ ap (λ sends. told_between n.volatile.role n.durable act.node.volatile.role act.node.durable (cut_indexes act.records) (whole_indexes act.records) act.replies sends)
        (alone start.sends.items now.sends.items act.sends no_sends one.sends)
        ∙ ap (λ told. told ++ (map turns.reply_output act.replies ++ map outputs.Send act.sends)) (told_changes n act)

    pub turned_to : TurnedTo (kept_of m) n event (kept_of now.member) left
    turned_to = record {
      node = one.node.stands;
      same = (
        (acts_at r.node r.is).node.stands.of_shape ∙ in_range.node.of_shape,
        (acts_at r.node r.is).node.stands.of_me ∙ in_range.node.me,
      );
      records = records_told;
      written = subst (λ s. HaveSpellings s.need (turns.act_of event n).records) of_shape one.may.written;
      apply = placed;
      empty = λ none. none_spelled m.shape.need (turns.act_of event n).records (sym records_told ∙ none);
      outputs = outputs_told;
      spelled = spelled_sends;
      replied = spelled_replies;
    }
      where
        placed : CanApplyAll m.shape m.store.kept (turns.act_of event n).records
        placed =
            subst (λ s. CanApplyAll s m.store.kept (turns.act_of event n).records) of_shape
            (subst (λ x. CanApplyAll start.member.store.shape x.store.kept (turns.act_of event n).records) begins one.may.apply)
