-- What rules leave, one after the other.
use Rattle.std.proofs.Common.{◌≡◌, ℕ, List, [], ◌∷◌, ◌++◌, refl, ap, ◌∙◌, sym, subst, append-nil, append_assoc}
use Rattle.entry_frames.specs.Bodies.{HaveSpellings}
use Rattle.entry_frames.specs.Durable as durable
use Rattle.entry_frames.specs.Durable.{CanApplyAll}
use Rattle.entry_frames.proofs.Durable.{can_apply-append}
use Rattle.entry_frames.specs.Formats.{spelling}
use Rattle.entry_frames.specs.Records.{Record, Term, Add, Cut, Whole, Commit, record_fields, record_spellings}
use Rattle.entry_frames.specs.declared.message.Message.{Message}
use Rattle.world_model.specs.Nodes.{Node}
use Rattle.world_model.specs.Rules.Acts as acts
use Rattle.world_model.proofs.Recorded.{after-append}
use Rattle.world_model.proofs.Ranges.Records.{spelled-append}
use Rattle.node_core.specs.declared.act.Act.{Act}
use Rattle.node_core.specs.Acting.{Becomes, IsActed, IsNode, cut_indexes, whole_indexes}

-- ---- lists of records

spellings-append : (k : ℕ) (records more : List Record) → record_spellings k (records ++ more) ≡ record_spellings k records ++ record_spellings k more
spellings-append k [] more = refl
spellings-append k (r ∷ records) more =
    ap (λ bytes. spelling (record_fields k) r ++ bytes) (spellings-append k records more)
    ∙ sym (append_assoc (spelling (record_fields k) r) (record_spellings k records) (record_spellings k more))

cuts-append : (records more : List Record) → cut_indexes (records ++ more) ≡ cut_indexes records ++ cut_indexes more
cuts-append [] more = refl
cuts-append (Term term vote ∷ records) more = cuts-append records more
cuts-append (Add entry ∷ records) more = cuts-append records more
cuts-append (Cut index ∷ records) more = ap (λ xs. index ∷ xs) (cuts-append records more)
cuts-append (Whole index bytes ∷ records) more = cuts-append records more
cuts-append (Commit index ∷ records) more = cuts-append records more

wholes-append : (records more : List Record) → whole_indexes (records ++ more) ≡ whole_indexes records ++ whole_indexes more
wholes-append [] more = refl
wholes-append (Term term vote ∷ records) more = wholes-append records more
wholes-append (Add entry ∷ records) more = wholes-append records more
wholes-append (Cut index ∷ records) more = wholes-append records more
wholes-append (Whole index bytes ∷ records) more = ap (λ xs. index ∷ xs) (wholes-append records more)
wholes-append (Commit index ∷ records) more = wholes-append records more

-- what was added to something, and then more
added_twice : {A : Type 0} (before between after one other : List A) → between ≡ before ++ one → after ≡ between ++ other → after ≡ before ++ (one ++ other)
added_twice before between after one other first second = second ∙ ap (λ xs. xs ++ other) first ∙ append_assoc before one other

-- what was added, and then nothing
added_once : {A : Type 0} (before between after one : List A) → between ≡ before ++ one → after ≡ between ++ [] → after ≡ before ++ one
added_once before between after one first second = second ∙ append-nil between ∙ first

-- ---- acts

-- nothing
pub stays_acted : (act : Act) (n : Node) → IsNode act.member n → IsActed (acts.stays n) act act
stays_acted act n is = record {
  node = is;
  same = refl;
  may = record { apply = tt; written = tt };
  kept = refl;
  records = sym (append-nil act.group);
  cuts = sym (append-nil act.cuts.items);
  wholes = sym (append-nil act.wholes.items);
  replies = sym (append-nil act.replies.items);
  sends = sym (append-nil act.sends.items);
}

-- a rule, and then another one on what it leaves
pub acted_after :
    (act : acts.Act) (rule : Node → acts.Act) (before between after : Act) → IsActed act before between → IsActed (rule act.node) between after →
    IsActed (acts.followed_by act rule) before after
acted_after act rule before between after first second =
    let k = before.member.store.shape.need in
    let next = rule act.node in
    let spelled : after.group ≡ between.group ++ record_spellings k next.records =
    second.records ∙ ap (λ s. between.group ++ record_spellings s.need next.records) first.same in
    record {
      node = second.node;
      same = second.same ∙ first.same;
      may = record {
        apply =
            can_apply-append before.member.store.shape before.member.store.kept act.records next.records first.may.apply
            (subst (λ s. CanApplyAll s (durable.after before.member.store.kept act.records) next.records) first.same
            (subst (λ d. CanApplyAll between.member.store.shape d next.records) first.kept second.may.apply));
        written =
            spelled-append k act.records next.records first.may.written (subst (λ s. HaveSpellings s.need next.records) first.same second.may.written);
      };
      kept = second.kept ∙ ap (λ d. durable.after d next.records) first.kept ∙ sym (after-append before.member.store.kept act.records next.records);
      records =
          added_twice before.group between.group after.group (record_spellings k act.records) (record_spellings k next.records) first.records spelled
          ∙ ap (λ bytes. before.group ++ bytes) (sym (spellings-append k act.records next.records));
      cuts =
          added_twice before.cuts.items between.cuts.items after.cuts.items (cut_indexes act.records) (cut_indexes next.records) first.cuts second.cuts
          ∙ ap (λ xs. before.cuts.items ++ xs) (sym (cuts-append act.records next.records));
      wholes =
          added_twice before.wholes.items between.wholes.items after.wholes.items (whole_indexes act.records) (whole_indexes next.records) first.wholes second.wholes
          ∙ ap (λ xs. before.wholes.items ++ xs) (sym (wholes-append act.records next.records));
      replies = added_twice before.replies.items between.replies.items after.replies.items act.replies next.replies first.replies second.replies;
      sends = added_twice before.sends.items between.sends.items after.sends.items act.sends next.sends first.sends second.sends;
    }

-- a rule, and then messages more
pub sent_after :
    (act : acts.Act) (sends : List Message) (before between after : Act) → IsActed act before between →
    IsActed (acts.sending sends (acts.stays act.node)) between after → IsActed (acts.sending sends act) before after
sent_after act sends before between after first second = record {
  node = second.node;
  same = second.same ∙ first.same;
  may = first.may;
  kept = second.kept ∙ first.kept;
  records = added_once before.group between.group after.group (record_spellings before.member.store.shape.need act.records) first.records second.records;
  cuts = added_once before.cuts.items between.cuts.items after.cuts.items (cut_indexes act.records) first.cuts second.cuts;
  wholes = added_once before.wholes.items between.wholes.items after.wholes.items (whole_indexes act.records) first.wholes second.wholes;
  replies = added_once before.replies.items between.replies.items after.replies.items act.replies first.replies second.replies;
  sends = added_twice before.sends.items between.sends.items after.sends.items act.sends sends first.sends second.sends;
}

-- a rule, after which the member stands for another node, without a change of what outlives a crash
pub moved_after :
    (act : acts.Act) (node : Node) (before between after : Act) → IsActed act before between → after ≡ record between { member = after.member } →
    after.member.store ≡ between.member.store → IsNode after.member node → IsActed (record act { node = node }) before after
moved_after act node before between after first only store is = record {
  node = is;
  same = ap (λ s. s.shape) store ∙ first.same;
  may = first.may;
  kept = ap (λ s. s.kept) store ∙ first.kept;
  records = ap (λ (a : Act). a.group) only ∙ first.records;
  cuts = ap (λ (a : Act). a.cuts.items) only ∙ first.cuts;
  wholes = ap (λ (a : Act). a.wholes.items) only ∙ first.wholes;
  replies = ap (λ (a : Act). a.replies.items) only ∙ first.replies;
  sends = ap (λ (a : Act). a.sends.items) only ∙ first.sends;
}

-- a rule, and then a change of what a crash loses
pub become_after :
    (act : acts.Act) (change : Node → Node) (before between after : Act) → IsActed act before between → after ≡ record between { member = after.member } →
    Becomes change between.member after.member → IsActed (record act { node = change act.node }) before after
become_after act change before between after first only becomes =
    moved_after act (change act.node) before between after first only becomes.store (becomes.node act.node first.node)

-- a change of what a crash loses, and then a rule
pub acted_from :
    (act : acts.Act) (before between after : Act) → between ≡ record before { member = between.member } → between.member.store ≡ before.member.store →
    IsActed act between after → IsActed act before after
acted_from act before between after only store acted = record {
  node = acted.node;
  same = acted.same ∙ ap (λ s. s.shape) store;
  may = record {
    apply = subst (λ s. CanApplyAll s.shape s.kept act.records) store acted.may.apply;
    written = subst (λ s. HaveSpellings s.shape.need act.records) store acted.may.written;
  };
  kept = acted.kept ∙ ap (λ s. durable.after s.kept act.records) store;
  records = acted.records ∙ ap (λ s. between.group ++ record_spellings s.shape.need act.records) store ∙ ap (λ (a : Act). a.group ++ record_spellings before.member.store.shape.need act.records) only;
  cuts = acted.cuts ∙ ap (λ (a : Act). a.cuts.items ++ cut_indexes act.records) only;
  wholes = acted.wholes ∙ ap (λ (a : Act). a.wholes.items ++ whole_indexes act.records) only;
  replies = acted.replies ∙ ap (λ (a : Act). a.replies.items ++ act.replies) only;
  sends = acted.sends ∙ ap (λ (a : Act). a.sends.items ++ act.sends) only;
}

-- some records, and then more of them
pub recorded_after :
    (n : Node) (records more : List Record) (before between after : Act) → IsActed (acts.recording_all records (acts.stays n)) before between →
    IsActed (acts.recording_all more (acts.stays (acts.recording_all records (acts.stays n)).node)) between after →
    IsActed (acts.recording_all (records ++ more) (acts.stays n)) before after
recorded_after n records more before between after first second =
    let both = acted_after (acts.recording_all records (acts.stays n)) (λ now. acts.recording_all more (acts.stays now)) before between after first second in
    record {
      node = subst (λ d. IsNode after.member (record n { durable = d })) (sym (after-append n.durable records more)) both.node;
      same = both.same;
      may = both.may;
      kept = both.kept;
      records = both.records;
      cuts = both.cuts;
      wholes = both.wholes;
      replies = both.replies;
      sends = both.sends;
    }
