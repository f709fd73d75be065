-- Answer: what a member shows is in range, and so is what is decided by it.
use Rattle.std.proofs.Common.{◌≡◌, ◌≢◌, ℕ, suc, ◌≤◌, ◌-◌, ◌==◌, not, Bool, false, List, [], ◌∷◌, length, map, Option, None, Some, refl, sym, ap, subst, ◌∙◌, arith}
use Rattle.std.specs.List.{All}
use Rattle.std.proofs.lemmas.Bool.{cond_both}
use Rattle.std.proofs.lemmas.List.Elements.{All-cons, All-filter, All-map, All-nil, All-weaker}
use Rattle.std.proofs.lemmas.Option.{same_Some}
use Rattle.craft_base.specs.Shape.{Shape, IsShape}
use Rattle.craft_base.specs.declared.command.Entry.{Entry}
use Rattle.craft_base.specs.declared.command.Form.{Form}
use Rattle.craft_base.specs.declared.command.Form.TheVariants as forms
use Rattle.craft_base.specs.declared.command.Reply.TheVariants as replies
use Rattle.entry_frames.specs.Entries.{entry_fields, is_whole}
use Rattle.entry_frames.specs.Formats.{Fits, Format, Value}
use Rattle.entry_frames.specs.Limits.{most_entry_bytes}
use Rattle.entry_frames.specs.Logs.{entry_at}
use Rattle.entry_frames.specs.Records.{Whole}
use Rattle.entry_frames.specs.MessageFields.{answer_fields, entries_fields}
use Rattle.entry_frames.specs.MessageParts.{entries_of}
use Rattle.entry_frames.specs.declared.peer.Peer.{Peer}
use Rattle.entry_frames.specs.declared.peer.Peer.TheVariants as peers
use Rattle.entry_frames.specs.declared.role.Role.{Role}
use Rattle.entry_frames.specs.declared.role.Role.TheVariants.{Follower, Candidate, Preparing, Leader}
use Rattle.entry_frames.proofs.Formats.{embedded_fits}
use Rattle.entry_frames.proofs.Stored.{complete_length, fits_at}
use Rattle.gather_read.specs.Gathered.{form_shown, gathered, source_in}
use Rattle.leader_prep.specs.Pages.{Page, joins, latest_slot}
use Rattle.leader_prep.specs.Solutions.{value_of}
use Rattle.leader_prep.specs.Verdicts as verdicts
use Rattle.leader_prep.specs.Verdicts.{Source, Verdict, verdict_of_forms}
use Rattle.world_model.specs.Nodes.{Node, node_hearing}
use Rattle.world_model.specs.Ranges.{CallInRange, HasSpelling, IsMember, KnowsInRange, NodeInRange, PageInRange, ReplyHasSpelling}
use Rattle.world_model.specs.Rules.Acts.{keeping, others, recording, stays}
use Rattle.world_model.specs.Rules.Answer.{act_of_answer_as, act_of_gathered, act_of_having, act_of_page, act_of_shown, act_of_source, act_of_supplying, act_of_value, answer_heard, having, lacking, node_seeing, node_shown, readers, source_of_part, values_told}
use Rattle.world_model.specs.Rules.Applying.{reply_to}
use Rattle.world_model.specs.Rules.Prepare.{act_of_preparing, cursor_at}
use Rattle.world_model.specs.Rules.Say.{append_to, start_of}
use Rattle.world_model.specs.Rules.Want.{part_at}
use Rattle.world_model.specs.declared.call.Called.{Called}
use Rattle.world_model.proofs.Ranges.Acts.{ActInRange, answering_in_range, before_in_range, enters_in_range, followed_in_range, in_volatile, others_are, sending_in_range, stays_in_range}
use Rattle.world_model.proofs.Ranges.Batches.{entries_fit}
use Rattle.world_model.proofs.Ranges.Completions.{AreSound, made_sound}
use Rattle.world_model.proofs.Ranges.Deciding.{IsVerdictLong, forms_long, latest_fits}
use Rattle.world_model.proofs.Ranges.Knowing.{hears, leader_begun}
use Rattle.world_model.proofs.Ranges.Prepare.{preparing_in_range}
use Rattle.world_model.proofs.Ranges.Replies.{reply_spelled}
use Rattle.world_model.proofs.Ranges.Say.{append_to_fits}
use Rattle.world_model.proofs.Ranges.Values.{IsLong, part_length}
use Rattle.world_model.proofs.Ranges.Want.{entry_within, part_there}

-- the slots of an answer that fits
pub slots_of :
    (k term start last : ℕ) (slots : List Entry) → Fits (answer_fields k term) (peers.Answer start last slots) → All (Fits (entry_fields k)) slots
slots_of k term start last slots fits =
    let made : List Entry → Format Peer = λ es. Value (peers.Answer start last es) in
    let inner =
    embedded_fits (entries_fields k false term (length slots) 0 most_entry_bytes) entries_of made (peers.Answer start last slots) (λ es. refl) fits.1.1.1 in
    entries_fit k false term (length slots) 0 most_entry_bytes slots inner.0

-- ---- a value that is gathered

source_long : (own : Entry) (verdict : Verdict) (source : Source) → source_in verdict ≡ Some source → IsVerdictLong own verdict → length (value_of source) ≡ own.head.vlen
source_long own verdicts.Wait source is long = cc
source_long own verdicts.Cut source is long = cc
source_long own (verdicts.Rebuild other) source is long = subst (λ (s : Source). length (value_of s) ≡ own.head.vlen) (same_Some other source is) long

module _ {shape : Shape} (is : IsShape shape) {member : ℕ} {n : Node} (a : NodeInRange shape member n) (leads : n.volatile.role ≡ Leader) (index : ℕ) where
  -- those who lack it are sent it
  supplying_in_range : ActInRange shape member n (act_of_supplying index n)
  supplying_in_range =
      let lacks : ℕ → Bool = λ receiver. start_of n receiver == index in
      let some = All-filter lacks (λ receiver. IsMember shape receiver × (receiver ≢ member)) (others n) (others_are is a (leader_begun a leads)) in
      sending_in_range (map (append_to n) (lacking index n)) (stays n)
      (All-map (HasSpelling shape) (append_to n) (lacking index n)
      (All-weaker (λ receiver. IsMember shape receiver × (receiver ≢ member)) (λ receiver. HasSpelling shape (append_to n receiver))
      (λ receiver to. append_to_fits is a leads receiver to.0 to.1) (lacking index n) some)) (stays_in_range a)

module _
    {shape : Shape} (is : IsShape shape) {member : ℕ} {n : Node} (a : NodeInRange shape member n) (leads : n.volatile.role ≡ Leader) (index : ℕ) (own : Entry)
    (there : part_at n.durable.log index ≡ Some own) where
  abbrev here : entry_at n.durable.log index ≡ Some own
  here = (part_there n.durable.log index own there).0

  stands_fit : Fits (entry_fields shape.need) own
  stands_fit = fits_at shape.need 0 n.durable.term n.durable.log index own a.durable.stored.entries here

  within : (1 ≤ index) × (index ≤ length n.durable.log)
  within = entry_within n.durable.log index own here

  module _ (value : List ℕ) (long : length value ≡ own.head.vlen) where
    -- the part is as long as a part can be
    range : (form : Form) → own.form ≡ form → is_whole form ≡ false → IsLong own.head.vlen
    range (forms.Whole bytes) of_form part = cc
    range (forms.Part bytes) of_form part = part_length shape.need own bytes stands_fit of_form

    is_long : IsLong own.head.vlen
    is_long = range own.form refl (part_there n.durable.log index own there).1

    by_form : (place : ℕ) → index ≡ suc place → (form : Form) → own.form ≡ form → is_whole form ≡ false → AreSound shape n.durable (Whole index value ∷ [])
    by_form place is_place (forms.Whole bytes) of_form part = cc
    by_form place is_place (forms.Part bytes) of_form part =
        made_sound shape n.durable a.durable index place is_place own (ap (entry_at n.durable.log) (sym is_place) ∙ here)
        (omega (arith, within.1, a.durable.short)) bytes value of_form long

    sound : AreSound shape n.durable (Whole index value ∷ [])
    sound = by_form (index - 1) (omega (arith, within.0)) own.form refl (part_there n.durable.log index own there).1

    told_in_range : (reads : List Called) → All CallInRange reads → All (ReplyHasSpelling shape member) (values_told index value reads)
    told_in_range reads ranged =
        All-map (ReplyHasSpelling shape member) (λ r. reply_to r (replies.Value index value)) (readers index reads)
        (All-weaker CallInRange (λ r. ReplyHasSpelling shape member (reply_to r (replies.Value index value)))
        (λ r of_read. reply_spelled shape is member a.is_member (reply_to r (replies.Value index value)) of_read.0 of_read.1
        (omega (arith, within.1, a.durable.short), omega (arith, long, is_long.1)))
        (readers index reads) (All-filter (λ r. r.index == index) CallInRange reads ranged))

    having_in_range : ActInRange shape member n (act_of_having index value n)
    having_in_range =
        answering_in_range (values_told index value n.volatile.reads) (keeping (having index n.volatile) (recording (Whole index value) (stays n)))
        (told_in_range n.volatile.reads a.clients.1.1)
        (enters_in_range a (Whole index value ∷ []) (having index n.volatile) sound.0 sound.1
        (a.clients.0, (a.clients.1.0, All-filter (λ r. not (r.index == index)) CallInRange n.volatile.reads a.clients.1.1))
        (subst (λ (last : ℕ). KnowsInRange n.volatile.role last n.volatile.first n.volatile.heard) (sym (complete_length n.durable.log (index - 1) value)) a.knows)
        (All-nil (PageInRange shape.need)))

    value_in_range : ActInRange shape member n (act_of_value index value n)
    value_in_range =
        followed_in_range (act_of_having index value n) (act_of_supplying index) refl having_in_range
        (supplying_in_range is having_in_range.node leads index)

module _ {shape : Shape} (is : IsShape shape) {member : ℕ} {n : Node} (a : NodeInRange shape member n) (leads : n.volatile.role ≡ Leader) where
  gathered_in_range :
      (index : ℕ) (own : Entry) → part_at n.durable.log index ≡ Some own → (source : Option Source) → gathered n.shape n.me index own n.volatile.pages ≡ source →
      ActInRange shape member n (act_of_source index source n)
  gathered_in_range index own there None e = stays_in_range a
  gathered_in_range index own there (Some source) e =
      let fits = stands_fit is a leads index own there in
      let long : IsVerdictLong own (verdict_of_forms n.shape own (form_shown n.me index own n.volatile.pages)) =
      subst (λ (s : Shape). IsVerdictLong own (verdict_of_forms s own (form_shown n.me index own n.volatile.pages))) (sym a.of_shape)
      (forms_long shape is.2 n.me own fits (λ member. latest_slot member n.volatile.pages index)
      (λ member. latest_fits shape.need member n.volatile.pages index a.pages)) in
      value_in_range is a leads index own there (value_of source)
      (source_long own (verdict_of_forms n.shape own (form_shown n.me index own n.volatile.pages)) source e long)

  part_in_range : (index : ℕ) (own : Option Entry) → part_at n.durable.log index ≡ own → ActInRange shape member n (act_of_source index (source_of_part n index own) n)
  part_in_range index None there = stays_in_range a
  part_in_range index (Some own) there = gathered_in_range index own there (gathered n.shape n.me index own n.volatile.pages) refl

  wanted_in_range : (want : Option ℕ) → ActInRange shape member n (act_of_shown want n)
  wanted_in_range None = stays_in_range a
  wanted_in_range (Some index) = part_in_range index (part_at n.durable.log index) refl

-- a leader that has heard of a page takes it
module _ {shape : Shape} (is : IsShape shape) {member : ℕ} {n : Node} (a : NodeInRange shape member n) (page : Page) (fits : PageInRange shape.need page) where
  abbrev shown : Node
  shown = node_shown page n

  shown_in_range : NodeInRange shape member shown
  shown_in_range =
      in_volatile a shown.volatile a.clients a.knows
      (cond_both (joins n.volatile.want page) (page ∷ n.volatile.pages) n.volatile.pages (All (PageInRange shape.need))
      (λ joined'. All-cons (PageInRange shape.need) page n.volatile.pages fits a.pages) (λ passed. a.pages))

  pub shown_act_in_range : n.volatile.role ≡ Leader → ActInRange shape member n (act_of_shown n.volatile.want (node_shown page n))
  shown_act_in_range leads = before_in_range shown.volatile (act_of_shown n.volatile.want shown) (wanted_in_range is shown_in_range leads n.volatile.want)

-- ---- the rule

module _
    {shape : Shape} (is : IsShape shape) {member : ℕ} {n : Node} (a : NodeInRange shape member n) (begun : 1 ≤ n.durable.term)
    (page : Page) (fits : PageInRange shape.need page) where
  abbrev hearing : Node
  hearing = node_hearing (answer_heard n page.sender) n

  heard_in_range : NodeInRange shape member hearing
  heard_in_range =
      in_volatile a hearing.volatile a.clients
      (hears n.volatile.role (length n.durable.log) n.volatile.first (answer_heard n page.sender) n.volatile.heard tt a.knows) a.pages

  abbrev seeing : Node
  seeing = node_seeing page hearing

  seen_in_range : NodeInRange shape member seeing
  seen_in_range =
      let b = heard_in_range in
      in_volatile b seeing.volatile b.clients b.knows
      (cond_both (joins (cursor_at n) page) (page ∷ n.volatile.pages) n.volatile.pages (All (PageInRange shape.need))
      (λ joined'. All-cons (PageInRange shape.need) page n.volatile.pages fits a.pages) (λ passed. a.pages))

  page_in_range : n.volatile.role ≡ Preparing → ActInRange shape member n (act_of_page page n)
  page_in_range prepares = before_in_range seeing.volatile (act_of_preparing seeing) (preparing_in_range is seen_in_range prepares begun)

  pub answer_as_in_range : (role : Role) → n.volatile.role ≡ role → ActInRange shape member n (act_of_answer_as role n page)
  answer_as_in_range Follower e = stays_in_range a
  answer_as_in_range Candidate e = stays_in_range a
  answer_as_in_range Preparing e = page_in_range e
  answer_as_in_range Leader e =
      before_in_range hearing.volatile (act_of_gathered page n) (shown_act_in_range is heard_in_range page fits e)
