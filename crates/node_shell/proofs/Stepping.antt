-- What a step leaves: the journal of the state after the turn, or a crash in the middle that opens to the one before or after it.
use Rattle.std.proofs.Common.{◌≡◌, ◌≢◌, inl, inr, ⊎_elim, ℕ, Bool, List, [], ◌∷◌, true, false, refl, sym, ap, ◌∙◌, subst}
use Rattle.std.specs.Prelude.{None, Some, Option, IsTrue, is_some}
use Rattle.std.proofs.lemmas.Bool.{false≢true}
use Rattle.craft_base.specs.Shape.{Shape}
use Rattle.craft_edge.specs.Disk.{OnlySeen, WhereTold}
use Rattle.craft_edge.specs.DiskCalls.{DiskHistory}
use Rattle.entry_frames.specs.Durable.{Durable, after}
use Rattle.entry_frames.specs.Records.{Record, record_spellings}
use Rattle.node_core.specs.declared.turn.Turned.{Turned}
use Rattle.node_core.specs.Stands.{Kept, Stands}
use Rattle.node_core.specs.Turns.{TurnedTo}
use Rattle.node_shell.specs.Standing.{AllOpenTo, HasNode, IsKept, IsUpheld, owner_of}
use Rattle.node_shell.specs.declared.outputs.Outputs.{Outputs}
use Rattle.node_shell.specs.Stepping.{BeforeOrAfter, MakesStep, OpensToEither, StepsTo, StopsStep, body_of_turn, step_calls}
use Rattle.node_shell.proofs.Opening.{all_open}
use Rattle.synced_log.specs.Calls.{after_calls}
use Rattle.synced_log.specs.declared.owner.Owner.{Owner}
use Rattle.synced_log.specs.Journal.{IsGroupOf, owned, shape_of}
use Rattle.synced_log.specs.Standing.{Added, AddedOrNot, CanAppendTo, append_calls}
use Rattle.synced_log.specs.States.{HoldsTo, OpensTo}
use Rattle.synced_log.specs.Stops.{StopsAppend}
use Rattle.synced_log.proofs.States.{can_append, holds_next, holds_opens, opens_either}
use Rattle.world_model.specs.Nodes.{Node}
use Rattle.world_model.specs.Turn as turns
use Rattle.world_model.proofs.Recorded.{every_turn_is_recorded}

module _ (core : Kept) (n : Node) (event : turns.Event) (new : Kept) (left : Turned) (is : Stands core n) (turned : TurnedTo core n event new left) where
  abbrev records : List Record
  records = (turns.turn event n).records

  kept_is : core.durable ≡ n.durable
  kept_is = is.of_durable

  node_after : after core.durable records ≡ (turns.turn event n).node.durable
  node_after = ap (λ (d : Durable). after d records) kept_is ∙ every_turn_is_recorded event n

  new_after : new.durable ≡ after core.durable records
  new_after = turned.node.of_durable ∙ sym node_after

  pub same_owner : owner_of new ≡ owner_of core
  same_owner = ap (λ (s : Shape). owned s new.me) turned.same.0 ∙ ap (λ (m : ℕ). owned core.shape m) turned.same.1

  pub has_records : left.group ≢ [] → records ≢ []
  has_records some none = some (turned.records ∙ ap (record_spellings core.shape.need) none)

  pub is_group : left.group ≢ [] → IsGroupOf (shape_of (owner_of core)) core.durable records
  is_group some = record { some = has_records some; spelled = turned.written; applies = turned.apply }

  pub can_append_group : (seen : Option (List ℕ)) (gate : ℕ) → IsKept seen gate core → left.group ≢ [] → CanAppendTo seen gate left.group
  can_append_group None gate kept some = tt
  can_append_group (Some file) gate kept some = can_append file gate (owner_of core) core.durable kept left.group records turned.records (is_group some)

  -- the journal is that of the new state
  pub kept_on : (seen now : Option (List ℕ)) (gate next : ℕ) → IsKept seen gate core → left.group ≢ [] → Added seen now gate left.group next → is_some now ≡ is_some seen → IsKept now next new
  kept_on seen None gate next kept some added told = tt
  kept_on None (Some file) gate next kept some added told = absurd cc
  kept_on (Some old) (Some file) gate next kept some added told =
      let holds = holds_next old gate (owner_of core) core.durable kept left.group records turned.records (is_group some) file next added in
      subst (λ (o : Owner). HoldsTo file next o new.durable) (sym same_owner) (subst (HoldsTo file next (owner_of core)) (sym new_after) holds)

  -- without records it is as it was
  pub kept_still : (seen : Option (List ℕ)) (gate : ℕ) → IsKept seen gate core → left.group ≡ [] → IsKept seen gate new
  kept_still None gate kept none = tt
  kept_still (Some file) gate kept none =
      let same : new.durable ≡ core.durable = new_after ∙ ap (after core.durable) (turned.empty none) in
      subst (λ (o : Owner). HoldsTo file gate o new.durable) (sym same_owner) (subst (HoldsTo file gate (owner_of core)) (sym same) kept)

  -- a crash left the group or didn't
  pub opens_to_either : (seen : Option (List ℕ)) (gate : ℕ) (image : List ℕ) → IsKept seen gate core → left.group ≢ [] → AddedOrNot seen gate left.group image
      → OpensToEither seen (owner_of core) n.durable (turns.turn event n).node.durable image
  opens_to_either None gate image kept some added = tt
  opens_to_either (Some file) gate image kept some added =
      ⊎_elim (λ o. inl (subst (OpensTo image (owner_of core)) kept_is o)) (λ o. inr (subst (OpensTo image (owner_of core)) node_after o))
      (opens_either file gate (owner_of core) core.durable kept left.group records turned.records (is_group some) image added)

-- ---- the outputs and the calls

-- a group that isn't empty has bytes
pub some_bytes : (is_empty : Bool) (group : List ℕ) → is_empty ≡ false → (group ≡ [] → is_empty ≡ true) → group ≢ []
some_bytes is_empty group false_now empty none = false≢true (sym false_now ∙ empty none)

pub steps : (core : Kept) (n : Node) (event : turns.Event) (new : Kept) (left : Turned) (told : Outputs) → told.list ≡ left.outputs → TurnedTo core n event new left → StepsTo core n event new told
steps core n event new left told same turned = record { node = turned.node; outputs = ap (λ v. v.items) same ∙ turned.outputs; replied = turned.replied; spelled = turned.spelled }

pub no_calls : (core : Kept) (n : Node) (event : turns.Event) (new : Kept) (left : Turned) (history : Option DiskHistory) (gate : ℕ) → TurnedTo core n event new left → left.group ≡ []
    → history ≡ after_calls history (step_calls gate (body_of_turn core event n))
no_calls core n event new left history gate turned none =
    let body : body_of_turn core event n ≡ [] = sym turned.records ∙ none in
    sym (ap (λ (l : List ℕ). after_calls history (step_calls gate l)) body)

pub calls_some : (gate : ℕ) (body : List ℕ) → body ≢ [] → append_calls gate body ≡ step_calls gate body
calls_some gate [] some = absurd (some refl)
calls_some gate (byte ∷ body) some = refl

-- ---- the member's shell

module _ (core new : Kept) (event : turns.Event) (left : Turned) (stands : HasNode core) (turned : (n : Node) → Stands core n → TurnedTo core n event new left) where
  first : TurnedTo core stands.0 event new left
  first = turned stands.0 stands.1

  new_node : HasNode new
  new_node = ((turns.turn event stands.0).node, first.node)

  pub upheld_still : (tells_crash : Bool) (seen : Option (List ℕ)) (may_leave : List ℕ → Type 0) (gate : ℕ) → IsUpheld tells_crash seen may_leave gate core → left.group ≡ [] → IsUpheld tells_crash seen may_leave gate new
  upheld_still tells_crash seen may_leave gate up none = record {
    node = new_node;
    kept = kept_still core stands.0 event new left stands.1 first seen gate up.kept none;
    durable = up.durable;
  }

  pub can_add : (seen : Option (List ℕ)) (gate : ℕ) → IsKept seen gate core → left.group ≢ [] → CanAppendTo seen gate left.group
  can_add = can_append_group core stands.0 event new left stands.1 first

  pub upheld_on :
      (told now_told : Bool) (seen now : Option (List ℕ)) (may_leave : List ℕ → Type 0) (gate next : ℕ) → IsKept seen gate core → left.group ≢ [] → Added seen now gate left.group next →
      is_some now ≡ is_some seen → WhereTold told (OnlySeen now may_leave) → now_told ≡ told → IsUpheld now_told now may_leave next new
  upheld_on told now_told seen now may_leave gate next kept some added same_seen durable same_told = record {
    node = new_node;
    kept = kept_on core stands.0 event new left stands.1 first seen now gate next kept some added same_seen;
    durable = λ t. durable (subst IsTrue same_told t);
  }

  pub new_durable : (tells_crash : Bool) (seen : Option (List ℕ)) (may_leave : List ℕ → Type 0) (gate : ℕ) → IsUpheld tells_crash seen may_leave gate new
      → WhereTold tells_crash (AllOpenTo seen may_leave (owner_of core) new.durable)
  new_durable tells_crash seen may_leave gate up = λ told.
      subst (λ (o : Owner). AllOpenTo seen may_leave o new.durable) (same_owner core stands.0 event new left stands.1 first) (all_open seen may_leave gate new up.kept (up.durable told))

  pub before_or_after : (seen : Option (List ℕ)) (gate : ℕ) → IsKept seen gate core → left.group ≢ [] → (image : List ℕ) → AddedOrNot seen gate left.group image → BeforeOrAfter seen core event image
  before_or_after seen gate kept some image added = λ n is. opens_to_either core n event new left is (turned n is) seen gate image kept some added

  -- the calls are those of its group
  pub made_calls : (old now : Option DiskHistory) (gate : ℕ) → left.group ≢ [] → now ≡ after_calls old (append_calls gate left.group) → MakesStep core event gate old now
  made_calls old now gate some made = λ n is.
      let body = body_of_turn core event n in
      let body_is : left.group ≡ body = (turned n is).records in
      made ∙ ap (λ (l : List ℕ). after_calls old (append_calls gate l)) body_is ∙ ap (after_calls old) (calls_some gate body (λ none. some (body_is ∙ none)))

  module _ {D : Type 0} (seen : D → Option (List ℕ)) (tells_crash : D → Bool) (may_leave : D → List ℕ → Type 0) (history : D → Option DiskHistory) (old now : D) (gate : ℕ) where
    pub stopped_step : left.group ≢ [] → StopsAppend seen tells_crash may_leave history old now gate left.group → (n : Node) → Stands core n
        → StopsStep seen tells_crash may_leave history old now gate core event n
    stopped_step some stops = λ n is. record {
      group = is_group core n event new left is (turned n is) some;
      stops = subst (StopsAppend seen tells_crash may_leave history old now gate) (turned n is).records stops;
    }

-- a disk that wasn't called
pub opens_to_first : (seen : Option (List ℕ)) (may_leave : List ℕ → Type 0) (gate : ℕ) (core : Kept) (event : turns.Event) → IsKept seen gate core → OnlySeen seen may_leave
    → (image : List ℕ) → may_leave image → BeforeOrAfter seen core event image
opens_to_first None may_leave gate core event kept only image left = λ n is. tt
opens_to_first (Some file) may_leave gate core event kept only image left = λ n is.
    inl (subst (OpensTo image (owner_of core)) is.of_durable
    (subst (λ (l : List ℕ). OpensTo l (owner_of core) core.durable) (sym (only image left)) (holds_opens file gate (owner_of core) core.durable kept)))
