-- A member over its disk: what starting, a turn and a stop leave.
use Rattle.std.proofs.Common.{◌≡◌, ◌≢◌, ◌⊎◌, ⊎_elim, inl, inr, ℕ, ◌<◌, ◌≤◌, List, [], ◌∷◌, length, Bool, true, false, refl, ap, ◌∙◌, sym, subst, arith, None, Some}
use Rattle.std.specs.Prelude.{if◌then◌else◌, nat_le, ◌&&◌, is_some}
use Rattle.std.proofs.lemmas.Bool.Decides.{nat_tests}
use Rattle.craft_base.specs.Shape.{Shape, IsShape, members_of}
use Rattle.craft_edge.specs.DiskCalls.{DiskHistory, after_stop_of, with_stop}
use Rattle.crash_disk.specs.MemDisk.{DiskInMemory, IsAsTold, made_disk}
use Rattle.crash_disk.specs.Stopped.{IsToldToStop}
use Rattle.crash_disk.specs.Told.{MayLeave}
use Rattle.entry_frames.specs.Durable.{Durable, born, after}
use Rattle.node_core.specs.Stands.{Stands}
use Rattle.entry_frames.specs.Records.{Record}
use Rattle.node_core.proofs.Turning.{none_spelled}
use Rattle.node_shell.specs.Standing.{Standing, owner_of}
use Rattle.node_shell.specs.Stepping.{body_of_turn, step_calls}
use Rattle.node_shell.proofs.Opening.{same_owned}
use Rattle.node_shell.proofs.Stepping.{calls_some}
use Rattle.synced_log.specs.Calls.{after_calls}
use Rattle.synced_log.specs.declared.owner.Owner.{Owner}
use Rattle.synced_log.specs.Journal.{IsGroupOf, body_of, owned}
use Rattle.synced_log.specs.Standing.{append_calls}
use Rattle.synced_log.specs.States.{HoldsTo, OpensTo}
use Rattle.synced_log.specs.Stopped.{StopsInMemory, image_of}
use Rattle.synced_log.proofs.Histories.{KeepsOrders}
use Rattle.synced_log.proofs.Stopped.{stopped_append, stopped_call_fails}
use Rattle.world_model.specs.Nodes.{Node, Volatile, fresh, node_with, started}
use Rattle.world_model.specs.Turn as turns
use Rattle.world_model.specs.World.{is_applied}
use Rattle.world_model.proofs.Recorded.{every_turn_is_recorded}
use Rattle.schedule_replay.specs.Seats.{HasFailed, HasMade, HasQuiet, HasState, IsLeft, IsSteady, Runs, turn_of}

-- no stop was told since
pub still_steady : (old new : DiskInMemory) → IsSteady old → KeepsOrders old.told.history new.told.history → IsSteady new
still_steady old new steady kept = record {
  unstopped = kept.same_stop ∙ steady.unstopped;
  first = kept.same_first ∙ steady.first;
  none_listed = ap (λ made. made.fail) kept.same_start ∙ steady.none_listed;
}

-- a member that has started over what its disk held
pub started_runs :
    (shape : Shape) (me : ℕ) (disk : DiskInMemory) (shell : Standing DiskInMemory) (d : Durable) → HasState shape me disk d → Stands shell.core (started shape me shell.core.durable) →
    d ≡ shell.core.durable → HoldsTo shell.disk.told.now.bytes shell.gate (owner_of shell.core) shell.core.durable → KeepsOrders disk.told.history shell.disk.told.history → Runs shape me shell d fresh
started_runs shape me disk shell d has core only holds orders = record {
  core = subst (λ e. Stands shell.core (started shape me e)) (sym only) core;
  steady = still_steady disk shell.disk has.steady orders;
  holds = subst (λ e. HoldsTo shell.disk.told.now.bytes shell.gate (owned shape me) e) (sym only)
      (subst (λ o. HoldsTo shell.disk.told.now.bytes shell.gate o shell.core.durable) (same_owned shell.core (started shape me shell.core.durable) core) holds);
}

-- a disk that was never written opens to the state before any record
pub new_disk_has : (shape : Shape) (me : ℕ) → IsShape shape → me < members_of shape → HasState shape me (made_disk [] []) born
new_disk_has shape me is within = record {
  steady = record { unstopped = refl; first = refl; none_listed = refl };
  opens = inr (record { owner = record { least = is.0; most = is.1; k = is.2; needs = is.3; member = within }; unborn = inl (omega arith); leaves = refl });
}

-- a node is made of its parts
node_again : (shape : Shape) (me : ℕ) (n : Node) → n.shape ≡ shape → n.me ≡ me → n ≡ node_with shape me n.durable n.volatile
node_again shape me n is_shape is_me = ap (λ s. record { shape = s; me = n.me; durable = n.durable; volatile = n.volatile }) is_shape ∙ ap (λ i. record { shape = shape; me = i; durable = n.durable; volatile = n.volatile }) is_me

-- a member after a turn
pub turned_runs :
    (shape : Shape) (me : ℕ) (old new : Standing DiskInMemory) (d : Durable) (v : Volatile) (n : Node) → Runs shape me old d v → Stands new.core n → new.core.shape ≡ old.core.shape →
    new.core.me ≡ old.core.me → KeepsOrders old.disk.told.history new.disk.told.history → HoldsTo new.disk.told.now.bytes new.gate (owner_of new.core) new.core.durable → Runs shape me new n.durable n.volatile
turned_runs shape me old new d v n runs stands same_shape same_me orders holds =
    let is_shape : new.core.shape ≡ shape = same_shape ∙ runs.core.of_shape in
    let is_me : new.core.me ≡ me = same_me ∙ runs.core.of_me in
    let its_shape : n.shape ≡ shape = sym stands.of_shape ∙ is_shape in
    let its_me : n.me ≡ me = sym stands.of_me ∙ is_me in
    let owner : owner_of new.core ≡ owned shape me = ap (λ s. owned s new.core.me) is_shape ∙ ap (λ i. owned shape i) is_me in record {
      core = subst (Stands new.core) (node_again shape me n its_shape its_me) stands;
      steady = still_steady old.disk new.disk runs.steady orders;
      holds = subst (λ e. HoldsTo new.disk.told.now.bytes new.gate (owned shape me) e) stands.of_durable
          (subst (λ o. HoldsTo new.disk.told.now.bytes new.gate o new.core.durable) owner holds);
    }

-- ---- a stop

-- the disk was told to stop, for the first time
pub stop_told :
    (old new : DiskHistory) (call : ℕ) (keep : Bool) → Some new ≡ after_stop_of (Some old) call keep → old.last_stop ≡ None → old.made_with.fail ≡ [] → IsToldToStop new call keep
stop_told old new call keep is unstopped none_listed =
    let same : new ≡ with_stop old call keep = history_of is in record {
      stop = ap (λ h. h.last_stop) same ∙ ap (λ calls. Some (record { call = call; keep = keep; made_before = length calls })) (sym (ap (λ h. h.calls) same));
      first = ap (λ h. h.stopped_before) same ∙ ap is_some unstopped;
      none_listed = ap (λ h. h.made_with.fail) same ∙ none_listed;
    } where
      history_of : {a b : DiskHistory} → Some a ≡ Some b → a ≡ b
      history_of e = cc

-- an image of a disk that opens to a state
pub image_has : (shape : Shape) (me : ℕ) (image : DiskInMemory) (bytes : List ℕ) (d : Durable) → image ≡ made_disk bytes [] → OpensTo bytes (owned shape me) d → HasState shape me image d
image_has shape me image bytes d is opens =
    subst (λ disk. HasState shape me disk d) (sym is) (record { steady = record { unstopped = refl; first = refl; none_listed = refl }; opens = opens })

-- the test whether a group counts
applied_test : (call : ℕ) (keep : Bool) → is_applied call keep ≡ true → (3 ≤ call) × (keep ≡ true)
applied_test call true is = (grind (arith, nat_tests, is), refl)
applied_test call false is = absurd (never (nat_le 3 call) is) where
  never : (b : Bool) → (b && false) ≡ true → ⊥
  never true h = cc
  never false h = cc

lost_test : (call : ℕ) (keep : Bool) → is_applied call keep ≡ false → (call < 3) ⊎ (keep ≡ false)
lost_test call false is = inr refl
lost_test call true is = inl (grind (arith, nat_tests, is))

module _ (shape : Shape) (me : ℕ) (d : Durable) (v : Volatile) (event : turns.Event) (call : ℕ) (keep : Bool) (disk : DiskInMemory) where
  abbrev t : turns.Turned
  t = turn_of shape me d v event

  -- the turn without records keeps the state
  unchanged : (turn_of shape me d v event).records ≡ [] → d ≡ (turn_of shape me d v event).node.durable
  unchanged none = sym (ap (after d) none) ∙ every_turn_is_recorded event (node_with shape me d v)

  either : (turn_of shape me d v event).records ≡ [] → (test : Bool) → d ≡ (if test then (turn_of shape me d v event).node.durable else d)
  either none true = unchanged none
  either none false = refl

  module _ (image : List ℕ) (left : MayLeave disk.told.now image) (image_is : image ≡ image_of disk) where
    failed_opens :
        (gate : ℕ) (stopped : DiskInMemory) → HoldsTo stopped.told.now.bytes gate (owned shape me) d → 1 ≤ call → IsToldToStop stopped.told.history call keep → IsAsTold disk → disk.starved ≡ false →
        HasFailed shape me d (turn_of shape me d v event) gate stopped disk → (test : Bool) → is_applied call keep ≡ test →
        OpensTo image (owned shape me) (if test then (turn_of shape me d v event).node.durable else d)
    failed_opens gate stopped holds some told as_told fed failed test is =
        let o : Owner = owned shape me in
        let decides = stopped_append stopped disk gate o d (turn_of shape me d v event).records call keep holds failed.group (λ none. absurd (omega (arith, some, none))) told as_told fed
        (subst (MayLeave disk.told.now) image_is left) failed.stops in by_test test is (λ applied. decides.with_group (applied_test call keep applied).0 (applied_test call keep applied).1)
        (λ lost. ⊎_elim (λ early. decides.without_early early) (λ spoiled. decides.without_spoiled spoiled) (lost_test call keep lost)) where
          by_test :
              (test : Bool) → is_applied call keep ≡ test → (is_applied call keep ≡ true → OpensTo (image_of disk) (owned shape me) (after d (turn_of shape me d v event).records)) →
              (is_applied call keep ≡ false → OpensTo (image_of disk) (owned shape me) d) → OpensTo image (owned shape me) (if test then (turn_of shape me d v event).node.durable else d)
          by_test true is with_group without =
              subst (λ e. OpensTo image (owned shape me) e) (every_turn_is_recorded event (node_with shape me d v))
              (subst (λ l. OpensTo l (owned shape me) (after d (turn_of shape me d v event).records)) (sym image_is) (with_group is))
          by_test false is with_group without = subst (λ l. OpensTo l (owned shape me) d) (sym image_is) (without is)

    pub left_opens :
        IsLeft shape me d v event call keep disk → 1 ≤ call → call ≤ 4 → IsAsTold disk → disk.starved ≡ false →
        OpensTo image (owned shape me) (if is_applied call keep then (turn_of shape me d v event).node.durable else d)
    left_opens is some few as_told fed =
        ⊎_elim
        (λ quiet. subst (λ e. OpensTo image (owned shape me) e) (either quiet.none (is_applied call keep)) (quiet.opens image left))
        (λ others. ⊎_elim
        (λ made. absurd (stopped_call_fails is.stopped disk is.gate (body_of shape.need (turn_of shape me d v event).records) call keep (λ none. absurd (omega (arith, some, none))) few is.told as_told fed made))
        (λ failed. failed_opens is.gate is.stopped is.holds some is.told as_told fed failed (is_applied call keep) refl) others) is.left

-- ---- the disk after a turn that was told to stop

module _ (shape : Shape) (me : ℕ) (d : Durable) (v : Volatile) (event : turns.Event) (call : ℕ) (keep : Bool) (old stopped : Standing DiskInMemory) (runs : Runs shape me old d v)
    (same_core : stopped.core ≡ old.core) (same_gate : stopped.gate ≡ old.gate) (same_seen : Some stopped.disk.told.now.bytes ≡ Some old.disk.told.now.bytes)
    (history : Some stopped.disk.told.history ≡ after_stop_of (Some old.disk.told.history) call keep) where
  pub stopped_stands : Stands stopped.core (node_with shape me d v)
  stopped_stands = subst (λ k. Stands k (node_with shape me d v)) (sym same_core) runs.core

  bytes_are : stopped.disk.told.now.bytes ≡ old.disk.told.now.bytes
  bytes_are = cc (same_seen)

  holds_still : HoldsTo stopped.disk.told.now.bytes stopped.gate (owned shape me) d
  holds_still =
      subst (λ bytes. HoldsTo bytes stopped.gate (owned shape me) d) (sym bytes_are) (subst (λ gate. HoldsTo old.disk.told.now.bytes gate (owned shape me) d) (sym same_gate) runs.holds)

  need_is : stopped.core.shape.need ≡ shape.need
  need_is = ap (λ (s : Shape). s.need) stopped_stands.of_shape

  left_so :
      (disk : DiskInMemory) → HasQuiet shape me d (turn_of shape me d v event) disk
      ⊎ (HasMade (append_calls stopped.gate (body_of shape.need (turn_of shape me d v event).records)) stopped.disk disk
      ⊎ HasFailed shape me d (turn_of shape me d v event) stopped.gate stopped.disk disk) → IsLeft shape me d v event call keep disk
  left_so disk left = record {
    stopped = stopped.disk;
    gate = stopped.gate;
    holds = holds_still;
    told = stop_told old.disk.told.history stopped.disk.told.history call keep history runs.steady.unstopped runs.steady.none_listed;
    left = left;
  }

  -- all calls were made, or there were none
  made_so :
      (new : Standing DiskInMemory) (records : List Record) → (turn_of shape me d v event).records ≡ records → Stands new.core (turn_of shape me d v event).node →
      ((image : List ℕ) → MayLeave new.disk.told.now image → OpensTo image (owner_of stopped.core) new.core.durable) →
      Some new.disk.told.history ≡ after_calls (Some stopped.disk.told.history) (step_calls stopped.gate (body_of_turn stopped.core event (node_with shape me d v))) →
      HasQuiet shape me d (turn_of shape me d v event) new.disk
      ⊎ (HasMade (append_calls stopped.gate (body_of shape.need (turn_of shape me d v event).records)) stopped.disk new.disk
      ⊎ HasFailed shape me d (turn_of shape me d v event) stopped.gate stopped.disk new.disk)
  made_so new [] are stands opens calls =
      let same : new.core.durable ≡ d = stands.of_durable ∙ sym (every_turn_is_recorded event (node_with shape me d v)) ∙ ap (after d) are in
      inl (record {
        none = are;
        opens = λ image left. subst (λ e. OpensTo image (owned shape me) e) same
            (subst (λ o. OpensTo image o new.core.durable) (same_owned stopped.core (node_with shape me d v) stopped_stands) (opens image left));
      })
  made_so new (r ∷ records) are stands opens calls =
      let body = body_of_turn stopped.core event (node_with shape me d v) in
      let some : body ≢ [] = λ none. absurd (no_records r records (sym are ∙ none_spelled stopped.core.shape.need (turn_of shape me d v event).records none)) in
      inr (inl (calls ∙ ap (after_calls (Some stopped.disk.told.history)) (sym (calls_some stopped.gate body some))
      ∙ ap (λ k. after_calls (Some stopped.disk.told.history) (append_calls stopped.gate (body_of k (turn_of shape me d v event).records))) need_is)) where
        no_records : (r : Record) (records : List Record) → r ∷ records ≡ [] → ⊥
        no_records r records e = cc

  pub made_left :
      (new : Standing DiskInMemory) (disk : DiskInMemory) → disk ≡ new.disk → Stands new.core (turn_of shape me d v event).node →
      ((image : List ℕ) → MayLeave new.disk.told.now image → OpensTo image (owner_of stopped.core) new.core.durable) →
      Some new.disk.told.history ≡ after_calls (Some stopped.disk.told.history) (step_calls stopped.gate (body_of_turn stopped.core event (node_with shape me d v))) →
      IsLeft shape me d v event call keep disk
  made_left new disk is stands opens calls =
      subst (IsLeft shape me d v event call keep) (sym is) (left_so new.disk (made_so new (turn_of shape me d v event).records refl stands opens calls))

  pub failed_left :
      (disk : DiskInMemory) → IsGroupOf stopped.core.shape stopped.core.durable (turn_of shape me d v event).records →
      StopsInMemory stopped.disk disk stopped.gate (body_of_turn stopped.core event (node_with shape me d v)) → IsLeft shape me d v event call keep disk
  failed_left disk group stops =
      left_so disk (inr (inr (record {
        group =
            subst (λ e. IsGroupOf shape e (turn_of shape me d v event).records) stopped_stands.of_durable
            (subst (λ (s : Shape). IsGroupOf s stopped.core.durable (turn_of shape me d v event).records) stopped_stands.of_shape group);
        stops = subst (λ k. StopsInMemory stopped.disk disk stopped.gate (body_of k (turn_of shape me d v event).records)) need_is stops;
      })))
