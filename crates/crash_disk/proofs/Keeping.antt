-- What the code keeps goes on by each call.
use Rattle.std.proofs.Common.{◌≡◌, ◌≢◌, ℕ, ◌+◌, ◌≤◌, List, [], ◌∷◌, ◌++◌, length, refl, sym, ap, ◌∙◌, arith, subst}
use Rattle.std.specs.Prelude.{Bool, true, false, Option, Some, leb, ltb, ◌&&◌, ◌||◌, not, if◌then◌else◌, IsTrue}
use Rattle.craft_edge.specs.Calls.{CallBook, next_fails, after_call as after_book}
use Rattle.craft_edge.specs.Disk.{max_len, written}
use Rattle.craft_edge.specs.DiskCalls.{DiskWork, WriteAt, Sync}
use Rattle.craft_edge.specs.DiskModel.{DiskState, IsSound}
use Rattle.craft_edge.proofs.DiskLaws.{IsSound-after_sync, length-written_some}
use Rattle.craft_edge.proofs.DiskWrites.{IsSound-after_write, PartlyWritten-written}
use Rattle.crash_disk.specs.Image.{is_in}
use Rattle.crash_disk.specs.Told.{Told, after_call, after_stop, carried_out}
use Rattle.crash_disk.specs.Replay.{is_listed, is_to_fail, is_torn, is_stopped, takes_effect}
use Rattle.crash_disk.specs.MemDisk.{DiskInMemory, IsAsTold, Makes, next_number, next_is_to_fail}
use Rattle.crash_disk.specs.Kept.{is_over, is_last, one_less, lies_in, Counts, Keeps}
use Rattle.crash_disk.proofs.Calls.{is_over-calls_left, is_last-calls_left, one_less-calls_left, next_is_listed, count_goes_on, follows_call, follows_stop}

or_swap : (a b c : Bool) → a || (b || c) ≡ (b || (a || c))
or_swap true true c = refl
or_swap true false c = refl
or_swap false true c = refl
or_swap false false c = refl

-- what the code holds beside what the disk tells: the bytes and the ranges
pub record SameState (state : DiskState) (bytes : List ℕ) (ranges : List (ℕ × ℕ)) : Type 0 where
  pub same_bytes : state.bytes ≡ bytes
  pub same_pending : (i : ℕ) → is_in state.pending i ≡ lies_in ranges i
  pub within : length bytes ≤ max_len
  pub sound : IsSound state

-- where nothing is wanting it did as it was told
pub record DoesAsTold (work : DiskWork) (failed effect : Bool) (left : Option ℕ) (disk : DiskInMemory) (starved : Bool) : Type 0 where
  pub starved_stays : starved ≡ false → disk.starved ≡ false
  pub failed_as_told : starved ≡ false → failed ≡ (next_fails disk.calls || is_over left)
  pub effect_as_told : starved ≡ false → effect ≡ takes_effect work failed (is_last left)

pub Counts-after_call : (old new : CallBook) (failed : Bool) → new ≡ after_book old failed → Counts old new
Counts-after_call old new failed e = record { same_fail = ap (λ (b : CallBook). b.fail) e; count = ap (λ (b : CallBook). b.made) e }

pub lies_in-push : (ranges : List (ℕ × ℕ)) (range : ℕ × ℕ) (i : ℕ) → lies_in (ranges ++ range ∷ []) i ≡ (leb range.0 i && ltb i (range.0 + range.1) || lies_in ranges i)
lies_in-push [] range i = refl
lies_in-push (first ∷ ranges) range i = rw (lies_in-push ranges range i) (or_swap (leb first.0 i && ltb i (first.0 + first.1)) (leb range.0 i && ltb i (range.0 + range.1)) (lies_in ranges i))

length-written : (old : List ℕ) (at : ℕ) (new : List ℕ) → length old ≤ max_len → at + length new ≤ max_len → length (written old at new) ≤ max_len
length-written old at [] le room = le
length-written old at (b ∷ bs) le room = omega (arith, le, room, length-written_some old at b bs)

-- a write that took effect or didn't
pub write_state : (now : DiskState) (bytes : List ℕ) (ranges : List (ℕ × ℕ)) (at : ℕ) (new : List ℕ) (effect : Bool) (bytes' : List ℕ) (ranges' : List (ℕ × ℕ)) → SameState now bytes ranges
    → (IsTrue effect → (bytes' ≡ written bytes at new) × (ranges' ≡ ranges ++ (at, length new) ∷ [])) → (effect ≡ false → (bytes' ≡ bytes) × (ranges' ≡ ranges)) → (IsTrue effect → at + length new ≤ max_len)
    → SameState (if effect then carried_out now (WriteAt at new) else now) bytes' ranges'
write_state now bytes ranges at new true bytes' ranges' same carried nothing room =
    let wrote : written now.bytes at new ≡ bytes' = ap (λ (xs : List ℕ). written xs at new) same.same_bytes ∙ sym (carried refl).0 in record {
      same_bytes = wrote;
      same_pending = λ i. ap (λ (b : Bool). leb at i && ltb i (at + length new) || b) (same.same_pending i)
          ∙ sym (lies_in-push ranges (at, length new) i) ∙ ap (λ (rs : List (ℕ × ℕ)). lies_in rs i) (sym (carried refl).1);
      within = subst (λ (xs : List ℕ). length xs ≤ max_len) (sym (carried refl).0) (length-written bytes at new same.within (room refl));
      sound = IsSound-after_write now at new (written now.bytes at new) same.sound (PartlyWritten-written now.bytes at new);
    }
write_state now bytes ranges at new false bytes' ranges' same carried nothing room =
    subst (λ (xs : List ℕ). SameState now xs ranges') (sym (nothing refl).0) (subst (λ (rs : List (ℕ × ℕ)). SameState now bytes rs) (sym (nothing refl).1) same)

pub not_true : (b : Bool) → b ≡ true → IsTrue (not b) → ⊥
not_true true e other = cc
not_true false e other = cc

pub not_false : (b : Bool) → b ≡ false → not b ≡ false → ⊥
not_false true e other = cc
not_false false e other = cc

-- a sync that took effect or didn't
pub sync_state : (now : DiskState) (bytes : List ℕ) (ranges : List (ℕ × ℕ)) (effect : Bool) (ranges' : List (ℕ × ℕ)) → SameState now bytes ranges
    → (IsTrue effect → ranges' ≡ []) → (effect ≡ false → ranges' ≡ ranges) → SameState (if effect then carried_out now Sync else now) bytes ranges'
sync_state now bytes ranges true ranges' same none all = record {
  same_bytes = same.same_bytes;
  same_pending = λ i. ap (λ (rs : List (ℕ × ℕ)). lies_in rs i) (sym (none refl));
  within = same.within;
  sound = IsSound-after_sync now;
}
sync_state now bytes ranges false ranges' same none all = subst (λ (rs : List (ℕ × ℕ)). SameState now bytes rs) (sym (all refl)) same

module _ (bytes : List ℕ) (ranges : List (ℕ × ℕ)) (left : Option ℕ) (keep : Bool) (disk : DiskInMemory) (kept : Keeps bytes ranges left keep disk) where
  pub same_state : SameState disk.told.now bytes ranges
  same_state = record { same_bytes = kept.same_bytes; same_pending = kept.same_pending; within = kept.within; sound = kept.sound }

  to_fail : (next_fails disk.calls || is_over left) ≡ is_to_fail disk.told.history.made_with.fail disk.told.history.last_stop (length disk.told.history.calls + 1)
  to_fail =
      ap (λ (b : Bool). b || is_over left) (next_is_listed disk.calls disk.told.history.made_with.fail (length disk.told.history.calls) kept.same_fail kept.same_count)
      ∙ ap (λ (b : Bool). is_listed disk.told.history.made_with.fail (length disk.told.history.calls + 1) || b) (ap is_over kept.same_left ∙ is_over-calls_left disk.told.history)

  to_tear : is_last left ≡ is_torn disk.told.history.last_stop (length disk.told.history.calls + 1)
  to_tear = ap is_last kept.same_left ∙ is_last-calls_left disk.told.history

  follows_on : (work : DiskWork) (failed effect starved : Bool) (book : CallBook) → DoesAsTold work failed effect left disk starved
      → IsAsTold (record { told = after_call disk.told work failed effect; calls = book; starved = starved })
  follows_on work failed effect starved book does fed once =
      follows_call disk.told.history disk.told.now work failed effect (kept.follows (does.starved_stays fed) once)
      (does.failed_as_told fed ∙ to_fail)
      (does.effect_as_told fed ∙ ap (λ (b : Bool). takes_effect work failed b) to_tear)

  after : (work : DiskWork) (failed effect starved : Bool) (book : CallBook) (bytes' : List ℕ) (ranges' : List (ℕ × ℕ))
      → SameState (if effect then carried_out disk.told.now work else disk.told.now) bytes' ranges' → Counts disk.calls book → DoesAsTold work failed effect left disk starved
      → Keeps bytes' ranges' (one_less left) keep (record { told = after_call disk.told work failed effect; calls = book; starved = starved })
  after work failed effect starved book bytes' ranges' same counts does = record {
    same_bytes = same.same_bytes;
    same_pending = same.same_pending;
    within = same.within;
    sound = same.sound;
    same_fail = counts.same_fail ∙ kept.same_fail;
    same_count = counts.count ∙ count_goes_on disk.told.history.calls (record { work = work; failed = failed }) disk.calls.made kept.same_count;
    same_left = ap one_less kept.same_left ∙ one_less-calls_left disk.told.history work failed;
    first_stop = kept.first_stop;
    same_keep = kept.same_keep;
    follows = follows_on work failed effect starved book does;
  }

  -- after a call
  pub keeps_call : (work : DiskWork) (failed effect starved : Bool) (book : CallBook) (bytes' : List ℕ) (ranges' : List (ℕ × ℕ)) (left' : Option ℕ) (told' : Told)
      → SameState (if effect then carried_out disk.told.now work else disk.told.now) bytes' ranges' → Counts disk.calls book → DoesAsTold work failed effect left disk starved
      → left' ≡ one_less left → told' ≡ after_call disk.told work failed effect
      → Keeps bytes' ranges' left' keep (record { told = told'; calls = book; starved = starved })
  keeps_call work failed effect starved book bytes' ranges' left' told' same counts does is_left is_told =
      subst (λ (l : Option ℕ). Keeps bytes' ranges' l keep (record { told = told'; calls = book; starved = starved })) (sym is_left)
      (subst (λ (t : Told). Keeps bytes' ranges' (one_less left) keep (record { told = t; calls = book; starved = starved })) (sym is_told) (after work failed effect starved book bytes' ranges' same counts does))

  -- after a call that never takes effect
  pub keeps_reading : (work : DiskWork) (failed : Bool) (book : CallBook) (left' : Option ℕ) (told' : Told) → ((failed torn : Bool) → takes_effect work failed torn ≡ false)
      → book ≡ after_book disk.calls (next_fails disk.calls || is_over left) → failed ≡ (next_fails disk.calls || is_over left) → left' ≡ one_less left → told' ≡ after_call disk.told work failed false
      → Keeps bytes ranges left' keep (record { told = told'; calls = book; starved = disk.starved })
  keeps_reading work failed book left' told' none is_book is_failed is_left is_told =
      keeps_call work failed false disk.starved book bytes ranges left' told' same_state (Counts-after_call disk.calls book (next_fails disk.calls || is_over left) is_book)
      (record { starved_stays = λ fed. fed; failed_as_told = λ fed. is_failed; effect_as_told = λ fed. sym (none failed (is_last left)) }) is_left is_told

  or_none : (a b : Bool) → (a || b) ≡ false → a ≡ false
  or_none false b e = refl
  or_none true b e = e

  or_second : (a b : Bool) → (a || b) ≡ false → b ≡ false
  or_second false b e = e
  or_second true b e = absurd (cc)

  -- after a write
  pub keeps_write : (at : ℕ) (new : List ℕ) (failed effect starves : Bool) (book : CallBook) (bytes' : List ℕ) (ranges' : List (ℕ × ℕ)) (left' : Option ℕ) (told' : Told)
      → (IsTrue effect → (bytes' ≡ written bytes at new) × (ranges' ≡ ranges ++ (at, length new) ∷ [])) → (effect ≡ false → (bytes' ≡ bytes) × (ranges' ≡ ranges)) → (IsTrue effect → at + length new ≤ max_len)
      → Counts disk.calls book → (starves ≡ false → failed ≡ (next_fails disk.calls || is_over left)) → (starves ≡ false → effect ≡ (not failed || is_last left))
      → left' ≡ one_less left → told' ≡ after_call disk.told (WriteAt at new) failed effect
      → Keeps bytes' ranges' left' keep (record { told = told'; calls = book; starved = disk.starved || starves })
  keeps_write at new failed effect starves book bytes' ranges' left' told' carried nothing room counts as_told is_effect is_left is_told =
      keeps_call (WriteAt at new) failed effect (disk.starved || starves) book bytes' ranges' left' told'
      (write_state disk.told.now bytes ranges at new effect bytes' ranges' same_state carried nothing room) counts
      (record {
        starved_stays = or_none disk.starved starves;
        failed_as_told = λ fed. as_told (or_second disk.starved starves fed);
        effect_as_told = λ fed. is_effect (or_second disk.starved starves fed);
      }) is_left is_told

  over_is : is_over left ≡ is_stopped disk.told.history.last_stop (next_number disk.told.history)
  over_is = ap is_over kept.same_left ∙ is_over-calls_left disk.told.history

  fails_is : (next_fails disk.calls || is_over left) ≡ next_is_to_fail disk
  fails_is = ap (λ (b : Bool). next_fails disk.calls || b) over_is

  or_false : (a : Bool) → (a || false) ≡ a
  or_false true = refl
  or_false false = refl

  -- what a write does
  pub makes_write : (at : ℕ) (new : List ℕ) (failed effect starves : Bool) (book : CallBook) (told' : Told) → book ≡ after_book disk.calls failed
      → (IsTrue (next_fails disk.calls || is_over left) → IsTrue failed) → (starves ≡ false → failed ≡ (next_fails disk.calls || is_over left)) → (starves ≡ false → effect ≡ (not failed || is_last left))
      → (IsTrue failed → is_last left ≡ false → effect ≡ false) → (failed ≡ false → (effect ≡ true) × (starves ≡ false)) → told' ≡ after_call disk.told (WriteAt at new) failed effect
      → Makes (WriteAt at new) failed disk (record { told = told'; calls = book; starved = disk.starved || starves })
  makes_write at new failed effect starves book told' is_book to_fail as_told is_effect untorn ok is_told = record {
    counted = is_book;
    history = ap (λ (t : Told). t.history) is_told;
    to_fail = λ fails. to_fail (fails_is ∙ fails);
    starved_stays = λ starved. ap (λ (b : Bool). b || starves) starved;
    starves = λ good. ap (λ (b : Bool). disk.starved || b) (ok good).1 ∙ or_false disk.starved;
    as_told = λ fed. as_told (or_second disk.starved starves fed) ∙ fails_is;
    effect = λ fed. is_told ∙ ap (λ (b : Bool). after_call disk.told (WriteAt at new) failed b) (is_effect (or_second disk.starved starves fed) ∙ ap (λ (b : Bool). not failed || b) to_tear);
    nothing = λ fails whole. ap (λ (t : Told). t.now) is_told ∙ ap (λ (b : Bool). if b then carried_out disk.told.now (WriteAt at new) else disk.told.now) (untorn fails (to_tear ∙ whole));
  }

  follows_on_stop : (call : ℕ) (keep' : Bool) → call ≢ 0 → IsAsTold (record { told = after_stop disk.told call keep'; calls = disk.calls; starved = disk.starved })
  follows_on_stop call keep' some fed once = follows_stop disk.told.history disk.told.now call keep' once some (kept.follows fed (kept.first_stop once))

  -- after a stop was told
  pub keeps_stop : (call : ℕ) (keep' : Bool) (told' : Told) → call ≢ 0 → told' ≡ after_stop disk.told call keep'
      → Keeps bytes ranges (Some call) keep' (record { told = told'; calls = disk.calls; starved = disk.starved })
  keeps_stop call keep' told' some is_told = subst (λ (t : Told). Keeps bytes ranges (Some call) keep' (record { told = t; calls = disk.calls; starved = disk.starved })) (sym is_told) record {
    same_bytes = kept.same_bytes;
    same_pending = kept.same_pending;
    within = kept.within;
    sound = kept.sound;
    same_fail = kept.same_fail;
    same_count = kept.same_count;
    same_left = ap Some (omega arith);
    first_stop = λ none. absurd (cc);
    same_keep = refl;
    follows = follows_on_stop call keep' some;
  }
