-- The bytes with the complement in the place of each one that lies in a range.
use Rattle.std.proofs.Common.{◌≡◌, ℕ, zero, suc, ◌+◌, ◌-◌, ◌<◌, ◌≤◌, ◌^◌, min, List, [], ◌∷◌, length, get_or, take, refl, sym, ap, ◌∙◌, arith, inl, inr}
use Rattle.std.proofs.lemmas.Grind.{same_number_lists}
use Rattle.std.proofs.lemmas.List.{take_more}
use Rattle.std.proofs.lemmas.Bool.Decides.{nat_tests}
use Rattle.std.specs.Prelude.{Bool, true, false, Option, leb, ltb, ◌&&◌, ◌||◌, if◌then◌else◌, IsTrue}
use Rattle.craft_edge.specs.Disk.{max_len}
use Rattle.craft_edge.specs.DiskModel.{DiskState, Range, IsIn, IsImage, IsSound}
use Rattle.crash_disk.specs.Kept.{lies_in, Keeps}
use Rattle.crash_disk.specs.Image.{is_in, spoiled_where, keeps, crash_image}
use Rattle.crash_disk.specs.MemDisk.{DiskInMemory}
use Rattle.crash_disk.specs.Told.{MayLeave}
use Rattle.crash_disk.proofs.Keeping.{lies_in-push}

-- a byte as it is held, or its complement
abbrev pub spoiled_byte : Bool → List ℕ → ℕ → ℕ
spoiled_byte lies held i = if lies then 255 - get_or held i 0 else get_or held i 0

pub length-spoiled_where : (test : ℕ → Bool) (offset : ℕ) (held : List ℕ) → length (spoiled_where test offset held) ≡ length held
length-spoiled_where test offset [] = refl
length-spoiled_where test offset (b ∷ held) = omega (arith, length-spoiled_where test (offset + 1) held)

pub get_or-spoiled_where : (test : ℕ → Bool) (offset i at : ℕ) (held : List ℕ) → i < length held → at ≡ offset + i → get_or (spoiled_where test offset held) i 0 ≡ spoiled_byte (test at) held i
get_or-spoiled_where test offset i at [] lt e = absurd (omega arith)
get_or-spoiled_where test offset zero at (b ∷ held) lt e = let same : offset ≡ at = omega (arith, e) in ap (λ (k : ℕ). if test k then 255 - b else b) same
get_or-spoiled_where test offset (suc i) at (b ∷ held) lt e = get_or-spoiled_where test (offset + 1) i at held (omega (arith, lt)) (omega (arith, e))

-- all of them
pub all_spoiled : (test : ℕ → Bool) (held bytes : List ℕ) → length bytes ≡ length held → ((i : ℕ) → i < length held → get_or bytes i 0 ≡ spoiled_byte (test i) held i) → bytes ≡ spoiled_where test 0 held
all_spoiled test held bytes same each =
    same_number_lists bytes (spoiled_where test 0 held) (same ∙ sym (length-spoiled_where test 0 held))
    (λ i lt. let below : i < length held = omega (arith, same, lt) in each i below ∙ sym (get_or-spoiled_where test 0 i i held below (omega arith)))

same_test : (test other : ℕ → Bool) (offset : ℕ) (held : List ℕ) → ((i : ℕ) → test i ≡ other i) → spoiled_where test offset held ≡ spoiled_where other offset held
same_test test other offset [] same = refl
same_test test other offset (b ∷ held) same =
    ap (λ (t : Bool). (if t then 255 - b else b) ∷ spoiled_where test (offset + 1) held) (same offset)
    ∙ ap (λ (xs : List ℕ). (if other offset then 255 - b else b) ∷ xs) (same_test test other (offset + 1) held same)

in_range : (at len n end i : ℕ) → i < n → n < 2 ^ 64 → end ≡ min (min (at + len) (2 ^ 64 - 1)) n → (leb at i && ltb i end) ≡ (leb at i && ltb i (at + len))
in_range at len n end i lt small e = grind (arith, nat_tests)

either : (a b : Bool) (held : List ℕ) (i byte : ℕ) → byte ≡ spoiled_byte b held i → (if a then 255 - get_or held i 0 else byte) ≡ spoiled_byte (a || b) held i
either true b held i byte e = refl
either false b held i byte e = e

-- one range more
pub one_more_range : (ranges : List (ℕ × ℕ)) (k : ℕ) (held old new : List ℕ) (end i : ℕ) → k < length ranges → i < length held → length held < 2 ^ 64
    → end ≡ min (min ((get_or ranges k (0, 0)).0 + (get_or ranges k (0, 0)).1) (2 ^ 64 - 1)) (length held)
    → get_or old i 0 ≡ spoiled_byte (lies_in (take k ranges) i) held i
    → get_or new i 0 ≡ (if leb (get_or ranges k (0, 0)).0 i && ltb i end then 255 - get_or held i 0 else get_or old i 0)
    → get_or new i 0 ≡ spoiled_byte (lies_in (take (k + 1) ranges) i) held i
one_more_range ranges k held old new end i more lt small is_end before after =
    let at : ℕ = (get_or ranges k (0, 0)).0 in
    let len : ℕ = (get_or ranges k (0, 0)).1 in
    after ∙ ap (λ (b : Bool). if b then 255 - get_or held i 0 else get_or old i 0) (in_range at len (length held) end i lt small is_end)
    ∙ either (leb at i && ltb i (at + len)) (lies_in (take k ranges) i) held i (get_or old i 0) before
    ∙ ap (λ (b : Bool). spoiled_byte b held i) (sym (lies_in-push (take k ranges) (get_or ranges k (0, 0)) i))
    ∙ ap (λ (rs : List (ℕ × ℕ)). spoiled_byte (lies_in rs i) held i) (sym (take_more ranges k (0, 0) more))

-- a range that the test finds
found : (range : Range) (ranges : List Range) (i : ℕ) (here there : Bool) → here ≡ (leb range.at i && ltb i (range.at + range.len)) → (IsTrue there → IsIn ranges i) → IsTrue (here || there) → IsIn (range ∷ ranges) i
found range ranges i true there e later lies = let inside : (range.at ≤ i) × (i < range.at + range.len) = grind (arith, nat_tests) in inl inside
found range ranges i false there e later lies = inr (later lies)

is_in-true : (ranges : List Range) (i : ℕ) → IsTrue (is_in ranges i) → IsIn ranges i
is_in-true [] i lies = absurd (cc)
is_in-true (range ∷ ranges) i lies = found range ranges i (leb range.at i && ltb i (range.at + range.len)) (is_in ranges i) refl (is_in-true ranges i) lies

out_of : (lies : Bool) (held : List ℕ) (i : ℕ) → (IsTrue lies → ⊥) → spoiled_byte lies held i ≡ get_or held i 0
out_of true held i out = absurd (out refl)
out_of false held i out = refl

-- the spoiled bytes are an image of the disk
IsImage-spoiled : (now : DiskState) → IsSound now → IsImage now (spoiled_where (is_in now.pending) 0 now.bytes)
IsImage-spoiled now sound = let size = length-spoiled_where (is_in now.pending) 0 now.bytes in record {
  no_shorter = omega (arith, sound.no_shorter, size);
  no_longer = omega (arith, size);
  others = λ i lt out. get_or-spoiled_where (is_in now.pending) 0 i i now.bytes (omega (arith, lt, sound.no_shorter)) (omega arith)
      ∙ out_of (is_in now.pending i) now.bytes i (λ lies. out (is_in-true now.pending i lies)) ∙ sound.others i lt out;
}

-- the same of equal bytes and ranges
pub same_arguments : (spoiled held bytes : List ℕ) (pairs ranges : List (ℕ × ℕ)) → spoiled ≡ spoiled_where (lies_in pairs) 0 held → held ≡ bytes → pairs ≡ ranges → spoiled ≡ spoiled_where (lies_in ranges) 0 bytes
same_arguments spoiled held bytes pairs ranges is same_bytes same_ranges =
    is ∙ ap (λ (xs : List ℕ). spoiled_where (lies_in pairs) 0 xs) same_bytes ∙ ap (λ (rs : List (ℕ × ℕ)). spoiled_where (lies_in rs) 0 bytes) same_ranges

left_at : (keep : Bool) (now : DiskState) → IsSound now → MayLeave now (if keep then now.bytes else spoiled_where (is_in now.pending) 0 now.bytes)
left_at true now sound = inl refl
left_at false now sound = inr (IsImage-spoiled now sound)

module _ (bytes : List ℕ) (ranges : List (ℕ × ℕ)) (left : Option ℕ) (keep : Bool) (disk : DiskInMemory) (kept : Keeps bytes ranges left keep disk) where
  pub image_left : MayLeave disk.told.now (crash_image disk.told.history.last_stop disk.told.now)
  image_left = left_at (keeps disk.told.history.last_stop) disk.told.now kept.sound

  abbrev image_at : Bool → List ℕ
  image_at k = if k then disk.told.now.bytes else spoiled_where (is_in disk.told.now.pending) 0 disk.told.now.bytes

  pub image_kept : keep ≡ true → bytes ≡ crash_image disk.told.history.last_stop disk.told.now
  image_kept keeps_it = sym kept.same_bytes ∙ ap image_at (sym keeps_it ∙ kept.same_keep)

  pub image_spoiled : (spoiled : List ℕ) → keep ≡ false → spoiled ≡ spoiled_where (lies_in ranges) 0 bytes → spoiled ≡ crash_image disk.told.history.last_stop disk.told.now
  image_spoiled spoiled spoils is =
      is ∙ ap (λ (xs : List ℕ). spoiled_where (lies_in ranges) 0 xs) (sym kept.same_bytes)
      ∙ sym (same_test (is_in disk.told.now.pending) (lies_in ranges) 0 disk.told.now.bytes kept.same_pending) ∙ ap image_at (sym spoils ∙ kept.same_keep)

  pub spoiled_within : (spoiled : List ℕ) → spoiled ≡ spoiled_where (lies_in ranges) 0 bytes → length spoiled ≤ max_len
  spoiled_within spoiled is = let size : length spoiled ≡ length bytes = ap length is ∙ length-spoiled_where (lies_in ranges) 0 bytes in omega (arith, size, kept.within)
