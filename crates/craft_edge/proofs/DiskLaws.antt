-- Laws of the disk model, for the crates above: its writes and syncs do what the trait asks of a disk.
use Rattle.std.proofs.Common.{◌≡◌, ℕ, ◌+◌, ◌-◌, ◌<◌, ◌≤◌, min, max, List, [], ◌∷◌, ◌++◌, length, get_or, take, drop, refl, sym, ap, ◌∙◌, arith, ◌⊎◌, inl, inr, length-append, length-drop, length-take}
use Rattle.std.proofs.lemmas.Grind.{common_steps, same_number_lists}
use Rattle.std.proofs.lemmas.List.{length-replicate, get_or-take, get_or-drop, get_or_append_left, get_or-append_right}
use Rattle.std.proofs.lemmas.List.{drop_all}
use Rattle.std.proofs.lemmas.Bool.{cases_lt}
use Rattle.craft_edge.specs.Disk.{written, Torn, Follows, Only}
use Rattle.craft_edge.specs.DiskModel.{DiskState, IsIn, IsImage, IsSound, after_write, after_sync}

-- after a sync that succeeded, a crash leaves what a read gives
pub IsImage-after_sync : (disk : DiskState) → Only disk.bytes (IsImage (after_sync disk))
IsImage-after_sync disk image h =
    let size : length image ≡ length disk.bytes = omega (arith, h.no_shorter, h.no_longer) in
    same_number_lists image disk.bytes size (λ k lt. h.others k (omega (arith, size, lt)) (λ pending. pending))

-- and what a read gives is the one image
pub IsSound-after_sync : (disk : DiskState) → IsSound (after_sync disk)
IsSound-after_sync disk = record { no_shorter = omega arith; no_longer = omega arith; others = λ i lt out. refl }

-- a file after a write of some bytes
pub length-written_some : (old : List ℕ) (at b : ℕ) (bs : List ℕ) → length (written old at (b ∷ bs)) ≡ max (length old) (at + length (b ∷ bs))
length-written_some old at b bs =
    simp (length-append, length-replicate, length-take, length-drop) (omega arith)

-- no write makes a file shorter
pub length-le-written : (old : List ℕ) (at : ℕ) (bytes : List ℕ) → length old ≤ length (written old at bytes)
length-le-written old at [] = omega arith
length-le-written old at (b ∷ bs) = omega (arith, length-written_some old at b bs)

-- the numbers of a list from a place on, up to another, and its beginning, in a list of the other numbers: m in all
mixed : ℕ → ℕ → ℕ → List ℕ → List ℕ → List ℕ
mixed m from to inside outside = take from (take m outside) ++ drop from (take to (take m inside)) ++ drop to (take m outside)

length-mixed : (m from to : ℕ) (inside outside : List ℕ) → m ≤ length inside → m ≤ length outside → from ≤ to → length (mixed m from to inside outside) ≡ m
unfolding mixed
length-mixed m from to inside outside h k le = simp (length-append, length-take, length-drop) (omega arith)

get_or-mixed_before : (m from to i : ℕ) (inside outside : List ℕ) → m ≤ length inside → m ≤ length outside → from ≤ to → i < m → i < from → get_or (mixed m from to inside outside) i 0 ≡ get_or outside i 0
unfolding mixed
get_or-mixed_before m from to i inside outside h k le lt before = grind (arith, common_steps)

get_or-mixed_after : (m from to i : ℕ) (inside outside : List ℕ) → m ≤ length inside → m ≤ length outside → from ≤ to → i < m → to ≤ i → get_or (mixed m from to inside outside) i 0 ≡ get_or outside i 0
unfolding mixed
get_or-mixed_after m from to i inside outside h k le lt after = grind (arith, common_steps)

get_or-mixed_inside : (m from to i : ℕ) (inside outside : List ℕ) → m ≤ length inside → m ≤ length outside → from ≤ to → i < m → from ≤ i → i < to → get_or (mixed m from to inside outside) i 0 ≡ get_or inside i 0
unfolding mixed
get_or-mixed_inside m from to i inside outside h k le lt after before =
    let front : length (take from (take m outside)) ≡ from = simp length-take (omega (arith, h, k, lt, after)) in
    let shown : get_or (drop from (take to (take m inside))) (i - from) 0 ≡ get_or inside i 0 =
    get_or-drop from (take to (take m inside)) (i - from) 0 ∙ ap (λ n. get_or (take to (take m inside)) n 0) (omega (arith, after))
    ∙ get_or-take to (take m inside) i 0 before ∙ get_or-take m inside i 0 lt in
    let size : length (drop from (take to (take m inside))) ≡ min to m - from = simp (length-drop, length-take) (omega (arith, h)) in
    get_or_append_left (take from (take m outside) ++ drop from (take to (take m inside))) (drop to (take m outside)) 0 i
    (rw length-append (omega (arith, front, size, lt, before, after)))
    ∙ get_or-append_right (take from (take m outside)) (drop from (take to (take m inside))) from i 0 front after
    ∙ shown

-- the image that a crash might have left before a write, in place of one that it may leave after it
before_write : DiskState → ℕ → List ℕ → List ℕ → List ℕ
before_write disk at bytes image = mixed (min (length image) (length disk.bytes)) at (at + length bytes) disk.bytes image

length-before_write : (disk : DiskState) (at : ℕ) (bytes image : List ℕ) → length (before_write disk at bytes image) ≡ min (length image) (length disk.bytes)
unfolding before_write
length-before_write disk at bytes image = length-mixed _ at (at + length bytes) disk.bytes image (omega arith) (omega arith) (omega arith)

-- outside the range nothing was changed
get_or-before_write : (disk : DiskState) (at i : ℕ) (bytes image : List ℕ) → i < min (length image) (length disk.bytes) → (i < at) ⊎ (at + length bytes ≤ i)
    → get_or (before_write disk at bytes image) i 0 ≡ get_or image i 0
unfolding before_write
get_or-before_write disk at i bytes image lt (inl front) = get_or-mixed_before _ at (at + length bytes) i disk.bytes image (omega arith) (omega arith) (omega arith) lt front
get_or-before_write disk at i bytes image lt (inr back) = get_or-mixed_after _ at (at + length bytes) i disk.bytes image (omega arith) (omega arith) (omega arith) lt back

get_or-before_write_in : (disk : DiskState) (at i : ℕ) (bytes image : List ℕ) → i < min (length image) (length disk.bytes) → at ≤ i → i < at + length bytes
    → get_or (before_write disk at bytes image) i 0 ≡ get_or disk.bytes i 0
unfolding before_write
get_or-before_write_in disk at i bytes image lt low high = get_or-mixed_inside _ at (at + length bytes) i disk.bytes image (omega arith) (omega arith) (omega arith) lt low high

-- an offset is in a range, before it or behind it
pub cases_in : (at len i : ℕ) → ((at ≤ i) × (i < at + len)) ⊎ ((i < at) ⊎ (at + len ≤ i))
cases_in at len i = grind arith

-- an offset outside the range that is pending neither
pub not_pending : (disk : DiskState) (at i : ℕ) (bytes now : List ℕ) → (i < at) ⊎ (at + length bytes ≤ i) → (IsIn disk.pending i → ⊥) → IsIn (after_write disk at bytes now).pending i → ⊥
not_pending disk at i bytes now (inl front) out (inl range) = absurd (omega arith)
not_pending disk at i bytes now (inr back) out (inl range) = absurd (omega arith)
not_pending disk at i bytes now side out (inr pending) = out pending

synced_kept : (disk : DiskState) (at i : ℕ) (bytes now image : List ℕ) → IsSound disk → IsImage (after_write disk at bytes now) image
    → i < length disk.synced → (IsIn disk.pending i → ⊥) → ((at ≤ i) × (i < at + length bytes)) ⊎ ((i < at) ⊎ (at + length bytes ≤ i))
    → get_or (before_write disk at bytes image) i 0 ≡ get_or disk.synced i 0
synced_kept disk at i bytes now image sound h lt out (inl inside) =
    get_or-before_write_in disk at i bytes image (omega (arith, sound.no_shorter, h.no_shorter)) inside.0 inside.1 ∙ sound.others i lt out
synced_kept disk at i bytes now image sound h lt out (inr outside) =
    get_or-before_write disk at i bytes image (omega (arith, sound.no_shorter, h.no_shorter)) outside ∙ h.others i lt (not_pending disk at i bytes now outside out)

-- it is an image of the disk before the write
IsImage-before_write : (disk : DiskState) (at : ℕ) (bytes now image : List ℕ) → IsSound disk → IsImage (after_write disk at bytes now) image → IsImage disk (before_write disk at bytes image)
IsImage-before_write disk at bytes now image sound h = let size = length-before_write disk at bytes image in record {
  no_shorter = omega (arith, size, sound.no_shorter, h.no_shorter);
  no_longer = omega (arith, size);
  others = λ i lt out. synced_kept disk at i bytes now image sound h lt out (cases_in at (length bytes) i);
}

pub same_front : (xs ys : List ℕ) (n : ℕ) → n ≤ length xs → n ≤ length ys → ((i : ℕ) → i < n → get_or xs i 0 ≡ get_or ys i 0) → take n xs ≡ take n ys
same_front xs ys n h k same =
    let size : length (take n xs) ≡ length (take n ys) = simp length-take (omega (arith, h, k)) in
    same_number_lists (take n xs) (take n ys) size (λ i lt. let below : i < n = omega (arith, length-take n xs, lt) in
    get_or-take n xs i 0 below ∙ same i below ∙ sym (get_or-take n ys i 0 below))

pub same_back : (xs ys : List ℕ) (n : ℕ) → length xs ≡ length ys → ((i : ℕ) → n ≤ i → i < length xs → get_or xs i 0 ≡ get_or ys i 0) → drop n xs ≡ drop n ys
same_back xs ys n e same =
    let size : length (drop n xs) ≡ length (drop n ys) = simp length-drop (omega (arith, e)) in
    same_number_lists (drop n xs) (drop n ys) size (λ i lt. let below : n + i < length xs = omega (arith, length-drop n xs, lt) in
    get_or-drop n xs i 0 ∙ same (n + i) (omega arith) below ∙ sym (get_or-drop n ys i 0))

reach_from : (old : List ℕ) (at b : ℕ) (bs : List ℕ) (n : ℕ) → n ≤ length (written old at (b ∷ bs)) → length (written old at (b ∷ bs)) ≡ max (length old) (at + length (b ∷ bs))
    → (n ≤ length old) ⊎ ((length old < n) × (n ≤ at + length (b ∷ bs)) × (0 < length (b ∷ bs)))
reach_from old at b bs n h e = elim (cases_lt (length old) n) [ inl lt ↦ inr (lt, omega (arith, h, e, lt), omega arith) | inr le ↦ inl le ]

reaches : (old : List ℕ) (at : ℕ) (bytes : List ℕ) (n : ℕ) → n ≤ at + length bytes → 0 < length bytes → n ≤ length (written old at bytes)
reaches old at [] n h some = absurd (omega (arith, some))
reaches old at (b ∷ bs) n h some = omega (arith, h, length-written_some old at b bs)

-- a length that a write may have led to is at most the old one, or it is at most the end of the range
written_reach : (old : List ℕ) (at : ℕ) (bytes : List ℕ) (n : ℕ) → n ≤ length (written old at bytes)
    → (n ≤ length old) ⊎ ((length old < n) × (n ≤ at + length bytes) × (0 < length bytes))
written_reach old at [] n h = inl h
written_reach old at (b ∷ bs) n h = reach_from old at b bs n h (length-written_some old at b bs)

torn_longer : (disk : DiskState) (at : ℕ) (bytes image : List ℕ) → length disk.bytes < length image → length image ≤ at + length bytes → 0 < length bytes
    → Torn at bytes (before_write disk at bytes image) image
torn_longer disk at bytes image long reach some = let size = length-before_write disk at bytes image in record {
  before = same_front image (before_write disk at bytes image) (min at (length (before_write disk at bytes image))) (omega (arith, size)) (omega arith)
      (λ i lt. sym (get_or-before_write disk at i bytes image (omega (arith, size, lt)) (inl (omega (arith, lt)))));
  after = drop_all (at + length bytes) image reach ∙ sym (drop_all (at + length bytes) (before_write disk at bytes image) (omega (arith, size, reach, long)));
  no_shorter = omega (arith, size);
  no_longer = reaches (before_write disk at bytes image) at bytes (length image) reach some;
}

torn_within : (disk : DiskState) (at : ℕ) (bytes image : List ℕ) → length image ≤ length disk.bytes → Torn at bytes (before_write disk at bytes image) image
torn_within disk at bytes image within = let size = length-before_write disk at bytes image in record {
  before = same_front image (before_write disk at bytes image) (min at (length (before_write disk at bytes image))) (omega (arith, size)) (omega arith)
      (λ i lt. sym (get_or-before_write disk at i bytes image (omega (arith, size, lt)) (inl (omega (arith, lt)))));
  after = same_back image (before_write disk at bytes image) (at + length bytes) (omega (arith, size, within))
      (λ i le lt. sym (get_or-before_write disk at i bytes image (omega (arith, within, lt)) (inr le)));
  no_shorter = omega (arith, size);
  no_longer = omega (arith, size, within, length-le-written (before_write disk at bytes image) at bytes);
}

torn_image : (disk : DiskState) (at : ℕ) (bytes image : List ℕ) → (length image ≤ length disk.bytes) ⊎ ((length disk.bytes < length image) × (length image ≤ at + length bytes) × (0 < length bytes))
    → Torn at bytes (before_write disk at bytes image) image
torn_image disk at bytes image (inl within) = torn_within disk at bytes image within
torn_image disk at bytes image (inr longer) = torn_longer disk at bytes image longer.0 longer.1 longer.2

-- after a write, a crash leaves an image of before it, torn in the written range
pub after_write-follows : (disk : DiskState) (at : ℕ) (bytes now : List ℕ) → IsSound disk → length now ≤ length (written disk.bytes at bytes)
    → Follows (Torn at bytes) (IsImage disk) (IsImage (after_write disk at bytes now))
after_write-follows disk at bytes now sound short image h = (
  before_write disk at bytes image,
  IsImage-before_write disk at bytes now image sound h,
  torn_image disk at bytes image (written_reach disk.bytes at bytes (length image) (omega (arith, h.no_longer, short))),
)
