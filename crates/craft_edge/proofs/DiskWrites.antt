-- What a read gives after a write is an image of the disk, also where the write failed.
use Rattle.std.proofs.Common.{◌≡◌, ◌⊎◌, ℕ, ◌+◌, ◌-◌, ◌<◌, ◌≤◌, List, [], ◌∷◌, ◌++◌, length, get_or, take, drop, replicate, refl, sym, ap, ◌∙◌, arith, inl, inr, length-append, length-take}
use Rattle.std.proofs.lemmas.List.{length-replicate, get_or-take, get_or-drop, get_or_append_left, get_or-append_right}
use Rattle.std.proofs.lemmas.Option.{unwrap_or-slice_get}
use Rattle.std.specs.Prelude.{Option, unwrap_or, slice_get}
use Rattle.craft_edge.specs.Disk.{written, PartlyWritten}
use Rattle.craft_edge.specs.DiskModel.{DiskState, IsIn, IsSound, after_write}
use Rattle.craft_edge.proofs.DiskLaws.{length-le-written, cases_in}

same_byte : (xs ys : List ℕ) (i : ℕ) → slice_get xs i ≡ slice_get ys i → get_or xs i 0 ≡ get_or ys i 0
same_byte xs ys i e = sym (unwrap_or-slice_get xs i 0) ∙ ap (λ (o : Option ℕ). unwrap_or o 0) e ∙ unwrap_or-slice_get ys i 0

-- a write keeps the bytes outside its range
get_or-written_outside : (old : List ℕ) (at i : ℕ) (bytes : List ℕ) → i < length old → (i < at) ⊎ (at + length bytes ≤ i) → get_or (written old at bytes) i 0 ≡ get_or old i 0
get_or-written_outside old at i [] lt side = refl
get_or-written_outside old at i (b ∷ bs) lt (inl front) =
    get_or_append_left (take at old ++ replicate (at - length old) 0 ++ (b ∷ bs)) (drop (at + length (b ∷ bs)) old) 0 i (simp (length-append, length-take) (omega (arith, lt, front)))
    ∙ get_or_append_left (take at old ++ replicate (at - length old) 0) (b ∷ bs) 0 i (simp (length-append, length-take) (omega (arith, lt, front)))
    ∙ get_or_append_left (take at old) (replicate (at - length old) 0) 0 i (simp length-take (omega (arith, lt, front)))
    ∙ get_or-take at old i 0 front
get_or-written_outside old at i (b ∷ bs) lt (inr back) =
    let size : length (take at old ++ replicate (at - length old) 0 ++ (b ∷ bs)) ≡ at + length (b ∷ bs) = simp (length-append, length-take, length-replicate) (omega (arith, lt, back)) in
    get_or-append_right (take at old ++ replicate (at - length old) 0 ++ (b ∷ bs)) (drop (at + length (b ∷ bs)) old) (at + length (b ∷ bs)) i 0 size back
    ∙ get_or-drop (at + length (b ∷ bs)) old (i - (at + length (b ∷ bs))) 0
    ∙ ap (λ n. get_or old n 0) (omega (arith, back))

pub kept_outside : (old : List ℕ) (at i : ℕ) (bytes now : List ℕ) → i < length old → (i < at) ⊎ (at + length bytes ≤ i)
    → (slice_get now i ≡ slice_get old i) ⊎ (slice_get now i ≡ slice_get (written old at bytes) i) → get_or now i 0 ≡ get_or old i 0
kept_outside old at i bytes now lt side (inl same) = same_byte now old i same
kept_outside old at i bytes now lt side (inr new) = same_byte now (written old at bytes) i new ∙ get_or-written_outside old at i bytes lt side

unchanged : (disk : DiskState) (at i : ℕ) (bytes now : List ℕ) → IsSound disk → PartlyWritten disk.bytes at bytes now → i < length disk.synced
    → (IsIn (after_write disk at bytes now).pending i → ⊥) → ((at ≤ i) × (i < at + length bytes)) ⊎ ((i < at) ⊎ (at + length bytes ≤ i)) → get_or now i 0 ≡ get_or disk.synced i 0
unchanged disk at i bytes now sound part lt out (inl inside) = absurd (out (inl inside))
unchanged disk at i bytes now sound part lt out (inr side) =
    let below : i < length disk.bytes = omega (arith, lt, sound.no_shorter) in
    kept_outside disk.bytes at i bytes now below side (part.each i (omega (arith, below, part.no_shorter))) ∙ sound.others i lt (λ pending. out (inr pending))

-- a write, also one that failed, leaves the disk sound
pub IsSound-after_write : (disk : DiskState) (at : ℕ) (bytes now : List ℕ) → IsSound disk → PartlyWritten disk.bytes at bytes now → IsSound (after_write disk at bytes now)
IsSound-after_write disk at bytes now sound part = record {
  no_shorter = omega (arith, sound.no_shorter, part.no_shorter);
  no_longer = omega arith;
  others = λ i lt out. unchanged disk at i bytes now sound part lt out (cases_in at (length bytes) i);
}

-- the whole write is a part of it, and so is none of it
pub PartlyWritten-written : (old : List ℕ) (at : ℕ) (bytes : List ℕ) → PartlyWritten old at bytes (written old at bytes)
PartlyWritten-written old at bytes = record { no_shorter = length-le-written old at bytes; no_longer = omega arith; each = λ i lt. inr refl }

pub PartlyWritten-none : (old : List ℕ) (at : ℕ) (bytes : List ℕ) → PartlyWritten old at bytes old
PartlyWritten-none old at bytes = record { no_shorter = omega arith; no_longer = length-le-written old at bytes; each = λ i lt. inl refl }
