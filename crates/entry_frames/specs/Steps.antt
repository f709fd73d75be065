-- What a reader of the code did: what it returned and where it stands now is what the format says, or it failed as the format does.
use Rattle.std.specs.Prelude.{◌≡◌, ℕ, Result, Ok, Err}
use Rattle.entry_frames.specs.declared.fault.FrameFault.{FrameFault}
use Rattle.entry_frames.specs.Formats.{Cursor, Taken}

abbrev pub Reads : {X Y : Type 0} → (X → Y) → Result X FrameFault → Cursor → Result (Taken Y) FrameFault → Type 0
Reads view (Ok x) now read = read ≡ Ok (record { value = view x; cursor = now })
Reads view (Err fault) now read = read ≡ Err fault

-- the same of a whole call: the value and where behind it the rest begins
abbrev pub ReadsTo : {X Y : Type 0} → (X → Y) → (X → Cursor) → Result X FrameFault → Result (Taken Y) FrameFault → Type 0
ReadsTo view cursor (Ok x) read = read ≡ Ok (record { value = view x; cursor = cursor x })
ReadsTo view cursor (Err fault) read = read ≡ Err fault

-- a test passed, and the cursor is as it was
abbrev pub Tests : Result (Unit {0}) FrameFault → Cursor → Result Cursor FrameFault → Type 0
Tests (Ok _) cursor read = read ≡ Ok cursor
Tests (Err fault) cursor read = read ≡ Err fault

-- a byte was read, and what it stands for was returned
abbrev pub ReadsByte : {X : Type 0} → (ℕ → X) → Result X FrameFault → Cursor → Result (Taken ℕ) FrameFault → Type 0
ReadsByte stands_for (Ok x) now read = (byte : ℕ) × (x ≡ stands_for byte) × (read ≡ Ok (record { value = byte; cursor = now }))
ReadsByte stands_for (Err fault) now read = read ≡ Err fault

-- the same of a whole frame
abbrev pub ReadsAll : {X Y : Type 0} → (X → Y) → Result X FrameFault → Result Y FrameFault → Type 0
ReadsAll view (Ok x) read = read ≡ Ok (view x)
ReadsAll view (Err fault) read = read ≡ Err fault
